-- How a text stands in a buffer that may be shorter.
use Rattle.std.specs.Prelude.{◌≡◌, ℕ, List, length, take}
use Rattle.command_words.specs.Words.{Text}

-- The text has so many bytes, and the buffer begins with as many of them as find room.
pub record IsFilled (buffer text : Text) (len : ℕ) : Type 0 where
  pub length_is : length text ≡ len
  pub agree : take (length buffer) text ≡ take len buffer
