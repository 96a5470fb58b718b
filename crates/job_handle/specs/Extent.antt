-- Where the words of a set lie that have jobs.
use Rattle.std.specs.Prelude.{◌≡◌, ℕ, ◌<◌, ◌≤◌, List, slice_index}

-- They lie from word `low` up to before word `high`: every other word has none.
pub record AreWithin (words : List ℕ) (low high : ℕ) : Type 0 where
  pub below : (i : ℕ) → i < low → slice_index words i ≡ 0
  pub above : (i : ℕ) → high ≤ i → slice_index words i ≡ 0
