-- The tokens of a file, and what the one at a place says. A place behind the last token has no text.
use Rattle.std.specs.Prelude.{ℕ, ◌-◌, ◌^◌, Bool, true, false, nat_lt, nat_le, ℤ, pos, neg_ℤ, List, length, slice_get, slice_range}
use Rattle.kernel_text.specs.declared.token.Token.{Token}
use Rattle.kernel_text.specs.Marks.{tokens_in}
use Rattle.kernel_text.specs.Tokens.{token_text, token_line}
use Rattle.kernel_text.specs.Numbers.{value_of}
use Rattle.script_text.specs.declared.raw.RawNumber.{RawNumber}
use Rattle.script_text.specs.declared.source.Source.{Source}

-- the tokens of a file, of which the first lies on the first line
abbrev pub file_tokens : Source → List Token
file_tokens s = tokens_in s.bytes.now 1 s.marks.now

abbrev pub text_at : Source → ℕ → List ℕ
text_at s at = token_text s.bytes.now (slice_get (file_tokens s) at)

abbrev pub line_at : Source → ℕ → ℕ
line_at s at = token_line (slice_get (file_tokens s) at)

-- a Text without its quotes
abbrev pub without_quotes : List ℕ → List ℕ
without_quotes text = slice_range text 1 (length text - 1)

abbrev pub column_at : Source → ℕ → List ℕ
column_at s at = without_quotes (text_at s at)

-- the value of the Number at a place
abbrev pub number_at : Source → ℕ → ℕ
number_at s at = value_of (text_at s at)

-- a signed number, and whether it is one of 64 bits
abbrev pub signed : Bool → ℕ → ℤ
signed false n = pos n
signed true n = neg_ℤ (pos n)

abbrev pub fits_signed : Bool → ℕ → Bool
fits_signed false n = nat_lt n (2 ^ 63)
fits_signed true n = nat_le n (2 ^ 63)

abbrev pub signed_at : Source → RawNumber → ℤ
signed_at s n = signed n.minus (number_at s n.at)
