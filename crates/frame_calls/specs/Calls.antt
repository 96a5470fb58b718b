-- What a call from C leaves in the caller's buffer.
use Rattle.std.specs.Prelude.{◌≡◌, ◌⊎◌, ℕ, ◌<◌, Bool, if◌then◌else◌, List, length, take, Option, None, Some}
use Rattle.command_words.specs.Words.{Text}
use Rattle.frame_top.specs.Refusals.{Answer}
use Rattle.frame_top.specs.declared.status.TheConstants.{UNWRITTEN, NO_MEMORY}

-- the bytes of the table, where there is one
abbrev pub given : Bool → Text → Option Text
given has table = if has then Some table else None

-- The first `len` bytes of the buffer are the answer's text, and its status is given; or the text, of `len` bytes, is
-- longer than the buffer, which has its first bytes; or memory wasn't found.
pub data Fills (out : List ℕ) (len : ℕ) (a : Answer) (result : ℕ) : Type 0 where
  Whole : result ≡ a.status → len ≡ length a.text → take len out ≡ a.text → Fills out len a result
  Short : result ≡ UNWRITTEN → len ≡ length a.text → length out < len → out ≡ take (length out) a.text
      → Fills out len a result
  NotFound : result ≡ NO_MEMORY → Fills out len a result

-- what a run and its text come to before the room is looked at: the answer, or memory wasn't found
abbrev pub Comes : ℕ → Text → Answer → Type 0
Comes status text a = (status ≡ a.status) × (text ≡ a.text) ⊎ ((status ≡ UNWRITTEN) ⊎ (status ≡ NO_MEMORY))
