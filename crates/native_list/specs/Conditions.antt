-- Which words a call uses.
use Rattle.std.specs.Prelude.{◌≡◌, ℕ, ◌+◌, ◌<◌, ℤ, Bool, IsTrue, IsOk, Ok}
use Rattle.frame_ast.specs.Contents.{place_in}
use Rattle.native_list.specs.declared.ListAt.{ListAt}
use Rattle.native_list.specs.Words.{len_words}

-- where there is room, the length word and the word behind the last element
pub record MayAdd (at : ListAt) (cells : ℕ → ℤ) (writable : ℕ → Bool) : Type 0 where
  pub length : len_words at cells < at.cap → IsTrue (writable at.start)
  pub element : len_words at cells < at.cap → IsTrue (writable (at.start + 1 + len_words at cells))

-- where a number is a place of the list, the length word and the word of that place are written, and the word of the
-- last element is read
pub record MayRemove (at : ListAt) (cells : ℕ → ℤ) (i : ℤ) (readable writable : ℕ → Bool) : Type 0 where
  pub length : IsOk (place_in (len_words at cells) i) → IsTrue (writable at.start)
  pub element : (k : ℕ) → place_in (len_words at cells) i ≡ Ok k → IsTrue (writable (at.start + 1 + k))
  pub last : IsOk (place_in (len_words at cells) i) → IsTrue (readable (at.start + len_words at cells))
