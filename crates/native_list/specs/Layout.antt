-- Which contents the words of a list stand for.
use Rattle.std.specs.Prelude.{◌≡◌, ℕ, ◌+◌, ◌≤◌, ℤ, pos, List, length}
use Rattle.job_base.specs.Cells.{cell_list}
use Rattle.job_base.specs.Forms.{IsForm}
use Rattle.frame_ast.specs.Contents.{Contents, Items}
use Rattle.native_list.specs.declared.ListAt.{ListAt}

-- the word behind the last one
abbrev pub end_of : ListAt → ℕ
end_of at = at.start + (at.cap + 1)

-- The first word is the length, at most the capacity, and the cells behind it are the elements, in order. The other
-- cells mean nothing.
pub record HoldsItems (at : ListAt) (cells : ℕ → ℤ) (xs : List ℤ) : Type 0 where
  pub count : cells at.start ≡ pos (length xs)
  pub within : length xs ≤ at.cap
  pub elements : cell_list cells (at.start + 1) (length xs) ≡ xs

abbrev pub StandsFor : ListAt → (ℕ → ℤ) → Contents → Type 0
StandsFor at cells contents = (xs : List ℤ) × (contents ≡ Items at.cap xs) × HoldsItems at cells xs

-- the word form of an effect on a list's contents
abbrev pub IsWordForm : {A : Type 0} → ListAt → ((ℕ → ℤ) → A × (ℕ → ℤ)) → (Contents → A × Contents) → Type 0
IsWordForm at form effect = IsForm at.start (end_of at) (StandsFor at) form effect
