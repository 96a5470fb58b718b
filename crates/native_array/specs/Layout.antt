-- Which contents the words of an array and of a reference stand for.
use Rattle.std.specs.Prelude.{◌≡◌, ℕ, ◌+◌, ℤ}
use Rattle.job_base.specs.Cells.{cell_list}
use Rattle.job_base.specs.Forms.{IsForm}
use Rattle.frame_ast.specs.Contents.{Contents, Cells, Single}
use Rattle.native_array.specs.declared.array.ArrayAt.{ArrayAt}
use Rattle.native_array.specs.declared.reference.RefAt.{RefAt}

-- the word behind the last one
abbrev pub end_of : ArrayAt → ℕ
end_of at = at.start + at.len

-- The words of an array are its elements, in order.
abbrev pub StandsFor : ArrayAt → (ℕ → ℤ) → Contents → Type 0
StandsFor at cells contents = contents ≡ Cells (cell_list cells at.start at.len)

-- The one word of a reference is its value.
abbrev pub RefStandsFor : RefAt → (ℕ → ℤ) → Contents → Type 0
RefStandsFor at cells contents = contents ≡ Single (cells at.start)

-- the word form of an effect on an array's contents, and of one on a reference's
abbrev pub IsWordForm : {A : Type 0} → ArrayAt → ((ℕ → ℤ) → A × (ℕ → ℤ)) → (Contents → A × Contents) → Type 0
IsWordForm at form effect = IsForm at.start (end_of at) (StandsFor at) form effect

abbrev pub IsRefForm : {A : Type 0} → RefAt → ((ℕ → ℤ) → A × (ℕ → ℤ)) → (Contents → A × Contents) → Type 0
IsRefForm at form effect = IsForm at.start (at.start + 1) (RefStandsFor at) form effect
