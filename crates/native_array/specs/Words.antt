-- The word form of each call: its answer and the cells after, from the cells before.
use Rattle.std.specs.Prelude.{◌≡◌, ℕ, ◌+◌, ℤ, Bool, IsTrue, Result, Ok, Err}
use Rattle.job_base.specs.declared.Trap.{Trap}
use Rattle.job_base.specs.Cells.{with_cell}
use Rattle.frame_ast.specs.Contents.{place_in, then_value}
use Rattle.native_array.specs.declared.array.ArrayAt.{ArrayAt}
use Rattle.native_array.specs.declared.reference.RefAt.{RefAt}

-- where a number is a place of the array, the word of that place is allowed
abbrev pub IsAllowedAt : ArrayAt → ℤ → (ℕ → Bool) → Type 0
IsAllowedAt at i allowed = (k : ℕ) → place_in at.len i ≡ Ok k → IsTrue (allowed (at.start + k))

abbrev pub get_words : ArrayAt → (ℕ → ℤ) → ℤ → Result ℤ Trap
get_words at cells i = then_value (place_in at.len i) (λ k. Ok (cells (at.start + k)))

-- stores a value at a place, where there is one
abbrev pub stored : ArrayAt → (ℕ → ℤ) → ℤ → Result ℕ Trap → Result (Unit {0}) Trap × (ℕ → ℤ)
stored at cells v (Ok k) = (Ok tt, with_cell cells (at.start + k) v)
stored at cells v (Err trap) = (Err trap, cells)

abbrev pub set_words : ArrayAt → (ℕ → ℤ) → ℤ → ℤ → Result (Unit {0}) Trap × (ℕ → ℤ)
set_words at cells i v = stored at cells v (place_in at.len i)

abbrev pub value_words : RefAt → (ℕ → ℤ) → ℤ
value_words at cells = cells at.start

abbrev pub set_value_words : RefAt → (ℕ → ℤ) → ℤ → ℕ → ℤ
set_value_words at cells v = with_cell cells at.start v
