-- The word form of each call: its answer and the cells after, from the cells before.
use Rattle.std.specs.Prelude.{ℕ, ◌+◌, ◌-◌, min, nat_lt, if◌then◌else◌, ℤ, pos, negsuc, Result, Ok, Err}
use Rattle.job_base.specs.declared.Trap.{Trap}
use Rattle.job_base.specs.declared.Trap.TheVariants.{Full}
use Rattle.job_base.specs.Cells.{with_cell}
use Rattle.frame_ast.specs.Contents.{place_in}
use Rattle.native_array.specs.declared.array.ArrayAt.{ArrayAt}
use Rattle.native_array.specs.Words.{get_words as get_words_of_array, set_words as set_words_of_array}
use Rattle.native_list.specs.declared.ListAt.{ListAt}

-- a length word, brought into the range of lengths
abbrev pub length_in : ℕ → ℤ → ℕ
length_in cap (pos n) = min n cap
length_in cap (negsuc n) = 0

abbrev pub len_words : ListAt → (ℕ → ℤ) → ℕ
len_words at cells = length_in at.cap (cells at.start)

-- the array of the elements
abbrev pub array_words : ListAt → (ℕ → ℤ) → ArrayAt
array_words at cells = record { start = at.start + 1; len = len_words at cells }

abbrev pub get_words : ListAt → (ℕ → ℤ) → ℤ → Result ℤ Trap
get_words at cells i = get_words_of_array (array_words at cells) cells i

abbrev pub set_words : ListAt → (ℕ → ℤ) → ℤ → ℤ → Result (Unit {0}) Trap × (ℕ → ℤ)
set_words at cells i v = set_words_of_array (array_words at cells) cells i v

-- the cells with v behind n elements, and the length one higher
abbrev pub added : ListAt → (ℕ → ℤ) → ℕ → ℤ → ℕ → ℤ
added at cells n v = with_cell (with_cell cells (at.start + 1 + n) v) at.start (pos (n + 1))

abbrev pub add_words_at : ListAt → (ℕ → ℤ) → ℕ → ℤ → Result (Unit {0}) Trap × (ℕ → ℤ)
add_words_at at cells n v = if nat_lt n at.cap then (Ok tt, added at cells n v) else (Err Full, cells)

abbrev pub add_words : ListAt → (ℕ → ℤ) → ℤ → Result (Unit {0}) Trap × (ℕ → ℤ)
add_words at cells v = add_words_at at cells (len_words at cells) v

-- the cells with the last of n elements at place k too, and the length one lower
abbrev pub removed : ListAt → (ℕ → ℤ) → ℕ → ℕ → ℕ → ℤ
removed at cells n k = with_cell (with_cell cells (at.start + 1 + k) (cells (at.start + n))) at.start (pos (n - 1))

abbrev pub remove_words_at : ListAt → (ℕ → ℤ) → ℕ → Result ℕ Trap → Result (Unit {0}) Trap × (ℕ → ℤ)
remove_words_at at cells n (Ok k) = (Ok tt, removed at cells n k)
remove_words_at at cells n (Err trap) = (Err trap, cells)

abbrev pub remove_words : ListAt → (ℕ → ℤ) → ℤ → Result (Unit {0}) Trap × (ℕ → ℤ)
remove_words at cells i = remove_words_at at cells (len_words at cells) (place_in (len_words at cells) i)

abbrev pub clear_words : ListAt → (ℕ → ℤ) → ℕ → ℤ
clear_words at cells = with_cell cells at.start (pos 0)
