-- The word form of each call: its answer and the cells after, from the cells before.
use Rattle.std.specs.Prelude.{◌≡◌, ℕ, zero, suc, ◌+◌, ◌-◌, min, nat_lt, Bool, if◌then◌else◌, ℤ, pos, negsuc, int_lt, Result, Ok, Err}
use Rattle.job_base.specs.declared.Trap.{Trap}
use Rattle.job_base.specs.declared.Trap.TheVariants.{Full, Written}
use Rattle.job_base.specs.Cells.{with_cell}
use Rattle.job_base.specs.Forms.{AreAllowed}
use Rattle.frame_ast.specs.Contents.{place_in, then_value}
use Rattle.native_stream.specs.declared.StreamAt.{StreamAt}
use Rattle.native_stream.specs.Layout.{mark_word, item_word, index_end}

-- ---- which words a call needs

-- the words of index k are allowed
abbrev pub MayUse : StreamAt → ℕ → (ℕ → Bool) → Type 0
MayUse at k allowed = AreAllowed (mark_word at k) (index_end at k) allowed

-- where a number is an index of the stream, the words of that index are allowed
abbrev pub MayUseAt : StreamAt → ℤ → (ℕ → Bool) → Type 0
MayUseAt at i allowed = (k : ℕ) → place_in at.count i ≡ Ok k → MayUse at k allowed

-- ---- marks

-- whether an index with that mark is written
abbrev pub is_written : ℤ → Bool
is_written mark = int_lt (pos 0) mark

-- how many items it has, at most as many as there is room for
abbrev pub number_of : ℕ → ℤ → ℕ
number_of room (pos n) = min (n - 1) room
number_of room (negsuc n) = 0

abbrev pub is_written_at : StreamAt → (ℕ → ℤ) → ℕ → Bool
is_written_at at cells k = is_written (cells (mark_word at k))

abbrev pub item_count : StreamAt → (ℕ → ℤ) → ℕ → ℕ
item_count at cells k = number_of at.room (cells (mark_word at k))

-- ---- reading

abbrev pub items_words : StreamAt → (ℕ → ℤ) → ℤ → Result ℕ Trap
items_words at cells i = then_value (place_in at.count i) (λ j. Ok (item_count at cells j))

-- item k of index j
abbrev pub item_words : StreamAt → (ℕ → ℤ) → ℕ → ℤ → Result ℤ Trap
item_words at cells j k = then_value (place_in (item_count at cells j) k) (λ p. Ok (cells (item_word at j p)))

abbrev pub at_words : StreamAt → (ℕ → ℤ) → ℤ → ℤ → Result ℤ Trap
at_words at cells i k = then_value (place_in at.count i) (λ j. item_words at cells j k)

-- ---- writing

-- begins an index, where there is one
abbrev pub begun : StreamAt → (ℕ → ℤ) → Result ℕ Trap → Result (Unit {0}) Trap × (ℕ → ℤ)
begun at cells (Ok k) = if is_written_at at cells k then (Err Written, cells) else (
  Ok tt,
  with_cell cells
      (mark_word at k) (pos 1),
)
begun at cells (Err trap) = (Err trap, cells)

abbrev pub begin_words : StreamAt → (ℕ → ℤ) → ℤ → Result (Unit {0}) Trap × (ℕ → ℤ)
begin_words at cells i = begun at cells (place_in at.count i)

-- the cells with v behind n items of an index, and its mark for one item more
abbrev pub added : StreamAt → (ℕ → ℤ) → ℕ → ℕ → ℤ → ℕ → ℤ
added at cells k n v = with_cell (with_cell cells (item_word at k n) v) (mark_word at k) (pos (n + 2))

abbrev pub write_words_at : StreamAt → (ℕ → ℤ) → ℕ → ℕ → ℤ → Result (Unit {0}) Trap × (ℕ → ℤ)
write_words_at at cells k n v = if nat_lt n at.room then (Ok tt, added at cells k n v) else (Err Full, cells)

abbrev pub write_words : StreamAt → (ℕ → ℤ) → ℕ → ℤ → Result (Unit {0}) Trap × (ℕ → ℤ)
write_words at cells k v = write_words_at at cells k (item_count at cells k) v

-- the marks of the first indexes become 0
abbrev pub unmarked : StreamAt → (ℕ → ℤ) → ℕ → ℕ → ℤ
unmarked at cells zero = cells
unmarked at cells (suc n) = with_cell (unmarked at cells n) (mark_word at n) (pos 0)

abbrev pub clear_words : StreamAt → (ℕ → ℤ) → ℕ → ℤ
clear_words at cells = unmarked at cells at.count
