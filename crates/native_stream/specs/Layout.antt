-- Which contents the words of a stream stand for.
use Rattle.std.specs.Prelude.{◌≡◌, ℕ, ◌+◌, ◌*◌, ◌<◌, ◌≤◌, ℤ, pos, List, length, get_or, Option, Some, None}
use Rattle.job_base.specs.Cells.{cell_list}
use Rattle.job_base.specs.Forms.{IsForm}
use Rattle.frame_ast.specs.Contents.{Contents, Entries, items_of}
use Rattle.native_stream.specs.declared.StreamAt.{StreamAt}

-- ---- the words

-- Each index has room + 1 words, one index behind the other: its mark, and then the cells of its items.
abbrev pub mark_word : StreamAt → ℕ → ℕ
mark_word at k = at.start + k * (at.room + 1)

abbrev pub item_word : StreamAt → ℕ → ℕ → ℕ
item_word at k p = mark_word at k + 1 + p

-- the word behind an index, and the one behind the stream
abbrev pub index_end : StreamAt → ℕ → ℕ
index_end at k = mark_word at k + (at.room + 1)

abbrev pub end_of : StreamAt → ℕ
end_of at = at.start + at.count * (at.room + 1)

-- ---- what they stand for

-- the mark is 0 for an unwritten index, and else 1 plus the number of its items
abbrev pub mark_of : Option (List ℤ) → ℤ
mark_of None = pos 0
mark_of (Some xs) = pos (1 + length xs)

-- An index has its mark, and behind it its items, in order. The other cells mean nothing.
pub record HoldsEntry (at : StreamAt) (cells : ℕ → ℤ) (k : ℕ) (e : Option (List ℤ)) : Type 0 where
  pub mark : cells (mark_word at k) ≡ mark_of e
  pub within : length (items_of e) ≤ at.room
  pub items : cell_list cells (mark_word at k + 1) (length (items_of e)) ≡ items_of e

pub record HoldsEntries (at : StreamAt) (cells : ℕ → ℤ) (es : List (Option (List ℤ))) : Type 0 where
  pub number : length es ≡ at.count
  pub each : (k : ℕ) → k < at.count → HoldsEntry at cells k (get_or es k None)

abbrev pub StandsFor : StreamAt → (ℕ → ℤ) → Contents → Type 0
StandsFor at cells contents = (es : List (Option (List ℤ))) × (contents ≡ Entries at.room es) × HoldsEntries at cells es

-- the word form of an effect on a stream's contents
abbrev pub IsWordForm : {A : Type 0} → StreamAt → ((ℕ → ℤ) → A × (ℕ → ℤ)) → (Contents → A × Contents) → Type 0
IsWordForm at form effect = IsForm at.start (end_of at) (StandsFor at) form effect
