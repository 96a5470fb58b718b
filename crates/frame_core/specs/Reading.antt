-- The contents that the words of a container stand for, read from the cells.
use Rattle.std.specs.Prelude.{ℕ, zero, suc, ◌+◌, if◌then◌else◌, ℤ, List, [], ◌∷◌, Option, None, Some}
use Rattle.job_base.specs.Cells.{cell_list}
use Rattle.frame_ast.specs.Contents.{Contents, Cells, Single, Items, Pairs, Entries}
use Rattle.native_list.specs.Words.{len_words}
use Rattle.native_map.specs.declared.MapAt.{MapAt}
use Rattle.native_map.specs.Words.{count_words, next_words}
use Rattle.native_stream.specs.declared.StreamAt.{StreamAt}
use Rattle.native_stream.specs.Layout.{mark_word}
use Rattle.native_stream.specs.Words.{is_written_at, item_count}
use Rattle.kernel_exec.specs.declared.binds.Bind.{Bind}
use Rattle.kernel_exec.specs.declared.binds.Bind.TheVariants.{Int, Array, View, List as WholeList, Ref, Map, Stream}

-- the pairs of a map, each the one with the next greater key
abbrev pub pair_then : Option (ℤ × ℤ) → (ℤ → List (ℤ × ℤ)) → List (ℤ × ℤ)
pair_then None more = []
pair_then (Some p) more = p ∷ more p.0

abbrev pub pairs_after : MapAt → (ℕ → ℤ) → Option ℤ → ℕ → List (ℤ × ℤ)
pairs_after at cells k zero = []
pairs_after at cells k (suc n) = pair_then (next_words at cells k) (λ q. pairs_after at cells (Some q) n)

-- what an index of a stream holds
abbrev pub entry_at : StreamAt → (ℕ → ℤ) → ℕ → Option (List ℤ)
entry_at at cells k =
    if is_written_at at cells k then Some (cell_list cells (mark_word at k + 1) (item_count at cells k)) else None

abbrev pub entries_from : StreamAt → (ℕ → ℤ) → ℕ → ℕ → List (Option (List ℤ))
entries_from at cells k zero = []
entries_from at cells k (suc n) = entry_at at cells k ∷ entries_from at cells (k + 1) n

unfoldable pub contents_in : Bind → (ℕ → ℤ) → Contents
contents_in (Int z) cells = Single z
contents_in (Array at own) cells = Cells (cell_list cells at.start at.len)
contents_in (View at own) cells = Cells (cell_list cells (at.start + 1) (len_words at cells))
contents_in (WholeList at) cells = Items at.cap (cell_list cells (at.start + 1) (len_words at cells))
contents_in (Ref at) cells = Single (cells at.start)
contents_in (Map at) cells = Pairs at.cap (pairs_after at cells None (count_words at cells))
contents_in (Stream at own) cells = Entries at.room (entries_from at cells 0 at.count)
