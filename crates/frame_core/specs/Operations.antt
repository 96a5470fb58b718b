-- What an operation does to cells, and what it answers.
use Rattle.std.specs.Prelude.{ℕ, ◌+◌, if◌then◌else◌, ℤ, pos, List, [], ◌∷◌, replicate, Option, None, Some, Result, Ok, Err, ◌≡◌, MatchResult}
use Rattle.job_base.specs.declared.Trap.{Trap}
use Rattle.job_base.specs.declared.Trap.TheVariants.{MissingKey}
use Rattle.job_base.specs.declared.Refusal.{Refusal}
use Rattle.job_base.specs.declared.Span.{Span}
use Rattle.job_base.specs.Cells.{cell_list, write_cells}
use Rattle.frame_ast.specs.Refusals.{refusal_of}
use Rattle.kernel_exec.specs.declared.binds.Bind.{Bind}
use Rattle.kernel_exec.specs.declared.binds.Bind.TheVariants.{Ref, Map}
use Rattle.kernel_exec.specs.Words.{set_value_word, put_word, add_word, add_pair_word, remove_at_word, has_word, remove_key_word, clear_word}
use Rattle.merge_laws.specs.Graph.{Cells}
use Rattle.frame_core.specs.declared.plan.Act.{Act}
use Rattle.frame_core.specs.declared.plan.Act.TheVariants.{Fill, Move, Say, Set, AddTo, Put, Remove, Clear, Print, Report}
use Rattle.frame_core.specs.declared.plan.Op.{Op}
use Rattle.frame_core.specs.declared.plan.Plan.{Plan}
use Rattle.frame_core.specs.Names.{literal_of}

-- The operations of scripts have the word forms of those of kernels, where no own-index rule holds.

-- `set x i = v`, and `set x = v` of a reference
abbrev pub set_cells : Bind → ℤ → ℤ → Cells → Result Cells Trap
set_cells (Ref at) i v cells = Ok (set_value_word v (Ref at) cells)
set_cells b i v cells = put_word 0 i v b cells

-- `add m k v` and `add l v`
abbrev pub add_cells : Bind → ℤ → ℤ → Cells → Result Cells Trap
add_cells (Map at) k v cells = add_pair_word k v (Map at) cells
add_cells b k v cells = add_word v b cells

-- `remove m k` and `remove l i`
abbrev pub remove_cells : Bind → ℤ → Cells → Result Cells Trap
remove_cells (Map at) i cells =
    if has_word i (Map at) cells then Ok (remove_key_word i (Map at) cells) else Err MissingKey
remove_cells b i cells = remove_at_word i b cells

-- what a new container holds: zeros, or a literal
abbrev pub first_cells : Plan → Span → Option ℕ → List ℤ
first_cells plan span None = replicate span.len (pos 0)
first_cells plan span (Some n) = literal_of plan n

-- the cells after an operation, or the trap that it would be
abbrev pub act_cells : Plan → Act → Cells → Result Cells Trap
act_cells plan (Fill span literal) cells = Ok (write_cells cells span.start (first_cells plan span literal))
act_cells plan (Move from to) cells = Ok (write_cells cells to.start (cell_list cells from.start from.len))
act_cells plan (Say refusal) cells = Ok cells
act_cells plan (Set at i v) cells = set_cells at i v cells
act_cells plan (AddTo at k v) cells = add_cells at k v cells
act_cells plan (Put at k v) cells = put_word 0 k v at cells
act_cells plan (Remove at i) cells = remove_cells at i cells
act_cells plan (Clear at) cells = Ok (clear_word at cells)
act_cells plan (Print at) cells = Ok cells
act_cells plan (Report made) cells = Ok cells

-- An operation that would trap is refused, and changes nothing.
abbrev pub cells_or : Cells → Result Cells Trap → Cells
cells_or before (Ok cells) = cells
cells_or before (Err trap) = before

abbrev pub refused_by : Result Cells Trap → Option Refusal
refused_by (Ok cells) = None
refused_by (Err trap) = Some (refusal_of trap)

-- `Say` answers its own refusal
abbrev pub act_answer : Act → Result Cells Trap → Option Refusal
act_answer (Say refusal) r = Some refusal
act_answer _ r = refused_by r

unfoldable pub op_cells : Plan → Op → Cells → Cells
op_cells plan op cells = cells_or cells (act_cells plan op.act cells)

unfoldable pub op_answer : Plan → Op → Cells → Option Refusal
op_answer plan op cells = act_answer op.act (act_cells plan op.act cells)

-- operations one after another
abbrev pub ops_cells : Plan → List Op → Cells → Cells
ops_cells plan [] cells = cells
ops_cells plan (op ∷ more) cells = ops_cells plan more (op_cells plan op cells)

abbrev pub one_if_refused : Option Refusal → ℕ
one_if_refused None = 0
one_if_refused (Some refusal) = 1

-- how many of them are refused
abbrev pub ops_refused : Plan → List Op → Cells → ℕ
ops_refused plan [] cells = 0
ops_refused plan (op ∷ more) cells =
    one_if_refused (op_answer plan op cells) + ops_refused plan more (op_cells plan op cells)

-- What a call answers and leaves is what a form says: the cells after it, or a trap with the cells as they were.
abbrev pub Does : {T : Type 0} → Result T Trap → Cells → Cells → Result Cells Trap → Type 0
Does r old new form = MatchResult r (λ _. form ≡ Ok new) (λ trap. (form ≡ Err trap) × (new ≡ old))

-- why a statement is refused that would trap
abbrev pub refused_as : {T : Type 0} → Result T Trap → Option Refusal
refused_as (Ok x) = None
refused_as (Err trap) = Some (refusal_of trap)
