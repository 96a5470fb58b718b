-- The segment at hand does one operation more, while the script goes on by one statement.
use Rattle.std.specs.Prelude.{ℕ, ◌+◌, ◌≡◌, ◌<◌, ◌≤◌, ◌^◌, true, [], ◌∷◌, ◌++◌, length}
use Rattle.frame_ast.specs.States.{ScriptState, is_live}
use Rattle.kernel_exec.specs.Binds.{end_of}
use Rattle.merge_laws.specs.Graph.{Cells}
use Rattle.merge_laws.specs.Ledger.{Ledger, IsLedger, AreInOrder}
use Rattle.merge_laws.specs.Planning.{IsSettled}
use Rattle.frame_core.specs.declared.plan.Act.{Act}
use Rattle.frame_core.specs.declared.plan.Op.{Op}
use Rattle.frame_core.specs.declared.plan.Plan.{Plan}
use Rattle.frame_core.specs.Touches.{reads_in, writes_in, act_touches}
use Rattle.frame_core.specs.Operations.{op_cells, op_answer, one_if_refused}
use Rattle.frame_core.specs.Output.{op_line}
use Rattle.frame_core.specs.Ordered.{OpFits, ActStands}
use Rattle.plan_laws.specs.Binds.{bind_of_container}
use Rattle.plan_laws.specs.Drafts.{Draft, pieces_of, cells_of}
use Rattle.plan_laws.specs.Leaving.{AllHeld}
use Rattle.plan_laws.specs.Planned.{Outline, ledger_at, jobs_before, IsPlanned, Adds}

-- what the operation touches is of live containers without pending jobs that conflict
pub record IsSettledFor (l : Ledger) (act : Act) : Type 0 where
  pub reads : (w : ℕ) → reads_in (act_touches act) w ≡ true → IsSettled l l.writers w
  pub writes : (w : ℕ) → writes_in (act_touches act) w ≡ true → IsSettled l l.users w

-- the order afterwards
pub record StaysOrdered (x : Outline) (s t : ScriptState) (d e : Draft) : Type 0 where
  pub count : t.book.count ≡ jobs_before x + length e.jobs
  pub before : (j : ℕ) → 0 < j → j ≤ jobs_before x → t.book.completed j ≡ true
  pub ledger : IsLedger (ledger_at x t e)
  pub pieces : AreInOrder (ledger_at x t e) (pieces_of x.plan e)
  pub within : (c : ℕ) → is_live t c ≡ true → end_of (bind_of_container x.starts t c) ≤ x.plan.cells

-- what the statement adds to the output is what the operation adds
pub record AddsOutput (plan : Plan) (op : Op) (cells : Cells) (s t : ScriptState) : Type 0 where
  pub lines : t.lines ≡ s.lines ++ op_line plan op cells
  pub refused : t.refused ≡ s.refused + one_if_refused (op_answer plan op cells)
  pub traps : t.traps ≡ s.traps

abbrev pub OperationsArePlanned : Type 0
OperationsArePlanned = (x : Outline)
    → x.plan.cells < 2 ^ 32
    → (s t : ScriptState) (d e : Draft) (op : Op)
    → IsPlanned x s d
    → Adds d e (op ∷ [])
    → OpFits x.plan op
    → ActStands op.act (cells_of x.plan d)
    → StaysOrdered x s t d e
    → AllHeld x.starts t (op_cells x.plan op (cells_of x.plan d))
    → AddsOutput x.plan op (cells_of x.plan d) s t
    → IsPlanned x t e
