-- From what a call does to what an operation answers and leaves.
use Rattle.std.proofs.Common.{◌≡◌, Option, Result, Ok, Err, sym, ap, ◌∙◌}
use Rattle.job_base.specs.declared.Refusal.{Refusal}
use Rattle.job_base.specs.declared.Trap.{Trap}
use Rattle.merge_laws.specs.Graph.{Cells}
use Rattle.frame_core.specs.declared.plan.Op.{Op}
use Rattle.frame_core.specs.declared.plan.Plan.{Plan}
use Rattle.frame_core.specs.Operations.{act_cells, cells_or, refused_by, act_answer, refused_as, op_cells, op_answer, Does}

pub does_cells : {T : Type 0} (r : Result T Trap) (old new : Cells) (form : Result Cells Trap) → Does r old new form → new ≡ cells_or old form
does_cells (Ok x) old new form e = sym (ap (cells_or old) e)
does_cells (Err t) old new form e = e.1 ∙ sym (ap (cells_or old) e.0)

pub does_refused : {T : Type 0} (r : Result T Trap) (old new : Cells) (form : Result Cells Trap) → Does r old new form → refused_as r ≡ refused_by form
does_refused (Ok x) old new form e = sym (ap refused_by e)
does_refused (Err t) old new form e = sym (ap refused_by e.0)

pub op_cells_is : (plan : Plan) (op : Op) (old new : Cells) → new ≡ cells_or old (act_cells plan op.act old) → new ≡ op_cells plan op old
unfolding op_cells
op_cells_is plan op old new e = e

pub op_answer_is : (plan : Plan) (op : Op) (old : Cells) (result : Option Refusal) → result ≡ act_answer op.act (act_cells plan op.act old)
    → result ≡ op_answer plan op old
unfolding op_answer
op_answer_is plan op old result e = e
