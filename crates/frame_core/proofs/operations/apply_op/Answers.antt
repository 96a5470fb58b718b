use Rattle.frame_core.proofs.Answering.{op_cells_is, op_answer_is}
use Rattle.frame_core.proofs.operations.apply_op.Goals as goal

pub returns-clause-answer : goal.returns-clause-answer
returns-clause-answer g c = op_answer_is c.args.plan.now c.args.op.now (g.M.Mem.cells c.args.mem.now) _ c.apply_act.ensures.answer

pub returns-clause-cells : goal.returns-clause-cells
returns-clause-cells g c = op_cells_is c.args.plan.now c.args.op.now (g.M.Mem.cells c.args.mem.now) _ c.apply_act.ensures.cells
