use Rattle.plan_run.proofs.Printing.{may_print, op_said}
use Rattle.plan_run.proofs.lines.run_op.Goals as goal

pub say_line-requires-clause-stands : goal.say_line-requires-clause-stands
say_line-requires-clause-stands g c = may_print c.args.plan.now c.args.op.now (g.M.Mem.cells c.args.mem.now)
    (g.M.Mem.cells c.apply_op-answer.new.mem) c.apply_op-answer.ensures.cells c.requires.stands

pub returns-clause-text : goal.returns-clause-text
returns-clause-text g c = op_said _ _ _ _ _ _ _ c.apply_op-answer.ensures.cells c.apply_op-answer.ensures.answer c.say_line.ensures.text
