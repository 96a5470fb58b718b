use Rattle.plan_run.proofs.InScriptOrder.{started_job, starts_is, segment_step, none_end}
use Rattle.plan_run.proofs.alone.run_started.Goals as goal

pub run_parts-requires-clause-job : goal.run_parts-requires-clause-job
run_parts-requires-clause-job g c = started_job c.args.plan.now c.requires.well c.args.k c.requires.index c.index.result.now c.index.ensures c.in-Some.job
    c.in-Some.is

pub run_parts-requires-clause-cells : goal.run_parts-requires-clause-cells
run_parts-requires-clause-cells g c = segment_step c.args.plan.now c.requires.well c.args.k (g.M.Mem.cells c.args.mem.now) c.requires.index c.requires.cells

pub returns-in_default-clause-cells : goal.returns-in_default-clause-cells
returns-in_default-clause-cells g c =
    none_end c.args.plan.now c.requires.well c.args.k (g.M.Mem.cells c.args.mem.now) c.requires.index
    (starts_is c.args.plan.now c.requires.well c.args.k c.requires.index c.index.result.now c.index.ensures _ c.in_default.is) c.requires.cells
