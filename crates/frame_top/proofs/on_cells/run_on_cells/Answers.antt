use Rattle.frame_top.proofs.OnCells.{allows_all, are_left}
use Rattle.frame_top.proofs.on_cells.run_on_cells.Goals as goal

pub run_alone-report-requires-clause-readable : goal.run_alone-report-requires-clause-readable
run_alone-report-requires-clause-readable g c = allows_all c.args.plan.now c.in_ok-left.left c.in_ok-left.ensures.size

pub run_alone-report-requires-clause-writable : goal.run_alone-report-requires-clause-writable
run_alone-report-requires-clause-writable g c = allows_all c.args.plan.now c.in_ok-left.left c.in_ok-left.ensures.size

pub returns-clause-run : goal.returns-clause-run
returns-clause-run g c keeps = record {
  lines = c.run_alone-report.ensures.text;
  report = c.run_alone-report.ensures.report;
  cells = λ _. are_left c.args.plan.now c.in_ok-left.left c.in_ok-left.ensures.size _ c.run_alone-report.ensures.readable c.run_alone-report.ensures.cells;
}
