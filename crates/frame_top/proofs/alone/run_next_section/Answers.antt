use Rattle.std.proofs.Common.{refl, true}
use Rattle.plan_statements.specs.Tables.{columns_of}
use Rattle.frame_top.proofs.Sectioning.{said_on}
use Rattle.frame_top.proofs.alone.run_next_section.Goals as goal

pub returns-clause-next : goal.returns-clause-next
returns-clause-next g c sections from was =
    said_on g.S.Sink.taken g.S.Sink.faults _ _ sections from _ c.args.progress.now _ _ c.in_ok-section.section.plan true _ _ _ _ _ c.in_ok-ran.ran
    (c.take_run.ensures.goes _ _ sections from (c.in_ok-section.ensures.made sections from was))
    (c.in_ok-ran.ensures.run true) c.in_ok-section.ensures.waits c.in_ok-section.ensures.failed c.take_run.ensures.waits c.take_run.ensures.failed

pub run_on_cells-requires : goal.run_on_cells-requires
run_on_cells-requires g c =
    let h = c.requires.here in
    record { well = (c.in_ok-section.ensures.made h.0 h.1 h.3).next.is_section.well_ordered }

pub take_run-requires-clause-made : goal.take_run-requires-clause-made
take_run-requires-clause-made g c =
    let h = c.requires.here in
    (c.args.script.now, columns_of c.args.table.now, h.0, h.1, c.requires.accepted, h.2, c.in_ok-section.ensures.made h.0 h.1 h.3)

pub take_run-requires-clause-report : goal.take_run-requires-clause-report
take_run-requires-clause-report g c = (c.in_ok-ran.ensures.run true).report

pub take_run-requires-clause-cells : goal.take_run-requires-clause-cells
take_run-requires-clause-cells g c some = (c.in_ok-ran.ensures.run true).cells refl
