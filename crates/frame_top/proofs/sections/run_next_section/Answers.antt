use Rattle.std.proofs.Common.{◌∙◌, sym, subst}
use Rattle.plan_statements.specs.Tables.{columns_of}
use Rattle.frame_plan.specs.Sections.{IsOutcome}
use Rattle.frame_top.proofs.Sectioning.{said_on}
use Rattle.frame_top.proofs.Seeing.{one_seen, told_within}
use Rattle.frame_top.proofs.sections.run_next_section.Goals as goal

pub returns-clause-next : goal.returns-clause-next
returns-clause-next g c sections from was =
    said_on g.S.Sink.taken g.S.Sink.faults _ _ sections from _ c.args.progress.now _ _ c.in_ok-section.section.plan c.is_some.result _ _ _ _ _
    c.in_ok-ran.ran
    (c.take_run.ensures.goes _ _ sections from (c.in_ok-section.ensures.made sections from was))
    c.in_ok-ran.ensures.run c.in_ok-section.ensures.waits c.in_ok-section.ensures.failed c.take_run.ensures.waits c.take_run.ensures.failed

pub returns-clause-seen : goal.returns-clause-seen
returns-clause-seen g c sections from was first earlier saw =
    let made = c.in_ok-section.ensures.made sections from was in
    one_seen c.args.script.now (columns_of c.args.table.now) (g.W.Watch.Saw c.args.script.now first c.end.new.self) sections from _ c.in_ok-section.section _
    _ earlier _ made (c.next_place-from.ensures c.args.script.now (columns_of c.args.table.now) sections from was) c.place.ensures
    (subst (λ h. IsOutcome c.args.script.now (columns_of c.args.table.now) from h) (sym c.in_ok-section.ensures.held) was.outcome)
    c.take_run.ensures.more _ c.take_run.ensures.place (c.end.ensures.seen first earlier (c.in_ok-begin.ensures.begun first earlier saw))

pub run_section-requires-clause-well : goal.run_section-requires-clause-well
run_section-requires-clause-well g c lives within =
    let h = c.requires.here in
    (c.in_ok-section.ensures.made h.0 h.1 h.3).next.is_section.well_ordered

pub take_run-requires-clause-made : goal.take_run-requires-clause-made
take_run-requires-clause-made g c =
    let h = c.requires.here in
    (c.args.script.now, columns_of c.args.table.now, h.0, h.1, c.requires.accepted, h.2, c.in_ok-section.ensures.made h.0 h.1 h.3)

pub take_run-requires-clause-cells : goal.take_run-requires-clause-cells
take_run-requires-clause-cells g c some = c.in_ok-ran.ensures.run.cells (c.is_some.ensures ∙ some)

pub begin-requires-clause-well : goal.begin-requires-clause-well
begin-requires-clause-well g c =
    let h = c.requires.here in
    (c.in_ok-section.ensures.made h.0 h.1 h.3).next.is_section.well_ordered

pub end-requires-clause-well : goal.end-requires-clause-well
end-requires-clause-well g c =
    let h = c.requires.here in
    (c.in_ok-section.ensures.made h.0 h.1 h.3).next.is_section.well_ordered

pub begin-requires-clause-within : goal.begin-requires-clause-within
begin-requires-clause-within g c =
    let h = c.requires.here in
    told_within c.args.script.now (columns_of c.args.table.now) h.0 h.1 _ _ _ _ (c.in_ok-section.ensures.made h.0 h.1 h.3) c.place.ensures

pub end-requires-clause-within : goal.end-requires-clause-within
end-requires-clause-within g c =
    let h = c.requires.here in
    told_within c.args.script.now (columns_of c.args.table.now) h.0 h.1 _ _ _ _ (c.in_ok-section.ensures.made h.0 h.1 h.3) c.place.ensures
