use Rattle.std.proofs.Common.{refl, sym, subst}
use Rattle.plan_statements.specs.Tables.{columns_of}
use Rattle.graph_top.specs.Due.{FrameEndsTo}
use Rattle.graph_top.proofs.Whens.{none_first}
use Rattle.graph_top.proofs.Sections.{missing_ends, some_first}
use Rattle.graph_top.proofs.frame.answer_frame.Goals as goal

pub returns-in-Some-clause-ends : goal.returns-in-Some-clause-ends
returns-in-Some-clause-ends g c = missing_ends _ _ _ _ _ _ _ _ c.in-Some.ensures.said

pub draw_plan-requires-clause-columns : goal.draw_plan-requires-clause-columns
draw_plan-requires-clause-columns g c = c.in_default.ensures.none refl

pub draw_plan-requires-clause-whole : goal.draw_plan-requires-clause-whole
draw_plan-requires-clause-whole g c = none_first c.args.script.now.statements.items (sym c.in-None.ensures)

pub draw_run-requires-clause-columns : goal.draw_run-requires-clause-columns
draw_run-requires-clause-columns g c lives within = c.in_default.ensures.none refl

pub draw_run-requires-clause-tested : goal.draw_run-requires-clause-tested
draw_run-requires-clause-tested g c lives within = some_first c.args.script.now.statements.items _ (sym c.in-Some-first_when.ensures)

pub returns-in-None-clause-ends : goal.returns-in-None-clause-ends
returns-in-None-clause-ends g c =
    subst (λ n. FrameEndsTo g.S.Sink.faults g.E.Sink.taken g.E.Sink.faults c.args.sink.now c.draw_plan.new.sink n c.draw_plan.new.notes c.args.script.now
    (columns_of c.args.table.now) c.draw_plan.result) (c.in_default.ensures.same refl) c.draw_plan.ensures.ends

pub returns-in-Some-first_when-clause-ends : goal.returns-in-Some-first_when-clause-ends
returns-in-Some-first_when-clause-ends g c =
    subst (λ n. FrameEndsTo g.S.Sink.faults g.E.Sink.taken g.E.Sink.faults c.args.sink.now c.draw_run.new.sink n c.draw_run.new.notes c.args.script.now
    (columns_of c.args.table.now) c.draw_run.result) (c.in_default.ensures.same refl) c.draw_run.ensures.ends
