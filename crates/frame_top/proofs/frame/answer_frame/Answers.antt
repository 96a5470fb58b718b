use Rattle.std.proofs.Common.{refl, sym, subst}
use Rattle.plan_statements.specs.Tables.{columns_of}
use Rattle.frame_top.specs.Answers.{AnswersTo, FrameCause, IsCut}
use Rattle.frame_top.proofs.Framing.{from_same}
use Rattle.frame_top.proofs.Seeing.{neither_run, true_false}
use Rattle.frame_top.proofs.frame.answer_frame.Goals as goal

pub returns-in-Some-clause-answer : goal.returns-in-Some-clause-answer
returns-in-Some-clause-answer g c = c.in-Some.ensures.missing c.args.options.depth c.args.options.workers

pub report_depth-requires-clause-columns : goal.report_depth-requires-clause-columns
report_depth-requires-clause-columns g c = c.in_default.ensures.none refl

pub answer_run-requires-clause-columns : goal.answer_run-requires-clause-columns
answer_run-requires-clause-columns g c lives within = c.in_default.ensures.none refl

pub returns-then-options-clause-answer : goal.returns-then-options-clause-answer
returns-then-options-clause-answer g c =
    subst (λ d. AnswersTo g.S.Sink.taken g.S.Sink.faults c.args.sink.now c.report_depth.new.sink
    (FrameCause c.args.script.now (columns_of c.args.table.now) d c.args.options.workers)
    (IsCut c.args.script.now (columns_of c.args.table.now) d) c.report_depth.result) (sym c.if-options.true)
    (from_same g.S.Sink.taken g.S.Sink.faults _ _ _ _ _ _ (c.in_default.ensures.same refl) c.report_depth.ensures.answer)

pub returns-else-options-clause-answer : goal.returns-else-options-clause-answer
returns-else-options-clause-answer g c =
    subst (λ d. AnswersTo g.S.Sink.taken g.S.Sink.faults c.args.sink.now c.answer_run.new.sink
    (FrameCause c.args.script.now (columns_of c.args.table.now) d c.args.options.workers)
    (IsCut c.args.script.now (columns_of c.args.table.now) d) c.answer_run.result) (sym c.if-options.false)
    (from_same g.S.Sink.taken g.S.Sink.faults _ _ _ _ _ _ (c.in_default.ensures.same refl) c.answer_run.ensures.answer)

pub returns-in-Some-clause-seen : goal.returns-in-Some-clause-seen
returns-in-Some-clause-seen g c plain saw ran = absurd (neither_run _ _ _ c.in-Some.ensures.status refl refl ran)

pub returns-then-options-clause-seen : goal.returns-then-options-clause-seen
returns-then-options-clause-seen g c plain saw ran = absurd (true_false _ c.if-options.true plain)
