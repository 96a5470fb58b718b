use Rattle.std.proofs.Common.{refl, false}
use Rattle.frame_top.proofs.Framing.{from_same, run_answers, plan_answers}
use Rattle.frame_top.proofs.alone.answer_frame.Goals as goal

pub returns-in-Some-clause-answer : goal.returns-in-Some-clause-answer
returns-in-Some-clause-answer g c = c.in-Some.ensures.missing _ _

pub returns-in-Ok-clause-answer : goal.returns-in-Ok-clause-answer
returns-in-Ok-clause-answer g c =
    from_same g.S.Sink.taken g.S.Sink.faults _ _ _ _ _ _ (c.in_default.ensures.same refl)
    (run_answers _ _ _ _ _ _ _ _ (c.in_default.ensures.none refl) c.in-Ok.ensures.within c.run_sections.ensures.answer)

pub returns-in-Err-clause-answer : goal.returns-in-Err-clause-answer
returns-in-Err-clause-answer g c =
    from_same g.S.Sink.taken g.S.Sink.faults _ _ _ _ _ _ (c.in_default.ensures.same refl)
    (plan_answers g.S.Sink.taken g.S.Sink.faults _ _ false _ _ _ _ _ (c.in_default.ensures.none refl) refl c.in-Err.ensures.limit
    c.refuse_plan.ensures.said c.refuse_plan.ensures.none)
