use Rattle.std.proofs.Common.{refl, false}
use Rattle.frame_top.proofs.Framing.{run_answers, plan_answers}
use Rattle.frame_top.proofs.Seeing.{none_run}
use Rattle.frame_top.proofs.frame.answer_run.Goals as goal

pub returns-in-Ok : goal.returns-in-Ok
returns-in-Ok g c = record {
  answer = run_answers _ _ _ _ _ _ _ _ c.requires.columns c.in-Ok.ensures.within c.run_sections.ensures.answer;
  seen = c.run_sections.ensures.seen;
  later = c.run_sections.ensures.later;
}

pub returns-in-Err : goal.returns-in-Err
returns-in-Err g c =
    record {
      answer = plan_answers g.S.Sink.taken g.S.Sink.faults _ _ false _ _ _ _ _ c.requires.columns refl c.in-Err.ensures.limit c.refuse_plan.ensures.said
          c.refuse_plan.ensures.none;
      seen = λ saw ran. absurd (none_run _ _ _ _ c.refuse_plan.ensures.status refl refl refl ran);
      later = c.refuse_plan.ensures.later;
    }
