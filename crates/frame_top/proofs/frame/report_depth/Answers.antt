use Rattle.std.proofs.Common.{refl, sym}
use Rattle.frame_top.specs.Answers.{Caused, Whole, Part}
use Rattle.frame_top.proofs.Framing.{when_refuses, none_first, no_plan, reports, none_waited, none_cut}
use Rattle.frame_top.proofs.frame.report_depth.Goals as goal

pub returns-in-Some : goal.returns-in-Some
returns-in-Some g c =
    record {
      answer = when_refuses g.S.Sink.taken g.S.Sink.faults _ _ _ _ _ _ _ c.requires.columns (sym c.in-Some.ensures) c.refuse_script.ensures.said;
      later = c.refuse_script.ensures.later;
    }

pub plan-requires-clause-whole : goal.plan-requires-clause-whole
plan-requires-clause-whole g c = none_first c.args.script.now.statements.items (sym c.in_default.ensures)

pub returns-in-Err : goal.returns-in-Err
returns-in-Err g c =
    record {
      answer = no_plan g.S.Sink.taken g.S.Sink.faults _ _ _ _ _ _ _ c.requires.columns
          (sym c.in_default.ensures) c.in-Err.ensures.limit c.refuse_plan.ensures.said c.refuse_plan.ensures.none;
      later = c.refuse_plan.ensures.later;
    }

pub returns-in-Ok-print_depth : goal.returns-in-Ok-print_depth
returns-in-Ok-print_depth g c =
    record {
      answer = Caused _ (reports _ _ _ _ _ c.requires.columns (sym c.in_default.ensures) c.in-Ok.ensures.within c.in-Ok.ensures.plan c.in-Ok-depth.ensures)
          (Whole refl (none_waited _ _ _ _ c.in-Ok-new.ensures c.in-Ok-print_depth.ensures.text) c.in-Ok-print_depth.ensures.count);
      later = c.in-Ok-print_depth.ensures.later;
    }

pub returns : goal.returns
returns g c =
    let p = none_cut _ _ _ _ c.in-Ok-new.ensures c.in-Err-print_depth.ensures.text in
    record {
      answer = Caused _ (reports _ _ _ _ _ c.requires.columns (sym c.in_default.ensures) c.in-Ok.ensures.within c.in-Ok.ensures.plan c.in-Ok-depth.ensures)
          (Part refl p.0 p.1 c.in-Err-print_depth.ensures.cause);
      later = c.in-Err-print_depth.ensures.later;
    }
