use Rattle.std.proofs.Common.{refl, subst}
use Rattle.plan_state.specs.declared.answer.Answer.TheVariants.{Nothing}
use Rattle.plan_state.specs.Answers.{AnswersIn}
use Rattle.plan_statements.specs.Tables.{columns_of}
use Rattle.plan_schedules.proofs.Forms.{boxed}
use Rattle.frame_plan.proofs.Acting.{before, taken_in, few_literals, exceeds_in, leaves}
use Rattle.frame_plan.proofs.planner.act.Goals as goal

pub act_schedule-requires : goal.act_schedule-requires
act_schedule-requires c =
    record {
      at = (columns_of c.args.table.now, c.requires.at);
      acts = c.requires.acts;
      schedules = (c.in-Schedule.job, boxed _ c.in-Schedule.job c.deref.result.now c.in-Schedule.is c.deref.ensures);
    }

pub returns-in-Schedule : goal.returns-in-Schedule
returns-in-Schedule c = record {
  passed = c.act_schedule.ensures.passed (columns_of c.args.table.now);
  fails = c.act_schedule.ensures.fails (columns_of c.args.table.now);
}

pub answer-requires : goal.answer-requires
answer-requires c = record {
  ready = (
    c.args.planner.now,
    columns_of c.args.table.now,
    before c.requires.at c.requires.acts _ refl,
  );
  other = leaves c.args.statement.now.act c.in_default.not-Schedule c.requires.other;
}

pub take-requires : goal.take-requires
take-requires c = record {
  few = few_literals c.requires.at
      c.requires.acts _ refl;
}

pub returns-in-Ok-Nothing : goal.returns-in-Ok-Nothing
returns-in-Ok-Nothing c = record {
  passed = taken_in c.requires.at c.requires.acts _ refl c.answer.new.world c.args.planner.now.draft Nothing
      (subst (AnswersIn c.args.script.now (columns_of c.args.table.now) c.args.planner.now.world c.answer.new.world c.args.statement.now)
      c.in-Ok-Nothing.field-0-is c.in-Ok-Nothing.ensures.answers) refl;
  fails = tt;
}

pub returns-in-Err : goal.returns-in-Err
returns-in-Err c = record {
  passed = tt;
  fails = exceeds_in c.requires.at
      c.requires.acts _ refl c.in-Err.fault c.in-Err.ensures.fails;
}

pub returns-in_ok-take-in-Ok : goal.returns-in_ok-take-in-Ok
returns-in_ok-take-in-Ok c = record {
  passed = taken_in c.requires.at c.requires.acts _ refl c.answer.new.world
      c.take.new.self c.in-Ok.answer c.in-Ok.ensures.answers c.in_ok-take-in-Ok.ensures;
  fails = tt;
}
