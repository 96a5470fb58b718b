use Rattle.frame_plan.proofs.Acting.{before, scheduled_in, exceeds_in}
use Rattle.frame_plan.proofs.planner.act_schedule.Goals as goal

pub schedule-requires : goal.schedule-requires
schedule-requires c =
    record {
      ready = (
        c.args.statement.now.line,
        c.requires.schedules.0,
        c.args.planner.now,
        c.requires.at.0,
        before c.requires.at.1 c.requires.acts _ c.requires.schedules.1,
      );
    }

pub take_job-requires : goal.take_job-requires
take_job-requires c =
    record {
      may = c.in-Ok.ensures.takes c.args.statement.now.line c.requires.schedules.0 c.args.planner.now c.requires.at.0
          (before c.requires.at.1 c.requires.acts _ c.requires.schedules.1);
    }

pub returns-in-Err : goal.returns-in-Err
returns-in-Err c = record {
  passed = λ columns. tt;
  fails = λ columns there. exceeds_in there c.requires.acts _ c.requires.schedules.1 c.in-Err.fault
      (c.in-Err.ensures.fails c.args.statement.now.line c.requires.schedules.0 columns) there;
}

pub returns-in_ok-take_job-in-Ok : goal.returns-in_ok-take_job-in-Ok
returns-in_ok-take_job-in-Ok c = record {
  passed = λ columns there. scheduled_in there c.requires.acts _ c.requires.schedules.1 c.schedule.new.world c.take_job.new.self c.in-Ok.answer
      (c.in-Ok.ensures.answers c.args.statement.now.line c.requires.schedules.0 columns) c.in_ok-take_job-in-Ok.ensures there;
  fails = λ columns. tt;
}
