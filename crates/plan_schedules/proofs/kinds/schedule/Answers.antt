use Rattle.std.proofs.Common.{ℕ, sym, subst}
use Rattle.std.specs.Result.{IfOk, IfErr}
use Rattle.frame_ast.specs.Orders.{Table}
use Rattle.plan_state.specs.Answers.{ExceedsIn}
use Rattle.plan_state.specs.Starts.{MayBeTaken, SchedulesIn}
use Rattle.plan_state.specs.Steps.{IsBefore}
use Rattle.plan_schedules.specs.Starting.{asking}
use Rattle.plan_schedules.proofs.Forms.{without_list, with_list}
use Rattle.plan_schedules.proofs.kinds.schedule.Goals as goal

pub schedule_plain-requires : goal.schedule_plain-requires
schedule_plain-requires c =
    let r = c.requires.ready in
    record {
      ready = (
        r.0,
        r.1,
        r.2,
        r.3,
        subst (λ j. IsBefore c.args.script.now r.3 (record r.2 { world = c.args.world.now }) (asking r.0 r.1 j))
            (without_list c.args.job.now c.in-None.is) r.4,
      );
    }

pub schedule_deferred-requires : goal.schedule_deferred-requires
schedule_deferred-requires c =
    let r = c.requires.ready in
    record {
      ready = (
        r.0,
        r.1,
        r.2,
        r.3,
        subst (λ j. IsBefore c.args.script.now r.3 (record r.2 { world = c.args.world.now }) (asking r.0 r.1 j))
            (with_list c.args.job.now _ c.in-Some.is) r.4,
      );
    }

pub returns-in-None-clause-answers : goal.returns-in-None-clause-answers
returns-in-None-clause-answers c =
    subst (λ j. IfOk c.schedule_plain.result (λ answer. (line : ℕ) (home : _) (table : Table) → SchedulesIn c.args.script.now table c.args.world.now
    c.schedule_plain.new.world (asking line home j) answer)) (sym (without_list c.args.job.now c.in-None.is)) c.schedule_plain.ensures.answers

pub returns-in-None-clause-takes : goal.returns-in-None-clause-takes
returns-in-None-clause-takes c =
    subst (λ j. IfOk c.schedule_plain.result (λ answer. (line : ℕ) (home : _) → MayBeTaken c.args.script.now c.args.world.now
    (asking line home j) answer)) (sym (without_list c.args.job.now c.in-None.is)) c.schedule_plain.ensures.takes

pub returns-in-None-clause-fails : goal.returns-in-None-clause-fails
returns-in-None-clause-fails c =
    subst (λ j. IfErr c.schedule_plain.result (λ fault. (line : ℕ) (home : _) (table : Table) → ExceedsIn c.args.script.now table fault c.args.world.now
    (asking line home j))) (sym (without_list c.args.job.now c.in-None.is)) c.schedule_plain.ensures.fails

pub returns-in-Some-clause-answers : goal.returns-in-Some-clause-answers
returns-in-Some-clause-answers c =
    subst (λ j. IfOk c.schedule_deferred.result (λ answer. (line : ℕ) (home : _) (table : Table) → SchedulesIn c.args.script.now table c.args.world.now
    c.schedule_deferred.new.world (asking line home j) answer)) (sym (with_list c.args.job.now _ c.in-Some.is)) c.schedule_deferred.ensures.answers

pub returns-in-Some-clause-takes : goal.returns-in-Some-clause-takes
returns-in-Some-clause-takes c =
    subst (λ j. IfOk c.schedule_deferred.result (λ answer. (line : ℕ) (home : _) → MayBeTaken c.args.script.now c.args.world.now
    (asking line home j) answer)) (sym (with_list c.args.job.now _ c.in-Some.is)) c.schedule_deferred.ensures.takes

pub returns-in-Some-clause-fails : goal.returns-in-Some-clause-fails
returns-in-Some-clause-fails c =
    subst (λ j. IfErr c.schedule_deferred.result (λ fault. (line : ℕ) (home : _) (table : Table) → ExceedsIn c.args.script.now table fault c.args.world.now
    (asking line home j))) (sym (with_list c.args.job.now _ c.in-Some.is)) c.schedule_deferred.ensures.fails
