use Rattle.std.proofs.Common.{ℕ, sym, subst}
use Rattle.std.specs.Result.{IfOk, IfErr}
use Rattle.frame_ast.specs.Orders.{Table}
use Rattle.plan_schedules.specs.Deferring.{deferring}
use Rattle.plan_state.specs.Answers.{ExceedsIn}
use Rattle.plan_state.specs.Starts.{MayBeTaken, SchedulesIn}
use Rattle.plan_state.specs.Steps.{IsBefore}
use Rattle.plan_schedules.proofs.Deferred.Texts.{uncut}
use Rattle.plan_schedules.proofs.deferring.schedule_deferred.Goals as goal

pub schedule_by_list-requires : goal.schedule_by_list-requires
schedule_by_list-requires c =
    let r = c.requires.ready in
    let asked = c.args.job.now in
    record {
      ready = (
        r.0,
        r.1,
        r.2,
        r.3,
        subst (λ cut. IsBefore c.args.script.now r.3 (record r.2 { world = c.args.world.now }) (deferring r.0 r.1 asked cut c.args.defer))
            (uncut r.0 r.1 asked asked.cut c.args.defer r.4.step) r.4,
      );
    }

pub returns-clause-answers : goal.returns-clause-answers
returns-clause-answers c =
    let r = c.requires.ready in
    let asked = c.args.job.now in
    let none = uncut r.0 r.1 asked asked.cut c.args.defer r.4.step in
    subst (λ cut. IfOk c.schedule_by_list.result (λ answer. (line : ℕ) (home : _) (table : Table) → SchedulesIn c.args.script.now table c.args.world.now
    c.schedule_by_list.new.world (deferring line home asked cut c.args.defer) answer)) (sym none) c.schedule_by_list.ensures.answers

pub returns-clause-takes : goal.returns-clause-takes
returns-clause-takes c =
    let r = c.requires.ready in
    let asked = c.args.job.now in
    let none = uncut r.0 r.1 asked asked.cut c.args.defer r.4.step in
    subst (λ cut. IfOk c.schedule_by_list.result (λ answer. (line : ℕ) (home : _) → MayBeTaken c.args.script.now c.args.world.now
    (deferring line home asked cut c.args.defer) answer)) (sym none) c.schedule_by_list.ensures.takes

pub returns-clause-fails : goal.returns-clause-fails
returns-clause-fails c =
    let r = c.requires.ready in
    let asked = c.args.job.now in
    let none = uncut r.0 r.1 asked asked.cut c.args.defer r.4.step in
    subst (λ cut. IfErr c.schedule_by_list.result (λ fault. (line : ℕ) (home : _) (table : Table) → ExceedsIn c.args.script.now table fault c.args.world.now
    (deferring line home asked cut c.args.defer))) (sym none) c.schedule_by_list.ensures.fails
