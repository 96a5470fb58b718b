use Rattle.std.proofs.Common.{ap, ◌∙◌}
use Rattle.std.specs.Prelude.{Vec}
use Rattle.std.specs.declared.alloc.Global.{Global}
use Rattle.job_handle.specs.Sets.{jobs_of}
use Rattle.plan_schedules.specs.declared.uses.NamedUse.{NamedUse}
use Rattle.plan_schedules.specs.Uses.{IsUse}
use Rattle.plan_schedules.proofs.UseLists.{name_step, number_step, names_end}
use Rattle.plan_schedules.proofs.uses.gather.Goals as goal
use Rattle.plan_schedules.proofs.uses.gather.Goals.{in-Name+in_ok-push-in-Name, in-Number}

pub loop-i-preserved : goal.loop-i-preserved
loop-i-preserved c =
    elim c.match-arg.branch [
      | in-Name+in_ok-push-in-Name w ↦ name_step (IsUse c.args.world.now (jobs_of c.args.named.now)) c.args.params.now c.args.args.now c.loop-i.uses.items
          c.loop-i.i
          w.index-params-i.result w.in-Name.name w.use_of.result c.loop-i-test.true c.requires.each w.index-params-i.is _ w.in-Name.is w.use_of.ensures
          c.loop-i.invariant
          c.match-arg.uses.items (ap (λ (v : Vec NamedUse Global). v.items) w.uses-is ∙ w.in_ok-push-in-Name.ensures.items)
      | in-Number w ↦ number_step (IsUse c.args.world.now (jobs_of c.args.named.now)) c.args.params.now c.args.args.now c.loop-i.uses.items c.loop-i.i
          _ c.loop-i-test.true c.requires.each _ w.in-Number.is c.loop-i.invariant c.match-arg.uses.items (ap (λ (v : Vec NamedUse Global). v.items) w.uses-is)
    ]

pub returns : goal.returns
returns c = names_end (IsUse c.args.world.now (jobs_of c.args.named.now)) c.args.params.now c.args.args.now c.loop-i.uses.items c.loop-i.i c.loop-i-test.false
    c.requires.each c.loop-i.invariant
