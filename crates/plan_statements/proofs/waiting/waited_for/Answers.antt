use Rattle.job_handle.specs.Sets.{jobs_of}
use Rattle.plan_state.proofs.Accessing.{none_up_to}
use Rattle.plan_statements.proofs.WaitsGoOn.{waited}
use Rattle.plan_statements.proofs.waiting.waited_for.Goals as goal

pub automatic-requires-clause-after : goal.automatic-requires-clause-after
automatic-requires-clause-after c = none_up_to _ _ c.nobody.ensures

pub returns : goal.returns
returns c =
    waited c.args.world.now c.args.number c.tag_of-tag.result c.tag_of-tag.ensures (jobs_of c.nobody.result.now)
    (jobs_of c.automatic.result) c.nobody.ensures c.automatic.ensures.set
