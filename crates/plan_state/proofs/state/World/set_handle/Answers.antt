use Rattle.std.proofs.Common.{ap, refl, ◌∙◌, Some, arith}
use Rattle.job_handle.specs.Sets.{jobs_of}
use Rattle.plan_state.specs.declared.state.Value.TheVariants.{Jobs}
use Rattle.plan_state.proofs.Accessing.{read_some}
use Rattle.plan_state.proofs.Naming.{new_place, own_place}
use Rattle.plan_state.proofs.state.World.set_handle.Goals as goal

pub index_mut-requires : goal.index_mut-requires
index_mut-requires c =
    let s = c.args.self.now in
    c.requires.there c.args.name (Jobs c.in-Jobs.place) (read_some s.values c.args.name c.index.result.now c.requires.name c.index.ensures
    ∙ ap Some c.in-Jobs.is)

pub returns-in-Jobs : goal.returns-in-Jobs
returns-in-Jobs c =
    let s = c.args.self.now in
    let read = read_some s.values c.args.name c.index.result.now c.requires.name c.index.ensures ∙ ap Some c.in-Jobs.is in
    let lt = c.requires.there c.args.name (Jobs c.in-Jobs.place) read in
    let len = s.handles.ok.0 in
    own_place s _ c.args.name c.in-Jobs.place c.set_to.new.self (jobs_of c.args.jobs.now) read (omega arith) refl c.set_to.ensures

pub returns-in_ok-push-in-Dead : goal.returns-in_ok-push-in-Dead
returns-in_ok-push-in-Dead c =
    let s = c.args.self.now in
    let len = s.handles.ok.0 in
    let place = c.len-place.ensures in
    new_place s _ c.push.new.self c.args.name c.len-place.result c.args.jobs.now (omega arith) c.in_ok-push-in-Dead.ensures.items refl
