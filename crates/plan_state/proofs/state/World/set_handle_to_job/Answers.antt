use Rattle.std.proofs.Common.{ap, refl, ◌∙◌, Some, arith}
use Rattle.frame_ast.specs.Jobs.{only}
use Rattle.plan_state.specs.declared.state.Value.TheVariants.{Jobs}
use Rattle.plan_state.proofs.Accessing.{read_some}
use Rattle.plan_state.proofs.Naming.{own_place}
use Rattle.plan_state.proofs.state.World.set_handle_to_job.Goals as goal

pub index_mut-requires : goal.index_mut-requires
index_mut-requires c =
    let s = c.args.self.now in
    c.requires.there c.args.name (Jobs c.in-Jobs.place) (read_some s.values c.args.name c.index.result.now c.requires.name c.index.ensures
    ∙ ap Some c.in-Jobs.is)

pub returns-in-Jobs : goal.returns-in-Jobs
returns-in-Jobs c =
    let s = c.args.self.now in
    let read = read_some s.values c.args.name c.index.result.now c.requires.name c.index.ensures ∙ ap Some c.in-Jobs.is in
    let lt = c.requires.there c.args.name (Jobs c.in-Jobs.place) read in
    let len = s.handles.ok.0 in
    own_place s _ c.args.name c.in-Jobs.place c.set_to_job.new.self (only c.args.job.0) read (omega arith) refl c.set_to_job.ensures
