use Rattle.std.proofs.Common.{ap, refl, ◌∙◌, Some, arith}
use Rattle.frame_ast.specs.Jobs.{nobody}
use Rattle.plan_state.specs.declared.state.Value.TheVariants.{Jobs}
use Rattle.plan_state.proofs.Accessing.{read_some}
use Rattle.plan_state.proofs.Naming.{own_place}
use Rattle.plan_state.proofs.state.World.clear_handle.Goals as goal

pub index_mut-requires : goal.index_mut-requires
index_mut-requires c =
    let s = c.args.self.now in
    c.requires.there c.args.name (Jobs c.in-Jobs.place) (read_some s.values c.args.name c.index.result.now c.requires.name c.index.ensures
    ∙ ap Some c.in-Jobs.is)

pub returns-in-Jobs : goal.returns-in-Jobs
returns-in-Jobs c =
    let s = c.args.self.now in
    let read = read_some s.values c.args.name c.index.result.now c.requires.name c.index.ensures ∙ ap Some c.in-Jobs.is in
    let lt = c.requires.there c.args.name (Jobs c.in-Jobs.place) read in
    let len = s.handles.ok.0 in
    own_place s _ c.args.name c.in-Jobs.place c.clear.new.self nobody read (omega arith) refl c.clear.ensures
