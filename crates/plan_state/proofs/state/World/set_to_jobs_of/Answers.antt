use Rattle.std.proofs.Common.{ap, refl, get_or}
use Rattle.plan_state.proofs.Accessing.{read_some}
use Rattle.plan_state.proofs.Naming.{jobs_more}
use Rattle.plan_state.proofs.state.World.set_to_jobs_of.Goals as goal

pub loop-name-init : goal.loop-name-init
loop-name-init c j = ap (λ f. f j) c.clear.ensures

pub add_jobs_of-requires : goal.add_jobs_of-requires
add_jobs_of-requires c =
    let s = c.args.self.now in
    let i = c.loop-name.name-index in
    let name = get_or c.args.names.now i 0 in
    record {
      there = c.requires.there name c.index.result.now (read_some s.values name c.index.result.now
          (c.requires.names i 0 c.loop-name-test.true) c.index.ensures);
    }

pub loop-name-preserved : goal.loop-name-preserved
loop-name-preserved c =
    let s = c.args.self.now in
    let i = c.loop-name.name-index in
    let name = get_or c.args.names.now i 0 in
    jobs_more s.handles.items s.values.items c.args.names.now i name 0 c.index.result.now c.loop-name.all c.add_jobs_of.new.all
    c.loop-name.invariant c.loop-name-test.true refl (read_some s.values name c.index.result.now (c.requires.names i 0 c.loop-name-test.true) c.index.ensures)
    c.add_jobs_of.ensures
