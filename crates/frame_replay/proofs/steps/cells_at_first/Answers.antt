use Rattle.std.proofs.Common.{◌≡◌, ◌≤◌, length, arith, rules}
use Rattle.job_base.specs.Cells.{cells_of}
use Rattle.frame_core.proofs.Filling.{filled_up}
use Rattle.frame_replay.proofs.Runs.{first_cells}
use Rattle.frame_replay.proofs.steps.cells_at_first.Goals as goal

pub returns-clause-cells : goal.returns-clause-cells
returns-clause-cells c =
    let plan = c.args.plan.now in
    let few = c.requires.well.sized.first in
    let are = c.requires.well.sized.words_are in
    let fits : length plan.first.items ≤ plan.words = omega (arith, few, are) in
    let copied : c.extend_from_slice.new.self.items ≡ plan.first.items = search rules in
    first_cells plan (cells_of c.resize.new.self.items)
    (filled_up plan.first.items c.extend_from_slice.new.self.items c.resize.new.self.items plan.words _ copied fits c.in_ok-resize.ensures.items)
