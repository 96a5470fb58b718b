use Rattle.std.proofs.Common.{◌≡◌, ◌≤◌, length, ap, ◌∙◌, arith, rules}
use Rattle.job_base.specs.Cells.{cells_of}
use Rattle.frame_core.proofs.Filling.{filled_up}
use Rattle.plan_run.proofs.fresh.fresh_cells.Goals as goal

pub returns-clause-fresh : goal.returns-clause-fresh
returns-clause-fresh c = λ w.
    let plan = c.args.plan.now in
    let few = c.requires.well.sized.first in
    let are = c.requires.well.sized.words_are in
    let fits : length plan.first.items ≤ plan.words = omega (arith, few, are) in
    let copied : c.extend_from_slice.new.self.items ≡ plan.first.items = search rules in
    ap (λ m. cells_of m w) c.of.ensures
    ∙ filled_up plan.first.items c.extend_from_slice.new.self.items c.resize.new.self.items plan.words _ copied fits c.in_ok-resize.ensures.items w
