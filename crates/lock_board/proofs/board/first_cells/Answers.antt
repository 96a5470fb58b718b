use Rattle.std.proofs.Common.{◌≡◌, ◌-◌, ◌++◌, replicate, length, ap, ◌∙◌, pos, arith, rules}
use Rattle.std.proofs.lemmas.List.{take_all}
use Rattle.job_base.specs.Cells.{cells_of}
use Rattle.lock_board.proofs.Making.{zeros_past}
use Rattle.lock_board.proofs.board.first_cells.Goals as goal

pub returns-clause-cells : goal.returns-clause-cells
returns-clause-cells c = λ w.
    let few = c.requires.well.sized.first in
    let all = c.requires.well.sized.words_are in
    let first : c.extend_from_slice.new.self.items ≡ c.args.plan.now.first.items = search rules in
    let long = ap (λ l. length l) first in
    let more = c.args.plan.now.words - c.extend_from_slice.new.self.len in
    ap (λ l. cells_of l w) (c.in_ok-resize.ensures.items
    ∙ ap (λ l. l ++ replicate more (pos 0)) (take_all c.args.plan.now.words c.extend_from_slice.new.self.items (omega arith) ∙ first))
    ∙ zeros_past c.args.plan.now.first.items more w
