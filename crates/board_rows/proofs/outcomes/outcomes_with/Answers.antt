use Rattle.plan_statements.specs.Tables.{columns_of}
use Rattle.frame_rows.proofs.Starting.{no_cells, starts}
use Rattle.board_rows.proofs.outcomes.outcomes_with.Goals as goal

pub loop-init : goal.loop-init
loop-init g c = starts c.args.script.now (columns_of c.args.table.now) c.in_ok-book.book c.in_ok-cells.cells
    (c.in_ok-book.ensures.at no_cells 0)
