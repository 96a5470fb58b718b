use Rattle.plan_statements.specs.Tables.{columns_of}
use Rattle.frame_rows.specs.Between.{IsBetween}
use Rattle.board_rows.proofs.outcomes.outcomes_with.Given as goal

abbrev pub invariant-loop : goal.invariant-loop
invariant-loop g l = IsBetween l.script (columns_of l.table) l.walk.book l.walk.held l.walk.cells
