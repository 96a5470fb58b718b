use Rattle.std.proofs.Common.{◌≡◌}
use Rattle.table_in.proofs.columns.Table.make_room.Given as goal

abbrev pub invariant-loop-i : goal.invariant-loop-i
invariant-loop-i l = l.self ≡ l.initial.self
