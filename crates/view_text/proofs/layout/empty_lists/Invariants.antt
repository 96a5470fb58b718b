use Rattle.std.proofs.Common.{◌≡◌, length}
use Rattle.view_text.proofs.layout.empty_lists.Given as goal

abbrev pub invariant-loop : goal.invariant-loop
invariant-loop l = length l.lists.items ≡ l.counter
