use Rattle.std.proofs.Common.{◌≡◌, length}
use Rattle.lock_board.specs.Layouts.{AreSpans, AreWithin}
use Rattle.lock_board.proofs.laying.list_spans.Given as goal

abbrev pub invariant-loop-p : goal.invariant-loop-p
invariant-loop-p l = record {
  size : length l.all.items ≡ l.p;
  spans : AreSpans l.plan l.all.items;
  within : AreWithin l.plan l.all.items;
}
