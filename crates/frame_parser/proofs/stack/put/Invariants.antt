use Rattle.std.proofs.Common.{◌≡◌, ◌≤◌, ◌+◌, ◌-◌, ◌++◌, length, take}
use Rattle.frame_parser.proofs.stack.put.Given as goal

abbrev pub invariant-loop-item : goal.invariant-loop-item
invariant-loop-item g l = record {
  so_far : l.list.items ≡ l.fn.list.items ++ take l.item-index l.items;
  room : l.list.len + (length l.items - l.item-index) ≤ l.list.cap;
}
