use Rattle.std.proofs.Common.{◌≤◌, ◌-◌, drop}
use Rattle.frame_script.specs.Writing.{PutsRepeated}
use Rattle.frame_script.proofs.written.Written.repeat.Given as goal

abbrev pub invariant-loop : goal.invariant-loop
invariant-loop l = record {
  some : l.counter - 1 ≤ l.count - 1;
  repeated : PutsRepeated (l.counter - 1) (drop l.start l.fn.self.statements) l.fn.self l.self;
}
