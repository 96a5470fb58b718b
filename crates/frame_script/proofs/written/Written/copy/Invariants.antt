use Rattle.std.proofs.Common.{take, drop}
use Rattle.frame_script.specs.Writing.{PutsCopies}
use Rattle.frame_script.proofs.written.Written.copy.Given as goal

abbrev pub invariant-loop-at : goal.invariant-loop-at
invariant-loop-at l = PutsCopies (drop l.start (take l.at l.fn.self.statements)) l.fn.self l.self
