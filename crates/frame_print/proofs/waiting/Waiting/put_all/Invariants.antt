use Rattle.std.proofs.Common.{◌≡◌, drop}
use Rattle.frame_print.specs.Gathering.{joined}
use Rattle.frame_print.proofs.Gathering.{Going}
use Rattle.frame_print.proofs.waiting.Waiting.put_all.Given as goal

abbrev pub invariant-loop-part : goal.invariant-loop-part
invariant-loop-part g l =
    Going (g.S.Sink.taken l.fn.sink) l.fn.self (g.S.Sink.taken l.sink) l.self (joined l.parts) (joined (drop l.part-index l.parts))
    × (g.S.Sink.faults l.sink ≡ g.S.Sink.faults l.fn.sink)
