use Rattle.std.proofs.Common.{◌≡◌, drop}
use Rattle.job_base.proofs.Parts.{InPart}
use Rattle.frame_print.specs.Gathering.{joined}
use Rattle.frame_print.proofs.texts.print_parts.Given as goal

abbrev pub invariant-loop-part : goal.invariant-loop-part
invariant-loop-part g l =
    InPart (g.S.Sink.taken l.fn.sink) (g.S.Sink.taken l.sink) (joined l.parts) (joined (drop l.part-index l.parts))
    × (g.S.Sink.faults l.sink ≡ g.S.Sink.faults l.fn.sink)
