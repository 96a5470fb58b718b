use Rattle.std.proofs.Common.{◌≡◌, length}
use Rattle.job_base.proofs.Parts.{InPart}
use Rattle.frame_print.proofs.texts.print_text.Given as goal

abbrev pub invariant-loop-rest : goal.invariant-loop-rest
invariant-loop-rest g l =
    InPart (g.S.Sink.taken l.fn.sink) (g.S.Sink.taken l.sink) l.text l.rest
    × (g.S.Sink.faults l.sink ≡ g.S.Sink.faults l.fn.sink)

abbrev pub decreases-loop-rest : goal.decreases-loop-rest
decreases-loop-rest g l = length l.rest
