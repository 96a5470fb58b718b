use Rattle.std.proofs.Common.{◌≡◌, drop}
use Rattle.frame_print.proofs.Gathering.{Going}
use Rattle.job_depth.specs.Texts.{jobs_text}
use Rattle.job_depth.proofs.printing.put_jobs.Given as goal

abbrev pub invariant-loop-id : goal.invariant-loop-id
invariant-loop-id g l =
    Going (g.S.Sink.taken l.fn.sink) l.fn.out (g.S.Sink.taken l.sink) l.out (jobs_text l.jobs) (jobs_text (drop l.id-index l.jobs))
    × (g.S.Sink.faults l.sink ≡ g.S.Sink.faults l.fn.sink)
