use Rattle.frame_host.specs.Frames.{IsBetween}
use Rattle.host_rows.proofs.running.run_frame.Given as goal

abbrev pub invariant-loop-section : goal.invariant-loop-section
invariant-loop-section l = record { sound : IsBetween l.frame }
