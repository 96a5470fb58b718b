use Rattle.std.proofs.Common.{◌≡◌, ◌++◌}
use Rattle.std.specs.Prelude.{◌-◌, string_bytes}
use Rattle.trace_text.specs.Traces.{rows_text}
use Rattle.trace_text.proofs.trace.rows_text.Given as goal

abbrev pub invariant-loop-worker : goal.invariant-loop-worker
invariant-loop-worker l = string_bytes l.text ++ rows_text (l.workers - l.worker) l.worker ≡ rows_text (l.workers - 1) 1
