use Rattle.std.proofs.Common.{◌≡◌, ◌++◌, drop}
use Rattle.std.specs.Prelude.{string_bytes}
use Rattle.trace_text.specs.Traces.{jobs_text}
use Rattle.trace_text.proofs.jobs.jobs_text.Given as goal

abbrev pub invariant-loop-job : goal.invariant-loop-job
invariant-loop-job l = string_bytes l.text ++ jobs_text l.before (drop l.job-index l.jobs) ≡ jobs_text l.before l.jobs
