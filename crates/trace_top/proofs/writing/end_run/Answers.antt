use Rattle.std.proofs.Common.{sym, ◌∙◌}
use Rattle.trace_top.specs.Traced.{AfterRun}
use Rattle.trace_top.proofs.writing.end_run.Goals as goal

pub returns-then-has_run-clause-traced : goal.returns-then-has_run-clause-traced
returns-then-has_run-clause-traced g c = AfterRun (sym c.has_run.ensures ∙ c.if-has_run.true) c.write_known.ensures.written
