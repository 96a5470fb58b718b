use Rattle.std.proofs.Common.{ap, sym, Some, ◌∙◌}
use Rattle.std.specs.Prelude.{option_copied}
use Rattle.trace_top.proofs.Tracing.{writes_as}
use Rattle.trace_top.proofs.writing.write_known.Goals as goal

pub returns-in-Some-clause-written : goal.returns-in-Some-clause-written
returns-in-Some-clause-written g c =
    writes_as _ _ (λ traces same. ap option_copied c.in-Some.is ∙ ap Some (sym same)) _ _ _ _ _ _ _ c.write_trace.ensures.written
