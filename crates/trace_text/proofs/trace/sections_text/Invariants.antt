use Rattle.std.proofs.Common.{◌≡◌, ◌++◌, drop}
use Rattle.std.specs.Prelude.{string_bytes}
use Rattle.trace_text.specs.Traces.{sections_text}
use Rattle.trace_text.proofs.trace.sections_text.Given as goal

abbrev pub invariant-loop-section : goal.invariant-loop-section
invariant-loop-section l = string_bytes l.text ++ sections_text (drop l.section-index l.sections) ≡ sections_text l.sections
