use Rattle.std.proofs.Common.{◌≡◌, ◌++◌, drop}
use Rattle.std.specs.Prelude.{string_bytes}
use Rattle.trace_text.specs.Traces.{segments_text}
use Rattle.trace_text.proofs.segments.segments_text.Given as goal

abbrev pub invariant-loop-segment : goal.invariant-loop-segment
invariant-loop-segment l = string_bytes l.text ++ segments_text l.section (drop l.segment-index l.segments) ≡ segments_text l.section l.segments
