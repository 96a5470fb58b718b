use Rattle.std.proofs.Common.{◌≡◌, ◌++◌, drop}
use Rattle.std.specs.Prelude.{string_bytes}
use Rattle.trace_text.specs.Traces.{arrows_text}
use Rattle.trace_text.proofs.arrows.arrows_text.Given as goal

abbrev pub invariant-loop-arrow : goal.invariant-loop-arrow
invariant-loop-arrow l = string_bytes l.text ++ arrows_text (drop l.arrow-index l.arrows) ≡ arrows_text l.arrows
