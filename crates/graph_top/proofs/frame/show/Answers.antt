use Rattle.std.proofs.Common.{inl, inr, refl}
use Rattle.graph_top.specs.Drawn.{Whole, Part}
use Rattle.graph_top.proofs.frame.show.Goals as goal

pub returns-in-Ok-clause-drawn : goal.returns-in-Ok-clause-drawn
returns-in-Ok-clause-drawn g c = Whole refl c.as_bytes.result.now c.as_bytes.ensures.value c.in-Ok.ensures.text c.in-Ok.ensures.count

pub returns-in-Err-clause-drawn : goal.returns-in-Err-clause-drawn
returns-in-Err-clause-drawn g c =
    let some = c.in-Err.ensures.text in
    Part refl c.as_bytes.result.now c.as_bytes.ensures.value some.0 some.1 c.in-Err.ensures.cause

pub returns-in-Ok-clause-shown : goal.returns-in-Ok-clause-shown
returns-in-Ok-clause-shown g c = inl refl

pub returns-in-Err-clause-shown : goal.returns-in-Err-clause-shown
returns-in-Err-clause-shown g c = inr (refl, c.in-Err.ensures.cause)
