use Rattle.trace_text.proofs.arrows.arrow_text.Goals as goal

pub returns : goal.returns
returns c = rw c.in_ok-from.ensures at (rw c.in_ok-to.ensures at c.format.ensures.ok)
