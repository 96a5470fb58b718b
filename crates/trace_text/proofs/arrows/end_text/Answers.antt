use Rattle.trace_text.specs.Events.{end_text}
use Rattle.trace_text.proofs.arrows.end_text.Goals as goal

pub returns : goal.returns
unfolding end_text
returns c = rw c.in_ok-at.ensures at c.format.ensures.ok
