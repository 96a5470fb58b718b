use Rattle.view_text.specs.Graphs.{head_text}
use Rattle.view_text.proofs.dot.head_text.Goals as goal

pub returns : goal.returns
unfolding head_text
returns c = rw (c.in_ok-head.ensures, c.as_str.ensures.value) at c.format.ensures.ok
