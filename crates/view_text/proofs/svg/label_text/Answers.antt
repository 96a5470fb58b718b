use Rattle.view_text.specs.Pages.{label_text}
use Rattle.view_text.proofs.svg.label_text.Goals as goal

pub returns : goal.returns
unfolding label_text
returns c = rw (c.in_ok-label.ensures, c.as_str.ensures.value) at c.format.ensures.ok
