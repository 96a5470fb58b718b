-- The layout is the one that was made.
use Rattle.view_text.proofs.svg.svg_text.Goals as goal

pub returns : goal.returns
returns c = record {
  layout = c.in_ok-layout.layout;
  laid_out = c.in_ok-layout.ensures;
  text_is = c.in_ok-text.ensures;
}
