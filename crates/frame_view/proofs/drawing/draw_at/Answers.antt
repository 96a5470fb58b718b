use Rattle.std.proofs.Common.{◌++◌, map, refl, ap, ◌∙◌}
use Rattle.frame_view.specs.Arrows.{arrow_lines, block_lines}
use Rattle.frame_view.specs.Boxes.{box_of, greatest_level, refused_boxes}
use Rattle.frame_view.proofs.drawing.draw_at.Goals as goal

pub returns : goal.returns
returns c = record {
  depth = c.in_ok-depth.depth;
  is_depth = c.in_ok-depth.ensures;
  waits = c.in_ok-found.found.items;
  are_arrows = c.in_ok-found.ensures;
  number = refl;
  head = c.in_ok-head_text.ensures;
  boxes = c.in_ok-add_refused.ensures
      ∙ ap (λ bs. bs ++ refused_boxes c.args.script.now c.in_ok-depth.depth c.args.place.before 1 c.args.story.now.refused.items) c.in_ok-nodes.ensures;
  levels = c.greatest_level.ensures ∙ ap (λ ns. greatest_level 0 (map box_of ns)) c.deref-2.ensures.value;
  lines = c.in_ok-add_blocks.ensures
      ∙ ap (λ ls. ls ++ block_lines c.args.place.before 1 c.args.story.now.refused.items)
      (c.in_ok-links.ensures ∙ ap (λ xs. arrow_lines c.in_ok-depth.depth c.args.place.before 1 xs) c.deref.ensures.value);
}
