use Rattle.std.proofs.Common.{◌≡◌, ◌+◌, ◌++◌, drop, map}
use Rattle.frame_view.specs.Boxes.{box_of, refused_boxes}
use Rattle.frame_view.proofs.refused.add_refused.Given as goal

abbrev pub invariant-loop-i : goal.invariant-loop-i
invariant-loop-i l = map box_of l.nodes.items ++ refused_boxes l.script l.depth l.before (l.i + 1) (drop l.i l.story.refused.items)
    ≡ map box_of l.fn.nodes.items ++ refused_boxes l.script l.depth l.before 1 l.story.refused.items
