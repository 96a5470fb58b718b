use Rattle.std.proofs.Common.{◌≡◌, drop, map}
use Rattle.frame_view.specs.Boxes.{box_of, greatest_level}
use Rattle.frame_view.proofs.drawing.greatest_level.Given as goal

abbrev pub invariant-loop-node : goal.invariant-loop-node
invariant-loop-node l = greatest_level l.greatest (map box_of (drop l.node-index l.nodes)) ≡ greatest_level 0 (map box_of l.nodes)
