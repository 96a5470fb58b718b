use Rattle.std.proofs.Common.{◌≡◌, ◌++◌, drop, map}
use Rattle.frame_view.specs.Arrows.{line_of, arrow_line}
use Rattle.frame_view.proofs.links.add_arrows.Given as goal

abbrev pub invariant-loop-arrow : goal.invariant-loop-arrow
invariant-loop-arrow l = map line_of l.links.items ++ map (arrow_line l.scene.depth.now l.scene.before l.later.0) (drop l.arrow-index l.arrows)
    ≡ map line_of l.fn.links.items ++ map (arrow_line l.scene.depth.now l.scene.before l.later.0) l.arrows
