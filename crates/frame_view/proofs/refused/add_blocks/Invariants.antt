use Rattle.std.proofs.Common.{◌≡◌, ◌+◌, ◌++◌, drop, map}
use Rattle.frame_view.specs.Arrows.{line_of, block_lines}
use Rattle.frame_view.proofs.refused.add_blocks.Given as goal

abbrev pub invariant-loop-i : goal.invariant-loop-i
invariant-loop-i l = map line_of l.links.items ++ block_lines l.before (l.i + 1) (drop l.i l.story.refused.items)
    ≡ map line_of l.fn.links.items ++ block_lines l.before 1 l.story.refused.items
