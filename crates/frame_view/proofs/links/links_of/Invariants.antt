use Rattle.std.proofs.Common.{◌≡◌, ◌+◌, ◌++◌, drop, map}
use Rattle.frame_view.specs.Arrows.{line_of, arrow_lines}
use Rattle.frame_view.proofs.links.links_of.Given as goal

abbrev pub invariant-loop-j : goal.invariant-loop-j
invariant-loop-j l = map line_of l.links.items ++ arrow_lines l.depth l.before (l.j + 1) (drop l.j l.found) ≡ arrow_lines l.depth l.before 1 l.found
