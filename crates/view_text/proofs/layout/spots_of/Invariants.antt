use Rattle.std.proofs.Common.{◌≡◌, map, take}
use Rattle.view_text.specs.Layouts.{top_of}
use Rattle.view_text.proofs.layout.spots_of.Given as goal

abbrev pub invariant-loop-at : goal.invariant-loop-at
invariant-loop-at l = map (λ s. s.y) l.spots.items ≡ map (λ n. top_of l.rows n.level) (take l.at l.nodes)
