use Rattle.std.proofs.Common.{◌≡◌, ◌≤◌, ℕ, length, drop, nat_eq}
use Rattle.std.specs.List.{position_from}
use Rattle.std.specs.HashMap.{get}
use Rattle.view_text.specs.Places.{is_box}
use Rattle.view_text.proofs.places.places_by_number.Given as goal

abbrev pub invariant-loop-at : goal.invariant-loop-at
invariant-loop-at l = (l.at ≤ length l.nodes)
    × ((number : ℕ) → get nat_eq l.places number ≡ position_from (is_box l.refused number) l.at (drop l.at l.nodes))

abbrev pub decreases-loop-at : goal.decreases-loop-at
decreases-loop-at l = l.at
