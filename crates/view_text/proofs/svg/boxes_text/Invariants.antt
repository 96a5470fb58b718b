use Rattle.std.proofs.Common.{◌≡◌, ◌++◌, drop, string_bytes}
use Rattle.view_text.specs.Pages.{boxes_text}
use Rattle.view_text.proofs.svg.boxes_text.Given as goal

abbrev pub invariant-loop-at : goal.invariant-loop-at
invariant-loop-at l = string_bytes l.text ++ boxes_text (drop l.at l.nodes) (drop l.at l.spots) ≡ boxes_text l.nodes l.spots
