use Rattle.std.proofs.Common.{◌≡◌, ◌++◌, drop, string_bytes}
use Rattle.view_text.specs.Pages.{arrows_text}
use Rattle.view_text.proofs.svg.arrows_text.Given as goal

abbrev pub invariant-loop-link : goal.invariant-loop-link
invariant-loop-link l =
    string_bytes l.text ++ arrows_text l.nodes l.spots (drop l.link-index l.links) ≡ arrows_text l.nodes l.spots l.links
