use Rattle.std.proofs.Common.{rules, ◌≡◌, ◌∙◌, sym, ap, length}
use Rattle.std.proofs.lemmas.List.{length-map}
use Rattle.script_names.specs.Firsts.{place_noted}
use Rattle.script_names.proofs.firsts.Firsts.len.Goals as goal

pub returns : goal.returns
returns c =
    let numbers = c.self.inside.places.items in
    let many : c.len.result ≡ length numbers = search rules in
    many ∙ (sym (length-map numbers place_noted) ∙ ap length c.self.view_is)
