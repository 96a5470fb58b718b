use Rattle.std.proofs.Common.{arith, rules, ◌≡◌, ◌<◌, ◌∙◌, Some, sym, ap, set, length}
use Rattle.std.proofs.lemmas.List.{length-map}
use Rattle.script_names.specs.Firsts.{place_noted}
use Rattle.script_names.proofs.FirstLemmas.{set_noted}
use Rattle.script_names.proofs.firsts.Firsts.set.Goals as goal

pub index_mut-requires : goal.index_mut-requires
index_mut-requires c = omega (arith, c.requires.within, ap length c.self.view_is, length-map c.self.inside.places.items place_noted)

pub returns : goal.returns
returns c =
    set_noted c.self.inside.places.items c.args.bucket c.args.place
    ∙ ap (λ firsts. set firsts c.args.bucket (Some c.args.place)) c.self.view_is
