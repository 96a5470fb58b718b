use Rattle.std.proofs.Common.{arith, rules, ◌≡◌, ◌<◌, ◌∙◌, sym, ap, subst, length}
use Rattle.std.proofs.lemmas.List.{length-map}
use Rattle.script_names.specs.Firsts.{place_noted}
use Rattle.script_names.specs.Index.{first_of}
use Rattle.script_names.proofs.FirstLemmas.{first_noted}
use Rattle.script_names.proofs.firsts.Firsts.get.Goals as goal

pub index-requires : goal.index-requires
index-requires c = omega (arith, c.requires, ap length c.self.view_is, length-map c.self.inside.places.items place_noted)

pub returns : goal.returns
returns c =
    let numbers = c.self.inside.places.items in
    let within : c.args.bucket < length numbers = omega (arith, c.requires, ap length c.self.view_is, length-map numbers place_noted) in
    first_noted numbers c.args.bucket c.index.result.now c.checked_sub.result within c.index.ensures c.checked_sub.ensures
    ∙ ap (λ firsts. first_of firsts c.args.bucket) c.self.view_is
