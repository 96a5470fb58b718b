use Rattle.std.proofs.Common.{rules, ◌≡◌, ◌∙◌, Some, None, sym, ap}
use Rattle.script_names.specs.Names.{place_in}
use Rattle.script_names.proofs.PlaceLemmas.{new_place}
use Rattle.script_names.proofs.names.Names.get_or_make.Goals as goal

pub returns-clause-place : goal.returns-clause-place
returns-clause-place c =
    let none : place_in c.args.self.now c.args.text.now ≡ None = search rules in
    ap (λ names. place_in names c.args.text.now) c.in_ok-make.ensures
    ∙ (new_place c.args.self.now c.args.text.now c.args.kind none ∙ ap (λ n. Some n) (sym c.len-place.ensures.length))
