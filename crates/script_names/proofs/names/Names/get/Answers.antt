use Rattle.std.proofs.Common.{rules, ◌≡◌, sym, subst, Some, None}
use Rattle.script_names.specs.Names.{place_in, kind_in}
use Rattle.script_names.proofs.PlaceLemmas.{kind_missing, kind_found}
use Rattle.script_names.proofs.names.Names.get.Goals as goal

pub returns-in_err-place-clause-kind : goal.returns-in_err-place-clause-kind
returns-in_err-place-clause-kind c =
    let none : place_in c.args.self.now c.args.text.now ≡ None = search rules in
    rw c.from_residual.ensures (sym (kind_missing c.args.self.now c.args.text.now none))

pub returns-clause-kind : goal.returns-clause-kind
returns-clause-kind c =
    let found : place_in c.args.self.now c.args.text.now ≡ Some c.in_ok-place.place = search rules in
    sym (subst (λ names. kind_in names c.args.text.now ≡ Some c.index.result.now.kind) c.self.view_is
    (kind_found c.self.inside.entries.items c.args.text.now c.in_ok-place.place c.index.result.now (rw (c.self.view_is) found) c.index.ensures))
