use Rattle.std.proofs.Common.{rules, arith, ◌≡◌, ◌<◌, Some, refl, ap, subst, length, get_or, slice_get}
use Rattle.std.proofs.lemmas.Option.{slice_get_read}
use Rattle.frame_script.proofs.written.Written.copy_any.Goals as goal

pub returns : goal.returns
returns c =
    let items = c.self.inside.statements.items in
    let same : items ≡ c.args.self.now.statements = ap (λ v. v.statements) c.self.view_is in
    let within : c.args.at < length items = omega (arith, c.requires, ap length same) in
    let here : c.index.result.now ≡ get_or items c.args.at c.index.result.now = search rules in (
      c.index.result.now,
      c.in_ok-copy.copy,
      subst (λ xs. slice_get xs c.args.at ≡ Some c.index.result.now) same (slice_get_read items (length items) c.args.at c.index.result.now refl within here),
      c.in_ok-copy.ensures,
      c.in_ok-add.ensures,
    )
