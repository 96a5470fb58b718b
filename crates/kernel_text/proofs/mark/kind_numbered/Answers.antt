use Rattle.std.proofs.Common.{◌≡◌, ◌≤◌, false, nat_lt, length, slice_get, sym, ap, ◌∙◌}
use Rattle.std.specs.Option.{is_some}
use Rattle.std.proofs.lemmas.Bool.{ltb-false}
use Rattle.std.proofs.lemmas.Option.{slice_get_past}
use Rattle.std.specs.Prelude.{unwrap_or}
use Rattle.frame_grammar.specs.declared.token_kind.TokenKind.TheVariants.{Name}
use Rattle.kernel_text.specs.Marks.{kind_numbered}
use Rattle.kernel_text.proofs.mark.kind_numbered.Goals as goal

pub returns-in-None : goal.returns-in-None
unfolding kind_numbered
returns-in-None c =
    let beyond : false ≡ nat_lt c.args.number (length c.kinds.result.now) = sym (ap is_some c.in-None.is) ∙ c.get.ensures.lookup.0 in
    let past : length c.kinds.result.now ≤ c.args.number = ltb-false _ _ (sym beyond) in
    let none = ap (λ xs. slice_get xs c.args.number) (sym c.kinds.ensures) ∙ slice_get_past c.kinds.result.now c.args.number past in
    sym (ap (λ kind. unwrap_or kind Name) none)
