use Rattle.std.proofs.Common.{◌≡◌, ◌≤◌, ◌-◌, ℕ, length, drop, Some, sym, ◌∙◌, ap, arith, min, length-drop}
use Rattle.std.proofs.lemmas.List.{take_all}
use Rattle.frame_grammar.specs.declared.token_kind.TokenKind.TheVariants.{Number}
use Rattle.kernel_text.specs.Marks.{kind_of, start_of}
use Rattle.kernel_text.specs.Numbers.{front_value}
use Rattle.kernel_text.proofs.Values.{number_value}
use Rattle.kernel_text.proofs.mark.Mark.value.Goals as goal
use Rattle.kernel_text.proofs.mark.Mark.value.Goals.{in-Number, in_default}

in_range : (value of : ℕ) → value ≤ 18446744073709551615 → value ≡ of → value ≡ min 18446744073709551615 of
in_range value of fits is = omega arith

pub returns : goal.returns
returns c line =
    let kind : kind_of c.args.self ≡ Number = elim c.match-matches.branch [
      | in-Number w ↦ sym c.kind.ensures ∙ w.in-Number.is
      | in_default w ↦ cc
    ] in
    let source = c.args.source.now in
    let start = c.start-start.result in
    let start_is : start ≡ start_of c.args.self = c.start-start.ensures in
    let whole = take_all (length source - start) (drop start source) (omega (arith, length-drop start source)) in
    let value_is : Some c.in-Some.value ≡ front_value 17 (drop (start_of c.args.self) source) =
    sym c.in-Some.is ∙ c.front_value.ensures.value ∙ ap (front_value 17) whole ∙ ap (λ n. front_value 17 (drop n source)) start_is in
    let is = number_value source line c.args.self c.in-Some.value 17 (c.type_inv.source (start_of c.args.self)).fits kind value_is in
    let fits : c.in-Some.value ≤ 18446744073709551615 = c.in-Some.ensures.fits in
    in_range _ _ fits is
