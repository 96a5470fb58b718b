use Rattle.std.proofs.Common.{◌≡◌, sym, ◌∙◌}
use Rattle.frame_grammar.specs.declared.token_kind.TokenKind.TheVariants.{Number}
use Rattle.kernel_text.specs.Marks.{kind_of}
use Rattle.kernel_text.proofs.Glances.{few_digits, above_most}
use Rattle.kernel_text.proofs.mark.Mark.is_above.Goals as goal
use Rattle.kernel_text.proofs.mark.Mark.is_above.Goals.{in-Number, in_default}

pub returns-then-not-is_ascii_digit : goal.returns-then-not-is_ascii_digit
returns-then-not-is_ascii_digit c line =
    let kind : kind_of c.args.self ≡ Number = elim c.match-matches.branch [
      | in-Number w ↦ sym c.kind.ensures ∙ w.in-Number.is
      | in_default w ↦ cc
    ] in
    few_digits c.args.source.now line c.start-start.result c.args.self c.args.most c.start-start.ensures c.if-start-source.true
    (c.type_inv.source c.start-start.result).fits kind
    (sym c.is_ascii_digit.ensures.value ∙ c.if-is_ascii_digit.true) (sym c.if-not-is_ascii_digit.ensures.value) c.requires.great

pub returns : goal.returns
returns c line = above_most c.args.most c.value.result _ c.requires.fits (c.value.ensures line)
