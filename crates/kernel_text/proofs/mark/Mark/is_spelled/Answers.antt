use Rattle.std.proofs.Common.{◌≡◌, ◌<◌, get_or, length, sym, ◌∙◌, ap, arith}
use Rattle.std.proofs.lemmas.Bool.{eqb-false}
use Rattle.kernel_text.specs.Marks.{start_of}
use Rattle.kernel_text.proofs.Glances.{letter_spelled}
use Rattle.kernel_text.proofs.mark.Mark.is_spelled.Goals as goal

pub returns-then-is_letter : goal.returns-then-is_letter
returns-then-is_letter c line =
    let source = c.args.source.now in
    let name = c.args.name.now in
    let start : c.start-start.result ≡ start_of c.args.self = c.start-start.ensures in
    let some : 0 < length name = omega (arith, eqb-false _ _ (sym c.if-not-is_empty.ensures)) in
    let first : get_or source (start_of c.args.self) 0 ≡ get_or name 0 0 = ap (λ n. get_or source n 0) (sym start) ∙ c.if-source-start.false in
    letter_spelled source line c.args.self name (c.type_inv.source (start_of c.args.self)).fits (sym c.is_letter.ensures ∙ c.if-is_letter.true)
    (omega arith) some first
