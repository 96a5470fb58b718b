use Rattle.std.proofs.Common.{◌≡◌, ◌+◌, ◌-◌, take, drop, sym, ◌∙◌, arith}
use Rattle.kernel_text.specs.Marks.{start_of}
use Rattle.kernel_text.proofs.Glances.{letter_text}
use Rattle.kernel_text.proofs.mark.Mark.text.Goals as goal

pub returns-then-is_letter : goal.returns-then-is_letter
returns-then-is_letter c line =
    let source = c.args.source.now in
    let len : c.start-start.result + 1 - c.start-start.result ≡ 1 = omega arith in
    let start : c.start-start.result ≡ start_of c.args.self = c.start-start.ensures in
    (λ i. take (len i) (drop (start i) source)) ∙ letter_text source line c.args.self (c.type_inv.source (start_of c.args.self)).fits
    (sym c.is_letter.ensures ∙ c.if-is_letter.true)
