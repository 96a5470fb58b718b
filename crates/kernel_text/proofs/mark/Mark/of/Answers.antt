use Rattle.std.proofs.Common.{◌≡◌, ◌*◌, ◌+◌, ◌%◌, ap, ◌∙◌, arith}
use Rattle.kernel_text.specs.Marks.{kind_numbered}
use Rattle.kernel_text.proofs.mark.Mark.of.Goals as goal

pub returns-clause-kind : goal.returns-clause-kind
returns-clause-kind c =
    let number : (c.args.start * 128 + c.number_of.result) % 128 ≡ c.number_of.result = omega (arith, c.number_of.ensures.few) in
    ap kind_numbered number ∙ c.number_of.ensures.number

pub returns-clause-exact : goal.returns-clause-exact
returns-clause-exact c =
    let number : (c.args.start * 128 + c.number_of.result) % 128 ≡ c.number_of.result = omega (arith, c.number_of.ensures.few) in
    omega (arith, number, c.number_of.ensures.few)

pub returns-clause-start : goal.returns-clause-start
returns-clause-start c = omega (arith, c.number_of.ensures.few)
