use Rattle.std.proofs.Common.{min, ◌∙◌, ap}
use Rattle.kernel_text.specs.Numbers.{value_of}
use Rattle.kernel_text.proofs.mark.Mark.read_value.Goals as goal

pub returns : goal.returns
returns c line = c.value_of.ensures ∙ ap (λ text. min 18446744073709551615 (value_of text)) (c.whole_text.ensures line)
