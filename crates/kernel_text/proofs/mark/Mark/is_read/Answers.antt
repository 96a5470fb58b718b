use Rattle.std.proofs.Common.{◌∙◌, ap}
use Rattle.std.specs.Str.{bytes_eq}
use Rattle.kernel_text.proofs.mark.Mark.is_read.Goals as goal

pub returns : goal.returns
returns c line = c.is_same.ensures ∙ ap (λ text. bytes_eq text c.args.name.now) (c.whole_text.ensures line)
