use Rattle.std.proofs.Common.{◌%◌, sym, arith}
use Rattle.kernel_text.proofs.Marks.{line_numbered}
use Rattle.kernel_text.proofs.mark.Mark.is_line.Goals as goal

pub returns : goal.returns
returns c = sym (line_numbered (c.args.self.word % 128) (omega arith))
