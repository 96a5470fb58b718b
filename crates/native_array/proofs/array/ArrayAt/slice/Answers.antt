use Rattle.std.proofs.Common.{arith}
use Rattle.native_array.proofs.Parts.{slice_is_part}
use Rattle.native_array.proofs.array.ArrayAt.slice.Goals as goal

pub returns-then-len-self-clause-part : goal.returns-then-len-self-clause-part
returns-then-len-self-clause-part c = slice_is_part c.args.self.now c.args.start c.args.len (omega arith)
