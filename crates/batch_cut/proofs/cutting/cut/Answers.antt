use Rattle.std.proofs.Common.{arith}
use Rattle.batch_cut.specs.Cuts.{count_of}
use Rattle.batch_cut.proofs.Covering.{covered, enough}
use Rattle.batch_cut.proofs.cutting.cut.Goals as goal

pub returns-clause-cover : goal.returns-clause-cover
returns-clause-cover c =
    covered c.args.n c.max.result (count_of c.args.n c.max.result) (enough c.args.n c.max.result (omega arith))
