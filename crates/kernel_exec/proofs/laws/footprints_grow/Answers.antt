use Rattle.kernel_exec.proofs.Pieces.{footprints_grow}
use Rattle.kernel_exec.proofs.laws.footprints_grow.Goals as goal

pub returns : goal.returns
returns c = footprints_grow
