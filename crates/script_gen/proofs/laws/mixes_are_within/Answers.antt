use Rattle.script_gen.proofs.Mixes.{mixes_within}
use Rattle.script_gen.proofs.laws.mixes_are_within.Goals as goal

pub returns : goal.returns
returns c = mixes_within
