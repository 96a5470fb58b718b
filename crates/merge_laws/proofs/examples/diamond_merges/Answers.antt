use Rattle.merge_laws.proofs.Diamond.WorkedWords.{diamond_merges}
use Rattle.merge_laws.proofs.examples.diamond_merges.Goals as goal

pub returns : goal.returns
returns c = diamond_merges
