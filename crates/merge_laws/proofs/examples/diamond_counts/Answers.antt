use Rattle.merge_laws.proofs.Diamond.WorkedWords.{diamond_counts}
use Rattle.merge_laws.proofs.examples.diamond_counts.Goals as goal

pub returns : goal.returns
returns c = diamond_counts
