use Rattle.merge_laws.proofs.Ruling.{steps_keep_the_rule}
use Rattle.merge_laws.proofs.boards.steps_keep_the_rule.Goals as goal

pub returns : goal.returns
returns c = steps_keep_the_rule
