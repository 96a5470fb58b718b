use Rattle.merge_laws.proofs.Reaching.{countdowns_never_rise}
use Rattle.merge_laws.proofs.boards.countdowns_never_rise.Goals as goal

pub returns : goal.returns
returns c = countdowns_never_rise
