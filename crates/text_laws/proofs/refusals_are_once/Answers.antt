use Rattle.text_laws.proofs.Laws.{refusals_are_once}
use Rattle.text_laws.proofs.refusals_are_once.Goals as goal

pub returns : goal.returns
returns c = refusals_are_once
