use Rattle.text_laws.proofs.Laws.{scripts_are_spelled_once}
use Rattle.text_laws.proofs.scripts_are_spelled_once.Goals as goal

pub returns : goal.returns
returns c = scripts_are_spelled_once
