use Rattle.merge_laws.proofs.Reaching.{rights_come_once}
use Rattle.merge_laws.proofs.boards.rights_come_once.Goals as goal

pub returns : goal.returns
returns c = rights_come_once
