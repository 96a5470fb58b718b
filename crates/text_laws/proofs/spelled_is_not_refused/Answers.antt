use Rattle.text_laws.proofs.Laws.{spelled_is_not_refused}
use Rattle.text_laws.proofs.spelled_is_not_refused.Goals as goal

pub returns : goal.returns
returns c = spelled_is_not_refused
