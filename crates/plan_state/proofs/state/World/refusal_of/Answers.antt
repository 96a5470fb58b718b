use Rattle.plan_state.proofs.Accessing.{none_up_to}
use Rattle.plan_state.proofs.state.World.refusal_of.Goals as goal

pub check_write-answer-requires : goal.check_write-answer-requires
check_write-answer-requires c = none_up_to _ _ c.nobody-nobody.ensures

pub check_read-answer-requires : goal.check_read-answer-requires
check_read-answer-requires c = none_up_to _ _ c.nobody-nobody.ensures
