use Rattle.plan_state.proofs.Accessing.{none_up_to}
use Rattle.frame_plan.proofs.binding.is_alive.Goals as goal

pub check_read-requires : goal.check_read-requires
check_read-requires c = none_up_to _ _ c.nobody.ensures
