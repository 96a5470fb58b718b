use denote.Param.Send.{sendable}
use Rattle.frame_core.proofs.Sent.{plan_sync}
use Rattle.frame_top.proofs.on_board.run_plan.Goals as goal

pub run_shown-requires-sync-P : goal.run_shown-requires-sync-P
run_shown-requires-sync-P g c κs within = search (sendable, plan_sync)
