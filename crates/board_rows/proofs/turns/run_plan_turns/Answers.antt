use denote.Param.Send.{sendable}
use Rattle.frame_core.proofs.Sent.{plan_sync}
use Rattle.board_rows.proofs.turns.run_plan_turns.Goals as goal

pub run_turns-requires-sync-P : goal.run_turns-requires-sync-P
run_turns-requires-sync-P g c κs within = search (sendable, plan_sync)
