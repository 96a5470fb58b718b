use denote.Param.Send.{sendable}
use Rattle.frame_core.proofs.Sent.{plan_sync}
use Rattle.frame_rows.proofs.running.run_lock.Goals as goal

pub run_shown_lock-requires-sync-P : goal.run_shown_lock-requires-sync-P
run_shown_lock-requires-sync-P g c κs within = search (sendable, plan_sync)
