use denote.Param.Send.{sendable}
use Rattle.frame_stage.proofs.Sent.{helper_send}
use Rattle.frame_stage.proofs.helper.crosses.Goals as goal

pub sent_to_threads-requires-send-T : goal.sent_to_threads-requires-send-T
sent_to_threads-requires-send-T c κs = search (sendable, helper_send)
