use denote.Param.Send.{sendable}
use Rattle.frame_host.proofs.Sent.{answer_send, frame_send, script_send, section_send}
use Rattle.frame_host.proofs.crossing.crosses.Goals as goal

pub sent_to_threads-requires-send-T : goal.sent_to_threads-requires-send-T
sent_to_threads-requires-send-T c κs = search (sendable, script_send)

pub sent_to_threads-requires-2-send-T : goal.sent_to_threads-requires-2-send-T
sent_to_threads-requires-2-send-T c κs = search (sendable, frame_send)

pub sent_to_threads-requires-3-send-T : goal.sent_to_threads-requires-3-send-T
sent_to_threads-requires-3-send-T c κs = search (sendable, section_send)

pub sent_to_threads-requires-4-send-T : goal.sent_to_threads-requires-4-send-T
sent_to_threads-requires-4-send-T c κs = search (sendable, answer_send)
