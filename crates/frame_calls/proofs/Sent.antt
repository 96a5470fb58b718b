-- What a handle has may go to another thread, whatever it is.
use denote.Param.Send.{IsSend, sendable}
use Rattle.table_in.proofs.columns.Table.TheSendSync as table
use Rattle.frame_stage.proofs.Sent.{helper_fields_send}
use Rattle.frame_host.proofs.Sent.{answer_fields_send, frame_fields_send, script_fields_send, section_fields_send}
use Rattle.frame_calls.specs.contracts.held.Held as held

pub held_send : IsSend held.the_row
held_send = search (
  sendable,
  table.the_send,
  script_fields_send,
  frame_fields_send,
  section_fields_send,
  answer_fields_send,
  helper_fields_send,
) depth 60 fits 20000
