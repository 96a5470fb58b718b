-- A helper may go to the thread that helps: all that is in a stage may go to other threads, and threads may share it.
--
-- The checker shows it of most types by itself (`TheSendSync`). It is shown here of those that have a plan within,
-- since a plan has statements of kernels, which are trees.
use denote.Param.Send.{IsSend, IsSync, recorded_send, recorded_sync, struct_send, struct_sync, sendable}
use denote.Struct.Declared.{shape}
use Rattle.std.proofs.Crossing.{crosses}
use Rattle.frame_core.proofs.Sent.{plan_fields_send, plan_fields_sync}
use Rattle.frame_plan.specs.contracts.section.Section as section
use Rattle.frame_plan.proofs.section.Test.TheSendSync as test
use Rattle.frame_plan.proofs.small_jobs.SmallJobs.TheSendSync as small_jobs
use Rattle.steal_pool.proofs.crew.Shared.TheSendSync as shared
use Rattle.steal_pool.proofs.place.Place.TheSendSync as place
use Rattle.word_board.proofs.board.WordBoard.TheSendSync as board
use Rattle.word_board.proofs.seat.WordSeat.TheSendSync as seat
use Rattle.frame_stage.specs.contracts.stage.Stage as stage
use Rattle.frame_stage.specs.contracts.hold.Hold as hold
use Rattle.frame_stage.specs.contracts.helper.FrameHelper as helper

-- STAGES

section_fields_send : IsSend section.the_field.row
section_fields_send = struct_send (shape section.the_type) (
  plan_fields_send,
  (
    search sendable depth 60 fits 20000,
    (
      search (sendable, small_jobs.the_send) depth 60 fits 20000,
      (
        search (sendable, crosses, test.the_send) depth 60 fits 20000,
        tt,
      ),
    ),
  ),
)

section_fields_sync : IsSync section.the_field.row
section_fields_sync = struct_sync (shape section.the_type) (
  plan_fields_sync,
  (
    search sendable depth 60 fits 20000,
    (
      search (sendable, small_jobs.the_sync) depth 60 fits 20000,
      (
        search (sendable, crosses, test.the_sync) depth 60 fits 20000,
        tt,
      ),
    ),
  ),
)

pub stage_fields_send : IsSend stage.the_field.row
stage_fields_send = struct_send (shape stage.the_type) (
  section_fields_send,
  (
    board.the_field_send,
    (
      shared.the_field_send,
      tt,
    ),
  ),
)

pub stage_send : IsSend stage.the_row
stage_send = recorded_send stage.the_field.row _ _ stage.the_type.to_one stage_fields_send

pub stage_fields_sync : IsSync stage.the_field.row
stage_fields_sync = struct_sync (shape stage.the_type) (
  section_fields_sync,
  (
    board.the_field_sync,
    (
      shared.the_field_sync,
      tt,
    ),
  ),
)

pub stage_sync : IsSync stage.the_row
stage_sync = recorded_sync stage.the_field.row _ _ stage.the_type.to_one stage_fields_sync

pub hold_field_send : IsSend hold.the_field.row
hold_field_send = search (sendable, crosses, stage_send, stage_sync) depth 60 fits 20000

-- HELPERS

pub helper_fields_send : IsSend helper.the_field.row
helper_fields_send = struct_send (shape helper.the_type) (
  search (sendable, crosses, stage_send, stage_sync) depth 60 fits 20000,
  (
    search (sendable, place.the_field_send, seat.the_send) depth 60 fits 20000,
    (
      search sendable depth 60 fits 20000,
      tt,
    ),
  ),
)

pub helper_send : IsSend helper.the_row
helper_send = recorded_send helper.the_field.row _ _ helper.the_type.to_one helper_fields_send
