-- What a frame is at each of its stages may go to another thread.
--
-- The checker shows it of most types by itself (`TheSendSync`). It is shown here of those that have statements of
-- kernels within, which are trees.
use denote.Param.Send.{IsSend, IsSync, recorded_send, recorded_sync, struct_send, struct_sync, sendable}
use denote.Struct.Declared.{shape}
use Rattle.std.proofs.Crossing.{crosses}
use Rattle.job_base.proofs.mem.FlatMem.TheSendSync as mem
use Rattle.frame_ast.specs.contracts.script.Script as script
use Rattle.frame_ast.proofs.name_texts.NameTexts.TheSendSync as names
use Rattle.frame_ast.proofs.script.Statement.TheSendSync as statement
use Rattle.kernel_bytecode.proofs.code.Code.TheSendSync as code
use Rattle.table_in.proofs.columns.Table.TheSendSync as table
use Rattle.frame_core.proofs.Sent.{kernel_send, kernel_sync}
use Rattle.frame_core.proofs.plan.JobPlan.TheSendSync as job
use Rattle.frame_core.proofs.plan.Op.TheSendSync as op
use Rattle.frame_core.proofs.plan.Segment.TheSendSync as segment
use Rattle.plan_state.proofs.state.World.TheSendSync as world
use Rattle.plan_state.specs.contracts.state.Draft as draft
use Rattle.plan_state.specs.contracts.state.Planner as planner
use Rattle.frame_plan.specs.contracts.sections.SectionBook as book
use Rattle.frame_plan.proofs.small_jobs.SmallJobs.TheSendSync as small_jobs
use Rattle.frame_print.proofs.outgoing.Outgoing.TheSendSync as outgoing
use Rattle.frame_core.proofs.report.Report.TheSendSync as report
use Rattle.plan_run.proofs.run_end.RunEnd.TheSendSync as run_end
use Rattle.steal_pool.proofs.place.Place.TheSendSync as place
use Rattle.steal_pool.proofs.standing.Standing.TheSendSync as standing
use Rattle.word_board.proofs.seat.WordSeat.TheSendSync as seat
use Rattle.frame_top.specs.contracts.sections.Progress as progress
use Rattle.frame_stage.proofs.Sent.{hold_field_send}
use Rattle.frame_host.specs.contracts.script.FrameScript as frame_script
use Rattle.frame_host.specs.contracts.frame.Frame as frame
use Rattle.frame_host.specs.contracts.section.FrameSection as section
use Rattle.frame_host.specs.contracts.answer.FrameAnswer as answer
use Rattle.frame_host.proofs.report.FrameReport.TheSendSync as frame_report
use Rattle.frame_host.proofs.text.KeptText.TheSendSync as text

-- SCRIPTS

tree_fields_send : IsSend script.the_field.row
tree_fields_send = struct_send (shape script.the_type) (
  search (sendable, crosses, kernel_send) depth 60 fits 20000,
  (
    search (sendable, crosses, names.the_send) depth 60 fits 20000,
    (
      search (sendable, crosses) depth 60 fits 20000,
      (
        search (sendable, crosses, statement.the_send) depth 60 fits 20000,
        tt,
      ),
    ),
  ),
)

tree_send : IsSend script.the_row
tree_send = recorded_send script.the_field.row _ _ script.the_type.to_one tree_fields_send

tree_fields_sync : IsSync script.the_field.row
tree_fields_sync = struct_sync (shape script.the_type) (
  search (sendable, crosses, kernel_sync) depth 60 fits 20000,
  (
    search (sendable, crosses, names.the_sync) depth 60 fits 20000,
    (
      search (sendable, crosses) depth 60 fits 20000,
      (
        search (sendable, crosses, statement.the_sync) depth 60 fits 20000,
        tt,
      ),
    ),
  ),
)

tree_sync : IsSync script.the_row
tree_sync = recorded_sync script.the_field.row _ _ script.the_type.to_one tree_fields_sync

pub script_fields_send : IsSend frame_script.the_field.row
script_fields_send = struct_send (shape frame_script.the_type) (
  search (sendable, crosses, tree_send, tree_sync) depth 60 fits 20000,
  tt,
)

pub script_send : IsSend frame_script.the_row
script_send = recorded_send frame_script.the_field.row _ _ frame_script.the_type.to_one script_fields_send

-- BOOKS

draft_fields_send : IsSend draft.the_field.row
draft_fields_send = struct_send (shape draft.the_type) (
  search (sendable, crosses, kernel_send) depth 60 fits 20000,
  (
    search (sendable, crosses, code.the_send) depth 60 fits 20000,
    (
      search (sendable, crosses) depth 60 fits 20000,
      (
        search (sendable, crosses, segment.the_send) depth 60 fits 20000,
        (
          search (sendable, crosses, job.the_send) depth 60 fits 20000,
          (
            search (sendable, crosses) depth 60 fits 20000,
            (
              search (sendable, crosses, op.the_send) depth 60 fits 20000,
              (
                search sendable depth 60 fits 20000,
                (
                  search (sendable, crosses) depth 60 fits 20000,
                  (
                    search (sendable, crosses) depth 60 fits 20000,
                    (
                      search (sendable, crosses) depth 60 fits 20000,
                      tt,
                    ),
                  ),
                ),
              ),
            ),
          ),
        ),
      ),
    ),
  ),
)

planner_fields_send : IsSend planner.the_field.row
planner_fields_send = struct_send (shape planner.the_type) (
  world.the_field_send,
  (
    draft_fields_send,
    tt,
  ),
)

book_fields_send : IsSend book.the_field.row
book_fields_send = struct_send (shape book.the_type) (
  planner_fields_send,
  (
    search (sendable, small_jobs.the_send) depth 60 fits 20000,
    (
      search sendable depth 60 fits 20000,
      (
        search (sendable, crosses, names.the_send) depth 60 fits 20000,
        (
          search (sendable, crosses) depth 60 fits 20000,
          tt,
        ),
      ),
    ),
  ),
)

progress_fields_send : IsSend progress.the_field.row
progress_fields_send = struct_send (shape progress.the_type) (
  search sendable depth 60 fits 20000,
  (
    mem.the_send,
    (
      search (sendable, crosses) depth 60 fits 20000,
      (
        report.the_field_send,
        (
          outgoing.the_send,
          (
            search sendable depth 60 fits 20000,
            tt,
          ),
        ),
      ),
    ),
  ),
)

-- FRAMES

pub frame_fields_send : IsSend frame.the_field.row
frame_fields_send = struct_send (shape frame.the_type) (
  search (sendable, crosses, tree_send, tree_sync) depth 60 fits 20000,
  (
    table.the_send,
    (
      book_fields_send,
      (
        progress_fields_send,
        (
          text.the_field_send,
          tt,
        ),
      ),
    ),
  ),
)

pub frame_send : IsSend frame.the_row
frame_send = recorded_send frame.the_field.row _ _ frame.the_type.to_one frame_fields_send

pub section_fields_send : IsSend section.the_field.row
section_fields_send = struct_send (shape section.the_type) (
  frame_fields_send,
  (
    hold_field_send,
    (
      search (sendable, place.the_field_send, seat.the_send) depth 60 fits 20000,
      (
        search (sendable, crosses, place.the_send, seat.the_send) depth 60 fits 20000,
        (
          standing.the_field_send,
          (
            mem.the_send,
            (
              search (sendable, crosses, run_end.the_send) depth 60 fits 20000,
              tt,
            ),
          ),
        ),
      ),
    ),
  ),
)

pub section_send : IsSend section.the_row
section_send = recorded_send section.the_field.row _ _ section.the_type.to_one section_fields_send

pub answer_fields_send : IsSend answer.the_field.row
answer_fields_send = struct_send (shape answer.the_type) (
  search sendable depth 60 fits 20000,
  (
    search (sendable, crosses) depth 60 fits 20000,
    (
      frame_report.the_field_send,
      (
        search (sendable, crosses, tree_send, tree_sync) depth 60 fits 20000,
        (
          table.the_send,
          (
            book_fields_send,
            (
              search (sendable, crosses) depth 60 fits 20000,
              tt,
            ),
          ),
        ),
      ),
    ),
  ),
)

pub answer_send : IsSend answer.the_row
answer_send = recorded_send answer.the_field.row _ _ answer.the_type.to_one answer_fields_send
