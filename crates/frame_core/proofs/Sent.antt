-- A plan may go to other threads, and threads may share it: each part of it is plain data.
--
-- The checker shows it of most types by itself (`TheSendSync`). It is shown here of those that have statements of
-- kernels within, which are trees.
use denote.Param.Send.{IsSend, IsSync, recorded_send, recorded_sync, struct_send, struct_sync, sendable}
use denote.Struct.Declared.{shape}
use Rattle.std.proofs.Crossing.{crosses}
use Rattle.frame_ast.specs.contracts.kernel.Stmt as stmt
use Rattle.frame_ast.specs.contracts.kernel.Body as body
use Rattle.frame_ast.specs.contracts.kernel.Kernel as kernel
use Rattle.frame_ast.proofs.kernel.Param.TheSendSync as param
use Rattle.frame_ast.proofs.name_texts.NameTexts.TheSendSync as names
use Rattle.frame_ast.proofs.kernel.Stmt.TheLaws.TheKnot as knot
use Rattle.frame_ast.proofs.kernel.Expr.TheLaws.TheKnot as knot_expr
use Rattle.kernel_bytecode.proofs.code.Code.TheSendSync as code
use Rattle.frame_core.specs.contracts.plan.Plan as plan
use Rattle.frame_core.proofs.plan.JobPlan.TheSendSync as job
use Rattle.frame_core.proofs.plan.Segment.TheSendSync as segment

-- KERNELS

stmt_send : IsSend stmt.the_row
stmt_send = search (sendable, crosses, knot.send-Stmt, knot_expr.send-Expr) depth 60 fits 20000

stmt_sync : IsSync stmt.the_row
stmt_sync = search (sendable, crosses, knot.sync-Stmt, knot_expr.sync-Expr) depth 60 fits 20000

body_send : IsSend body.the_field.row
body_send = struct_send (shape body.the_type) (search (sendable, crosses, stmt_send) depth 60 fits 20000, tt)

body_sync : IsSync body.the_field.row
body_sync = struct_sync (shape body.the_type) (search (sendable, crosses, stmt_sync) depth 60 fits 20000, tt)

kernel_fields_send : IsSend kernel.the_field.row
kernel_fields_send = struct_send (shape kernel.the_type) (
  search (sendable, crosses) depth 60 fits 20000,
  (
    search sendable depth 60 fits 20000,
    (
      search (sendable, crosses, param.the_send) depth 60 fits 20000,
      (
        search sendable depth 60 fits 20000,
        (
          body_send,
          tt,
        ),
      ),
    ),
  ),
)

pub kernel_send : IsSend kernel.the_row
kernel_send = recorded_send kernel.the_field.row _ _ kernel.the_type.to_one kernel_fields_send

kernel_fields_sync : IsSync kernel.the_field.row
kernel_fields_sync = struct_sync (shape kernel.the_type) (
  search (sendable, crosses) depth 60 fits 20000,
  (
    search sendable depth 60 fits 20000,
    (
      search (sendable, crosses, param.the_sync) depth 60 fits 20000,
      (
        search sendable depth 60 fits 20000,
        (
          body_sync,
          tt,
        ),
      ),
    ),
  ),
)

pub kernel_sync : IsSync kernel.the_row
kernel_sync = recorded_sync kernel.the_field.row _ _ kernel.the_type.to_one kernel_fields_sync

-- PLANS

pub plan_fields_send : IsSend plan.the_field.row
plan_fields_send = struct_send (shape plan.the_type) (
  search (sendable, crosses, kernel_send) depth 60 fits 20000,
  (
    search (sendable, crosses, code.the_send) depth 60 fits 20000,
    (
      search (sendable, crosses, names.the_send) depth 60 fits 20000,
      (
        search (sendable, crosses) depth 60 fits 20000,
        (
          search (sendable, crosses, job.the_send) depth 60 fits 20000,
          (
            search (sendable, crosses, segment.the_send) depth 60 fits 20000,
            (
              search (sendable, crosses) depth 60 fits 20000,
              (
                search sendable depth 60 fits 20000,
                (
                  search sendable depth 60 fits 20000,
                  tt,
                ),
              ),
            ),
          ),
        ),
      ),
    ),
  ),
)

pub plan_fields_sync : IsSync plan.the_field.row
plan_fields_sync = struct_sync (shape plan.the_type) (
  search (sendable, crosses, kernel_sync) depth 60 fits 20000,
  (
    search (sendable, crosses, code.the_sync) depth 60 fits 20000,
    (
      search (sendable, crosses, names.the_sync) depth 60 fits 20000,
      (
        search (sendable, crosses) depth 60 fits 20000,
        (
          search (sendable, crosses, job.the_sync) depth 60 fits 20000,
          (
            search (sendable, crosses, segment.the_sync) depth 60 fits 20000,
            (
              search (sendable, crosses) depth 60 fits 20000,
              (
                search sendable depth 60 fits 20000,
                (
                  search sendable depth 60 fits 20000,
                  tt,
                ),
              ),
            ),
          ),
        ),
      ),
    ),
  ),
)

pub plan_sync : IsSync plan.the_row
plan_sync = recorded_sync plan.the_field.row _ _ plan.the_type.to_one plan_fields_sync
