use Rattle.std.proofs.Common.{◌≡◌, ◌∙◌, sym, subst, false, None}
use Rattle.frame_ast.specs.Accepted.{IsAccepted}
use Rattle.frame_ast.specs.declared.script.Script.{Script}
use Rattle.plan_statements.specs.Tables.{columns_of}
use Rattle.frame_top.specs.Refusals.{frame_refusal}
use Rattle.frame_host.specs.declared.frame.BeginFault.TheVariants.{NoColumn, Plan}
use Rattle.frame_host.specs.Scripts.{IsRefusedAs}
use Rattle.frame_host.proofs.Beginning.{begins, refused_as, stands}
use Rattle.frame_host.proofs.frame.Frame.begin.Goals as goal

pub returns-in-Ok-try_clone-clause-sound : goal.returns-in-Ok-try_clone-clause-sound
returns-in-Ok-try_clone-clause-sound c =
    begins _ c.deref-shown.result.now (c.in-Ok-try_clone.ensures ∙ sym c.deref-shown.ensures)
    (subst IsAccepted (sym c.deref-shown.ensures) c.requires.accepted) c.in-Ok.ensures.at c.in-Ok-begin_frame.ensures.held
    c.in-Ok-begin_frame.ensures.waits c.in-Ok-begin_frame.ensures.failed c.in-Ok-begin_frame.ensures.report
    c.new-in-Ok-try_clone.ensures

pub returns-in-Ok-try_clone-clause-stands : goal.returns-in-Ok-try_clone-clause-stands
returns-in-Ok-try_clone-clause-stands c =
    subst (λ (s : Script). frame_refusal s (columns_of c.args.table) false ≡ None) c.deref-shown.ensures
    (stands c.deref-shown.result.now (columns_of c.args.table) (sym c.in_default.ensures) c.in-Ok.ensures.within)

pub returns-in-Some-clause-refused : goal.returns-in-Some-clause-refused
returns-in-Some-clause-refused c =
    subst (λ (s : Script). IsRefusedAs s (columns_of c.args.table) (NoColumn c.in-Some.statement)) c.deref-shown.ensures
    (refused_as c.deref-shown.result.now (columns_of c.args.table) (NoColumn c.in-Some.statement) (sym c.in-Some.ensures))

pub returns-in-Err-clause-refused : goal.returns-in-Err-clause-refused
returns-in-Err-clause-refused c =
    subst (λ (s : Script). IsRefusedAs s (columns_of c.args.table) (Plan c.in-Err.fault)) c.deref-shown.ensures
    (refused_as c.deref-shown.result.now (columns_of c.args.table) (Plan c.in-Err.fault) (sym c.in_default.ensures, c.in-Err.ensures.limit))
