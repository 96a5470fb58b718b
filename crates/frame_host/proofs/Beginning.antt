-- A frame that is begun.
use Rattle.std.proofs.Common.{◌≡◌, inl, inr, ⊎_elim, refl, sym, subst, ℕ, false, [], None}
use Rattle.frame_ast.specs.declared.script.Script.{Script}
use Rattle.frame_ast.specs.Accepted.{IsAccepted}
use Rattle.frame_ast.specs.Limits.{TooManyJobs, TooManyWords, limit_of}
use Rattle.frame_ast.specs.Orders.{Table, setting}
use Rattle.frame_ast.specs.States.{ScriptState}
use Rattle.merge_laws.specs.Graph.{Cells}
use Rattle.frame_plan.specs.Missing.{missing_from}
use Rattle.frame_plan.specs.Sections.{IsAt}
use Rattle.plan_run.specs.Says.{SaysTo}
use Rattle.plan_state.specs.declared.state.PlanFault.TheVariants.{Jobs, Words, NoMemory}
use Rattle.plan_state.specs.Steps.{state_at}
use Rattle.frame_top.specs.Refusals.{frame_refusal}
use Rattle.frame_top.specs.Running.{IsReportAt}
use Rattle.frame_top.proofs.Framing.{at_missing, column_refuses, limit_refuses, no_refusal, none_missing}
use Rattle.frame_top.proofs.Looping.{InSections, at_first}
use Rattle.frame_host.specs.declared.frame.BeginFault.{BeginFault}
use Rattle.frame_host.specs.declared.frame.BeginFault.TheVariants.{NoColumn, Plan}
use Rattle.frame_host.specs.declared.frame.Frame.{Frame}
use Rattle.frame_host.specs.Frames.{IsBetween, faults_of, table_in, taken_of, tree_in}
use Rattle.frame_host.specs.Scripts.{IsBeginFault, IsRefusedAs}

-- no column is missing and no limit is passed
pub stands : (script : Script) (table : Table) → missing_from table 0 script.statements.items ≡ None
    → limit_of (setting script table) script.statements.items ≡ None → frame_refusal script table false ≡ None
stands script table none within = no_refusal script table false (none_missing table 0 script.statements.items none) refl within

-- what isn't begun is refused for the same reason
pub refused_as : (script : Script) (table : Table) (fault : BeginFault) → IsBeginFault script table fault → IsRefusedAs script table fault
refused_as script table (NoColumn k) missing =
    let m = at_missing table k script.statements.items missing in (m.0, m.1, column_refuses script table false _ m.2)
refused_as script table (Plan Jobs) why =
    ⊎_elim (λ m. absurd cc) (λ l. inr (
      TooManyJobs,
      refl,
      limit_refuses script table false TooManyJobs
          (none_missing table 0 script.statements.items why.0) refl l,
    )) why.1
refused_as script table (Plan Words) why =
    ⊎_elim (λ m. absurd cc) (λ l. inr (
      TooManyWords,
      refl,
      limit_refuses script table false TooManyWords
          (none_missing table 0 script.statements.items why.0) refl l,
    )) why.1
refused_as script table (Plan NoMemory) why = inl refl

-- the loop over sections as it begins
begun : (frame : Frame) → IsAccepted (tree_in frame) → frame.text.bytes.items ≡ [] → frame.progress.failed ≡ false
    → InSections taken_of faults_of (tree_in frame) (table_in frame) 0 frame.book frame.progress frame.text frame.text → IsBetween frame
begun frame accepted none written was = record {
  accepted = accepted;
  sections = 0;
  from = was.from;
  ran = was.ran;
  said = record {
    first = frame.text;
    none = none;
    said = subst (λ b. SaysTo taken_of faults_of frame.text [] false frame.text frame.progress.out b
        (state_at (tree_in frame) (table_in frame) was.from).lines) written was.said;
  };
  written = written;
}

-- a frame of a script of which no section was run
pub begins : (frame : Frame) (script : Script) → tree_in frame ≡ script → IsAccepted script
    → ((carried : Cells) (len : ℕ) → IsAt frame.book script (table_in frame) 0 carried len)
    → frame.progress.held ≡ None → frame.progress.out ≡ [] → frame.progress.failed ≡ false
    → ((s : ScriptState) → s.traps ≡ [] → s.refused ≡ 0 → IsReportAt s frame.progress.report)
    → frame.text.bytes.items ≡ [] → IsBetween frame
begins frame script is accepted at held out failed report none =
    begun frame (subst IsAccepted (sym is) accepted) none failed
    (subst (λ s. InSections taken_of faults_of s (table_in frame) 0 frame.book frame.progress frame.text frame.text) (sym is)
    (at_first taken_of faults_of script (table_in frame) frame.book frame.progress frame.text at held out failed (report _ refl refl)))
