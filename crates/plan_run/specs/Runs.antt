-- What a run of a plan writes and reports.
use Rattle.std.specs.Prelude.{◌≡◌, ℕ, List, Option, take, Bool, true, false}
use Rattle.std.specs.Io.KnownBytes.{Appends}
use Rattle.job_base.specs.Faults.{Rose}
use Rattle.frame_core.specs.declared.report.Report.{Report}
use Rattle.frame_core.specs.Reports.{IsReportOf}
use Rattle.frame_core.specs.declared.plan.Plan.{Plan}
use Rattle.frame_core.specs.Output.{plan_refused, plan_traps}
use Rattle.plan_run.specs.declared.run_end.RunEnd.{RunEnd}
use Rattle.plan_run.specs.declared.run_end.RunEnd.TheVariants.{Done, WriteFault}
use Rattle.plan_run.specs.Says.{SaysTo}

-- The report is that of the run in script order: it counts the traps and has the first of them, and it counts the
-- refused statements.
pub record IsReport (plan : Plan) (report : Report) : Type 0 where
  pub traps : IsReportOf (plan_traps plan) report
  pub refused : report.refused ≡ plan_refused plan

-- A run of the plan that has this text. `Done` wrote all of it, and the sink counted no fault. `WriteFault` comes only
-- where the sink's count rose, and then a first part of the text was written. The report is that of the whole run
-- either way.
abbrev pub IsRun : Plan → List ℕ → Option (List ℕ) → Option (List ℕ) → ℕ → ℕ → RunEnd → Type 0
IsRun plan text old new before now (Done report) = Appends old new text × (now ≡ before) × IsReport plan report
IsRun plan text old new before now (WriteFault report) =
    ((n : ℕ) × Appends old new (take n text)) × Rose before now × IsReport plan report

-- the same, of what a sink says that it took and counted
abbrev pub RunsTo : {S : Type 0} → (S → Option (List ℕ)) → (S → ℕ) → Plan → List ℕ → S → S → RunEnd → Type 0
RunsTo taken faults plan text old new end = IsRun plan text (taken old) (taken new) (faults old) (faults new) end

abbrev pub is_fault : RunEnd → Bool
is_fault (Done report) = false
is_fault (WriteFault report) = true

abbrev pub report_of : RunEnd → Report
report_of (Done report) = report
report_of (WriteFault report) = report

-- A run whose lines wait on: what waited before it and what waits after it belong to other runs.
abbrev pub RunsBetween : {S : Type 0} → (S → Option (List ℕ)) → (S → ℕ) → Plan → List ℕ
    → S → List ℕ → S → List ℕ → RunEnd → Type 0
RunsBetween taken faults plan text old waited new waits end =
    SaysTo taken faults old waited false new waits (is_fault end) text × IsReport plan (report_of end)
