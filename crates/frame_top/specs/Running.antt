-- How far a frame has been run, section by section.
use Rattle.std.specs.Prelude.{◌≡◌, ℕ, suc, ◌*◌, ◌≤◌, ◌^◌, Bool, true, false, List, [], ◌++◌, length, take, count_by, Option}
use Rattle.job_base.specs.declared.limits.TheConstants.{MOST_INDEXES}
use Rattle.frame_ast.specs.declared.script.Script.{Script}
use Rattle.frame_ast.specs.Accepted.{is_when}
use Rattle.frame_ast.specs.Orders.{Table}
use Rattle.frame_ast.specs.States.{ScriptState}
use Rattle.merge_laws.specs.Graph.{Cells}
use Rattle.frame_core.specs.declared.report.Report.{Report}
use Rattle.frame_core.specs.Reports.{IsReportOf}
use Rattle.plan_run.specs.Says.{SaysTo}
use Rattle.frame_plan.specs.declared.section.Section.{Section}
use Rattle.frame_plan.specs.declared.sections.SectionBook.{SectionBook}
use Rattle.frame_plan.specs.Sections.{IsAt, IsNext, IsOutcome, AreLeft, place_of}
use Rattle.plan_state.specs.Steps.{state_at}
use Rattle.frame_top.specs.declared.sections.Progress.{Progress}
use Rattle.frame_top.specs.declared.status.TheConstants.{UNWRITTEN}

-- The report of a frame that has come to this state: its traps and its refused statements are those of the state.
pub record IsReportAt (s : ScriptState) (report : Report) : Type 0 where
  pub traps : IsReportOf s.traps report
  pub refused : report.refused ≡ s.refused

-- so many sections can't report more than that
pub record IsFew (sections : ℕ) (report : Report) : Type 0 where
  pub traps : report.traps ≤ sections * (MOST_INDEXES * 2 ^ 32)
  pub refused : report.refused ≤ sections * 2 ^ 32

-- how many `when` are among the first statements
abbrev pub tests_before : Script → ℕ → ℕ
tests_before script n = count_by (λ x. is_when x.act) (take n script.statements.items)

-- So many sections were run, up to a place among the statements. The next one can be made of the book, of what its test
-- was found to say, and of the cells.
pub record HasRun (script : Script) (table : Table) (sections from : ℕ) (book : SectionBook)
    (p : Progress) : Type 0 where
  pub carried : Cells
  pub len : ℕ
  pub at : IsAt book script table from carried len
  pub outcome : IsOutcome script table from p.held
  pub left : AreLeft p.cells carried len
  pub report : IsReportAt (state_at script table from) p.report
  pub few : IsFew sections p.report
  -- each section ended at another `when`
  pub tests : sections ≤ tests_before script (suc from)
  pub begins : sections ≡ 0 → from ≡ 0

-- A section was made after so many others, which came to this place and had this report.
pub record IsMade (script : Script) (table : Table) (sections from : ℕ) (book : SectionBook) (section : Section)
    (so_far : Report) : Type 0 where
  pub next : IsNext book script table from section
  pub report : IsReportAt (state_at script table from) so_far
  pub few : IsFew sections so_far
  pub tests : sections ≤ tests_before script (suc from)

-- One section more was run, up to another place: its lines, the report so far, and whether there is a next section.
pub record GoesOn (script : Script) (table : Table) (sections from : ℕ) (lines : List ℕ) (book : SectionBook)
    (q : Progress) (more : Bool) : Type 0 where
  pub to : ℕ
  -- the book is there
  pub place : place_of book ≡ to
  pub lines_are : (state_at script table to).lines ≡ (state_at script table from).lines ++ lines
  pub report : IsReportAt (state_at script table to) q.report
  -- there is a next section, or this was the last one
  pub next : more ≡ true → HasRun script table (suc sections) to book q
  pub last : more ≡ false → to ≡ length script.statements.items

-- the same, and its lines are said
pub record RunsOn {S : Type 0} (taken : S → Option (List ℕ)) (faults : S → ℕ) (script : Script) (table : Table)
    (sections from : ℕ) (old : S) (p : Progress) (new : S) (book : SectionBook) (q : Progress) (more : Bool)
    : Type 0 where
  pub lines : List ℕ
  pub goes : GoesOn script table sections from lines book q more
  pub said : SaysTo taken faults old p.out p.failed new q.out q.failed lines

-- A text was said after the lines so far, and none of them waits any more. The status is this one, unless a write
-- failed.
pub record Closes {S : Type 0} (taken : S → Option (List ℕ)) (faults : S → ℕ) (old : S) (p : Progress) (new : S)
    (q : Progress) (text : List ℕ) (status result : ℕ) : Type 0 where
  pub said : SaysTo taken faults old p.out p.failed new q.out q.failed text
  pub none : q.failed ≡ false → q.out ≡ []
  pub whole : q.failed ≡ false → result ≡ status
  pub unwritten : q.failed ≡ true → result ≡ UNWRITTEN
