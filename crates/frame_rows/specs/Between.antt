-- What the run of a section leaves, and where a script is between two of its sections.
use Rattle.std.specs.Prelude.{◌≡◌, ℕ, ◌<◌, Bool, ℤ, List, length, Option}
use Rattle.job_base.specs.Cells.{cells_of}
use Rattle.frame_ast.specs.declared.script.Script.{Script}
use Rattle.frame_ast.specs.Orders.{Table}
use Rattle.merge_laws.specs.Graph.{Cells}
use Rattle.frame_core.specs.declared.plan.Plan.{Plan}
use Rattle.frame_core.specs.Graphs.{cells_after}
use Rattle.frame_plan.specs.declared.sections.SectionBook.{SectionBook}
use Rattle.frame_plan.specs.Sections.{IsAt, IsOutcome, AreLeft}

-- A memory holds the cells after the run of a plan in script order, and no more.
pub record AreCellsOf (plan : Plan) (left : List ℤ) : Type 0 where
  pub size : length left ≡ plan.words
  pub each : (w : ℕ) → w < plan.words → cells_of left w ≡ cells_after plan w

-- The book is somewhere among the statements, at a test that is answered so, and the cells are those left there.
pub record IsBetween (script : Script) (table : Table) (book : SectionBook) (held : Option Bool) (cells : List ℤ)
    : Type 0 where
  pub from : ℕ
  pub carried : Cells
  pub len : ℕ
  pub at : IsAt book script table from carried len
  pub outcome : IsOutcome script table from held
  pub left : AreLeft cells carried len
