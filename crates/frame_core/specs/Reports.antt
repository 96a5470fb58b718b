-- Which traps a report is of.
use Rattle.std.specs.Prelude.{◌≡◌, List, length, slice_get, IfSome}
use Rattle.frame_ast.specs.States.{JobTrap}
use Rattle.frame_core.specs.declared.report.Report.{Report}

-- the report names a trap
pub record Names (report : Report) (t : JobTrap) : Type 0 where
  pub job : t.job ≡ report.job.0
  pub index : t.index ≡ report.index
  pub trap : t.trap ≡ report.trap

-- It counts them, and names the first of them.
pub record IsReportOf (traps : List JobTrap) (report : Report) : Type 0 where
  pub number : length traps ≡ report.traps
  pub first : IfSome (slice_get traps 0) (Names report)
