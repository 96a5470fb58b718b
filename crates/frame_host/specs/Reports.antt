-- What a frame reports of the state that it came to.
use Rattle.std.specs.Prelude.{◌≡◌, length, slice_get}
use Rattle.std.specs.Option.{option_map}
use Rattle.frame_ast.specs.States.{JobTrap, ScriptState}
use Rattle.frame_host.specs.declared.report.FirstTrap.{FirstTrap}
use Rattle.frame_host.specs.declared.report.FrameReport.{FrameReport}

-- the trap that is named
abbrev pub trap_of : FirstTrap → JobTrap
trap_of first = record { job = first.job.0; index = first.index; trap = first.trap }

-- The refused statements and the traps of a state are counted, and the first of the traps is named, where there is one.
pub record IsFrameReport (s : ScriptState) (report : FrameReport) : Type 0 where
  pub refused : report.refused ≡ s.refused
  pub traps : report.traps ≡ length s.traps
  pub first : option_map trap_of report.first ≡ slice_get s.traps 0
