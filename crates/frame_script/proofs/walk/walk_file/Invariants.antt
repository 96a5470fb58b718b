use Rattle.std.proofs.Common.{◌≤◌, ◌-◌, length}
use Rattle.frame_parser.specs.Notes.{events_of}
use Rattle.script_text.specs.Lines.{IsOn}
use Rattle.frame_script.specs.Walking.{IsWalking}
use Rattle.frame_script.proofs.walk.walk_file.Given as goal

abbrev pub invariant-loop-walk : goal.invariant-loop-walk
invariant-loop-walk l = record {
  within : l.at ≤ length (events_of l.notes);
  walking : IsWalking l.source (events_of l.notes) l.at l.walk;
  on : IsOn l.source l.lines;
}

abbrev pub decreases-loop-walk : goal.decreases-loop-walk
decreases-loop-walk l = length (events_of l.notes) - l.at
