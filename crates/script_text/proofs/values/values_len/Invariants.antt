use Rattle.std.proofs.Common.{◌≡◌, ◌+◌, drop}
use Rattle.frame_parser.specs.Notes.{events_of}
use Rattle.script_text.specs.Reading.{values_len}
use Rattle.script_text.proofs.values.values_len.Given as goal

abbrev pub invariant-loop-index : goal.invariant-loop-index
invariant-loop-index l = l.index + values_len (drop l.index (events_of l.notes)) ≡ values_len (events_of l.notes)
