use Rattle.std.proofs.Common.{◌≡◌, ◌+◌, ◌≤◌, drop, length}
use Rattle.frame_parser.specs.Notes.{events_of}
use Rattle.script_text.specs.Raw.{signed_from, values_of}
use Rattle.script_text.proofs.values.count_values.Given as goal

abbrev pub invariant-loop-note : goal.invariant-loop-note
invariant-loop-note l = record {
  counted : l.count + length (signed_from 0 (drop l.note-index (events_of l.notes))) ≡ length (values_of (events_of l.notes));
  most : l.count ≤ l.note-index;
}
