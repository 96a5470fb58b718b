use Rattle.std.proofs.Common.{◌≡◌, ◌≤◌, ◌+◌, ◌-◌, ◌++◌, length, take}
use Rattle.known_lines.specs.Lines.{events_at}
use Rattle.frame_parser.specs.Notes.{events_of}
use Rattle.frame_parser.proofs.phrases.note_at.Given as goal

abbrev pub invariant-loop-action : goal.invariant-loop-action
invariant-loop-action l = record {
  so_far : events_of l.events.items ≡ events_of l.fn.events.items ++ events_at l.place (take l.action-index l.notes);
  room : l.events.len + (length l.notes - l.action-index) ≤ l.events.cap;
}
