use Rattle.std.proofs.Common.{◌≡◌, drop}
use Rattle.frame_parser.specs.Notes.{events_of}
use Rattle.script_text.specs.Reading.{reading_of, nothing_read, order_from}
use Rattle.script_text.proofs.build.listed_order.Given as goal

abbrev pub invariant-loop-index : goal.invariant-loop-index
invariant-loop-index l = order_from (reading_of l.reader) (drop l.index (events_of l.notes)) ≡ order_from nothing_read (events_of l.notes)
