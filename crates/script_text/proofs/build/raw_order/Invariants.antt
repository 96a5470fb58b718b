use Rattle.std.proofs.Common.{◌≡◌, false, drop}
use Rattle.frame_parser.specs.Notes.{events_of}
use Rattle.script_text.specs.Reading.{only_scalars, nothing_read, order_from}
use Rattle.script_text.proofs.build.raw_order.Given as goal

abbrev pub invariant-loop-index : goal.invariant-loop-index
invariant-loop-index l = record {
  read : order_from (only_scalars l.scalars) (drop l.index (events_of l.notes)) ≡ order_from nothing_read (events_of l.notes);
  outside : l.scalars.is_listing ≡ false;
}
