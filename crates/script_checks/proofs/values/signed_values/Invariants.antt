use Rattle.std.proofs.Common.{drop}
use Rattle.frame_parser.specs.Notes.{events_of}
use Rattle.script_text.specs.Raw.{signed_from, values_of}
use Rattle.script_checks.proofs.ValueLemmas.{Kept}
use Rattle.script_checks.proofs.values.signed_values.Given as goal

abbrev pub invariant-loop-note : goal.invariant-loop-note
invariant-loop-note l = Kept l.source (values_of (events_of l.notes)) (signed_from l.at (drop l.note-index (events_of l.notes))) l.values.items
