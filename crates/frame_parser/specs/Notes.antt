-- Events in 32 bits.
use Rattle.std.specs.Prelude.{ℕ, ◌/◌, ◌%◌, List, map, slice_get, unwrap_or}
use Rattle.frame_grammar.specs.declared.symbols.Action.{Action}
use Rattle.frame_grammar.specs.declared.symbols.Action.TheVariants as action
use Rattle.frame_grammar.specs.declared.symbols.Event.{Event}
use Rattle.frame_parser.specs.declared.note.Note.{Note}
use Rattle.frame_parser.specs.declared.note.TheConstants.{ACTIONS}

-- the action of a number, which is its place among all actions
unfoldable pub action_of : ℕ → Action
action_of number = unwrap_or (slice_get ACTIONS number) action.StartStatement

-- the event of a note
abbrev pub event_of : Note → Event
event_of note = record { action = action_of (note.word % 128); place = note.word / 128 }

abbrev pub events_of : List Note → List Event
events_of notes = map event_of notes
