-- Events as they are kept: what stands at a place among notes, and what a slice of them is.
use Rattle.std.proofs.Common.{◌≡◌, ℕ, ◌+◌, ◌-◌, ◌<◌, ◌≤◌, List, ◌∷◌, length, take, drop, take_all, length-drop, get_or, sym, ◌∙◌, ap, arith}
use Rattle.std.proofs.lemmas.List.{length-map, take-map, drop-map, drop_more, get_or-map}
use Rattle.frame_grammar.specs.declared.symbols.Event.{Event}
use Rattle.frame_parser.specs.declared.note.Note.{Note}
use Rattle.frame_parser.specs.Notes.{event_of, events_of}

-- A place is among the notes where it is among the events, and the other way round.
pub noted_length : (notes : List Note) → length (events_of notes) ≡ length notes
noted_length notes = length-map notes event_of

pub noted_within : (notes : List Note) (i : ℕ) → i < length notes → i < length (events_of notes)
noted_within notes i within = omega (arith, noted_length notes, within)

pub noted_out : (notes : List Note) (i : ℕ) → length notes ≤ i → length (events_of notes) ≤ i
noted_out notes i out = omega (arith, noted_length notes, out)

-- the event at a place
pub noted_at : (notes : List Note) (i : ℕ) (d : Note) (e : Event) → i < length notes → e ≡ event_of (get_or notes i d) → get_or (events_of notes) i e ≡ e
noted_at notes i d e within is = get_or-map event_of notes i d e within ∙ sym is

-- the event at a place, and those behind it
pub noted_next : (notes : List Note) (i : ℕ) (d : Note) (e : Event) → i < length notes → e ≡ event_of (get_or notes i d)
    → drop i (events_of notes) ≡ e ∷ drop (i + 1) (events_of notes)
noted_next notes i d e within is =
    drop_more (events_of notes) i e (noted_within notes i within)
    ∙ ap (λ x. x ∷ drop (i + 1) (events_of notes)) (noted_at notes i d e within is)

-- a slice between two places
pub noted_between : (notes : List Note) (at n : ℕ) → events_of (take n (drop at notes)) ≡ take n (drop at (events_of notes))
noted_between notes at n = sym (take-map event_of n (drop at notes)) ∙ ap (take n) (sym (drop-map event_of at notes))

-- a slice from a place on
pub noted_from : (notes : List Note) (at : ℕ) → events_of (take (length notes - at) (drop at notes)) ≡ drop at (events_of notes)
noted_from notes at =
    ap events_of (take_all (length notes - at) (drop at notes) (omega (arith, length-drop at notes)))
    ∙ sym (drop-map event_of at notes)
