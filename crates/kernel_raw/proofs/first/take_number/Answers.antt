use Rattle.std.proofs.Common.{◌≡◌, Some, slice_get, sym, ap, ◌∙◌}
use Rattle.frame_grammar.specs.declared.symbols.Action.TheVariants as action
use Rattle.frame_parser.specs.Notes.{events_of}
use Rattle.kernel_raw.specs.RawEvents.{on}
use Rattle.kernel_raw.proofs.Reading.Keeping.{lt-of}
use Rattle.kernel_raw.proofs.Reading.FirstEvents.{takes_number}
use Rattle.kernel_raw.proofs.first.take_number.Goals as goal

pub returns-in-Some-NumberAtom : goal.returns-in-Some-NumberAtom
returns-in-Some-NumberAtom c =
    let next : slice_get (events_of c.args.notes.now) 1 ≡ Some (on action.NumberAtom c.in-Some-NumberAtom.field-0.place) = sym c.event_at.ensures
    ∙ c.in-Some-NumberAtom.is ∙ ap (λ a. Some (on a c.in-Some-NumberAtom.field-0.place)) c.in-Some-NumberAtom.enum_told_along-1-is in
    takes_number _ c.args.at _ _ _ c.requires.first next c.requires.space (lt-of _ _ (sym c.has_room.ensures ∙ c.if-has_room.true))
    (sym c.is_outside.ensures ∙ c.if-not-is_outside.true) c.in_ok-add_leaf.ensures
