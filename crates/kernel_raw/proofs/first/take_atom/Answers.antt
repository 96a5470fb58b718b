use Rattle.std.proofs.Common.{◌≡◌, Some, slice_get, sym, ap, ◌∙◌}
use Rattle.frame_grammar.specs.declared.symbols.Action.TheVariants as action
use Rattle.frame_parser.specs.Notes.{events_of}
use Rattle.kernel_raw.specs.RawEvents.{on}
use Rattle.kernel_raw.proofs.Reading.Keeping.{lt-of}
use Rattle.kernel_raw.proofs.Reading.FirstEvents.{takes_index}
use Rattle.kernel_raw.proofs.first.take_atom.Goals as goal

pub returns-in-Some-IndexAtom : goal.returns-in-Some-IndexAtom
returns-in-Some-IndexAtom c =
    let next : slice_get (events_of c.args.notes.now) 1 ≡ Some (on action.IndexAtom c.in-Some-IndexAtom.field-0.place) =
    sym c.event_at.ensures ∙ c.in-Some-IndexAtom.is ∙ ap (λ a. Some (on a c.in-Some-IndexAtom.field-0.place))
    c.in-Some-IndexAtom.enum_told_along-in-Some-IndexAtom-1-is in
    takes_index _ c.args.at _ _ _ c.requires.first next c.requires.space (lt-of _ _ (sym c.has_room.ensures ∙ c.if-has_room.true))
    c.in_ok-add_leaf-in-Some-IndexAtom.ensures
