use Rattle.std.proofs.Common.{◌≡◌, Some, slice_get, sym, ap, ◌∙◌}
use Rattle.frame_grammar.specs.declared.symbols.Action.TheVariants as action
use Rattle.frame_parser.specs.Notes.{events_of}
use Rattle.kernel_raw.specs.RawEvents.{on}
use Rattle.kernel_raw.proofs.Reading.FirstEvents.{takes_name, takes_named_leaf}
use Rattle.kernel_raw.proofs.first.take_named.Goals as goal

pub returns-in-Some-NameAtom : goal.returns-in-Some-NameAtom
returns-in-Some-NameAtom c =
    let next : slice_get (events_of c.args.notes.now) 2 ≡ Some (on action.NameAtom c.in-Some-NameAtom.field-0.place) =
    sym c.event_at.ensures ∙ c.in-Some-NameAtom.is ∙ ap (λ a. Some (on a c.in-Some-NameAtom.field-0.place)) c.in-Some-NameAtom.enum_told_along-1-is in
    takes_named_leaf _ c.args.at c.args.name _ _ _ c.requires.first c.requires.second next c.requires.space c.requires.room c.in_ok-add_leaf.ensures

pub returns : goal.returns
returns c = takes_name _ c.args.at c.args.name _ _ c.requires.first c.requires.second c.requires.space c.requires.room c.in_ok-begin_named.ensures
