use Rattle.std.proofs.Common.{arith, map, subst}
use Rattle.std.proofs.lemmas.List.{length-map}
use Rattle.known_lines.specs.Lines.{IsPhrase, Noted, TakesPhrase, items_on}
use Rattle.known_lines.specs.Schedules.{names_on, sizes_on}
use Rattle.known_lines.specs.declared.schedules.TheConstants.{NAMES_END, NAMES_END_NOTES}
use Rattle.known_lines.proofs.SchedulePhrases.{end_is, sizes_end_is, after_is, sizes_after_is, names_end_is}
use Rattle.known_lines.proofs.Takings.{then_phrase}
use Rattle.frame_parser.specs.Notes.{events_of}
use Rattle.frame_parser.proofs.PhraseTakings.{phrase_some, phrase_none, phrase_missing, one_known, last_phrase}
use Rattle.frame_parser.proofs.schedules.take_rest.Goals as goal

pub take_names-requires-clause-within : goal.take_names-requires-clause-within
take_names-requires-clause-within g c =
    let taken = phrase_some sizes_on names_on (map g.T.HasKind.kind_of c.args.tokens.now) c.args.place c.in-Some-2.named c.in_ok-named.field-0
    (events_of c.take_one_of.new.events.items) (events_of c.take_one_of-2.new.events.items) c.in-Some-2.is
    (c.in_ok-named.ensures sizes_on names_on after_is sizes_after_is) in
    omega (arith, taken.1.within, length-map c.args.tokens.now g.T.HasKind.kind_of)

pub returns-in-Some : goal.returns-in-Some
returns-in-Some g c =
    let taken = phrase_some sizes_on items_on (map g.T.HasKind.kind_of c.args.tokens.now) c.args.place c.in-Some.next c.in_ok-next.field-0
    (events_of c.args.events.now.items) (events_of c.take_one_of.new.events.items) c.in-Some.is (c.in_ok-next.ensures sizes_on items_on end_is sizes_end_is) in
    taken.1

pub returns-in_default-2 : goal.returns-in_default-2
returns-in_default-2 g c =
    let kinds = map g.T.HasKind.kind_of c.args.tokens.now in
    let same = phrase_none sizes_on items_on kinds c.args.place c.in_ok-next.field-0 (events_of c.args.events.now.items)
    (events_of c.take_one_of.new.events.items) c.in_default.is (c.in_ok-next.ensures sizes_on items_on end_is sizes_end_is) in
    subst (λ es. Noted es (events_of c.take_one_of-2.new.events.items)) same
    (phrase_missing sizes_on names_on kinds c.args.place c.in_ok-named.field-0 (events_of c.take_one_of.new.events.items)
    (events_of c.take_one_of-2.new.events.items) c.in_default-2.is (c.in_ok-named.ensures sizes_on names_on after_is sizes_after_is))

pub returns : goal.returns
returns g c =
    let kinds = map g.T.HasKind.kind_of c.args.tokens.now in
    let same = phrase_none sizes_on items_on kinds c.args.place c.in_ok-next.field-0 (events_of c.args.events.now.items)
    (events_of c.take_one_of.new.events.items) c.in_default.is (c.in_ok-next.ensures sizes_on items_on end_is sizes_end_is) in
    let named = phrase_some sizes_on names_on kinds c.args.place c.in-Some-2.named c.in_ok-named.field-0 (events_of c.take_one_of.new.events.items)
    (events_of c.take_one_of-2.new.events.items) c.in-Some-2.is (c.in_ok-named.ensures sizes_on names_on after_is sizes_after_is) in
    let first = subst (λ es. TakesPhrase sizes_on names_on kinds c.args.place c.in-Some-2.named es (events_of c.take_one_of-2.new.events.items)) same named.1 in
    let all = then_phrase sizes_on names_on names_on kinds c.args.place c.in-Some-2.named c.in_ok-last.last (events_of c.args.events.now.items)
    (events_of c.take_one_of-2.new.events.items) (events_of c.take_names.new.events.items) first c.in_ok-last.ensures in
    last_phrase c.take_phrase.result sizes_on names_on items_on kinds c.args.place c.in_ok-last.last (events_of c.args.events.now.items)
    (events_of c.take_names.new.events.items) (events_of c.take_phrase.new.events.items) all
    (one_known c.take_phrase.result names_on items_on kinds c.in_ok-last.last (events_of c.take_names.new.events.items)
    (events_of c.take_phrase.new.events.items) (λ f t. IsPhrase f t NAMES_END NAMES_END_NOTES) names_end_is c.take_phrase.ensures)
