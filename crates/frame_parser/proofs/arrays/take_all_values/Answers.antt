use Rattle.std.proofs.Common.{arith, map}
use Rattle.std.proofs.lemmas.List.{length-map}
use Rattle.known_lines.specs.Lines.{IsPhrase, items_on}
use Rattle.known_lines.specs.Arrays.{values_on, more_values_on}
use Rattle.known_lines.specs.declared.arrays.TheConstants.{END, END_NOTES}
use Rattle.known_lines.proofs.ArrayPhrases.{plain_is, negative_is, end_is}
use Rattle.known_lines.proofs.Takings.{then_phrase}
use Rattle.frame_parser.specs.Notes.{events_of}
use Rattle.frame_parser.proofs.PhraseTakings.{phrase_some, phrase_missing, one_known, last_phrase}
use Rattle.frame_parser.proofs.arrays.take_all_values.Goals as goal

pub take_more-requires-clause-within : goal.take_more-requires-clause-within
take_more-requires-clause-within g c =
    let taken = phrase_some values_on more_values_on (map g.T.HasKind.kind_of c.args.tokens.now) c.args.place c.in-Some.first c.in_ok-first.field-0
    (events_of c.args.events.now.items) (events_of c.take_one_of.new.events.items) c.in-Some.is
    (c.in_ok-first.ensures values_on more_values_on plain_is negative_is) in
    omega (arith, taken.1.within, length-map c.args.tokens.now g.T.HasKind.kind_of)

pub returns-in_default : goal.returns-in_default
returns-in_default g c =
    phrase_missing values_on more_values_on (map g.T.HasKind.kind_of c.args.tokens.now) c.args.place c.in_ok-first.field-0
    (events_of c.args.events.now.items) (events_of c.take_one_of.new.events.items) c.in_default.is
    (c.in_ok-first.ensures values_on more_values_on plain_is negative_is)

pub returns : goal.returns
returns g c =
    let kinds = map g.T.HasKind.kind_of c.args.tokens.now in
    let first = phrase_some values_on more_values_on kinds c.args.place c.in-Some.first c.in_ok-first.field-0 (events_of c.args.events.now.items)
    (events_of c.take_one_of.new.events.items) c.in-Some.is (c.in_ok-first.ensures values_on more_values_on plain_is negative_is) in
    let all = then_phrase values_on more_values_on more_values_on kinds c.args.place c.in-Some.first c.in_ok-last.last
    (events_of c.args.events.now.items) (events_of c.take_one_of.new.events.items) (events_of c.take_more.new.events.items) first.1 c.in_ok-last.ensures in
    last_phrase c.take_phrase.result values_on more_values_on items_on kinds c.args.place c.in_ok-last.last (events_of c.args.events.now.items)
    (events_of c.take_more.new.events.items) (events_of c.take_phrase.new.events.items) all
    (one_known c.take_phrase.result more_values_on items_on kinds c.in_ok-last.last (events_of c.take_more.new.events.items)
    (events_of c.take_phrase.new.events.items) (λ f t. IsPhrase f t END END_NOTES) end_is c.take_phrase.ensures)
