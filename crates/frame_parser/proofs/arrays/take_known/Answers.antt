use Rattle.std.proofs.Common.{arith, map}
use Rattle.std.proofs.lemmas.List.{length-map}
use Rattle.known_lines.specs.Lines.{items_on}
use Rattle.known_lines.specs.Arrays.{values_on}
use Rattle.known_lines.proofs.ArrayPhrases.{head_is}
use Rattle.frame_parser.specs.Notes.{events_of}
use Rattle.frame_parser.proofs.PhraseTakings.{phrase_some, phrase_missing, last_phrases}
use Rattle.frame_parser.proofs.arrays.take_known.Goals as goal

pub take_all_values-requires-clause-within : goal.take_all_values-requires-clause-within
take_all_values-requires-clause-within g c =
    let head = phrase_some items_on values_on (map g.T.HasKind.kind_of c.args.tokens.now) c.args.place c.in-Some.open c.in_ok-open.field-0
    (events_of c.args.events.now.items) (events_of c.take_phrase.new.events.items) c.in-Some.is
    (c.in_ok-open.ensures items_on values_on head_is) in
    omega (arith, head.1.within, length-map c.args.tokens.now g.T.HasKind.kind_of)

pub returns-in_default : goal.returns-in_default
returns-in_default g c =
    phrase_missing items_on values_on (map g.T.HasKind.kind_of c.args.tokens.now) c.args.place c.in_ok-open.field-0 (events_of c.args.events.now.items)
    (events_of c.take_phrase.new.events.items) c.in_default.is (c.in_ok-open.ensures items_on values_on head_is)

pub returns : goal.returns
returns g c =
    let kinds = map g.T.HasKind.kind_of c.args.tokens.now in
    let head = phrase_some items_on values_on kinds c.args.place c.in-Some.open c.in_ok-open.field-0 (events_of c.args.events.now.items)
    (events_of c.take_phrase.new.events.items) c.in-Some.is (c.in_ok-open.ensures items_on values_on head_is) in
    last_phrases c.take_all_values.result items_on values_on items_on kinds c.args.place c.in-Some.open (events_of c.args.events.now.items)
    (events_of c.take_phrase.new.events.items) (events_of c.take_all_values.new.events.items) head.1 c.take_all_values.ensures
