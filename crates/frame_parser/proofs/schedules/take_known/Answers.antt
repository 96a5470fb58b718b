use Rattle.std.proofs.Common.{arith, map}
use Rattle.std.proofs.lemmas.List.{length-map}
use Rattle.known_lines.specs.Lines.{items_on}
use Rattle.known_lines.specs.Schedules.{arguments_on, sizes_on}
use Rattle.known_lines.proofs.SchedulePhrases.{head_is, auto_head_is}
use Rattle.known_lines.proofs.Takings.{noted_more, then_phrase}
use Rattle.frame_parser.specs.Notes.{events_of}
use Rattle.frame_parser.proofs.PhraseTakings.{phrase_some, phrase_missing, all_some, all_none, last_phrases}
use Rattle.frame_parser.proofs.schedules.take_known.Goals as goal

pub take_arguments-requires-clause-within : goal.take_arguments-requires-clause-within
take_arguments-requires-clause-within g c =
    let taken = phrase_some items_on arguments_on (map g.T.HasKind.kind_of c.args.tokens.now) c.args.place c.in-Some.open c.in_ok-open.field-0
    (events_of c.args.events.now.items) (events_of c.take_one_of.new.events.items) c.in-Some.is
    (c.in_ok-open.ensures items_on arguments_on head_is auto_head_is) in
    omega (arith, taken.1.within, length-map c.args.tokens.now g.T.HasKind.kind_of)

pub returns-in_default : goal.returns-in_default
returns-in_default g c =
    phrase_missing items_on arguments_on (map g.T.HasKind.kind_of c.args.tokens.now) c.args.place c.in_ok-open.field-0 (events_of c.args.events.now.items)
    (events_of c.take_one_of.new.events.items) c.in_default.is (c.in_ok-open.ensures items_on arguments_on head_is auto_head_is)

pub returns-in_default-2 : goal.returns-in_default-2
returns-in_default-2 g c =
    let kinds = map g.T.HasKind.kind_of c.args.tokens.now in
    let head = phrase_some items_on arguments_on kinds c.args.place c.in-Some.open c.in_ok-open.field-0 (events_of c.args.events.now.items)
    (events_of c.take_one_of.new.events.items) c.in-Some.is (c.in_ok-open.ensures items_on arguments_on head_is auto_head_is) in
    noted_more (events_of c.args.events.now.items) (events_of c.take_one_of.new.events.items) (events_of c.take_arguments.new.events.items) head.1.noted
    (all_none arguments_on sizes_on kinds c.in-Some.open c.in_ok-closed.field-0 (events_of c.take_one_of.new.events.items)
    (events_of c.take_arguments.new.events.items) c.in_default-2.is c.in_ok-closed.ensures)

pub returns : goal.returns
returns g c =
    let kinds = map g.T.HasKind.kind_of c.args.tokens.now in
    let head = phrase_some items_on arguments_on kinds c.args.place c.in-Some.open c.in_ok-open.field-0 (events_of c.args.events.now.items)
    (events_of c.take_one_of.new.events.items) c.in-Some.is (c.in_ok-open.ensures items_on arguments_on head_is auto_head_is) in
    let arguments = all_some arguments_on sizes_on kinds c.in-Some.open c.in-Some-2.closed c.in_ok-closed.field-0 (events_of c.take_one_of.new.events.items)
    (events_of c.take_arguments.new.events.items) c.in-Some-2.is c.in_ok-closed.ensures in
    let all = then_phrase items_on arguments_on sizes_on kinds c.args.place c.in-Some.open c.in-Some-2.closed (events_of c.args.events.now.items)
    (events_of c.take_one_of.new.events.items) (events_of c.take_arguments.new.events.items) head.1 arguments in
    last_phrases c.take_rest.result items_on sizes_on items_on kinds c.args.place c.in-Some-2.closed (events_of c.args.events.now.items)
    (events_of c.take_arguments.new.events.items) (events_of c.take_rest.new.events.items) all c.take_rest.ensures
