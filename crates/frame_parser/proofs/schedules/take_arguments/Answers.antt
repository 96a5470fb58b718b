use Rattle.std.proofs.Common.{arith, map}
use Rattle.std.proofs.lemmas.List.{length-map}
use Rattle.known_lines.specs.Lines.{IsPhrase}
use Rattle.known_lines.specs.Schedules.{arguments_on, more_arguments_on, sizes_on}
use Rattle.known_lines.specs.declared.schedules.TheConstants.{CLOSE, CLOSE_NOTES}
use Rattle.known_lines.proofs.SchedulePhrases.{named_is, numbered_is, close_is}
use Rattle.known_lines.proofs.Takings.{then_phrase}
use Rattle.frame_parser.specs.Notes.{events_of}
use Rattle.frame_parser.proofs.PhraseTakings.{phrase_some, phrase_missing, one_known, last_phrase}
use Rattle.frame_parser.proofs.schedules.take_arguments.Goals as goal

pub take_more-requires-clause-within : goal.take_more-requires-clause-within
take_more-requires-clause-within g c =
    let taken = phrase_some arguments_on more_arguments_on (map g.T.HasKind.kind_of c.args.tokens.now) c.args.place c.in-Some.first c.in_ok-first.field-0
    (events_of c.args.events.now.items) (events_of c.take_one_of.new.events.items) c.in-Some.is
    (c.in_ok-first.ensures arguments_on more_arguments_on named_is numbered_is) in
    omega (arith, taken.1.within, length-map c.args.tokens.now g.T.HasKind.kind_of)

pub returns-in_default : goal.returns-in_default
returns-in_default g c =
    phrase_missing arguments_on more_arguments_on (map g.T.HasKind.kind_of c.args.tokens.now) c.args.place c.in_ok-first.field-0
    (events_of c.args.events.now.items) (events_of c.take_one_of.new.events.items) c.in_default.is
    (c.in_ok-first.ensures arguments_on more_arguments_on named_is numbered_is)

pub returns : goal.returns
returns g c =
    let kinds = map g.T.HasKind.kind_of c.args.tokens.now in
    let first = phrase_some arguments_on more_arguments_on kinds c.args.place c.in-Some.first c.in_ok-first.field-0 (events_of c.args.events.now.items)
    (events_of c.take_one_of.new.events.items) c.in-Some.is (c.in_ok-first.ensures arguments_on more_arguments_on named_is numbered_is) in
    let all = then_phrase arguments_on more_arguments_on more_arguments_on kinds c.args.place c.in-Some.first c.in_ok-last.last
    (events_of c.args.events.now.items) (events_of c.take_one_of.new.events.items) (events_of c.take_more.new.events.items) first.1 c.in_ok-last.ensures in
    last_phrase c.take_phrase.result arguments_on more_arguments_on sizes_on kinds c.args.place c.in_ok-last.last (events_of c.args.events.now.items)
    (events_of c.take_more.new.events.items) (events_of c.take_phrase.new.events.items) all
    (one_known c.take_phrase.result more_arguments_on sizes_on kinds c.in_ok-last.last (events_of c.take_more.new.events.items)
    (events_of c.take_phrase.new.events.items) (λ f t. IsPhrase f t CLOSE CLOSE_NOTES) close_is c.take_phrase.ensures)
