use Rattle.std.proofs.Common.{map, arith}
use Rattle.std.proofs.lemmas.List.{length-map}
use Rattle.known_lines.specs.Arrays.{more_values_on}
use Rattle.known_lines.proofs.ArrayPhrases.{next_plain_is, next_negative_is}
use Rattle.known_lines.proofs.Takings.{then_phrase}
use Rattle.frame_parser.specs.Notes.{events_of}
use Rattle.frame_parser.proofs.PhraseTakings.{phrase_some, phrases_end}
use Rattle.frame_parser.proofs.arrays.take_more.Goals as goal

pub loop-next-preserved : goal.loop-next-preserved
loop-next-preserved g c =
    let kinds = map g.T.HasKind.kind_of c.args.tokens.now in
    let taken = phrase_some more_values_on more_values_on kinds c.loop-next.place c.in-Some.next c.in_ok-next.field-0 (events_of c.loop-next.events.items)
    (events_of c.take_one_of.new.events.items) c.in-Some.is (c.in_ok-next.ensures more_values_on more_values_on next_plain_is next_negative_is) in
    then_phrase more_values_on more_values_on more_values_on kinds c.args.from c.loop-next.place c.in-Some.next
    (events_of c.args.events.now.items) (events_of c.loop-next.events.items) (events_of c.take_one_of.new.events.items) c.loop-next.invariant taken.1

pub loop-next-smaller : goal.loop-next-smaller
loop-next-smaller g c =
    let kinds = map g.T.HasKind.kind_of c.args.tokens.now in
    let taken = phrase_some more_values_on more_values_on kinds c.loop-next.place c.in-Some.next c.in_ok-next.field-0 (events_of c.loop-next.events.items)
    (events_of c.take_one_of.new.events.items) c.in-Some.is (c.in_ok-next.ensures more_values_on more_values_on next_plain_is next_negative_is) in
    omega (arith, taken.0, taken.1.within, length-map c.args.tokens.now g.T.HasKind.kind_of)

pub returns : goal.returns
returns g c =
    phrases_end more_values_on more_values_on (map g.T.HasKind.kind_of c.args.tokens.now) c.args.from c.loop-next.place c.in_ok-next.field-0
    (events_of c.args.events.now.items) (events_of c.loop-next.events.items) (events_of c.take_one_of.new.events.items) c.in_default.is c.loop-next.invariant
    (c.in_ok-next.ensures more_values_on more_values_on next_plain_is next_negative_is)
