use Rattle.frame_parser.specs.declared.values.Value.TheVariants.{Sign, Plain, Negative}
use Rattle.frame_parser.specs.Notes.{events_of}
use Rattle.frame_parser.proofs.ValueTakings.{part_taken, signed, number_next, sign_next, number_after, sign_after}
use Rattle.frame_parser.proofs.values.take_part.Goals as goal

pub returns-in_ok-note-in-Sign-Number-clause-taken : goal.returns-in_ok-note-in-Sign-Number-clause-taken
returns-in_ok-note-in-Sign-Number-clause-taken c =
    part_taken c.args.value _ Negative c.args.ahead _ c.args.place (events_of c.args.events.now.items) _ _ c.in-Sign-Number.is-0 c.in-Sign-Number.is-1
    c.in_ok-note-in-Sign-Number.ensures
    (signed c.args.place (events_of c.args.events.now.items))

pub returns-in_ok-note_both-in-Plain-Number-clause-taken : goal.returns-in_ok-note_both-in-Plain-Number-clause-taken
returns-in_ok-note_both-in-Plain-Number-clause-taken c =
    part_taken c.args.value _ Plain c.args.ahead _ c.args.place (events_of c.args.events.now.items) _ _ c.in-Plain-Number.is-0 c.in-Plain-Number.is-1
    c.in_ok-note_both-in-Plain-Number.ensures
    (number_next c.args.place (events_of c.args.events.now.items))

pub returns-in_ok-note_both-in-Plain-Minus-clause-taken : goal.returns-in_ok-note_both-in-Plain-Minus-clause-taken
returns-in_ok-note_both-in-Plain-Minus-clause-taken c =
    part_taken c.args.value _ Sign c.args.ahead _ c.args.place (events_of c.args.events.now.items) _ _ c.in-Plain-Minus.is-0 c.in-Plain-Minus.is-1
    c.in_ok-note_both-in-Plain-Minus.ensures
    (sign_next c.args.place (events_of c.args.events.now.items))

pub returns-in_ok-note_both-in-Negative-Number-clause-taken : goal.returns-in_ok-note_both-in-Negative-Number-clause-taken
returns-in_ok-note_both-in-Negative-Number-clause-taken c =
    part_taken c.args.value _ Plain c.args.ahead _ c.args.place (events_of c.args.events.now.items) _ _ c.in-Negative-Number.is-0 c.in-Negative-Number.is-1
    c.in_ok-note_both-in-Negative-Number.ensures
    (number_after c.args.place (events_of c.args.events.now.items))

pub returns-in_ok-note_both-in-Negative-Minus-clause-taken : goal.returns-in_ok-note_both-in-Negative-Minus-clause-taken
returns-in_ok-note_both-in-Negative-Minus-clause-taken c =
    part_taken c.args.value _ Sign c.args.ahead _ c.args.place (events_of c.args.events.now.items) _ _ c.in-Negative-Minus.is-0 c.in-Negative-Minus.is-1
    c.in_ok-note_both-in-Negative-Minus.ensures
    (sign_after c.args.place (events_of c.args.events.now.items))
