use Rattle.std.proofs.Common.{map}
use Rattle.frame_parser.specs.Notes.{events_of}
use Rattle.known_lines.proofs.Takings.{then_taken}
use Rattle.frame_parser.proofs.lines.take_either.Goals as goal

pub returns : goal.returns
returns g c =
    then_taken c.take_if_here-2.result (map g.T.HasKind.kind_of c.args.tokens.now) c.args.place c.in_ok-taken.taken (events_of c.args.events.now.items)
    (events_of c.take_if_here.new.events.items)
    (events_of c.take_if_here-2.new.events.items) c.if-taken-gt0.false c.in_ok-taken.ensures c.take_if_here-2.ensures
