use Rattle.std.proofs.Common.{map}
use Rattle.frame_parser.specs.Notes.{events_of}
use Rattle.known_lines.proofs.StatementLines.{array_is}
use Rattle.known_lines.proofs.Takings.{then_taken}
use Rattle.frame_parser.proofs.lines.take_either_array.Goals as goal

pub take_if_here-requires-clause-line : goal.take_if_here-requires-clause-line
take_if_here-requires-clause-line g c = array_is

pub returns : goal.returns
returns g c =
    then_taken c.take_array.result (map g.T.HasKind.kind_of c.args.tokens.now) c.args.place c.in_ok-taken.taken (events_of c.args.events.now.items)
    (events_of c.take_if_here.new.events.items)
    (events_of c.take_array.new.events.items) c.if-taken-gt0.false c.in_ok-taken.ensures c.take_array.ensures
