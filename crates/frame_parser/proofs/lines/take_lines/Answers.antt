use Rattle.std.proofs.Common.{◌+◌, map}
use Rattle.frame_parser.specs.Notes.{events_of}
use Rattle.known_lines.proofs.Takings.{more_taken, none_more}
use Rattle.frame_parser.proofs.lines.take_lines.Goals as goal

pub returns-then-taken-eq0 : goal.returns-then-taken-eq0
returns-then-taken-eq0 g c =
    none_more (map g.T.HasKind.kind_of c.args.tokens.now) c.args.from c.loop-place.place c.in_ok-taken.taken (events_of c.args.events.now.items)
    (events_of c.loop-place.events.items)
    (events_of c.take_line.new.events.items) c.if-taken-eq0.true c.loop-place.invariant c.in_ok-taken.ensures

pub loop-place-preserved : goal.loop-place-preserved
loop-place-preserved g c =
    more_taken (map g.T.HasKind.kind_of c.args.tokens.now) c.args.from c.loop-place.place (c.loop-place.place + c.in_ok-taken.taken)
    (events_of c.args.events.now.items) (events_of c.loop-place.events.items)
    (events_of c.take_line.new.events.items) c.loop-place.invariant c.in_ok-taken.ensures
