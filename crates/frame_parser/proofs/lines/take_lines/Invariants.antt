use Rattle.std.proofs.Common.{◌-◌, length, map}
use Rattle.known_lines.specs.Lines.{TakesLines}
use Rattle.frame_parser.specs.Notes.{events_of}
use Rattle.frame_parser.proofs.lines.take_lines.Given as goal

abbrev pub invariant-loop-place : goal.invariant-loop-place
invariant-loop-place g l = TakesLines (map g.T.HasKind.kind_of l.tokens) l.from l.place (events_of l.fn.events.items) (events_of l.events.items)

abbrev pub decreases-loop-place : goal.decreases-loop-place
decreases-loop-place g l = length l.tokens - l.place
