use Rattle.std.proofs.Common.{◌-◌, length, map}
use Rattle.frame_parser.specs.Notes.{events_of}
use Rattle.frame_parser.specs.Values.{TakesValues}
use Rattle.frame_parser.proofs.values.take_values.Given as goal

abbrev pub invariant-loop-place : goal.invariant-loop-place
invariant-loop-place g l =
    TakesValues (map g.T.HasKind.kind_of l.tokens) l.fn.from l.place l.fn.first l.value (events_of l.fn.events.items) (events_of l.events.items)

abbrev pub decreases-loop-place : goal.decreases-loop-place
decreases-loop-place g l = length l.tokens - l.place
