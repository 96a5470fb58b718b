use Rattle.std.proofs.Common.{◌-◌, length, map}
use Rattle.known_lines.specs.Lines.{TakesPhrase}
use Rattle.known_lines.specs.Arrays.{more_values_on}
use Rattle.frame_parser.specs.Notes.{events_of}
use Rattle.frame_parser.proofs.arrays.take_more.Given as goal

abbrev pub invariant-loop-next : goal.invariant-loop-next
invariant-loop-next g l =
    TakesPhrase more_values_on more_values_on (map g.T.HasKind.kind_of l.tokens) l.from l.place (events_of l.fn.events.items) (events_of l.events.items)

abbrev pub decreases-loop-next : goal.decreases-loop-next
decreases-loop-next g l = length l.tokens - l.place
