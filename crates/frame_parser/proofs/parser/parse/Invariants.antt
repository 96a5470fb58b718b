use Rattle.std.proofs.Common.{◌-◌, length, map}
use Rattle.grammar_table.specs.StackSymbols.{standing}
use Rattle.frame_parser.specs.Notes.{events_of}
use Rattle.grammar_table.specs.Stack.{Between}
use Rattle.frame_parser.proofs.parser.parse.Given as goal

abbrev pub invariant-loop-place : goal.invariant-loop-place
invariant-loop-place g l = Between l.fn.start (map g.T.HasKind.kind_of l.tokens) l.place (events_of l.events.items) (standing l.stack.items)

abbrev pub decreases-loop-place : goal.decreases-loop-place
decreases-loop-place g l = length l.tokens - l.place
