use Rattle.grammar_table.specs.StackSymbols.{standing}
use Rattle.frame_parser.specs.Notes.{events_of}
use Rattle.grammar_table.specs.Stack.{weight}
use Rattle.grammar_table.proofs.Steps.{Leads}
use Rattle.frame_parser.proofs.parser.advance.Given as goal

abbrev pub invariant-loop-next : goal.invariant-loop-next
invariant-loop-next l = Leads l.ahead l.place (events_of l.fn.events.items) (standing l.fn.stack.items) (events_of l.events.items) (standing l.stack.items)

abbrev pub decreases-loop-next : goal.decreases-loop-next
decreases-loop-next l = weight (standing l.stack.items)
