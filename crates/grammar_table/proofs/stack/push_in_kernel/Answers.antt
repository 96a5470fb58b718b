use Rattle.std.proofs.Common.{true}
use Rattle.grammar_table.proofs.Stacks.{pushed}
use Rattle.grammar_table.proofs.stack.push_in_kernel.Goals as goal

pub loop-symbol-preserved : goal.loop-symbol-preserved
loop-symbol-preserved c =
    pushed true c.loop-symbol.stack.items c.push_symbol.new.stack.items c.loop-symbol.symbol-iterator.iter.rest.now
    c.next.new.self.iter.rest.now _ c.in-Some.symbol.now c.in-Some.ensures.steps c.in_ok-push_symbol.ensures c.loop-symbol.invariant
