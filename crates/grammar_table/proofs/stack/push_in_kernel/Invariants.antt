use Rattle.std.proofs.Common.{◌≡◌, ◌++◌, true, map, reverse}
use Rattle.frame_grammar.specs.Bodies.{written}
use Rattle.grammar_table.specs.StackSymbols.{alone}
use Rattle.grammar_table.proofs.stack.push_in_kernel.Given as goal

abbrev pub invariant-loop-symbol : goal.invariant-loop-symbol
invariant-loop-symbol l =
    l.stack.items ++ map alone (reverse (written true l.symbol-iterator.iter.rest.now)) ≡ l.fn.stack.items ++ map alone (reverse (written true l.fn.symbols))
