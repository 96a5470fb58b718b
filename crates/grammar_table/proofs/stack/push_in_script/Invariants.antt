use Rattle.std.proofs.Common.{◌≡◌, ◌≤◌, ◌+◌, ◌++◌, length, map, reverse}
use Rattle.grammar_table.specs.StackSymbols.{alone}
use Rattle.grammar_table.proofs.stack.push_in_script.Given as goal

abbrev pub invariant-loop-symbol : goal.invariant-loop-symbol
invariant-loop-symbol l = record {
  so_far : l.stack.items ++ map alone (reverse l.symbol-iterator.iter.rest.now) ≡ l.fn.stack.items ++ map alone (reverse l.fn.symbols);
  room : l.stack.len + length l.symbol-iterator.iter.rest.now ≤ l.stack.cap;
}
