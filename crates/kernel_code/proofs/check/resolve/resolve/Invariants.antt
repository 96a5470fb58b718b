use Rattle.std.proofs.Common.{◌≡◌, drop}
use Rattle.kernel_code.specs.StaticFaults.{nodes_fault}
use Rattle.kernel_code.specs.Known.{IsKnown}
use Rattle.kernel_code.proofs.check.resolve.resolve.Given as goal

abbrev pub invariant-loop-number : goal.invariant-loop-number
invariant-loop-number l = record {
  known : IsKnown l.raw l.number l.known.locals.items l.known.blocks.items l.known.of_nodes.items;
  so_far : nodes_fault l.raw 0 l.raw.nodes.items ≡ nodes_fault l.raw l.number (drop l.number l.raw.nodes.items);
}
