use Rattle.std.proofs.Common.{ℕ, ◌≡◌, ◌<◌, ◌+◌, get_or, drop, length, vec_len}
use Rattle.kernel_raw.specs.Edges.{opened, closed}
use Rattle.kernel_raw.proofs.depths.count_edges.Given as goal

abbrev pub invariant-loop-j : goal.invariant-loop-j
invariant-loop-j l = record {
  opened_len : vec_len l.opened ≡ length l.nodes;
  closed_len : vec_len l.closed ≡ length l.nodes;
  are_opened : (k : ℕ) → k < length l.nodes → get_or l.opened.items k 0 + opened k l.j (drop l.j l.nodes) ≡ get_or l.fn.joined.items k 0 + opened k 0 l.nodes;
  are_closed : (k : ℕ) → k < length l.nodes → get_or l.closed.items k 0 + closed k l.j (drop l.j l.nodes) ≡ closed k 0 l.nodes;
}
