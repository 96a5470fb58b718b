use Rattle.std.proofs.Common.{ℕ, ◌≡◌, ◌<◌, List, get_or, vec_len}
use Rattle.kernel_raw.specs.declared.raw.RawNode.{RawNode}
use Rattle.kernel_raw.specs.Depths.{depth_of}
use Rattle.kernel_raw.specs.Edges.{AreKeptOf}
use Rattle.kernel_raw.proofs.RunningDepths.{prior}
use Rattle.kernel_raw.proofs.depths.depths_of.Given as goal

abbrev pub invariant-loop-i : goal.invariant-loop-i
invariant-loop-i l = record {
  len : vec_len l.depths ≡ l.i;
  depths : (all : List RawNode) → AreKeptOf all l.nodes l.fn.joined.items → (k : ℕ) → k < l.i → get_or l.depths.items k 0 ≡ depth_of all k;
  last : (all : List RawNode) → AreKeptOf all l.nodes l.fn.joined.items → l.depth ≡ prior all l.i;
}
