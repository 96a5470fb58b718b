-- How many nodes begin with a node, and how many end right before it.
use Rattle.std.specs.Prelude.{◌≡◌, ℕ, ◌+◌, ◌-◌, ◌^◌, ◌<◌, ◌==◌, List, [], ◌∷◌, take, length, slice_index}
use Rattle.kernel_raw.specs.declared.raw.TheConstants.{MOST_KEPT}
use Rattle.kernel_raw.specs.declared.raw.RawNode.{RawNode}
use Rattle.kernel_raw.specs.Depths.{one_if}

-- how many of these nodes, from node j on, begin with node k
abbrev pub opened : ℕ → ℕ → List RawNode → ℕ
opened k j [] = 0
opened k j (node ∷ more) = one_if (j - node.before == k) + opened k (j + 1) more

-- how many of these nodes, from node j on, end right before node k
abbrev pub closed : ℕ → ℕ → List RawNode → ℕ
closed k j [] = 0
closed k j (node ∷ more) = one_if (j + node.after + 1 == k) + closed k (j + 1) more

-- These are the first of all nodes, as many as a kernel keeps, and so many of the others begin with each of them.
pub record AreKeptOf (all nodes : List RawNode) (joined : List ℕ) : Type 0 where
  pub first : nodes ≡ take MOST_KEPT all
  pub few : length all < 2 ^ 32
  pub begin : (k : ℕ) → k < MOST_KEPT → slice_index joined k + opened k 0 nodes ≡ opened k 0 all
