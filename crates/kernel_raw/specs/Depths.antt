-- How deep nodes stand.
--
-- Nodes are numbered from 0, in the order of their tokens. A node is under all nodes between whose first and last node
-- it stands.
use Rattle.std.specs.Prelude.{ℕ, ◌+◌, ◌-◌, nat_le, nat_lt, Bool, ◌&&◌, if◌then◌else◌, List, [], ◌∷◌}
use Rattle.std.specs.List.{list_any}
use Rattle.job_base.specs.declared.limits.TheConstants.{MOST_DEPTH}
use Rattle.kernel_raw.specs.declared.raw.RawNode.{RawNode}

-- whether node j, with so many nodes under it before and behind it, is node i or contains it
abbrev pub spans : ℕ → ℕ → RawNode → Bool
spans i j node = nat_le (j - node.before) i && nat_le i (j + node.after)

abbrev pub one_if : Bool → ℕ
one_if b = if b then 1 else 0

-- how many of these nodes, from node j on, are node i or contain it
abbrev pub spanning : ℕ → ℕ → List RawNode → ℕ
spanning i j [] = 0
spanning i j (node ∷ more) = one_if (spans i j node) + spanning i (j + 1) more

-- the depth of node i: one more than the number of nodes that contain it
abbrev pub depth_of : List RawNode → ℕ → ℕ
depth_of nodes i = spanning i 0 nodes

-- the depths among all nodes of these, from node i on
abbrev pub depths_from : List RawNode → ℕ → List RawNode → List ℕ
depths_from nodes i [] = []
depths_from nodes i (node ∷ more) = depth_of nodes i ∷ depths_from nodes (i + 1) more

-- the depths of nodes
abbrev pub depths_of : List RawNode → List ℕ
depths_of nodes = depths_from nodes 0 nodes

-- the depths as they are kept: none at all where none of them is a fault
abbrev pub kept_depths : List ℕ → List ℕ
kept_depths depths = if list_any (nat_lt MOST_DEPTH) depths then depths else []
