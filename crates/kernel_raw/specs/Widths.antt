-- How many nodes are wide, which says of most kernels that none of their nodes stands too deep.
--
-- A node is under the narrow ones among its neighbours alone, and under wide ones. So where few nodes are wide, no node
-- stands deep, wherever they stand.
use Rattle.std.specs.Prelude.{ℕ, ◌+◌, nat_le, nat_lt, Bool, ◌||◌, List, [], ◌∷◌}
use Rattle.kernel_raw.specs.declared.depths.TheConstants.{NARROW, NEIGHBOURS}
use Rattle.kernel_raw.specs.declared.raw.RawNode.{RawNode}
use Rattle.kernel_raw.specs.Depths.{one_if}

-- whether more nodes than NARROW stand under a node on one side of it
abbrev pub is_wide : RawNode → Bool
is_wide node = nat_lt NARROW node.before || nat_lt NARROW node.after

-- how many of these nodes are wide
abbrev pub count_wide : List RawNode → ℕ
count_wide [] = 0
count_wide (node ∷ more) = one_if (is_wide node) + count_wide more

-- whether so few nodes are wide that none stands deeper than so deep
abbrev pub are_shallow : List RawNode → ℕ → Bool
are_shallow nodes most = nat_le (count_wide nodes + NEIGHBOURS) most
