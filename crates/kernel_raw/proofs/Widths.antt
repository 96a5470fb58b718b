-- Where few nodes are wide, no node stands deep.
use Rattle.std.proofs.Common.{ℕ, zero, suc, ◌≡◌, ◌≤◌, ◌<◌, ◌+◌, ◌-◌, true, List, [], ◌∷◌, length, get_or, drop, refl, ap, ◌∙◌, arith, add-one, drop-cons, leb}
use Rattle.std.proofs.lemmas.Bool.Decides.{nat_tests}
use Rattle.std.specs.Prelude.{◌&&◌}
use Rattle.kernel_raw.specs.declared.raw.RawNode.{RawNode}
use Rattle.kernel_raw.specs.Depths.{one_if, spans, spanning, depth_of}
use Rattle.kernel_raw.specs.Widths.{is_wide, count_wide, are_shallow}
use Rattle.kernel_raw.proofs.RunningDepths.{one_if-le}

pub count_wide-le : (nodes : List RawNode) → count_wide nodes ≤ length nodes
count_wide-le [] = omega arith
count_wide-le (node ∷ more) = omega (arith, count_wide-le more, one_if-le (is_wide node))

-- the wide ones from a place on
pub count_wide-step : (nodes : List RawNode) (i : ℕ) (d : RawNode) → i < length nodes →
    count_wide (drop i nodes) ≡ one_if (is_wide (get_or nodes i d)) + count_wide (drop (i + 1) nodes)
count_wide-step nodes i d h = ap count_wide (drop-cons nodes i d h) ∙ rw (add-one i) refl

-- how many of so many places, from place j on, are place i or near to it
abbrev near : ℕ → ℕ → ℕ → ℕ
near i j zero = 0
near i j (suc n) = one_if (leb j (i + 15) && leb i (j + 15)) + near i (j + 1) n

near-few : (i j n : ℕ) → (near i j n ≤ 31) × (near i j n ≤ i + 16 - j)
near-few i j zero = (omega arith, omega arith)
near-few i j (suc n) =
    let more = near-few i (j + 1) n in
    (grind (arith, nat_tests, more.0, more.1), grind (arith, nat_tests, more.0, more.1))

-- a node contains near ones, unless it is wide
spans-near : (i j : ℕ) (node : RawNode) → one_if (spans i j node) ≤ one_if (is_wide node) + one_if (leb j (i + 15) && leb i (j + 15))
spans-near i j node = grind (arith, nat_tests)

spanning-few : (i j : ℕ) (nodes : List RawNode) → spanning i j nodes ≤ count_wide nodes + near i j (length nodes)
spanning-few i j [] = omega arith
spanning-few i j (node ∷ more) = omega (arith, spanning-few i (j + 1) more, spans-near i j node)

-- No node of shallow ones stands deeper than that.
pub shallow-depth : (nodes : List RawNode) (most : ℕ) → are_shallow nodes most ≡ true → (i : ℕ) → depth_of nodes i ≤ most
shallow-depth nodes most h i =
    let few : count_wide nodes + 31 ≤ most = grind (arith, nat_tests, h) in
    omega (arith, spanning-few i 0 nodes, (near-few i 0 (length nodes)).0, few)
