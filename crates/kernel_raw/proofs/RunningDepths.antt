-- Depths as running sums.
use Rattle.std.proofs.Common.{ℕ, zero, suc, take, sym, Some, slice_get, get_or-take, ◌≡◌, ◌<◌, ◌≤◌, ◌+◌, ◌-◌, ◌^◌, Bool, true, false, eqb, leb, List, [], ◌∷◌, length, get_or, drop, refl, ap, ◌∙◌, arith, add-one, drop-cons}
use Rattle.std.proofs.lemmas.List.{drop_all, get_or_read, length-take, ext_get_or}
use Rattle.std.proofs.lemmas.Bool.Decides.{nat_tests}
use Rattle.std.specs.Prelude.{◌==◌, ◌&&◌}
use Rattle.kernel_raw.specs.declared.raw.RawNode.{RawNode}
use Rattle.kernel_raw.specs.declared.raw.TheConstants.{MOST_KEPT}
use Rattle.kernel_raw.specs.Depths.{one_if, spans, spanning, depth_of, depths_from, depths_of}
use Rattle.kernel_raw.specs.Edges.{opened, closed, AreKeptOf}

pub one_if-le : (b : Bool) → one_if b ≤ 1
one_if-le true = omega arith
one_if-le false = omega arith

pub opened-le : (k j : ℕ) (nodes : List RawNode) → opened k j nodes ≤ length nodes
opened-le k j [] = omega arith
opened-le k j (node ∷ more) = omega (arith, opened-le k (j + 1) more, one_if-le (eqb (j - node.before) k))

pub closed-le : (k j : ℕ) (nodes : List RawNode) → closed k j nodes ≤ length nodes
closed-le k j [] = omega arith
closed-le k j (node ∷ more) = omega (arith, closed-le k (j + 1) more, one_if-le (eqb (j + node.after + 1) k))

pub spanning-le : (i j : ℕ) (nodes : List RawNode) → spanning i j nodes ≤ length nodes
spanning-le i j [] = omega arith
spanning-le i j (node ∷ more) = omega (arith, spanning-le i (j + 1) more, one_if-le (spans i j node))

pub opened-step : (k j : ℕ) (nodes : List RawNode) (d : RawNode) → j < length nodes →
    opened k j (drop j nodes) ≡ one_if (eqb (j - (get_or nodes j d).before) k) + opened k (j + 1) (drop (j + 1) nodes)
opened-step k j nodes d h = ap (opened k j) (drop-cons nodes j d h) ∙ rw (add-one j) refl

pub closed-step : (k j : ℕ) (nodes : List RawNode) (d : RawNode) → j < length nodes →
    closed k j (drop j nodes) ≡ one_if (eqb (j + (get_or nodes j d).after + 1) k) + closed k (j + 1) (drop (j + 1) nodes)
closed-step k j nodes d h = ap (closed k j) (drop-cons nodes j d h) ∙ rw (add-one j) refl

pub opened-end : (k j : ℕ) (nodes : List RawNode) → length nodes ≤ j → opened k j (drop j nodes) ≡ 0
opened-end k j nodes h = ap (opened k j) (drop_all j nodes h)

pub closed-end : (k j : ℕ) (nodes : List RawNode) → length nodes ≤ j → closed k j (drop j nodes) ≡ 0
closed-end k j nodes h = ap (closed k j) (drop_all j nodes h)

-- one node at the next place
span-next : (i first last : ℕ) → first ≤ last →
    one_if (leb first (i + 1) && leb (i + 1) last) + one_if (eqb (last + 1) (i + 1)) ≡ one_if (leb first i && leb i last) + one_if (eqb first (i + 1))
span-next i first last h = grind (arith, nat_tests)

ends-within : (i first last : ℕ) → first ≤ last → one_if (eqb (last + 1) (i + 1)) ≤ one_if (leb first i && leb i last)
ends-within i first last h = grind (arith, nat_tests)

span-first : (first last : ℕ) → first ≤ last → one_if (leb first 0 && leb 0 last) ≡ one_if (eqb first 0)
span-first first last h = grind (arith, nat_tests)

never-before-first : (last : ℕ) → one_if (eqb (last + 1) 0) ≡ 0
never-before-first last = grind (arith, nat_tests)

node-next : (i j : ℕ) (node : RawNode) → one_if (spans (i + 1) j node) + one_if (j + node.after + 1 == i + 1) ≡ one_if (spans i j node) + one_if
    (j - node.before == i + 1)
node-next i j node = span-next i (j - node.before) (j + node.after) (omega arith)

node-within : (i j : ℕ) (node : RawNode) → one_if (j + node.after + 1 == i + 1) ≤ one_if (spans i j node)
node-within i j node = ends-within i (j - node.before) (j + node.after) (omega arith)

node-first : (j : ℕ) (node : RawNode) → one_if (spans 0 j node) ≡ one_if (j - node.before == 0)
node-first j node = span-first (j - node.before) (j + node.after) (omega arith)

node-never : (j : ℕ) (node : RawNode) → one_if (j + node.after + 1 == 0) ≡ 0
node-never j node = never-before-first (j + node.after)

pub spanning-next : (i j : ℕ) (nodes : List RawNode) → spanning (i + 1) j nodes + closed (i + 1) j nodes ≡ spanning i j nodes + opened (i + 1) j nodes
spanning-next i j [] = refl
spanning-next i j (node ∷ more) =
    omega (arith, spanning-next i (j + 1) more, node-next i j node)

pub closed-within : (i j : ℕ) (nodes : List RawNode) → closed (i + 1) j nodes ≤ spanning i j nodes
closed-within i j [] = omega arith
closed-within i j (node ∷ more) =
    omega (arith, closed-within i (j + 1) more, node-within i j node)

pub spanning-first : (j : ℕ) (nodes : List RawNode) → spanning 0 j nodes ≡ opened 0 j nodes
spanning-first j [] = refl
spanning-first j (node ∷ more) = omega (arith, spanning-first (j + 1) more, node-first j node)

pub closed-first : (j : ℕ) (nodes : List RawNode) → closed 0 j nodes ≡ 0
closed-first j [] = refl
closed-first j (node ∷ more) = omega (arith, closed-first (j + 1) more, node-never j node)

-- the depth of the node before node i, and 0 before the first one
abbrev pub prior : List RawNode → ℕ → ℕ
prior nodes zero = 0
prior nodes (suc i) = depth_of nodes i

pub prior-next : (nodes : List RawNode) (i : ℕ) → depth_of nodes i + closed i 0 nodes ≡ prior nodes i + opened i 0 nodes
prior-next nodes zero = omega (arith, spanning-first 0 nodes, closed-first 0 nodes)
prior-next nodes (suc i) = rw (← add-one i) (spanning-next i 0 nodes)

pub closed-prior : (nodes : List RawNode) (i : ℕ) → closed i 0 nodes ≤ prior nodes i
closed-prior nodes zero = omega (arith, closed-first 0 nodes)
closed-prior nodes (suc i) = rw (← add-one i) (closed-within i 0 nodes)

-- no more nodes end before a node than span the one before it
pub close-within : (nodes : List RawNode) (closes : List ℕ) (i count depth close : ℕ) → i < count → length closes ≡ count →
    ((k : ℕ) → k < count → get_or closes k 0 ≡ closed k 0 nodes) → close ≡ get_or closes i close → depth ≡ prior nodes i → close ≤ depth
close-within nodes closes i count depth close h cl cs c p =
    let c' = get_or_read closes i close (omega arith) c 0 in
    let c'' = cs i h in
    let w = closed-prior nodes i in
    omega arith

-- the depth of a node from what was counted there
pub next-depth : (nodes : List RawNode) (closes opens : List ℕ) (i count depth close begin : ℕ) → i < count →
    length closes ≡ count → length opens ≡ count →
    ((k : ℕ) → k < count → get_or closes k 0 ≡ closed k 0 nodes) → ((k : ℕ) → k < count → get_or opens k 0 ≡ opened k 0 nodes) →
    close ≡ get_or closes i close → begin ≡ get_or opens i begin → depth ≡ prior nodes i →
    depth - close + begin ≡ depth_of nodes i
next-depth nodes closes opens i count depth close begin h cl ol cs os c o p =
    let c' = get_or_read closes i close (omega arith) c 0 in
    let o' = get_or_read opens i begin (omega arith) o 0 in
    let c'' = cs i h in
    let o'' = os i h in
    let n = prior-next nodes i in
    let w = closed-prior nodes i in
    omega arith

pub prior-suc : (nodes : List RawNode) (i : ℕ) → depth_of nodes i ≡ prior nodes (i + 1)
prior-suc nodes i = rw (add-one i) refl

-- KEPT NODES

closed-past : (k j : ℕ) (nodes : List RawNode) → k ≤ j → closed k j nodes ≡ 0
closed-past k j [] h = refl
closed-past k j (node ∷ more) h =
    let z : one_if (eqb (j + node.after + 1) k) ≡ 0 = grind (arith, nat_tests) in omega (arith, z, closed-past k (j + 1) more (omega arith))

-- no late node ends before a kept one
closed-take : (k j m : ℕ) (nodes : List RawNode) → k ≤ j + m → closed k j (take m nodes) ≡ closed k j nodes
closed-take k j zero nodes h = sym (closed-past k j nodes (omega arith))
closed-take k j (suc m) [] h = refl
closed-take k j (suc m) (node ∷ more) h = ap (λ n. one_if (eqb (j + node.after + 1) k) + n) (closed-take k (j + 1) m more (omega arith))

pub kept-few : (all nodes : List RawNode) (joined : List ℕ) → AreKeptOf all nodes joined → length nodes ≤ MOST_KEPT
kept-few all nodes joined are = omega (arith, ap length are.first, length-take MOST_KEPT all)

-- where a kept node begins with so many, no more begin than there are nodes
pub begin-few : (all nodes : List RawNode) (joined : List ℕ) → AreKeptOf all nodes joined → (k : ℕ) → k < length nodes
    → get_or joined k 0 + opened k 0 nodes < 2 ^ 32
begin-few all nodes joined are k h = omega (arith, are.begin k (omega (arith, h, kept-few all nodes joined are)), opened-le k 0 all, are.few)

pub closed-kept : (all nodes : List RawNode) (joined : List ℕ) → AreKeptOf all nodes joined → (k : ℕ) → k < length nodes → closed k 0 nodes ≡ closed k 0 all
closed-kept all nodes joined are k h =
    ap (closed k 0) are.first ∙ closed-take k 0 MOST_KEPT all (omega (arith, h, ap length are.first, length-take MOST_KEPT all))

pub length-depths : (all : List RawNode) (i : ℕ) (nodes : List RawNode) → length (depths_from all i nodes) ≡ length nodes
length-depths all i [] = refl
length-depths all i (node ∷ more) = omega (arith, length-depths all (i + 1) more)

depths-get : (all : List RawNode) (j : ℕ) (nodes : List RawNode) (i : ℕ) → i < length nodes → get_or (depths_from all j nodes) i 0 ≡ depth_of all (j + i)
depths-get all j [] i h = absurd (omega arith)
depths-get all j (node ∷ more) zero h = let same : j ≡ j + zero = omega arith in ap (depth_of all) same
depths-get all j (node ∷ more) (suc i) h = let same : j + 1 + i ≡ j + suc i = omega arith in
    depths-get all (j + 1) more i (omega arith) ∙ ap (depth_of all) same

pub depths-at : (all : List RawNode) (j : ℕ) (nodes : List RawNode) (i : ℕ) → i < length nodes
    → slice_get (depths_from all j nodes) i ≡ Some (depth_of all (j + i))
depths-at all j [] i h = absurd (omega arith)
depths-at all j (node ∷ more) zero h = let same : j ≡ j + zero = omega arith in ap (λ k. Some (depth_of all k)) same
depths-at all j (node ∷ more) (suc i) h = let same : j + 1 + i ≡ j + suc i = omega arith in
    depths-at all (j + 1) more i (omega arith) ∙ ap (λ k. Some (depth_of all k)) same

-- the depths of the kept nodes, one after another
pub depths-kept : (all nodes : List RawNode) (joined v : List ℕ) → AreKeptOf all nodes joined → length v ≡ length nodes
    → ((k : ℕ) → k < length nodes → get_or v k 0 ≡ depth_of all k) →
    v ≡ take MOST_KEPT (depths_of all)
depths-kept all nodes joined v are size at =
    let whole = length-depths all 0 all in
    let taken = length-take MOST_KEPT (depths_of all) in
    let kept = length-take MOST_KEPT all in
    let few = ap length are.first in
    ext_get_or 0 v (take MOST_KEPT (depths_of all)) (omega (arith, size, whole, taken, kept, few))
    (λ k lt.
    let short : k < length nodes = omega (arith, lt, size) in
    let same : 0 + k ≡ k = omega arith in
    at k short ∙ sym (ap (depth_of all) same) ∙ sym (depths-get all 0 all k (omega (arith, short, few, kept)))
    ∙ sym (get_or-take MOST_KEPT (depths_of all) k 0 (omega (arith, short, few, kept))))
