-- A tree of expressions and statements has a node that as many of its nodes span as it has levels.
use Rattle.std.proofs.Common.{ℕ, ◌≡◌, ◌≤◌, ◌<◌, ◌+◌, ◌-◌, ◌⊎◌, inl, inr, max, leb, List, [], ◌∷◌, ◌++◌, Option, Some, length, refl, ap, subst, ◌∙◌, append_assoc, arith}
use Rattle.std.specs.Prelude.{◌&&◌}
use Rattle.std.proofs.lemmas.List.{length-append}
use Rattle.std.proofs.lemmas.Bool.{cases_lt}
use Rattle.std.proofs.lemmas.Bool.Decides.{nat_tests}
use Rattle.kernel_raw.specs.declared.raw.RawForm.TheVariants as form
use Rattle.kernel_raw.specs.declared.raw.RawNode.{RawNode}
use Rattle.kernel_raw.specs.Raw.{RawExpr, Leaf, One, Two, Infix, RawBlock, Nothing, Simple, Nested, Branched, expr_size, parts_size, block_size, expr_node, statement_node, expr_nodes, parts_nodes, block_nodes}
use Rattle.kernel_raw.specs.Depths.{one_if, spans, spanning}
use Rattle.kernel_code.proofs.Built.Kernels.{length-expr, length-parts, length-block}

-- LEVELS

abbrev pub expr_levels : RawExpr → ℕ
expr_levels (Leaf f at name) = 1
expr_levels (One f at name e) = 1 + expr_levels e
expr_levels (Two f at name e g) = 1 + max (expr_levels e) (expr_levels g)
expr_levels (Infix at e g) = 1 + max (expr_levels e) (expr_levels g)

abbrev pub parts_levels : List RawExpr → ℕ
parts_levels [] = 0
parts_levels (e ∷ more) = max (expr_levels e) (parts_levels more)

abbrev pub block_levels : RawBlock → ℕ
block_levels Nothing = 0
block_levels (Simple f at name parts more) = max (1 + parts_levels parts) (block_levels more)
block_levels (Nested f at name parts inner more) = max (1 + max (parts_levels parts) (block_levels inner)) (block_levels more)
block_levels (Branched at e first second more) = max (1 + max (expr_levels e) (max (block_levels first) (block_levels second))) (block_levels more)

-- SPANS

covers : (i first last : ℕ) → first ≤ i → i ≤ last → one_if (leb first i && leb i last) ≡ 1
covers i first last h k = grind (arith, nat_tests)

covered : (i j : ℕ) (node : RawNode) → j - node.before ≤ i → i ≤ j + node.after → one_if (spans i j node) ≡ 1
covered i j node h k = covers i (j - node.before) (j + node.after) h k

spanning-append : (i j k : ℕ) (xs ys : List RawNode) → k ≡ j + length xs → spanning i j (xs ++ ys) ≡ spanning i j xs + spanning i k ys
spanning-append i j k [] ys e = let same : j ≡ k = omega arith in let a : spanning i j ys ≡ spanning i k ys = ap (λ m. spanning i m ys) same in omega arith
spanning-append i j k (x ∷ xs) ys e = let a = spanning-append i (j + 1) k xs ys (omega arith) in omega arith

-- of so many nodes from node n on, which are these, one is spanned by d of them at least
pub record IsDeep (n size d : ℕ) (nodes : List RawNode) : Type 0 where
  pub at : ℕ
  pub from : n ≤ at
  pub within : at < n + size
  pub deep : d ≤ spanning at n nodes

abbrev pub Reaches : (n size d : ℕ) → List RawNode → Type 0
Reaches n size d nodes = (d ≡ 0) ⊎ IsDeep n size d nodes

along : {n m size size' d d' : ℕ} {xs ys : List RawNode} → n ≡ m → size ≡ size' → d ≡ d' → xs ≡ ys → Reaches n size d xs → Reaches m size' d' ys
along {n} {m} {size} {size'} {d} {d'} {xs} {ys} a b c e h =
    subst (λ zs. Reaches m size' d' zs) e (subst (λ z. Reaches m size' z xs) c (subst (λ z. Reaches m z d xs) b (subst (λ z. Reaches z size d xs) a h)))

in_front : (n a b d c : ℕ) (xs ys : List RawNode) → length xs ≡ a → c ≤ d → IsDeep n a d xs → IsDeep n (a + b) c (xs ++ ys)
in_front n a b d c xs ys size le h =
    let s = spanning-append h.at n (n + a) xs ys (omega arith) in
    let deep = h.deep in
    let within = h.within in
    record { at = h.at; from = h.from; within = omega arith; deep = omega arith }

behind : (n a b d c : ℕ) (xs ys : List RawNode) → length xs ≡ a → c ≤ d → IsDeep (n + a) b d ys → IsDeep n (a + b) c (xs ++ ys)
behind n a b d c xs ys size le h =
    let s = spanning-append h.at n (n + a) xs ys (omega arith) in
    let deep = h.deep in
    let from = h.from in
    let within = h.within in
    record { at = h.at; from = omega arith; within = omega arith; deep = omega arith }

-- one behind the other
joined : (n a b d e : ℕ) (xs ys : List RawNode) → length xs ≡ a → Reaches n a d xs → Reaches (n + a) b e ys → Reaches n (a + b) (max d e) (xs ++ ys)
joined n a b d e xs ys size (inl p) (inl q) = inl (omega arith)
joined n a b d e xs ys size (inl p) (inr h) = inr (behind n a b e (max d e) xs ys size (omega arith) h)
joined n a b d e xs ys size (inr g) (inl q) = inr (in_front n a b d (max d e) xs ys size (omega arith) g)
joined n a b d e xs ys size (inr g) (inr h) =
    elim (cases_lt d e) [
      | inl lt ↦ inr (behind n a b e (max d e) xs ys size (omega arith) h)
      | inr ge ↦ inr (in_front n a b d (max d e) xs ys size (omega arith) g)
    ]

-- under one node
under : (n a d : ℕ) (node : RawNode) (xs : List RawNode) → node.after ≡ a → Reaches (n + 1) a d xs → IsDeep n (1 + a) (1 + d) (node ∷ xs)
under n a d node xs after (inl none) =
    let c = covered n n node (omega arith) (omega arith) in
    record { at = n; from = omega arith; within = omega arith; deep = omega arith }
under n a d node xs after (inr h) =
    let from = h.from in
    let within = h.within in
    let deep = h.deep in
    let c = covered h.at n node (omega arith) (omega arith) in
    record { at = h.at; from = omega arith; within = omega arith; deep = omega arith }

left : (n a b d c : ℕ) (node : RawNode) (xs ys : List RawNode) → length xs ≡ a → node.before ≡ a → node.after ≡ b → c ≤ 1 + d → IsDeep n a d xs →
    IsDeep n (a + (1 + b)) c (xs ++ node ∷ ys)
left n a b d c node xs ys size before after le h =
    let from = h.from in
    let within = h.within in
    let deep = h.deep in
    let s = spanning-append h.at n (n + a) xs (node ∷ ys) (omega arith) in
    let one = covered h.at (n + a) node (omega arith) (omega arith) in
    record { at = h.at; from = from; within = omega arith; deep = omega arith }

right : (n a b d c : ℕ) (node : RawNode) (xs ys : List RawNode) → length xs ≡ a → node.before ≡ a → node.after ≡ b → c ≤ 1 + d → IsDeep (n + a + 1) b d ys →
    IsDeep n (a + (1 + b)) c (xs ++ node ∷ ys)
right n a b d c node xs ys size before after le h =
    let from = h.from in
    let within = h.within in
    let deep = h.deep in
    let s = spanning-append h.at n (n + a) xs (node ∷ ys) (omega arith) in
    let one = covered h.at (n + a) node (omega arith) (omega arith) in
    record { at = h.at; from = omega arith; within = omega arith; deep = omega arith }

-- on both sides of one
between : (n a b d e : ℕ) (node : RawNode) (xs ys : List RawNode) → length xs ≡ a → node.before ≡ a → node.after ≡ b → IsDeep n a d xs
    → IsDeep (n + a + 1) b e ys →
    IsDeep n (a + (1 + b)) (1 + max d e) (xs ++ node ∷ ys)
between n a b d e node xs ys size before after g h =
    elim (cases_lt d e) [
      | inl lt ↦ right n a b e (1 + max d e) node xs ys size before after (omega arith) h
      | inr ge ↦ left n a b d (1 + max d e) node xs ys size before after (omega arith) g
    ]

-- TREES

expr_deep : (n : ℕ) (e : RawExpr) → IsDeep n (expr_size e) (expr_levels e) (expr_nodes e)
expr_deep n (Leaf f at name) = under n 0 0 (expr_node f at name 0 0) [] refl (inl refl)
expr_deep n (One f at name e) = under n (expr_size e) (expr_levels e) (expr_node f at name 0 (expr_size e)) (expr_nodes e) refl (inr (expr_deep (n + 1) e))
expr_deep n (Two f at name e g) =
    under n (expr_size e + expr_size g) (max (expr_levels e) (expr_levels g)) (expr_node f at name 0 (expr_size e + expr_size g))
    (expr_nodes e ++ expr_nodes g) refl
    (joined (n + 1) (expr_size e) (expr_size g) (expr_levels e) (expr_levels g) (expr_nodes e) (expr_nodes g) (length-expr e) (inr (expr_deep (n + 1) e))
    (inr (expr_deep (n + 1 + expr_size e) g)))
expr_deep n (Infix at e g) =
    between n (expr_size e) (expr_size g) (expr_levels e) (expr_levels g) (expr_node form.Binary at at (expr_size e) (expr_size g)) (expr_nodes e)
    (expr_nodes g) (length-expr e) refl refl
    (expr_deep n e) (expr_deep (n + expr_size e + 1) g)

parts_deep : (n : ℕ) (parts : List RawExpr) → Reaches n (parts_size parts) (parts_levels parts) (parts_nodes parts)
parts_deep n [] = inl refl
parts_deep n (e ∷ more) =
    joined n (expr_size e) (parts_size more) (expr_levels e) (parts_levels more) (expr_nodes e) (parts_nodes more) (length-expr e) (inr (expr_deep n e))
    (parts_deep (n + expr_size e) more)

-- a statement with what is under it, and the rest of its block
statement : (n a b d e : ℕ) (node : RawNode) (xs ys : List RawNode) → length xs ≡ a → node.after ≡ a → Reaches (n + 1) a d xs → Reaches (n + (1 + a)) b e ys →
    Reaches n (1 + a + b) (max (1 + d) e) (node ∷ xs ++ ys)
statement n a b d e node xs ys size after h more = joined n (1 + a) b (1 + d) e (node ∷ xs) ys (omega arith) (inr (under n a d node xs after h)) more

pub block_deep : (owner : Option ℕ) (n : ℕ) (b : RawBlock) → Reaches n (block_size b) (block_levels b) (block_nodes owner n b)
block_deep owner n Nothing = inl refl
block_deep owner n (Simple f at name parts more) =
    let p = parts_size parts in
    along refl (omega arith) refl refl
    (statement n p (block_size more) (parts_levels parts) (block_levels more) (statement_node f at name owner p 0 0) (parts_nodes parts)
    (block_nodes owner (n + (1 + p)) more) (length-parts parts) (omega arith)
    (parts_deep (n + 1) parts) (block_deep owner (n + (1 + p)) more))
block_deep owner n (Nested f at name parts inner more) =
    let p = parts_size parts in
    let i = block_size inner in
    let head = parts_nodes parts in
    let body = block_nodes (Some n) (n + (1 + p)) inner in
    let rest = block_nodes owner (n + (1 + p + i)) more in
    let node = statement_node f at name owner p i 0 in
    let below = joined (n + 1) p i (parts_levels parts) (block_levels inner) head body (length-parts parts) (parts_deep (n + 1) parts)
    (along (omega arith) refl refl refl (block_deep (Some n) (n + (1 + p)) inner)) in
    let size : length (head ++ body) ≡ p + i = omega (arith, length-append head body, length-parts parts, length-block (Some n) (n + (1 + p)) inner) in
    along refl (omega arith) refl (ap (λ xs. node ∷ xs) (append_assoc head body rest))
    (statement n (p + i) (block_size more) (max (parts_levels parts) (block_levels inner)) (block_levels more) node (head ++ body) rest size (omega arith) below
    (along (omega arith) refl refl refl (block_deep owner (n + (1 + p + i)) more)))
block_deep owner n (Branched at e first second more) =
    let p = expr_size e in
    let i = block_size first in
    let j = block_size second in
    let head = expr_nodes e in
    let one = block_nodes (Some n) (n + (1 + p)) first in
    let two = block_nodes (Some n) (n + (1 + p + i)) second in
    let rest = block_nodes owner (n + (1 + p + i + j)) more in
    let node = statement_node form.IfElse at at owner p i j in
    let blocks = joined (n + 1 + p) i j (block_levels first) (block_levels second) one two (length-block (Some n) (n + (1 + p)) first)
    (along (omega arith) refl refl refl (block_deep (Some n) (n + (1 + p)) first))
    (along (omega arith) refl refl refl (block_deep (Some n) (n + (1 + p + i)) second)) in
    let below = joined (n + 1) p (i + j) (expr_levels e) (max (block_levels first) (block_levels second)) head (one ++ two) (length-expr e)
    (inr (expr_deep (n + 1) e)) blocks in
    let size : length (head ++ (one ++ two)) ≡ p + (i + j) =
    omega (
      arith,
      length-append head (one ++ two),
      length-append one two,
      length-expr e,
      length-block (Some n) (n + (1 + p)) first,
      length-block (Some n)
          (n + (1 + p + i)) second,
    ) in
    along refl (omega arith) refl (ap (λ xs. node ∷ xs) (append_assoc head (one ++ two) rest ∙ ap (λ xs. head ++ xs) (append_assoc one two rest)))
    (statement n (p + (i + j)) (block_size more) (max (expr_levels e) (max (block_levels first) (block_levels second))) (block_levels more) node
    (head ++ (one ++ two)) rest size (omega arith) below
    (along (omega arith) refl refl refl (block_deep owner (n + (1 + p + i + j)) more)))
