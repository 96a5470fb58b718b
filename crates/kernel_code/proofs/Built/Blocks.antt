-- Statements from the nodes that stand behind each other.
use Rattle.std.proofs.Common.{ℕ, ◌≡◌, ◌≤◌, ◌<◌, ◌+◌, IsTrue, List, [], ◌∷◌, ◌++◌, Option, Some, None, slice_get, refl, ap, sym, subst, ◌∙◌, append_assoc, append-nil, arith}
use Rattle.frame_ast.specs.declared.kernel.Stmt.{Stmt}
use Rattle.kernel_raw.specs.declared.raw.RawForm.TheVariants as form
use Rattle.kernel_raw.specs.declared.raw.RawNode.{RawNode}
use Rattle.kernel_raw.specs.declared.raw.RawKernel.{RawKernel}
use Rattle.kernel_raw.specs.Raw.{RawBlock, Nothing, Simple, Nested, Branched, expr_size, parts_size, block_size, statement_node}
use Rattle.kernel_code.specs.Trees.{BlockOf, nothing}
use Rattle.kernel_code.specs.Places.{StandsBlock, NoOperator, IsBlockHere, rest_of, first_size, has_first, IsFirst}

-- the statements up to a node are built, and the rest of the block stands there
pub record IsPartly (raw : RawKernel) (owner : Option ℕ) (from at end : ℕ) (b : RawBlock) (ss : List Stmt) : Type 0 where
  pub rest : RawBlock
  pub here : IsBlockHere raw owner at rest
  pub ends : end ≡ at + block_size rest
  pub before : (others : List Stmt) → BlockOf raw at rest others → BlockOf raw from b (ss ++ others)

pub partly_start : (raw : RawKernel) (owner : Option ℕ) (from end : ℕ) (b : RawBlock) (ss : List Stmt) → ss ≡ [] → IsBlockHere raw owner from b
    → end ≡ from + block_size b →
    IsPartly raw owner from from end b ss
partly_start raw owner from end b ss none here e = record {
  rest = b;
  here = here;
  ends = e;
  before = λ others o. subst (λ xs. BlockOf raw from b (xs ++ others)) (sym none) o;
}

-- nothing is left at the end
nothing-left : (raw : RawKernel) (at : ℕ) (b : RawBlock) → block_size b ≡ 0 → BlockOf raw at b []
nothing-left raw at Nothing h = nothing
nothing-left raw at (Simple f a n parts more) h = absurd (omega arith)
nothing-left raw at (Nested f a n parts inner more) h = absurd (omega arith)
nothing-left raw at (Branched a e first second more) h = absurd (omega arith)

pub partly_end : (raw : RawKernel) (owner : Option ℕ) (from at end : ℕ) (b : RawBlock) (ss : List Stmt) → end ≤ at → IsPartly raw owner from at end b ss
    → BlockOf raw from b ss
partly_end raw owner from at end b ss h p =
    let e = p.ends in
    subst (λ xs. BlockOf raw from b xs) (append-nil ss) (p.before [] (nothing-left raw at p.rest (omega arith)))

pub size-split : (b : RawBlock) → block_size b ≡ first_size b + block_size (rest_of b)
size-split Nothing = refl
size-split (Simple f a n parts more) = omega arith
size-split (Nested f a n parts inner more) = omega arith
size-split (Branched a e first second more) = omega arith

-- the first node of a block tells how many nodes its first statement has
pub first-after : (raw : RawKernel) (owner : Option ℕ) (at : ℕ) (node : RawNode) (b : RawBlock) → IsTrue (has_first b)
    → slice_get raw.nodes.items at ≡ Some node → StandsBlock raw.nodes.items owner at b →
    1 + node.after ≡ first_size b
first-after raw owner at node Nothing h s st = cc
first-after raw owner at node (Simple f a n parts more) h s st =
    let e : node ≡ statement_node f a n owner (parts_size parts) 0 0 = let q = st.0 in cc in
    let after : node.after ≡ parts_size parts + (0 + 0) = ap (λ m. m.after) e in omega arith
first-after raw owner at node (Nested f a n parts inner more) h s st =
    let e : node ≡ statement_node f a n owner (parts_size parts) (block_size inner) 0 = let q = st.0 in cc in
    let after : node.after ≡ parts_size parts + (block_size inner + 0) = ap (λ m. m.after) e in omega arith
first-after raw owner at node (Branched a e first second more) h s st =
    let same : node ≡ statement_node form.IfElse a a owner (expr_size e) (block_size first) (block_size second) = let q = st.0 in cc in
    let after : node.after ≡ expr_size e + (block_size first + block_size second) = ap (λ m. m.after) same in omega arith

block-at : (raw : RawKernel) (owner : Option ℕ) (i j : ℕ) (b : RawBlock) → i ≡ j → StandsBlock raw.nodes.items owner i b → StandsBlock raw.nodes.items owner j b
block-at raw owner i j b e h = subst (λ n. StandsBlock raw.nodes.items owner n b) e h

no-at : (raw : RawKernel) (i j : ℕ) → i ≡ j → NoOperator raw.nodes.items i → NoOperator raw.nodes.items j
no-at raw i j e h = subst (λ n. NoOperator raw.nodes.items n) e h

-- the rest of a block stands behind its first statement
pub rest-here : (raw : RawKernel) (owner : Option ℕ) (at j : ℕ) (b : RawBlock) → at + first_size b ≡ j → IsBlockHere raw owner at b
    → IsBlockHere raw owner j (rest_of b)
rest-here raw owner at j Nothing e here = record { formed = tt; stands = tt; after = no-at raw _ _ (omega arith) here.after }
rest-here raw owner at j (Simple f a n parts more) e here =
    record { formed = here.formed.1; stands = block-at raw owner _ _ more e here.stands.2; after = no-at raw _ _ (omega arith) here.after }
rest-here raw owner at j (Nested f a n parts inner more) e here =
    record { formed = here.formed.2; stands = block-at raw owner _ _ more e here.stands.3; after = no-at raw _ _ (omega arith) here.after }
rest-here raw owner at j (Branched a x first second more) e here =
    record { formed = here.formed.3; stands = block-at raw owner _ _ more e here.stands.4; after = no-at raw _ _ (omega arith) here.after }

pub begun-first : (b : RawBlock) → 0 < block_size b → IsTrue (has_first b)
begun-first Nothing h = absurd (omega arith)
begun-first (Simple f a n parts more) h = refl
begun-first (Nested f a n parts inner more) h = refl
begun-first (Branched a e first second more) h = refl

pub partly_next : (raw : RawKernel) (owner : Option ℕ) (from at end : ℕ) (b : RawBlock) (ss ss' : List Stmt) (node : RawNode) (s : Stmt) → at < end →
    slice_get raw.nodes.items at ≡ Some node → ss' ≡ ss ++ s ∷ [] →
    ((owner' : Option ℕ) (c : RawBlock) → IsTrue (has_first c) → IsBlockHere raw owner' at c → IsFirst raw at c s) →
    IsPartly raw owner from at end b ss → IsPartly raw owner from (at + (1 + node.after)) end b ss'
partly_next raw owner from at end b ss ss' node s lt there pushed first p =
    let e = p.ends in
    let has = begun-first p.rest (omega arith) in
    let size : 1 + node.after ≡ first_size p.rest = first-after raw owner at node p.rest has there p.here.stands in
    let place : at + first_size p.rest ≡ at + (1 + node.after) = omega arith in
    record {
      rest = rest_of p.rest;
      here = rest-here raw owner at _ p.rest place p.here;
      ends = let z = size-split p.rest in omega arith;
      before = λ others o.
          subst (λ xs. BlockOf raw from b xs) (sym (append_assoc ss (s ∷ []) others) ∙ ap (λ xs. xs ++ others) (sym pushed))
          (p.before (s ∷ others) ((first owner p.rest has p.here).before others (subst (λ n. BlockOf raw n (rest_of p.rest) others) (sym place) o)));
    }

-- no node is missing within a block
inside-slice : (nodes : List RawNode) (i : ℕ) → slice_get nodes i ≡ None → (node : RawNode) → slice_get nodes i ≡ Some node → ⊥
inside-slice nodes i none node some = cc

pub first-exists : (raw : RawKernel) (owner : Option ℕ) (at : ℕ) (b : RawBlock) → IsTrue (has_first b) → StandsBlock raw.nodes.items owner at b
    → slice_get raw.nodes.items at ≡ None → ⊥
first-exists raw owner at Nothing h st none = cc
first-exists raw owner at (Simple f a n parts more) h st none = let q = st.0 in cc
first-exists raw owner at (Nested f a n parts inner more) h st none = let q = st.0 in cc
first-exists raw owner at (Branched a e first second more) h st none = let q = st.0 in cc

pub partly_missing : (raw : RawKernel) (owner : Option ℕ) (from at end : ℕ) (b : RawBlock) (ss : List Stmt) → at < end → slice_get raw.nodes.items at ≡ None →
    IsPartly raw owner from at end b ss → BlockOf raw from b ss
partly_missing raw owner from at end b ss lt none p =
    let e = p.ends in absurd (first-exists raw owner at p.rest (begun-first p.rest (omega arith)) p.here.stands none)
