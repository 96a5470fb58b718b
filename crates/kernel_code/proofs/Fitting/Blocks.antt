-- Which streams are open in the blocks of a statement and behind it.
use Rattle.std.proofs.Common.{ℕ, ◌≡◌, ◌≤◌, ◌+◌, true, false, List, ◌∷◌, Option, Some, slice_get, refl, arith}
use Rattle.kernel_raw.specs.declared.raw.RawForm.{RawForm}
use Rattle.kernel_raw.specs.declared.raw.RawNode.{RawNode}
use Rattle.kernel_raw.specs.declared.raw.RawKernel.{RawKernel}
use Rattle.kernel_raw.specs.Raw.{RawExpr, RawBlock, expr_size, parts_size, block_size, statement_node}
use Rattle.kernel_code.specs.Scopes.{is_begin}
use Rattle.kernel_code.specs.Trees.{IsParameter}
use Rattle.kernel_code.specs.Places.{StandsExpr, StandsParts, StandsBlock}
use Rattle.kernel_code.proofs.Fitting.Names.{parameter-is}
use Rattle.kernel_code.proofs.Fitting.Streams.{AreOpen, open-within, open-behind, open-other, open-begun, open-expr, open-parts, open-block}

-- behind the node of a statement and its expressions, for the nodes that its block doesn't have
head-behind : (raw : RawKernel) (i s e : ℕ) (node : RawNode) (parts : List RawExpr) (opened : List ℕ) → slice_get raw.nodes.items i ≡ Some node
    → StandsParts raw.nodes.items (i + 1) parts →
    i + 1 + node.heads + node.inside ≤ s → i + (1 + parts_size parts) ≤ s → AreOpen raw i i e opened → AreOpen raw (i + (1 + parts_size parts)) s e opened
head-behind raw i s e node parts opened at st h k o =
    let a = open-behind raw i s e node opened at h (open-within raw i i i s e e opened refl (omega arith) (omega arith) o) in
    let b = open-parts raw (i + 1) s e parts opened st (omega arith) a in
    open-within raw _ _ s s e e opened (omega arith) (omega arith) (omega arith) b

-- in the block of a statement that is no `begin`
head-inside : (raw : RawKernel) (i e : ℕ) (node : RawNode) (parts : List RawExpr) (opened : List ℕ) → slice_get raw.nodes.items i ≡ Some node
    → StandsParts raw.nodes.items (i + 1) parts →
    is_begin node.form ≡ false → AreOpen raw i i e opened → AreOpen raw (i + (1 + parts_size parts)) (i + (1 + parts_size parts)) e opened
head-inside raw i e node parts opened at st h o =
    let s = i + (1 + parts_size parts) in
    let a = open-other raw i s e node opened at h (open-within raw i i i s e e opened refl (omega arith) (omega arith) o) in
    let b = open-parts raw (i + 1) s e parts opened st (omega arith) a in
    open-within raw _ _ s s e e opened (omega arith) (omega arith) (omega arith) b

module _ (raw : RawKernel) (i : ℕ) {owner : Option ℕ} {f : RawForm} {at name : ℕ} (parts : List RawExpr) (e : ℕ) (opened : List ℕ) where
  -- behind a statement without a block
  pub simple-behind : slice_get raw.nodes.items i ≡ Some (statement_node f at name owner (parts_size parts) 0 0) → StandsParts raw.nodes.items (i + 1) parts →
      AreOpen raw i i e opened → AreOpen raw (i + (1 + parts_size parts)) (i + (1 + parts_size parts)) e opened
  simple-behind s st o = head-behind raw i _ e _ parts opened s st (omega arith) (omega arith) o

  module _ (inner : RawBlock) (s : slice_get raw.nodes.items i ≡ Some (statement_node f at name owner (parts_size parts) (block_size inner) 0))
      (st : StandsParts raw.nodes.items (i + 1) parts) where
    -- behind a statement with a block
    pub nested-behind : StandsBlock raw.nodes.items (Some i) (i + (1 + parts_size parts)) inner → AreOpen raw i i e opened →
        AreOpen raw (i + (1 + parts_size parts + block_size inner)) (i + (1 + parts_size parts + block_size inner)) e opened
    nested-behind w o =
        let j = i + (1 + parts_size parts + block_size inner) in
        let a = head-behind raw i j e _ parts opened s st (omega arith) (omega arith) o in
        let b = open-block raw (Some i) (i + (1 + parts_size parts)) j e inner opened w (omega arith) a in
        open-within raw _ _ j j e e opened (omega arith) (omega arith) (omega arith) b

    -- in the block of a `begin`, whose stream is open there
    pub begun-inside : (x : ℕ) → is_begin f ≡ true → IsParameter raw i name x → i + (1 + parts_size parts + block_size inner) ≤ e → AreOpen raw i i e opened →
        AreOpen raw (i + (1 + parts_size parts)) (i + (1 + parts_size parts)) (i + (1 + parts_size parts) + block_size inner) (x ∷ opened)
    begun-inside x is p h o =
        let j = i + (1 + parts_size parts) in
        let end = i + (1 + parts_size parts) + block_size inner in
        let a = open-begun raw i j end _ x opened s is (parameter-is raw i name x p) (omega arith) (omega arith)
        (open-within raw i i i j e end opened refl (omega arith) (omega arith) o) in
        let b = open-parts raw (i + 1) j end parts (x ∷ opened) st (omega arith) a in
        open-within raw _ _ j j end end (x ∷ opened) (omega arith) (omega arith) (omega arith) b

    -- in the block of a statement that is no `begin`
    pub nested-inside : is_begin f ≡ false → AreOpen raw i i e opened → AreOpen raw (i + (1 + parts_size parts)) (i + (1 + parts_size parts)) e opened
    nested-inside h o = head-inside raw i e _ parts opened s st h o

-- in the first block of two
pub first-inside : (raw : RawKernel) (i e : ℕ) (node : RawNode) (x : RawExpr) (opened : List ℕ) → slice_get raw.nodes.items i ≡ Some node
    → is_begin node.form ≡ false →
    StandsExpr raw.nodes.items (i + 1) x → AreOpen raw i i e opened →
    AreOpen raw (i + (1 + expr_size x)) (i + (1 + expr_size x)) e opened
first-inside raw i e node x opened at h st o =
    let s = i + (1 + expr_size x) in
    let a = open-other raw i s e node opened at h (open-within raw i i i s e e opened refl (omega arith) (omega arith) o) in
    let b = open-expr raw (i + 1) s e x opened st (omega arith) a in
    open-within raw _ _ s s e e opened (omega arith) (omega arith) (omega arith) b

-- behind a block
pub block-behind : (raw : RawKernel) (owner : Option ℕ) (i j e : ℕ) (b : RawBlock) (opened : List ℕ) → i + block_size b ≡ j
    → StandsBlock raw.nodes.items owner i b →
    AreOpen raw i i e opened → AreOpen raw j j e opened
block-behind raw owner i j e b opened h st o =
    open-within raw _ _ j j e e opened h (omega arith) (omega arith)
    (open-block raw owner i j e b opened st (omega arith) (open-within raw i i i j e e opened refl (omega arith) (omega arith) o))
