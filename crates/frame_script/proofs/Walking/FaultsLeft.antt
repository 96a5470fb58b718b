-- What is left of a file decides on the faults of the whole.
use Rattle.std.proofs.Common.{◌≡◌, ℕ, inl, inr, Bool, List, [], ◌∷◌, length, None, sym, ap, subst}
use Rattle.kernel_raw.specs.declared.fault.StaticFault.{StaticFault}
use Rattle.frame_ast.specs.Lists.{first_some}
use Rattle.script_text.specs.declared.source.Source.{Source}
use Rattle.script_text.specs.Raw.{OrderForm, RawItems, Single, Block}
use Rattle.script_checks.specs.Faults.{Scope, order_faults}
use Rattle.frame_script.specs.Files.{IsFaultless, HasFault, after_order, after_block, in_block, single, block, behind_single, in_inner, behind_block}
use Rattle.frame_script.specs.Walking.{behind, LeftFaultless, LeftFaulty}

-- a fault of what is left of the innermost block comes first
pub fault_here : (s : Source) (fault : StaticFault) (c : Scope) (around : List Bool) (items : RawItems) (rest : List RawItems) → HasFault s fault c items
    → LeftFaulty s fault c around (items ∷ rest)
fault_here s fault c [] items rest h = h
fault_here s fault c (t ∷ ts) items rest h = inl h

-- A STATEMENT

pub single_faultless : (s : Source) (c : Scope) (around : List Bool) (at : ℕ) (order : OrderForm) (more : RawItems) (rest : List RawItems) (end : Scope)
    → first_some (order_faults s c at order) ≡ None →
    LeftFaultless s (after_order s c order) around (more ∷ rest) end → LeftFaultless s c around (Single at order more ∷ rest) end
single_faultless s c [] at order more rest end none h = single none h
single_faultless s c (t ∷ ts) at order more rest end none (last, h, left) = (last, single none h, left)

pub single_faulty : (s : Source) (fault : StaticFault) (c : Scope) (around : List Bool) (at : ℕ) (order : OrderForm) (more : RawItems) (rest : List RawItems)
    → first_some (order_faults s c at order) ≡ None →
    LeftFaulty s fault (after_order s c order) around (more ∷ rest) → LeftFaulty s fault c around (Single at order more ∷ rest)
single_faulty s fault c [] at order more rest none h = behind_single none h
single_faulty s fault c (t ∷ ts) at order more rest none (inl h) = inl (behind_single none h)
single_faulty s fault c (t ∷ ts) at order more rest none (inr (last, h, left)) = inr (last, single none h, left)

-- A BLOCK

-- behind a block that is entered here
entered : (c : Scope) (around : List Bool) (last : Scope) → c.blocks ≡ length around → behind c c.tested around last ≡ after_block c last
entered c around last depth = ap (λ n. record { names = last.names; kernels = c.kernels; blocks = n; tested = c.tested }) (sym depth)

block_more : (s : Source) (c : Scope) (around : List Bool) (at : ℕ) (head : OrderForm) (inner more : RawItems) (rest : List RawItems) (end last : Scope)
    → first_some (order_faults s c at head) ≡ None →
    IsFaultless s (in_block c head) inner last → LeftFaultless s (after_block c last) around (more ∷ rest) end
    → LeftFaultless s c around (Block at head inner more ∷ rest) end
block_more s c [] at head inner more rest end last none h left = block last none h left
block_more s c (t ∷ ts) at head inner more rest end last none h (last', h', left) = (last', block last none h h', left)

pub block_faultless : (s : Source) (c : Scope) (around : List Bool) (at : ℕ) (head : OrderForm) (inner more : RawItems) (rest : List RawItems) (end : Scope)
    → c.blocks ≡ length around → first_some (order_faults s c at head) ≡ None →
    LeftFaultless s (in_block c head) (c.tested ∷ around) (inner ∷ more ∷ rest) end → LeftFaultless s c around (Block at head inner more ∷ rest) end
block_faultless s c around at head inner more rest end depth none (last, h, left) =
    block_more s c around at head inner more rest end last none h (subst (λ x. LeftFaultless s x around (more ∷ rest) end) (entered c around last depth) left)

block_later : (s : Source) (fault : StaticFault) (c : Scope) (around : List Bool) (at : ℕ) (head : OrderForm) (inner more : RawItems) (rest : List RawItems)
    (last : Scope) → first_some (order_faults s c at head) ≡ None →
    IsFaultless s (in_block c head) inner last → LeftFaulty s fault (after_block c last) around (more ∷ rest)
    → LeftFaulty s fault c around (Block at head inner more ∷ rest)
block_later s fault c [] at head inner more rest last none h left = behind_block last none h left
block_later s fault c (t ∷ ts) at head inner more rest last none h (inl h') = inl (behind_block last none h h')
block_later s fault c (t ∷ ts) at head inner more rest last none h (inr (last', h', left)) = inr (last', block last none h h', left)

pub block_faulty : (s : Source) (fault : StaticFault) (c : Scope) (around : List Bool) (at : ℕ) (head : OrderForm) (inner more : RawItems)
    (rest : List RawItems) → c.blocks ≡ length around → first_some (order_faults s c at head) ≡ None →
    LeftFaulty s fault (in_block c head) (c.tested ∷ around) (inner ∷ more ∷ rest) → LeftFaulty s fault c around (Block at head inner more ∷ rest)
block_faulty s fault c around at head inner more rest depth none (inl h) = fault_here s fault c around (Block at head inner more) rest (in_inner none h)
block_faulty s fault c around at head inner more rest depth none (inr (last, h, left)) =
    block_later s fault c around at head inner more rest last none h (subst (λ x. LeftFaulty s fault x around (more ∷ rest)) (entered c around last depth) left)
