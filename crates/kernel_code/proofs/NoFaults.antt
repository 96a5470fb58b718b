-- What is so where there is no fault.
use Rattle.std.proofs.Common.{ℕ, ◌≡◌, ◌<◌, Bool, true, false, cond, leb, length, Option, Some, None, refl, arith}
use Rattle.std.specs.Prelude.{◌==◌, ◌||◌, nat_le}
use Rattle.std.proofs.lemmas.Bool.Decides.{nat_tests}
use Rattle.frame_ast.specs.declared.kernel.FaultKind.{FaultKind}
use Rattle.kernel_raw.specs.declared.raw.RawForm.{RawForm}
use Rattle.kernel_raw.specs.declared.raw.RawForm.TheVariants as form
use Rattle.kernel_raw.specs.declared.raw.RawNode.{RawNode}
use Rattle.kernel_raw.specs.declared.raw.RawKernel.{RawKernel}
use Rattle.kernel_raw.specs.declared.fault.StaticFault.{StaticFault}
use Rattle.kernel_code.specs.Known.{IsFaultless}
use Rattle.std.specs.Option.{option_or}
use Rattle.frame_ast.specs.Lists.{some_if}
use Rattle.kernel_code.specs.StaticFaults.{number_of, lowest, fault_at, token_fault, size_fault, name_fault, node_fault}
use Rattle.kernel_code.specs.Scopes.{declares, locals_before}

choice-some : {A : Type 0} (b : Bool) (x y : A) → cond b (Some x) (Some y) ≡ None → ⊥
choice-some true x y h = cc
choice-some false x y h = cc

pub lowest-none : (a b : Option FaultKind) → lowest a b ≡ None → (a ≡ None) × (b ≡ None)
lowest-none None b h = (refl, h)
lowest-none (Some a) None h = cc
lowest-none (Some a) (Some b) h = absurd (choice-some (leb (number_of a) (number_of b)) a b h)

pub some_if-none : (b : Bool) (k : FaultKind) → some_if b k ≡ None → b ≡ false
some_if-none true k h = cc
some_if-none false k h = refl

pub fault_at-none : (at : ℕ) (k : Option FaultKind) → fault_at at k ≡ None → k ≡ None
fault_at-none at None h = refl
fault_at-none at (Some k) h = cc

pub option_or-none : (a b : Option StaticFault) → option_or a b ≡ None → (a ≡ None) × (b ≡ None)
option_or-none None b h = (refl, h)
option_or-none (Some a) b h = cc

two-none : (same : Bool) (f : ℕ) (a : Option FaultKind) (s : ℕ) (b : Option FaultKind) →
    cond same (fault_at f (lowest a b)) (option_or (fault_at f a) (fault_at s b)) ≡ None → (a ≡ None) × (b ≡ None)
two-none true f a s b h = lowest-none a b (fault_at-none f (lowest a b) h)
two-none false f a s b h =
    let both = option_or-none (fault_at f a) (fault_at s b) h in (fault_at-none f a both.0, fault_at-none s b both.1)

pub node_fault-none : (raw : RawKernel) (i : ℕ) (node : RawNode) → node_fault raw i node ≡ None → IsFaultless raw i node
node_fault-none raw i node h =
    let both = two-none (node.at == node.name) node.at (lowest (token_fault raw i node.at node.form) (size_fault raw i)) node.name
    (name_fault raw i node.name node.form) h in
    let own = lowest-none (token_fault raw i node.at node.form) (size_fault raw i) both.0 in
    record { token = own.0; size = own.1; name = both.1 }

or-none : (a b : Bool) → (a || b) ≡ false → (a ≡ false) × (b ≡ false)
or-none true b h = cc
or-none false b h = (refl, h)

below : (n m : ℕ) → nat_le n m ≡ false → m < n
below n m h = grind (arith, nat_tests)

pub few-locals : (raw : RawKernel) (i name : ℕ) (f : RawForm) → name_fault raw i name f ≡ None → declares f ≡ true
    → length (locals_before raw.nodes.items i) < 64
few-locals raw i name form.Var h d = below 64 _ (some_if-none _ _ (lowest-none _ _ (lowest-none _ _ h).1).0)
few-locals raw i name form.For h d = below 64 _ (some_if-none _ _ (lowest-none _ _ (lowest-none _ _ h).1).0)
few-locals raw i name f h d = cc
