-- The plan's copies of the script's kernels, in the code's terms.
--
-- Decided here is which kernels may be copied, and what a draft has after the copy of one was asked for: it had its
-- place already, or has one kernel more. A job with `defer` runs a guarded copy, and all others a plain one.
use Rattle.std.specs.Prelude.{ℕ, ◌≡◌, ◌⊎◌, true, [], ◌∷◌, ◌++◌, length, Some, slice_get, slice_set}
use Rattle.frame_ast.specs.declared.kernel.Kernel.{Kernel}
use Rattle.frame_ast.specs.declared.script.Script.{Script}
use Rattle.frame_ast.specs.Accepted.{guard_fits}
use Rattle.frame_ast.specs.Checked.{IsChecked}
use Rattle.tree_laws.specs.Same.{SameKernel}
use Rattle.job_defer.specs.Guarded.{IsGuarded, GuardsContents, GuardsWords, GuardsFootprint}
use Rattle.kernel_bytecode.specs.declared.code.Code.{Code}
use Rattle.kernel_bytecode.specs.Codes.{IsCodeOf}
use Rattle.plan_state.specs.declared.state.Draft.{Draft}

-- ONE KERNEL MORE

-- The plan has a kernel more, and its code, at one new place. All else is as it was.
pub record IsAdded (old new : Draft) (kernel : Kernel) (place : ℕ) : Type 0 where
  pub code : Code
  pub is_code : IsCodeOf kernel code
  pub last : place ≡ length old.kernels.items
  pub kernels : new.kernels.items ≡ old.kernels.items ++ kernel ∷ []
  pub codes : new.codes.items ≡ old.codes.items ++ code ∷ []
  pub rest : new ≡ record old { kernels = new.kernels; codes = new.codes }

-- PLAIN COPIES

-- a kernel of a script is checked
abbrev pub IsKernelChecked : Script → ℕ → Type 0
IsKernelChecked script kernel = (source : Kernel)
    → slice_get script.kernels.items kernel ≡ Some source
    → IsChecked source

-- A kernel of the script is copied to a new place among the plan's, and all else is as it was.
pub record IsCopiedAnew (script : Script) (old new : Draft) (kernel place : ℕ) : Type 0 where
  pub source : Kernel
  pub copy : Kernel
  pub is_source : slice_get script.kernels.items kernel ≡ Some source
  pub same : SameKernel source copy
  -- but for the place, which is noted
  pub added : IsAdded old (record new { copies_of = old.copies_of }) copy place
  pub places : new.copies_of.items ≡ slice_set old.copies_of.items kernel (Some place)

-- It had the place already, or has it now.
abbrev pub IsCopied : Script → Draft → Draft → ℕ → ℕ → Type 0
IsCopied script old new kernel place =
    (slice_get old.copies_of.items kernel ≡ Some (Some place)) × (new ≡ old)
    ⊎ IsCopiedAnew script old new kernel place

-- GUARDED COPIES

-- What is known of a guarded copy.
pub record IsGuardOf (source copy : Kernel) : Type 0 where
  pub guarded : IsGuarded source copy
  pub checked : IsChecked copy
  pub contents : GuardsContents source copy
  pub words : GuardsWords source copy
  pub footprint : GuardsFootprint source copy

-- A kernel that has a guarded copy.
pub record MayBeGuarded (source : Kernel) : Type 0 where
  pub checked : IsChecked source
  pub parallel : source.parallel ≡ true
  pub fits : guard_fits source ≡ true

abbrev pub IsKernelGuardable : Script → ℕ → Type 0
IsKernelGuardable script kernel = (source : Kernel)
    → slice_get script.kernels.items kernel ≡ Some source
    → MayBeGuarded source

-- A guarded copy of a kernel has a new place among the plan's, and all else is as it was.
pub record IsGuardedAnew (script : Script) (old new : Draft) (kernel place : ℕ) : Type 0 where
  pub source : Kernel
  pub copy : Kernel
  pub is_source : slice_get script.kernels.items kernel ≡ Some source
  pub guards : IsGuardOf source copy
  -- but for the place, which is noted
  pub added : IsAdded old (record new { guards_of = old.guards_of }) copy place
  pub places : new.guards_of.items ≡ slice_set old.guards_of.items kernel (Some place)

-- It had the place already, or has it now.
abbrev pub IsGuardedAt : Script → Draft → Draft → ℕ → ℕ → Type 0
IsGuardedAt script old new kernel place =
    (slice_get old.guards_of.items kernel ≡ Some (Some place)) × (new ≡ old)
    ⊎ IsGuardedAnew script old new kernel place
