-- Kernels that texts give, and why a text gives none.
use Rattle.std.specs.Prelude.{◌≡◌, ◌⊎◌, ℕ, List, []}
use Rattle.frame_ast.specs.declared.kernel.FaultKind.{FaultKind}
use Rattle.frame_ast.specs.declared.kernel.FaultKind.TheVariants.{Syntax}
use Rattle.frame_ast.specs.declared.kernel.Kernel.{Kernel}
use Rattle.kernel_text.specs.declared.token.Token.{Token}
use Rattle.kernel_raw.specs.declared.fault.KernelFault.TheVariants.{Refused}
use Rattle.kernel_raw.specs.declared.raw.RawKernel.{RawKernel}
use Rattle.kernel_raw.specs.Parsing.{StandsAt, StopsAt}
use Rattle.kernel_code.specs.StaticFaults.{first_fault, TellsFault}
use Rattle.kernel_code.specs.Trees.{IsKernelOf}

-- the kernel stands among the tokens from one place to another
pub record IsKernelAt (source : List ℕ) (tokens : List Token) (at next : ℕ) (k : Kernel) : Type 0 where
  pub raw : RawKernel
  pub stands : StandsAt source tokens at next raw
  pub is : IsKernelOf raw k

-- the kernel that stands there has this first fault
pub record HasFaultAt (source : List ℕ) (tokens : List Token) (at line : ℕ) (kind : FaultKind) : Type 0 where
  pub raw : RawKernel
  pub next : ℕ
  pub stands : StandsAt source tokens at next raw
  pub tells : TellsFault raw (first_fault raw []) (Refused line kind)

-- no kernel stands there, or it has a fault
abbrev pub IsRefusedAt : List ℕ → List Token → (at line : ℕ) → FaultKind → Type 0
IsRefusedAt source tokens at line kind = ((kind ≡ Syntax) × StopsAt tokens at line)
    ⊎ HasFaultAt source tokens at line kind
