-- What binds have to be for a kernel.
use Rattle.std.specs.Prelude.{◌≡◌, ◌≢◌, ℕ, ◌+◌, ◌<◌, ◌^◌, Bool, IsTrue, ℤ, pos, List, length, get_or, Some, slice_get}
use Rattle.frame_ast.specs.declared.kernel.Param.{Param}
use Rattle.frame_ast.specs.declared.kernel.Kernel.{Kernel}
use Rattle.frame_ast.specs.Checked.{may_write, IsChecked}
use Rattle.frame_ast.specs.Lists.{member}
use Rattle.kernel_exec.specs.declared.binds.Bind.{Bind}
use Rattle.kernel_exec.specs.declared.binds.Bind.TheVariants.{Stream}
use Rattle.kernel_exec.specs.Binds.{kind_of, end_of, IsWordOf, width_if, bind_at}
use Rattle.kernel_exec.specs.Footprint.{Own, IsLength, IsRead, IsWritten}

-- Binds fit the parameters of a kernel: one for each, in order, of its kind, and within the words of 32 bits.
pub record BindsFit (kernel : Kernel) (binds : List Bind) : Type 0 where
  pub count : length binds ≡ length kernel.params.items
  pub kinds : (x : ℕ) (p : Param) (b : Bind) → slice_get kernel.params.items x ≡ Some p → slice_get binds x ≡ Some b
      → kind_of b ≡ p.kind
  pub ends : (x : ℕ) (b : Bind) → slice_get binds x ≡ Some b → end_of b < 2 ^ 32
  -- no word that may be written through one bind is a word of another; of a view its elements alone are written
  pub apart : (x y : ℕ) (a b : Bind) (w : ℕ) → IsTrue (may_write kernel.params.items x) → x ≢ y
      → slice_get binds x ≡ Some a → slice_get binds y ≡ Some b → IsWordOf a w → (IsLength a w → ⊥) → IsWordOf b w → ⊥

-- at an index, the words that it reads are readable, and those that it writes writable
abbrev pub MayRead : Kernel → List Bind → ℕ → (ℕ → Bool) → Type 0
MayRead kernel binds index readable = (w : ℕ) → IsRead kernel.params.items binds index (index + 1) w
    → IsTrue (readable w)

abbrev pub MayWrite : Kernel → List Bind → ℕ → (ℕ → Bool) → Type 0
MayWrite kernel binds index writable = (w : ℕ) → IsWritten kernel.params.items binds index (index + 1) w
    → IsTrue (writable w)

-- what stays so through an Execute: a checked kernel, binds that fit, and the rights that it needs at its index
pub record IsCall (kernel : Kernel) (binds : List Bind) (index : ℕ) (may_load may_store : ℕ → Bool) : Type 0 where
  pub checked : IsChecked kernel
  pub fit : BindsFit kernel binds
  pub loads : MayRead kernel binds index may_load
  pub stores : MayWrite kernel binds index may_store

-- an index that an Execute may write to, where the bind is a stream
abbrev pub IsBegun : Bind → ℕ → ℤ → Type 0
IsBegun (Stream at own) index i = (k : ℕ) × (i ≡ pos k) × (k < at.count) × Own (width_if own) index (index + 1) k
IsBegun _ index i = Unit {0}

-- every stream of these parameters has such an index
abbrev pub AreBegun : List Bind → ℕ → List ℕ → List ℤ → Type 0
AreBegun binds index open_ begun = (x : ℕ) → IsTrue (member x open_)
    → IsBegun (bind_at binds x) index (get_or begun x (pos 0))

-- such an index stays one, or another takes its place
abbrev pub KeepsBegun : List Bind → ℕ → List ℤ → List ℤ → Type 0
KeepsBegun binds index old new = (x : ℕ) → IsBegun (bind_at binds x) index (get_or old x (pos 0))
    → IsBegun (bind_at binds x) index (get_or new x (pos 0))

-- a word that it may not write
pub record IsUnwritten (kernel : Kernel) (binds : List Bind) (w : ℕ) : Type 0 where
  pub each : (x : ℕ) (b : Bind) → IsTrue (may_write kernel.params.items x) → slice_get binds x ≡ Some b → IsWordOf b w
      → (IsLength b w → ⊥) → ⊥
