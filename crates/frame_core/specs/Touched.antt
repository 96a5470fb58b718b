-- That a piece of a job touches no more than what its indexes use.
use Rattle.std.specs.Prelude.{ℕ, ◌≡◌, Bool, true, List, Some, slice_get}
use Rattle.frame_ast.specs.declared.kernel.Param.{Param}
use Rattle.frame_ast.specs.Schedules.{writes_to}
use Rattle.kernel_exec.specs.declared.binds.Bind.{Bind}
use Rattle.kernel_exec.specs.Binds.{IsWordOf}
use Rattle.kernel_exec.specs.Footprint.{IsRead, IsWritten}
use Rattle.frame_core.specs.Touches.{reads_in, writes_in, binds_touch}

-- a word of a bind
pub record IsBound (params : List Param) (binds : List Bind) (w : ℕ) : Type 0 where
  pub number : ℕ
  pub param : Param
  pub bind : Bind
  pub has_param : slice_get params number ≡ Some param
  pub has_bind : slice_get binds number ≡ Some bind
  pub word : IsWordOf bind w

-- of one that may be written
pub record IsBoundToWrite (params : List Param) (binds : List Bind) (w : ℕ) : Type 0 where
  pub bound : IsBound params binds w
  pub writes : writes_to bound.param.access ≡ true

-- Through the binds of a job's piece no other word is touched than these.
pub record TouchedWordsAreUsed : Type 0 where
  -- the pieces of a parallel job touch only what their indexes read and write
  pub reads : (params : List Param) (binds : List Bind) (from to w : ℕ)
      → reads_in (binds_touch true params binds from to) w ≡ true → IsRead params binds from to w
  pub writes : (params : List Param) (binds : List Bind) (from to w : ℕ)
      → writes_in (binds_touch true params binds from to) w ≡ true → IsWritten params binds from to w
  -- and every piece touches words of binds alone
  pub bound : (parallel : Bool) (params : List Param) (binds : List Bind) (from to w : ℕ)
      → reads_in (binds_touch parallel params binds from to) w ≡ true → IsBound params binds w
  pub bound_to_write : (parallel : Bool) (params : List Param) (binds : List Bind) (from to w : ℕ)
      → writes_in (binds_touch parallel params binds from to) w ≡ true → IsBoundToWrite params binds w
