-- What is noted of the traps of some indexes, while they run.
use Rattle.std.specs.Prelude.{◌≡◌, ℕ, List, length, slice_get}
use Rattle.job_base.specs.declared.Trap.{Trap}
use Rattle.kernel_exec.specs.declared.notes.Notes.{Notes}

-- it counts the traps, and has the first of them
pub record IsNoteOf (traps : List (ℕ × Trap)) (notes : Notes) : Type 0 where
  pub count : notes.count ≡ length traps
  pub first : notes.first ≡ slice_get traps 0
