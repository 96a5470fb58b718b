-- Laws of trees that are the same but for where their parts lie in memory, as statements.
use Rattle.std.specs.Prelude.{◌≡◌}
use Rattle.frame_ast.specs.declared.kernel.Kernel.{Kernel}
use Rattle.frame_ast.specs.declared.script.Script.{Script}
use Rattle.frame_ast.specs.JobRuns.{run_of}
use Rattle.frame_ast.specs.Checked.{IsChecked}
use Rattle.frame_ast.specs.Orders.{Table, setting}
use Rattle.frame_ast.specs.Scripts.{final, HasNoTrap, output_of, status_of}
use Rattle.tree_laws.specs.Same.{SameKernel, SameScript}

-- A kernel and a script are the same as themselves.
abbrev pub KernelsAreThemselves : Type 0
KernelsAreThemselves = (k : Kernel) → SameKernel k k

abbrev pub ScriptsAreThemselves : Type 0
ScriptsAreThemselves = (s : Script) → SameScript s s

-- A job of either kernel does the same.
abbrev pub SameKernelsRunAlike : Type 0
SameKernelsRunAlike = (k l : Kernel) → SameKernel k l → run_of k ≡ run_of l

-- Where one is checked, so is the other.
abbrev pub SameKernelsAreChecked : Type 0
SameKernelsAreChecked = (k l : Kernel) → SameKernel k l → IsChecked k → IsChecked l

-- both scripts print the same, end with the same status, and have the same traps in their jobs
pub record RunAlike (s t : Script) (table : Table) : Type 0 where
  pub output : output_of s table ≡ output_of t table
  pub status : status_of s table ≡ status_of t table
  pub traps : (final (setting s table) s.statements.items).traps ≡ (final (setting t table) t.statements.items).traps

abbrev pub SameScriptsRunAlike : Type 0
SameScriptsRunAlike = (s t : Script) → SameScript s t → (table : Table) → RunAlike s t table

-- Where no job of one script traps, none of the other does.
abbrev pub SameScriptsHaveNoTrap : Type 0
SameScriptsHaveNoTrap = (s t : Script) → SameScript s t → HasNoTrap s → HasNoTrap t
