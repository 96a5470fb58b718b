-- What a job does: Execute after Execute, each with fresh locals and its steps, whether the earlier ones trapped or
-- not.
use Rattle.std.specs.Prelude.{ℕ, zero, suc, ◌+◌, ◌-◌, Bool, true, false, List, [], ◌∷◌, ◌++◌, Option, None, Some}
use Rattle.job_base.specs.declared.Trap.{Trap}
use Rattle.job_base.specs.declared.limits.TheConstants.{MOST_STEPS}
use Rattle.frame_ast.specs.declared.kernel.Stmt.{Stmt}
use Rattle.frame_ast.specs.declared.kernel.Kernel.{Kernel}
use Rattle.frame_ast.specs.Contents.{Contents}
use Rattle.frame_ast.specs.Arguments.{arguments}
use Rattle.frame_ast.specs.Kernels.{Outcome, execution, store_after, trap_after}
use Rattle.frame_ast.specs.Expressions.{Operations}

-- what the arguments are kept in afterwards, and the traps with their indexes
pub record Ran (S : Type 0) : Type 0 where
  pub store : S
  pub traps : List (ℕ × Trap)

abbrev pub trap_at : ℕ → Option Trap → List (ℕ × Trap)
trap_at index None = []
trap_at index (Some t) = (index, t) ∷ []

abbrev pub followed : {S : Type 0} → List (ℕ × Trap) → Ran S → Ran S
followed traps ran = record ran { traps = traps ++ ran.traps }

-- so many indexes from one on, in order
abbrev pub indexes : {S : Type 0} → (ℕ → S → Outcome S) → ℕ → ℕ → S → Ran S
indexes execute zero index s = record { store = s; traps = [] }
indexes execute (suc n) index s =
    let ended = execute index s in
    followed (trap_at index (trap_after ended)) (indexes execute n (index + 1) (store_after ended))

-- a job that isn't parallel is one Execute, which counts as index 0
abbrev pub executes : Bool → ℕ → ℕ
executes false n = 1
executes true n = n

abbrev pub job_run : {S : Type 0} → (ℕ → Operations S) → Bool → List Stmt → ℕ → ℕ → S → Ran S
job_run operations parallel body steps n s =
    indexes (λ index s. execution (operations index) body steps index s) (executes parallel n) 0 s

-- the steps of each Execute, and those of a job whose length is deferred: its guard takes one
unfoldable pub full_steps : ℕ
full_steps = MOST_STEPS

unfoldable pub deferred_steps : ℕ
deferred_steps = MOST_STEPS - 1

-- What a job of a kernel does, by the widths of its own-index rule, its steps, its length and its arguments.
abbrev pub Run : Type 0
Run = List ℕ → ℕ → ℕ → List Contents → Ran (List Contents)

abbrev pub run_of : Kernel → Run
run_of k widths steps n args = job_run (arguments widths) k.parallel k.body.statements.items steps n args

abbrev pub no_run : Run
no_run widths steps n args = record { store = args; traps = [] }
