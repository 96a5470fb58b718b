-- How much work an index of a kernel is, and which jobs are of little work: those are one piece, since to share one
-- among workers costs more than it gains.
--
-- Decided here is the batch with which a job is cut. What a schedule's own numbers are, and what a job is beside its
-- cut, is said in `Growth`.
use Rattle.std.specs.Prelude.{ℕ, ◌*◌, Bool, true, false, ◌||◌, nat_le, max, if◌then◌else◌, List, [], ◌∷◌, map, Option, None, Some, slice_get}
use Rattle.frame_ast.specs.declared.kernel.Kernel.{Kernel}
use Rattle.frame_ast.specs.declared.kernel.Stmt.{Stmt}
use Rattle.frame_ast.specs.declared.kernel.Stmt.TheOpen.{Stmt-F, Begin, If, For, While}
use Rattle.frame_ast.specs.declared.kernel.Stmt.TheFolds.{fold-Stmt}
use Rattle.kernel_trees.specs.Sizes.{size_of}
use Rattle.plan_state.specs.declared.works.TheConstants.{SMALL_WORK}

-- LOOPS

abbrev pub any_loops : List Bool → Bool
any_loops [] = false
any_loops (b ∷ more) = b || any_loops more

-- a statement repeats others: itself, or one in its blocks
abbrev pub loops : Stmt-F Bool → Bool
loops (Begin x e body) = any_loops body.items
loops (If e body other) = any_loops body.items || any_loops other.items
loops (For k e f body) = true
loops (While e body) = true
loops _ = false

abbrev pub has_loop : Stmt → Bool
has_loop = fold-Stmt Bool loops

abbrev pub body_has_loop : List Stmt → Bool
body_has_loop body = any_loops (map has_loop body)

-- THE WORK OF AN INDEX: how many nodes it evaluates at most, which isn't known where a statement repeats others

abbrev pub work_of : Kernel → Option ℕ
work_of k = if body_has_loop k.body.statements.items then None else Some (size_of k).nodes

-- JOBS OF LITTLE WORK

-- by how much work an index of each kernel is, where it is kept: so many indexes of one of them are little work
abbrev pub is_small : Option (Option ℕ) → ℕ → Bool
is_small None n = false
is_small (Some None) n = false
is_small (Some (Some work)) n = nat_le (work * n) SMALL_WORK

-- a job of little work is one batch, and each other one has its schedule's
abbrev pub batch_for : List (Option ℕ) → ℕ → ℕ → ℕ → ℕ
batch_for works kernel n batch = if is_small (slice_get works kernel) n then max n batch else batch
