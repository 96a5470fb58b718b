-- What the guarded statements do, whatever the arguments are kept in.
use Rattle.std.proofs.Common.{◌≡◌, ℕ, suc, Bool, true, false, ℤ, pos, List, [], Ok, refl, sym, ap, ◌∙◌}
use Rattle.std.specs.Prelude.{int_lt}
use Rattle.frame_ast.specs.declared.kernel.Expr.{Expr}
use Rattle.frame_ast.specs.declared.kernel.Stmt.{Stmt}
use Rattle.frame_ast.specs.declared.kernel.Stmt.TheOpen.{If}
use Rattle.frame_ast.specs.declared.kernel.Stmt.TheFolds.{fold_out-Stmt, map-Stmt}
use Rattle.frame_ast.specs.Contents.{then_value}
use Rattle.frame_ast.specs.Expressions.{Operations, one_if, holds, value_of}
use Rattle.frame_ast.specs.Kernels.{Outcome, Action, Goes, Traps, then_do, with_value, choose, in_turn, statement, meaning, body_meaning, fresh, execution}
use Rattle.frame_ast.specs.JobRuns.{full_steps, deferred_steps}
use Rattle.tree_laws.proofs.Runs.{same_meanings}
use Rattle.job_defer.specs.Guarded.{IsBelow, IsGuard}

then_nothing : {S : Type 0} (o : Outcome S) → then_do o (in_turn []) ≡ o
then_nothing (Goes s) = refl
then_nothing (Traps t s) = refl

pub one_step_more : full_steps ≡ suc deferred_steps
unfolding full_steps deferred_steps
one_step_more = refl

module _ {S : Type 0} (operations : Operations S) (index x : ℕ) where
  test_value : (e : Expr) (locals : List ℤ) (s : S) (z : ℤ) → IsBelow x e → operations.get x (pos 0) s ≡ Ok z
      → value_of operations index e locals s ≡ Ok (one_if (int_lt (pos index) z))
  test_value e locals s z B got = ap (λ e. value_of operations index e locals s) B.is
      ∙ ap (λ r. then_value r (λ n. Ok (one_if (int_lt (pos index) n)))) got

  module _ (old new : List Stmt) (G : IsGuard x old new) (n : ℕ) (s : S) (z : ℤ)
      (got : operations.get x (pos 0) s ≡ Ok z) where
    abbrev inside : Action S
    inside = body_meaning operations index G.body.items

    abbrev chosen : Bool → Outcome S
    chosen b = choose (holds (one_if b)) inside (body_meaning operations index G.other.items) (fresh n s)

    layer : meaning operations index G.statement
        ≡ statement operations index (map-Stmt Stmt (Action S) (meaning operations index) (If G.test G.body G.other))
    layer = fold_out-Stmt (Action S) (statement operations index) G.statement
        ∙ ap (λ l. statement operations index (map-Stmt Stmt (Action S) (meaning operations index) l)) G.is

    runs : execution operations new (suc n) index s ≡ chosen (int_lt (pos index) z)
    unfolding fresh
    runs =
        ap (λ body. execution operations body (suc n) index s) G.only
        ∙ then_nothing (meaning operations index G.statement (fresh (suc n) s))
        ∙ (λ i. layer i (fresh (suc n) s))
        ∙ ap (λ r. with_value r (fresh n s)
        (λ z. choose (holds z) inside (body_meaning operations index G.other.items) (fresh n s)))
        (test_value G.test (fresh n s).locals s z G.below got)

    pub runs_below : int_lt (pos index) z ≡ true
        → execution operations new (suc n) index s ≡ execution operations old n index s
    runs_below less = runs ∙ ap chosen less
        ∙ sym (λ i. in_turn (same_meanings operations index old G.body.items G.same i) (fresh n s))

    pub stays_above : int_lt (pos index) z ≡ false → execution operations new (suc n) index s ≡ Goes (fresh n s)
    stays_above past = runs ∙ ap chosen past
        ∙ ap (λ body. body_meaning operations index body (fresh n s)) G.nothing_else
