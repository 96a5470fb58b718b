-- Kernels that are the same run alike.
use Rattle.std.proofs.Common.{◌≡◌, refl, ℕ, ℤ, pos, List, [], ◌∷◌, map, get_or, Ok}
use Rattle.std.specs.Prelude.{neg_ℤ, not}
use Rattle.frame_ast.specs.declared.kernel.Expr.{Expr}
use Rattle.frame_ast.specs.declared.kernel.Stmt.{Stmt}
use Rattle.frame_ast.specs.declared.kernel.Stmt.TheOpen.{Stmt-F}
use Rattle.frame_ast.specs.declared.kernel.Kernel.{Kernel}
use Rattle.frame_ast.specs.Contents.{then_value}
use Rattle.frame_ast.specs.Expressions.{Operations, checked, one_if, holds, operate, also, otherwise, value_of}
use Rattle.frame_ast.specs.Kernels.{State, Outcome, Action, Goes, with_value, changes, spend, with_local, choose, in_turn, count_between, turns, turns_while, Eval, try_add_action, remove_key_action, begin_action, act_of, statement, meaning, fresh}
use Rattle.frame_ast.specs.Arguments.{arguments}
use Rattle.frame_ast.specs.JobRuns.{run_of, indexes, executes}
use Rattle.tree_laws.specs.Same.{SameExpr, SameBody, SameKernel, Pairwise}
use Rattle.tree_laws.specs.Laws.{SameKernelsRunAlike}
use Rattle.tree_laws.proofs.Folds.{SameLayer, same_folds}

module _ {S : Type 0} (operations : Operations S) (index : ℕ) where
  pub same_value : (e f : Expr) → SameExpr e f → value_of operations index e ≡ value_of operations index f
  same_value e f SameExpr.itself = refl
  same_value _ _ (SameExpr.element {x = x} {e = e} {f = f} same) =
      λ i locals s. then_value (same_value e f same i locals s) (λ j. operations.get x j s)
  same_value _ _ (SameExpr.has {x = x} {e = e} {f = f} same) =
      λ i locals s. then_value (same_value e f same i locals s) (λ k. Ok (one_if (operations.has x k s)))
  same_value _ _ (SameExpr.count {x = x} {e = e} {f = f} same) =
      λ i locals s. then_value (same_value e f same i locals s) (λ j. then_value (operations.count x j s) (λ n. Ok (pos n)))
  same_value _ _ (SameExpr.item {x = x} {e = e} {f = f} {e2 = e2} {f2 = f2} same second) =
      λ i locals s. then_value (same_value e f same i locals s) (λ j. then_value (same_value e2 f2 second i locals s) (λ k. operations.item x j k s))
  same_value _ _ (SameExpr.negative {e = e} {f = f} same) =
      λ i locals s. then_value (same_value e f same i locals s) (λ n. checked (neg_ℤ n))
  same_value _ _ (SameExpr.not {e = e} {f = f} same) =
      λ i locals s. then_value (same_value e f same i locals s) (λ n. Ok (one_if (not (holds n))))
  same_value _ _ (SameExpr.both {e = e} {f = f} {e2 = e2} {f2 = f2} same second) =
      λ i locals s. then_value (same_value e f same i locals s) (λ m. also (holds m) (λ _. same_value e2 f2 second i locals s))
  same_value _ _ (SameExpr.either {e = e} {f = f} {e2 = e2} {f2 = f2} same second) =
      λ i locals s. then_value (same_value e f same i locals s) (λ m. otherwise (holds m) (λ _. same_value e2 f2 second i locals s))
  same_value _ _ (SameExpr.binary {op = op} {e = e} {f = f} {e2 = e2} {f2 = f2} same second) =
      λ i locals s. then_value (same_value e f same i locals s) (λ m. then_value (same_value e2 f2 second i locals s) (λ n. operate op m n))

  abbrev eval : Eval S
  eval e s = value_of operations index e s.locals s.store

  at : (e f : Expr) → SameExpr e f → eval e ≡ eval f
  at e f same = λ i s. same_value e f same i s.locals s.store

  -- what goes on with the value of one expression, and of two
  abbrev with_one : Expr → (State S → ℤ → Outcome S) → Action S
  with_one e go s = with_value (eval e s) s (go s)

  abbrev with_two : Expr → Expr → (State S → ℤ → ℤ → Outcome S) → Action S
  with_two e f go s = with_value (eval e s) s (λ x. with_value (eval f s) s (go s x))

  one : (e f : Expr) (go : State S → ℤ → Outcome S) → SameExpr e f → with_one e go ≡ with_one f go
  one e f go same = λ i s. with_value (at e f same i s) s (go s)

  two : (e f e2 f2 : Expr) (go : State S → ℤ → ℤ → Outcome S) → SameExpr e f → SameExpr e2 f2 → with_two e e2 go ≡ with_two f f2 go
  two e f e2 f2 go same second = λ i s. with_value (at e f same i s) s (λ x. with_value (at e2 f2 second i s) s (go s x))

  same_act : (z w : Stmt-F (Action S)) → SameLayer (Action S) z w → act_of operations eval z ≡ act_of operations eval w
  same_act _ _ (SameLayer.assign {k = k} {e = e} {f = f} same) = one e f (λ s z. Goes (with_local k z s)) same
  same_act _ _ (SameLayer.set_value {x = x} {e = e} {f = f} same) =
      one e f (λ s z. Goes (record s { store = operations.set_value x z s.store })) same
  same_act _ _ (SameLayer.store {x = x} {e = e} {f = f} {e2 = e2} {f2 = f2} same second) =
      two e f e2 f2 (λ s i v. changes (operations.put x i v s.store) s) same second
  same_act _ _ (SameLayer.add {x = x} {e = e} {f = f} same) = one e f (λ s v. changes (operations.add x v s.store) s) same
  same_act _ _ (SameLayer.add_pair {x = x} {e = e} {f = f} {e2 = e2} {f2 = f2} same second) =
      two e f e2 f2 (λ s k v. changes (operations.add_pair x k v s.store) s) same second
  same_act _ _ (SameLayer.try_add {y = y} {x = x} {e = e} {f = f} {e2 = e2} {f2 = f2} same second) =
      two e f e2 f2 (λ s k v. try_add_action operations y x k v (operations.has x k s.store) s) same second
  same_act _ _ (SameLayer.remove_at {x = x} {e = e} {f = f} same) = one e f (λ s i. changes (operations.remove_at x i s.store) s) same
  same_act _ _ (SameLayer.remove_key {y = y} {x = x} {e = e} {f = f} same) = one e f (λ s k. remove_key_action operations y x k s) same
  same_act _ _ SameLayer.clear = refl
  same_act _ _ (SameLayer.write {x = x} {e = e} {f = f} same) =
      one e f (λ s v. changes (operations.write x (get_or s.begun x (pos 0)) v s.store) s) same
  same_act _ _ (SameLayer.begin {x = x} {e = e} {f = f} {b = b} {c = c} same inner) =
      λ i s. with_value (at e f same i s) s (λ j. begin_action operations x j (in_turn (inner i)) s)
  same_act _ _ (SameLayer.if_ {e = e} {f = f} same inner second) =
      λ i s. with_value (at e f same i s) s (λ z. choose (holds z) (in_turn (inner i)) (in_turn (second i)) s)
  same_act _ _ (SameLayer.for {k = k} {e = e} {f = f} {e2 = e2} {f2 = f2} same second inner) =
      λ i s. with_value (at e f same i s) s (λ a. with_value (at e2 f2 second i s) s (λ b. turns (count_between a b) k a (in_turn (inner i)) s))
  same_act _ _ (SameLayer.while {e = e} {f = f} same inner) =
      λ i s. turns_while s.steps (at e f same i) (in_turn (inner i)) s

  same_statement : (z w : Stmt-F (Action S)) → SameLayer (Action S) z w → statement operations index z ≡ statement operations index w
  same_statement z w same = λ i s. spend s (same_act z w same i)

  pub same_meanings : (xs ys : List Stmt) → SameBody xs ys → map (meaning operations index) xs ≡ map (meaning operations index) ys
  same_meanings = same_folds (Action S) (statement operations index) (statement operations index) same_statement

pub same_kernels_run_alike : SameKernelsRunAlike
same_kernels_run_alike k l same =
    λ i widths steps n args.
    indexes (λ index s. in_turn (same_meanings (arguments widths index) index k.body.statements.items l.body.statements.items same.body i) (fresh steps s))
    (executes (same.parallel i) n) 0 args

pub same_runs : (ks ls : List Kernel) → Pairwise SameKernel ks ls → map run_of ks ≡ map run_of ls
same_runs [] [] same = refl
same_runs [] (l ∷ ls) same = absurd same
same_runs (k ∷ ks) [] same = absurd same
same_runs (k ∷ ks) (l ∷ ls) same = λ i. same_kernels_run_alike k l same.0 i ∷ same_runs ks ls same.1 i
