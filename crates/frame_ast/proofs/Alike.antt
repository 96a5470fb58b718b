-- Actions that keep two states alike, one form of statement at a time.
use Rattle.std.proofs.Common.{◌≡◌, sym, ℕ, zero, suc, ℤ, pos, ◌+ℤ◌, Bool, true, false, List, set, Result, Ok, Err, refl, ap, subst, arith}
use Rattle.job_base.specs.declared.Trap.{Trap}
use Rattle.frame_ast.specs.Expressions.{holds}
use Rattle.frame_ast.specs.Kernels.{State, Outcome, Action, Goes, Traps, then_do, with_value, changes, spend_from, spend, with_local, choose, turns, turns_while}
use Rattle.frame_ast.specs.Simulation.{AlikeResults, AlikeStates, AlikeOutcomes, AlikeActions}

module _ {S T : Type 0} (R : S → T → Type 0) (H : List ℤ → Type 0) where
  -- goes on alike with one value
  pub with_alike : (v w : Result ℤ Trap) (s : State S) (t : State T) (f : ℤ → Outcome S) (g : ℤ → Outcome T) → v ≡ w → R s.store t.store
      → ((x : ℤ) → AlikeOutcomes R H (f x) (g x)) → AlikeOutcomes R H (with_value v s f) (with_value w t g)
  with_alike v w s t f g e r same = subst (λ u. AlikeOutcomes R H (with_value u s f) (with_value w t g)) (sym e) (cases w)
    where
      cases : (w : Result ℤ Trap) → AlikeOutcomes R H (with_value w s f) (with_value w t g)
      cases (Ok x) = same x
      cases (Err u) = (refl, r)

  -- goes on alike with what was changed
  pub changes_alike : (v : Result S Trap) (w : Result T Trap) (s : State S) (t : State T) → AlikeResults R v w → AlikeStates R H s t
      → AlikeOutcomes R H (changes v s) (changes w t)
  changes_alike (Ok a) (Ok b) s t r like = record { steps = like.steps; locals = like.locals; begun = like.begun; store = r; have = like.have }
  changes_alike (Ok a) (Err u) s t r like = absurd r
  changes_alike (Err u) (Ok b) s t r like = absurd r
  changes_alike (Err u) (Err v) s t r like = (r, like.store)

  pub local_alike : (k : ℕ) (z : ℤ) (s : State S) (t : State T) → AlikeStates R H s t → AlikeStates R H (with_local k z s) (with_local k z t)
  local_alike k z s t like = record { steps = like.steps; locals = ap (λ l. set l k z) like.locals; begun = like.begun; store = like.store; have = like.have }

  pub store_alike : (s : State S) (t : State T) (a : S) (b : T) → R a b → AlikeStates R H s t
      → AlikeStates R H (record s { store = a }) (record t { store = b })
  store_alike s t a b r like = record { steps = like.steps; locals = like.locals; begun = like.begun; store = r; have = like.have }

  pub spend_alike : (f : Action S) (g : Action T) → AlikeActions R H f g → AlikeActions R H (λ s. spend s f) (λ t. spend t g)
  spend_alike f g same s t like = from s.steps t.steps like.steps
    where
      from : (m n : ℕ) → m ≡ n → AlikeOutcomes R H (spend_from m s f) (spend_from n t g)
      from zero zero e = (refl, like.store)
      from zero (suc n) e = absurd (omega arith)
      from (suc m) zero e = absurd (omega arith)
      from (suc m) (suc n) e = same _ _ (record { steps = omega arith; locals = like.locals; begun = like.begun; store = like.store; have = like.have })

  pub then_alike : (a : Outcome S) (b : Outcome T) (f : Action S) (g : Action T) → AlikeOutcomes R H a b → AlikeActions R H f g
      → AlikeOutcomes R H (then_do a f) (then_do b g)
  then_alike (Goes s) (Goes t) f g r same = same s t r
  then_alike (Goes s) (Traps u t) f g r same = absurd r
  then_alike (Traps u s) (Goes t) f g r same = absurd r
  then_alike (Traps t s) (Traps u r) f g e same = e

  pub choose_alike : (b : Bool) (f g : Action S) (h k : Action T) → AlikeActions R H f h → AlikeActions R H g k → AlikeActions R H (choose b f g) (choose b h k)
  choose_alike true f g h k one two = one
  choose_alike false f g h k one two = two

  pub turns_alike : (n k : ℕ) (i : ℤ) (f : Action S) (g : Action T) → AlikeActions R H f g → AlikeActions R H (turns n k i f) (turns n k i g)
  turns_alike zero k i f g same = spend_alike (λ s. Goes s) (λ t. Goes t) (λ s t like. like)
  turns_alike (suc n) k i f g same =
      spend_alike (λ s. then_do (f (with_local k i s)) (turns n k (i +ℤ pos 1) f)) (λ t. then_do (g (with_local k i t)) (turns n k (i +ℤ pos 1) g)) (λ s t like.
      then_alike _ _ (turns n k (i +ℤ pos 1) f) (turns n k (i +ℤ pos 1) g) (same _ _ (local_alike k i s t like)) (turns_alike n k (i +ℤ pos 1) f g same))

  pub while_alike : (n : ℕ) (v : State S → Result ℤ Trap) (w : State T → Result ℤ Trap) (f : Action S) (g : Action T)
      → ((s : State S) (t : State T) → AlikeStates R H s t → v s ≡ w t) → AlikeActions R H f g → AlikeActions R H (turns_while n v f) (turns_while n w g)
  while_alike zero v w f g tests same = λ s t like. (refl, like.store)
  while_alike (suc n) v w f g tests same =
      spend_alike _ _ (λ s t like.
      with_alike _ _ s t _ _ (tests s t like) like.store (λ z.
      choose_alike (holds z) (λ s. then_do (f s) (turns_while n v f)) (λ s. Goes s) (λ t. then_do (g t) (turns_while n w g)) (λ t. Goes t)
      (λ s t like. then_alike _ _ _ _ (same s t like) (while_alike n v w f g tests same))
      (λ s t like. like) s t like))
