-- The name that a cause has is that of a use.
use Rattle.std.proofs.Common.{◌≡◌, ℕ, ◌<◌, zero, suc, Bool, true, false, List, [], ◌∷◌, ◌++◌, Option, Some, None, sym, subst}
use Rattle.std.specs.Prelude.{if◌then◌else◌}
use Rattle.std.specs.List.{list_any}
use Rattle.job_base.specs.declared.Refusal.{Refusal}
use Rattle.job_base.specs.declared.Refusal.TheVariants.{Disposed, StaleView, NotParallel, Alias, Pending, TempInJob}
use Rattle.frame_ast.specs.declared.kernel.Param.{Param}
use Rattle.frame_ast.specs.declared.script.Arg.{Arg}
use Rattle.frame_ast.specs.declared.script.Arg.TheVariants.{Name, Number}
use Rattle.frame_ast.specs.Jobs.{Jobs}
use Rattle.frame_ast.specs.Schedules.{alias}
use Rattle.frame_core.proofs.Small.{some_is, none_some}
use Rattle.plan_schedules.specs.declared.causes.Cause.{Cause}
use Rattle.plan_state.specs.declared.state.Planner.{Planner}
use Rattle.plan_schedules.specs.declared.uses.NamedUse.{NamedUse}
use Rattle.plan_schedules.specs.Causes.{has_cause, first_with, alias_after, alias_of, greatest_blocker, pending_of, or_next, refusal_by}
use Rattle.plan_schedules.specs.Causes as causes
use Rattle.plan_schedules.specs.Deferring.{with_length, length_given, deferred_refusal}
use Rattle.plan_schedules.specs.Uses.{given_of, ForNames, IsUse}
use Rattle.plan_schedules.proofs.Texts.{EachBelow}

-- each use has one of so many names
abbrev pub AreNamed : ℕ → List NamedUse → Type 0
AreNamed m [] = Unit {0}
AreNamed m (u ∷ us) = (u.name < m) × AreNamed m us

pub named_more : (m : ℕ) (us : List NamedUse) (u : NamedUse) → AreNamed m us → u.name < m → AreNamed m (us ++ u ∷ [])
named_more m [] u are lt = (lt, tt)
named_more m (x ∷ us) u are lt = (are.0, named_more m us u are.1 lt)

pub uses_named : (p : Planner) (after : Jobs) (m : ℕ) (ps : List Param) (args : List Arg) (us : List NamedUse) → ForNames (IsUse p.world after) ps args us
    → EachBelow m args → AreNamed m us
uses_named p after m [] args us e below = subst (AreNamed m) (sym e) tt
uses_named p after m (q ∷ ps) [] us e below = subst (AreNamed m) (sym e) tt
uses_named p after m (q ∷ ps) (Number z ∷ args) us h below = uses_named p after m ps args us h below.1
uses_named p after m (q ∷ ps) (Name n ∷ args) [] h below = absurd h
uses_named p after m (q ∷ ps) (Name n ∷ args) (u ∷ us) h below = (subst (λ k. k < m) (sym h.0.named) below.0, uses_named p after m ps args us h.1 below.1)

module _ (m : ℕ) where
  abbrev pub IsNamed : Option Cause → Type 0
  IsNamed o = (c : Cause) → o ≡ Some c → c.name < m

  none_named : IsNamed None
  none_named c e = absurd (none_some e)

  first_named : (refusal : Refusal) (test : NamedUse → Bool) (us : List NamedUse) → AreNamed m us → IsNamed (first_with refusal test us)
  first_named refusal test [] are = none_named
  first_named refusal test (u ∷ us) are = by (first_named refusal test us are.1) (test u)
    where
      by : IsNamed (first_with refusal test us) → (b : Bool) → IsNamed (if b then Some
          (record { refusal = refusal; name = u.name }) else first_with refusal test us)
      by rest true c e = subst (λ (c : Cause). c.name < m) (some_is e) are.0
      by rest false c e = rest c e

  alias_named : (before us : List NamedUse) → AreNamed m us → IsNamed (alias_after before us)
  alias_named before [] are = none_named
  alias_named before (u ∷ us) are = by (alias_named (before ++ u ∷ []) us are.1) (list_any (λ a. alias (given_of a) (given_of u)) before)
    where
      by : IsNamed (alias_after (before ++ u ∷ []) us) → (b : Bool) → IsNamed
          (if b then Some (record { refusal = Alias; name = u.name }) else alias_after (before ++ u ∷ []) us)
      by rest true c e = subst (λ (c : Cause). c.name < m) (some_is e) are.0
      by rest false c e = rest c e

  next_named : (o next : Option Cause) → IsNamed o → IsNamed next → IsNamed (or_next o next)
  next_named None next a b = b
  next_named (Some c) next a b = a

  pending_named : (us : List NamedUse) → AreNamed m us → IsNamed (pending_of us)
  pending_named us are = by (greatest_blocker us)
    where
      by : (n : ℕ) → IsNamed (causes.pending_on us n)
      by zero = none_named
      by (suc j) = first_named (Pending (record { 0 = suc j })) (has_cause false (Pending (record { 0 = suc j }))) us are

  pub refusal_named : (us : List NamedUse) (parallel auto : Bool) → AreNamed m us → IsNamed (refusal_by us parallel auto)
  refusal_named us parallel auto are =
      next_named _ _ (first_named Disposed (has_cause parallel Disposed) us are)
      (next_named _ _ (first_named StaleView (has_cause parallel StaleView) us are)
      (next_named _ _ (first_named NotParallel (has_cause parallel NotParallel) us are)
      (next_named _ _ (first_named TempInJob (has_cause parallel TempInJob) us are)
      (next_named _ _ (alias_named [] us are) (by auto)))))
    where
      by : (b : Bool) → IsNamed (if b then None else pending_of us)
      by true = none_named
      by false = pending_named us are

  pub deferred_named : (us : List NamedUse) (u : NamedUse) (parallel auto : Bool) → AreNamed m us → u.name < m → IsNamed (deferred_refusal us u parallel auto)
  deferred_named us u parallel auto are lt =
      let all = named_more m us u are lt in
      let uses = with_length us u in
      next_named _ _ (first_named Disposed (has_cause parallel Disposed) uses all)
      (next_named _ _ (first_named StaleView (has_cause parallel StaleView) uses all)
      (next_named _ _ (first_named NotParallel (has_cause parallel NotParallel) uses all)
      (next_named _ _ (first_named TempInJob (has_cause parallel TempInJob) uses all)
      (next_named _ _ (next_named _ _ (alias_named [] us are) (last (list_any (λ a. alias (given_of a) (length_given u)) us)))
      (by auto)))))
    where
      last : (b : Bool) → IsNamed (if b then Some (record { refusal = Alias; name = u.name }) else None)
      last true = λ c e. subst (λ (c : Cause). c.name < m) (some_is e) lt
      last false = none_named

      by : (b : Bool) → IsNamed (if b then None else pending_of (with_length us u))
      by true = none_named
      by false = pending_named (with_length us u) (named_more m us u are lt)
