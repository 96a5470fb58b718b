-- Choosing the cause for a schedule with `defer`: what the uses of its arguments and its list answer is why the script
-- refuses it.
use Rattle.std.proofs.Common.{◌≡◌, ℕ, Bool, true, false, ◌&&◌, ◌||◌, not, List, [], ◌∷◌, ◌++◌, map, Option, Some, None, refl, sym, ap, ◌∙◌, append-nil, append_assoc}
use Rattle.std.specs.Prelude.{find, option_map, if◌then◌else◌}
use Rattle.std.specs.List.{list_any}
use Rattle.job_base.specs.declared.Refusal.TheVariants.{Disposed, StaleView, NotParallel, Alias, TempInJob}
use Rattle.frame_ast.specs.Jobs.{Jobs}
use Rattle.frame_ast.specs.Refusals.{refused, jobs_named, pending, is_temp, first_given, schedule_refusal}
use Rattle.frame_ast.specs.Schedules.{Given, alias, first_alias, is_shared}
use Rattle.frame_ast.specs.States.{ScriptState, is_alive, is_stale}
use Rattle.frame_ast.proofs.GivenKinds.{none_named}
use Rattle.plan_schedules.specs.declared.causes.Cause.{Cause}
use Rattle.plan_state.specs.declared.state.Planner.{Planner}
use Rattle.plan_schedules.specs.declared.uses.NamedUse.{NamedUse}
use Rattle.plan_schedules.specs.Causes.{has_cause, alias_of, pending_of, or_next, as_refused}
use Rattle.plan_schedules.specs.Deferring.{with_length, length_given, length_alias, deferred_alias, deferred_refusal}
use Rattle.plan_schedules.specs.Uses.{given_of}
use Rattle.plan_schedules.proofs.Choosing.{AreAlive, AreFresh, all_alive, all_fresh, as_first, as_last, found_given, first_is, first_alive, disposed_is, stale_is, alias_is, pending_is}
use Rattle.plan_schedules.proofs.Deferred.Meaning.{plain, length_value, meant_more}
use Rattle.plan_schedules.proofs.Meaning.{IsMeant, AreMeant}

-- ---- that it is the length counts for aliases alone

pub names_same : (gs : List Given) (l : Given) → map (λ g. g.need.name) (gs ++ plain l ∷ []) ≡ map (λ g. g.need.name) (gs ++ l ∷ [])
names_same [] l = refl
names_same (g ∷ gs) l = ap (λ ns. g.need.name ∷ ns) (names_same gs l)

pub needs_same : (gs : List Given) (l : Given) → map (λ g. g.need) (gs ++ plain l ∷ []) ≡ map (λ g. g.need) (gs ++ l ∷ [])
needs_same [] l = refl
needs_same (g ∷ gs) l = ap (λ ns. g.need ∷ ns) (needs_same gs l)

first_same : (is : Given → Bool) (gs : List Given) (l : Given) → is (plain l) ≡ is l → first_given is (gs ++ plain l ∷ []) ≡ first_given is (gs ++ l ∷ [])
first_same is [] l e = ap (λ b. if b then Some l.need.name else None) e
first_same is (g ∷ gs) l e = ap (λ o. if is g then Some g.need.name else o) (first_same is gs l e)

-- ---- aliases

abbrev or_name : Option ℕ → Option ℕ → Option ℕ
or_name None o = o
or_name (Some n) o = Some n

abbrev last_alias : List Given → Given → Option ℕ
last_alias gs l = if list_any (λ a. alias a l) gs then Some l.need.name else None

alias_last : (before gs : List Given) (l : Given) → first_alias before (gs ++ l ∷ []) ≡ or_name (first_alias before gs) (last_alias (before ++ gs) l)
alias_last before [] l = ap (λ gs. last_alias gs l) (sym (append-nil before))
alias_last before (g ∷ gs) l = by (alias_last (before ++ g ∷ []) gs l ∙ ap (λ all. or_name (first_alias (before ++ g ∷ []) gs) (last_alias all l))
    (append_assoc before (g ∷ []) gs)) (list_any (λ a. alias a g) before)
  where
    by : first_alias (before ++ g ∷ []) (gs ++ l ∷ []) ≡ or_name (first_alias (before ++ g ∷ []) gs) (last_alias (before ++ (g ∷ gs)) l) → (b : Bool)
        → (if b then Some g.need.name else first_alias (before ++ g ∷ []) (gs ++ l ∷ []))
        ≡ or_name (if b then Some g.need.name else first_alias (before ++ g ∷ []) gs) (last_alias (before ++ (g ∷ gs)) l)
    by e true = refl
    by e false = e

joined : (o next : Option Cause) (a b : Option ℕ) → as_refused o ≡ option_map (refused Alias) a → as_refused next ≡ option_map (refused Alias) b
    → as_refused (or_next o next) ≡ option_map (refused Alias) (or_name a b)
joined None next None b e f = f
joined None next (Some n) b e f = absurd cc
joined (Some c) next None b e f = absurd cc
joined (Some c) next (Some n) b e f = e

module _ (p : Planner) (s : ScriptState) (after : Jobs) (us : List NamedUse) (gs : List Given) (m : AreMeant p s after us gs) (u : NamedUse) (n : ℕ)
    (is : IsMeant p s after u (plain (length_value s n))) where
  abbrev l : Given
  l = length_value s n

  -- with the list as a value that is given to a parameter
  abbrev all : List Given
  all = gs ++ plain l ∷ []

  meant : AreMeant p s after (with_length us u) all
  meant = meant_more p s after us gs u (plain l) m is

  length_is : length_given u ≡ l
  length_is = λ i. record (is.given i) { is_length = true }

  any_same : (us : List NamedUse) (gs : List Given) → AreMeant p s after us gs
      → list_any (λ a. alias (given_of a) (length_given u)) us ≡ list_any (λ a. alias a l) gs
  any_same [] [] m = refl
  any_same [] (g ∷ gs) m = absurd m
  any_same (x ∷ us) [] m = absurd m
  any_same (x ∷ us) (g ∷ gs) m = let rest = any_same us gs m.1 in λ i. alias (m.0.given i) (length_is i) || rest i

  length_alias_is : as_refused (length_alias us u) ≡ option_map (refused Alias) (last_alias gs l)
  length_alias_is =
      ap (λ b. as_refused (if b then Some (record { refusal = Alias; name = u.name }) else None)) (any_same us gs m)
      ∙ by (list_any (λ a. alias a l) gs)
    where
      by : (b : Bool) → as_refused (if b then Some (record { refusal = Alias; name = u.name }) else None) ≡ option_map (refused Alias)
          (if b then Some l.need.name else None)
      by true = λ i. Some (refused Alias (is.given i).need.name)
      by false = refl

  deferred_alias_is : as_refused (deferred_alias us u) ≡ option_map (refused Alias) (first_alias [] (gs ++ l ∷ []))
  deferred_alias_is =
      joined (alias_of us) (length_alias us u) (first_alias [] gs) (last_alias gs l) (alias_is p s after [] us [] gs refl m) length_alias_is
      ∙ ap (option_map (refused Alias)) (sym (alias_last [] gs l))

  -- ---- all causes

  pub deferred_refusal_is : (parallel auto : Bool) (names : List ℕ) → after ≡ jobs_named s names
      → as_refused (deferred_refusal us u parallel auto) ≡ schedule_refusal s parallel auto (gs ++ l ∷ []) names
  deferred_refusal_is parallel auto names named =
      let are = names_same gs l in
      as_first _ _ (first_is p s after Disposed (has_cause parallel Disposed) (λ g. not (is_alive s (s.values g.need.name))) (disposed_is p s after)
      (with_length us u) all meant
      ∙ ap (option_map (refused Disposed)) (found_given (λ n. not (is_alive s (s.values n))) all)
      ∙ ap (λ ns. option_map (refused Disposed) (find (λ n. not (is_alive s (s.values n))) ns)) are) _ _ (λ none.
      let alive = all_alive s all (ap (find (λ n. not (is_alive s (s.values n)))) are ∙ none_named Disposed _ none) in
      as_first _ _ (first_alive p s after StaleView (has_cause parallel StaleView) (λ g. is_stale s (s.values g.need.name)) (stale_is p s after)
      (with_length us u) all meant alive
      ∙ ap (option_map (refused StaleView)) (found_given (λ n. is_stale s (s.values n)) all)
      ∙ ap (λ ns. option_map (refused StaleView) (find (λ n. is_stale s (s.values n)) ns)) are) _ _ (λ none.
      let fresh = all_fresh s all (ap (find (λ n. is_stale s (s.values n))) are ∙ none_named StaleView _ none) in
      as_first _ _ (first_is p s after NotParallel (has_cause parallel NotParallel) (λ g. parallel && (g.need.writes && is_shared g.kind))
      (λ u g m. λ i. parallel && ((m.given i).need.writes && is_shared (m.given i).kind)) (with_length us u) all meant
      ∙ ap (option_map (refused NotParallel)) (first_same (λ g. parallel && (g.need.writes && is_shared g.kind)) gs l refl)) _ _ (λ none.
      as_first _ _ (first_alive p s after TempInJob (has_cause parallel TempInJob) (λ g. is_temp (s.life g.need.container)) (λ u g m. m.temp)
      (with_length us u) all meant alive
      ∙ ap (option_map (refused TempInJob)) (first_same (λ g. is_temp (s.life g.need.container)) gs l refl)) _ _ (λ none.
      as_first _ _ deferred_alias_is _ _ (λ none.
      as_last _ _ (by auto alive fresh))))))
    where
      by : (b : Bool) → AreAlive s all → AreFresh s all → as_refused (if b then None else pending_of (with_length us u)) ≡
          (if b then None else pending s (jobs_named s names) (map (λ g. g.need) (gs ++ l ∷ [])))
      by true a f = refl
      by false a f =
          pending_is p s after (with_length us u) all meant a f
          ∙ ap (λ needs. pending s after needs) (needs_same gs l)
          ∙ ap (λ jobs. pending s jobs (map (λ g. g.need) (gs ++ l ∷ []))) named
