-- The uses that are noted of a job with a deferred length: none is an alias of another, and they are all that the script
-- notes.
use Rattle.std.proofs.Common.{◌≡◌, ℕ, Bool, true, false, ◌&&◌, ◌||◌, not, List, [], ◌∷◌, ◌++◌, Some, None, refl, sym, ap, subst, ◌∙◌}
use Rattle.std.specs.Prelude.{nat_eq, find, if◌then◌else◌}
use Rattle.std.proofs.lemmas.Bool.{eqb-true, eq-eqb}
use Rattle.frame_ast.specs.declared.kernel.Param.{Param}
use Rattle.frame_ast.specs.declared.script.Arg.{Arg}
use Rattle.frame_ast.specs.Conflicts.{Uses, blockers, blocking, uses_it, writes_it, with_uses}
use Rattle.frame_ast.specs.Effects.{all_broken, view_broken}
use Rattle.frame_ast.specs.Jobs.{Jobs, Book}
use Rattle.frame_ast.specs.Refusals.{schedule_refusal}
use Rattle.frame_ast.specs.Schedules.{Given, given_args, givens, is_list}
use Rattle.frame_ast.specs.States.{ScriptState, is_alive}
use Rattle.frame_ast.proofs.Scheduled.{no_cause_given}
use Rattle.frame_ast.proofs.Unshared.{written_arguments_are_unshared}
use Rattle.frame_core.proofs.Small.{not_both, or_false_left, or_false_right}
use Rattle.plan_state.specs.declared.state.Planner.{Planner}
use Rattle.plan_schedules.specs.declared.uses.NamedUse.{NamedUse}
use Rattle.plan_schedules.specs.Deferring.{with_length, has_container, noted_uses}
use Rattle.plan_schedules.proofs.Choosing.{AreAlive, all_alive}
use Rattle.plan_schedules.proofs.Deferred.Choosing.{names_same}
use Rattle.plan_schedules.proofs.Deferred.Meaning.{plain, length_value, meant_more}
use Rattle.plan_schedules.proofs.Meaning.{IsMeant, AreMeant}
use Rattle.plan_schedules.proofs.Notes.{needs, AreApart, args_apart}

-- the values of the schedule that are noted
abbrev pub noted_givens : List Given → Given → List Given
noted_givens gs l = if uses_it (needs gs) l.need.container then gs else gs ++ plain l ∷ []

-- ---- one value more, which is read

used_more : (gs : List Given) (l : Given) (c : ℕ) → uses_it (needs (gs ++ l ∷ [])) c ≡ (uses_it (needs gs) c || nat_eq c l.need.container)
used_more [] l c = by (nat_eq c l.need.container)
  where
    by : (b : Bool) → (b || false) ≡ b
    by true = refl
    by false = refl
used_more (g ∷ gs) l c = ap (λ b. nat_eq c g.need.container || b) (used_more gs l c)
    ∙ by (nat_eq c g.need.container) (uses_it (needs gs) c) (nat_eq c l.need.container)
  where
    by : (a b d : Bool) → (a || (b || d)) ≡ ((a || b) || d)
    by true b d = refl
    by false b d = refl

written_more : (gs : List Given) (l : Given) (c : ℕ) → l.need.writes ≡ false → writes_it (needs (gs ++ l ∷ [])) c ≡ writes_it (needs gs) c
written_more [] l c none = ap (λ w. (w && nat_eq c l.need.container) || false) none
written_more (g ∷ gs) l c none = ap (λ b. (g.need.writes && nat_eq c g.need.container) || b) (written_more gs l c none)

-- where no value is of its container, none is an alias of another
apart_more : (gs : List Given) (l : Given) → AreApart gs → l.need.writes ≡ false → uses_it (needs gs) l.need.container ≡ false → AreApart (gs ++ l ∷ [])
apart_more [] l a none un = (λ c here w. absurd (not_both w none), λ c here. refl, tt)
apart_more (g ∷ gs) l a none un =
    let first = or_false_left (nat_eq l.need.container g.need.container) (uses_it (needs gs) l.need.container) un in
    let rest = or_false_right (nat_eq l.need.container g.need.container) (uses_it (needs gs) l.need.container) un in
    let other : (c : ℕ) → nat_eq c g.need.container ≡ true → nat_eq c l.need.container ≡ false =
    λ c here. differ c (nat_eq c l.need.container) refl here first in (
      λ c here w. used_more gs l c ∙ (λ i. a.0 c here w i || other c here i),
      λ c here. written_more gs l c none ∙ a.1 c here,
      apart_more gs l a.2 none rest,
    )
  where
    differ : (c : ℕ) (b : Bool) → nat_eq c l.need.container ≡ b → nat_eq c g.need.container ≡ true → nat_eq l.need.container g.need.container ≡ false
        → b ≡ false
    differ c true e here first =
        let same : l.need.container ≡ g.need.container = sym (eqb-true c l.need.container e) ∙ eqb-true c g.need.container here in
        absurd (not_both (eq-eqb l.need.container g.need.container same) first)
    differ c false e here first = refl

-- ---- what the script notes

module _ (gs : List Given) (l : Given) (none : l.need.writes ≡ false) where
  abbrev all : List Given
  all = gs ++ l ∷ []

  -- whatever the length is counted as
  plain_uses : (c : ℕ) → uses_it (needs (gs ++ plain l ∷ [])) c ≡ uses_it (needs all) c
  plain_uses c = used_more gs (plain l) c ∙ sym (used_more gs l c)

  pub noted_used : (c : ℕ) → uses_it (needs (noted_givens gs l)) c ≡ uses_it (needs all) c
  noted_used c = by (uses_it (needs gs) l.need.container) refl
    where
      by : (b : Bool) → uses_it (needs gs) l.need.container ≡ b → uses_it (needs (if b then gs else gs ++ plain l ∷ [])) c ≡ uses_it (needs all) c
      by true e = same (uses_it (needs gs) c) refl (nat_eq c l.need.container) refl ∙ sym (used_more gs l c)
        where
          same : (a : Bool) → uses_it (needs gs) c ≡ a → (d : Bool) → nat_eq c l.need.container ≡ d → a ≡ (a || d)
          same true u d h = refl
          same false u false h = refl
          same false u true h = absurd (not_both (subst (λ c. uses_it (needs gs) c ≡ true) (sym (eqb-true c l.need.container h)) e) u)
      by false e = plain_uses c

  pub noted_written : (c : ℕ) → writes_it (needs (noted_givens gs l)) c ≡ writes_it (needs all) c
  noted_written c = by (uses_it (needs gs) l.need.container)
    where
      by : (b : Bool) → writes_it (needs (if b then gs else gs ++ plain l ∷ [])) c ≡ writes_it (needs all) c
      by true = sym (written_more gs l c none)
      by false = written_more gs (plain l) c none ∙ sym (written_more gs l c none)

  -- the uses afterwards
  pub noted_with_uses : (uses : ℕ → Uses) (job : ℕ) → with_uses uses job (needs (noted_givens gs l)) ≡ with_uses uses job (needs all)
  noted_with_uses uses job = λ i c. record {
    users = λ j. (uses c).users j || (nat_eq j job && noted_used c i);
    writers = λ j. (uses c).writers j || (nat_eq j job && noted_written c i);
  }

  -- what blocks none of all blocks none of these
  pub noted_open : (b : Book) (uses : ℕ → Uses) (deps : Jobs) (j : ℕ) → blocking b uses deps (needs all) j ≡ false
      → blocking b uses deps (needs (noted_givens gs l)) j ≡ false
  noted_open b uses deps j e = by (uses_it (needs gs) l.need.container)
    where
      first : (gs : List Given) → blocking b uses deps (needs (gs ++ l ∷ [])) j ≡ false → blocking b uses deps (needs gs) j ≡ false
      first [] e = refl
      first (g ∷ gs) e = λ i.
          or_false_left (blockers b (uses g.need.container) deps g.need.writes j) (blocking b uses deps (needs (gs ++ l ∷ [])) j) e i
          || first gs (or_false_right (blockers b (uses g.need.container) deps g.need.writes j) (blocking b uses deps (needs (gs ++ l ∷ [])) j) e) i

      same : (gs : List Given) → blocking b uses deps (needs (gs ++ plain l ∷ [])) j ≡ blocking b uses deps (needs (gs ++ l ∷ [])) j
      same [] = refl
      same (g ∷ gs) = ap (λ x. blockers b (uses g.need.container) deps g.need.writes j || x) (same gs)

      by : (x : Bool) → blocking b uses deps (needs (if x then gs else gs ++ plain l ∷ [])) j ≡ false
      by true = first gs e
      by false = same gs ∙ e

  -- and breaks no views
  pub noted_broken : (s : ScriptState) → all_broken (noted_givens gs l) s ≡ all_broken all s
  noted_broken s = by (uses_it (needs gs) l.need.container)
    where
      last : (k : Given) → k.need.writes ≡ false → (gs : List Given) (s : ScriptState) → all_broken (gs ++ k ∷ []) s ≡ all_broken gs s
      last k w [] s = ap (λ w. if is_list k.kind && w then view_broken k.need.container s else s) w ∙ none_of (is_list k.kind)
        where
          none_of : (b : Bool) → (if b && false then view_broken k.need.container s else s) ≡ s
          none_of true = refl
          none_of false = refl
      last k w (g ∷ gs) s = last k w gs (if is_list g.kind && g.need.writes then view_broken g.need.container s else s)

      by : (x : Bool) → all_broken (if x then gs else gs ++ plain l ∷ []) s ≡ all_broken all s
      by true = sym (last l none gs s)
      by false = last (plain l) none gs s ∙ sym (last l none gs s)

-- ---- the uses are these values

module _ (p : Planner) (s : ScriptState) (after : Jobs) (us : List NamedUse) (ps : List Param) (as_ : List Arg)
    (m : AreMeant p s after us (given_args s ps as_))
    (u : NamedUse) (list batch : ℕ) (is : IsMeant p s after u (plain (length_value s list)))
    (parallel auto : Bool) (names : List ℕ) (unrefused : schedule_refusal s parallel auto (givens s ps as_ (Some (list, batch))) names ≡ None) where
  abbrev gs : List Given
  gs = given_args s ps as_

  abbrev l : Given
  l = length_value s list

  same_containers : (us : List NamedUse) (gs : List Given) → AreMeant p s after us gs → (c : ℕ) → has_container us c ≡ uses_it (needs gs) c
  same_containers [] [] m c = refl
  same_containers [] (g ∷ more) m c = absurd m
  same_containers (x ∷ us) [] m c = absurd m
  same_containers (x ∷ us) (g ∷ more) m c = let rest = same_containers us more m.1 c in λ i. nat_eq c (m.0.given i).need.container || rest i

  same_test : has_container us u.container ≡ uses_it (needs gs) l.need.container
  same_test = same_containers us gs m u.container ∙ (λ i. uses_it (needs gs) (is.given i).need.container)

  pub noted_meant : AreMeant p s after (noted_uses us u) (noted_givens gs l)
  noted_meant =
      subst (λ b. AreMeant p s after (if b then us else with_length us u) (noted_givens gs l)) (sym same_test) (by (uses_it (needs gs) l.need.container))
    where
      by : (b : Bool) → AreMeant p s after (if b then us else with_length us u) (if b then gs else gs ++ plain l ∷ [])
      by true = m
      by false = meant_more p s after us gs u (plain l) m is

  pub all_alive_here : AreAlive s (gs ++ plain l ∷ [])
  all_alive_here =
      all_alive s (gs ++ plain l ∷ [])
      (ap (find (λ n. not (is_alive s (s.values n)))) (names_same gs l) ∙ (no_cause_given s parallel auto (gs ++ l ∷ []) names unrefused).alive)

  pub noted_alive : AreAlive s (noted_givens gs l)
  noted_alive = by (uses_it (needs gs) l.need.container)
    where
      first : (gs : List Given) (k : Given) → AreAlive s (gs ++ k ∷ []) → AreAlive s gs
      first [] k a = tt
      first (g ∷ gs) k a = (a.0, first gs k a.1)

      by : (b : Bool) → AreAlive s (if b then gs else gs ++ plain l ∷ [])
      by true = first gs (plain l) all_alive_here
      by false = all_alive_here

  pub noted_apart : AreApart (noted_givens gs l)
  noted_apart = by (uses_it (needs gs) l.need.container) refl
    where
      args : AreApart gs
      args = args_apart s ps as_ (written_arguments_are_unshared s ps as_ (Some (list, batch))
          (no_cause_given s parallel auto (gs ++ l ∷ []) names unrefused).alias)

      by : (b : Bool) → uses_it (needs gs) l.need.container ≡ b → AreApart (if b then gs else gs ++ plain l ∷ [])
      by true e = args
      by false e = apart_more gs (plain l) args refl e
