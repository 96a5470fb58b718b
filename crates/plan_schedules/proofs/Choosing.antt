-- Choosing the cause: what the uses of a schedule answer is why the script refuses it.
use Rattle.std.proofs.Common.{◌≡◌, ◌≢◌, ℕ, zero, suc, ◌<◌, ◌≤◌, Bool, true, false, ◌&&◌, ◌||◌, not, eq-eqb, ne_eqb, List, [], ◌∷◌, ◌++◌, map, Option, Some, None, refl, sym, ap, subst, ◌∙◌, arith}
use Rattle.std.specs.Prelude.{find, max, nat_eq, option_map, if◌then◌else◌}
use Rattle.std.specs.List.{list_any}
use Rattle.std.proofs.lemmas.Bool.{and_parts}
use Rattle.job_base.specs.declared.Refusal.{Refusal}
use Rattle.job_base.specs.declared.Refusal.TheVariants.{Disposed, StaleView, NotParallel, Alias, Pending, TempInJob}
use Rattle.frame_ast.specs.Conflicts.{Uses, Need, conflicts, blockers, blocker, blocking, name_in_conflict}
use Rattle.frame_ast.specs.Jobs.{Jobs, Book, greatest, happens_before}
use Rattle.frame_ast.specs.Lists.{first_some}
use Rattle.frame_ast.specs.Refusals.{Refused, refused, jobs_named, pending, pending_on, is_temp, first_given, schedule_refusal}
use Rattle.frame_ast.specs.Schedules.{Given, alias, first_alias, is_shared}
use Rattle.frame_ast.specs.States.{ScriptState, is_alive, is_stale}
use Rattle.frame_ast.proofs.Ancestry.{greatest_below, greatest_in, greatest_above}
use Rattle.frame_ast.proofs.GivenKinds.{none_found, none_named}
use Rattle.job_handle.specs.Sets.{job_numbered}
use Rattle.safety_handle.specs.declared.tag.Blocked.TheVariants.{Disposed as NotLive, StaleView as Broken}
use Rattle.safety_handle.specs.Checks as checks
use Rattle.frame_core.proofs.Small.{not_both}
use Rattle.plan_schedules.specs.declared.causes.Cause.{Cause}
use Rattle.plan_state.specs.declared.state.Planner.{Planner}
use Rattle.plan_schedules.specs.declared.uses.NamedUse.{NamedUse}
use Rattle.plan_schedules.specs.Uses.{given_of}
use Rattle.plan_schedules.specs.Causes.{is_disposed as blocked_as_disposed, is_stale as blocked_as_stale, blocker_number, has_cause, first_with, alias_after, alias_of, greatest_blocker, pending_of, or_next, refusal_by, as_refused}
use Rattle.plan_schedules.specs.Causes as causes
use Rattle.plan_schedules.proofs.Meaning.{IsMeant, AreMeant}

-- ---- sets of jobs

greatest_nobody : (n : ℕ) → greatest (λ j. false) n ≡ 0
greatest_nobody zero = refl
greatest_nobody (suc n) = greatest_nobody n

greatest_both : (a b : Jobs) (n : ℕ) → greatest (λ j. a j || b j) n ≡ max (greatest a n) (greatest b n)
greatest_both a b zero = omega arith
greatest_both a b (suc n) = by (a (suc n)) (b (suc n)) (greatest_both a b n) (greatest_below a n) (greatest_below b n)
  where
    by : (x y : Bool) → greatest (λ j. a j || b j) n ≡ max (greatest a n) (greatest b n) → greatest a n ≤ n → greatest b n ≤ n
        → (if x || y then suc n else greatest (λ j. a j || b j) n) ≡ max (if x then suc n else greatest a n) (if y then suc n else greatest b n)
    by true true e p q = omega arith
    by true false e p q = omega arith
    by false true e p q = omega arith
    by false false e p q = e

-- what blocks doesn't happen before
not_before : (b : Book) (uses : ℕ → Uses) (after : Jobs) (needs : List Need) (j : ℕ) → blocking b uses after needs j ≡ true → happens_before b after j ≡ false
not_before b uses after needs j h = by (happens_before b after j) refl
  where
    none : (needs : List Need) → happens_before b after j ≡ true → blocking b uses after needs j ≡ false
    none [] e = refl
    none (n ∷ more) e =
        let rest = none more e in
        let here : (x : Bool) → (x && not true) ≡ false = λ x. elim x as (λ x. (x && not true) ≡ false) [ true ↦ refl | false ↦ refl ] in
        (λ i. (conflicts (uses n.container) n.writes j && not (e i)) || rest i) ∙ ap (λ x. x || false) (here (conflicts (uses n.container) n.writes j))

    by : (x : Bool) → happens_before b after j ≡ x → happens_before b after j ≡ false
    by true e = absurd (not_both h (none needs e))
    by false e = e

-- ---- options

pub as_first : (o : Option Cause) (r : Option Refused) → as_refused o ≡ r → (next : Option Cause) (more : List (Option Refused))
    → (r ≡ None → as_refused next ≡ first_some more) → as_refused (or_next o next) ≡ first_some (r ∷ more)
unfolding first_some
as_first None None e next more h = h refl
as_first None (Some r) e next more h = absurd cc
as_first (Some c) None e next more h = absurd cc
as_first (Some c) (Some r) e next more h = e

pub as_last : (o : Option Cause) (r : Option Refused) → as_refused o ≡ r → as_refused o ≡ first_some (r ∷ [])
unfolding first_some
as_last None None e = refl
as_last None (Some r) e = absurd cc
as_last (Some c) None e = absurd cc
as_last (Some c) (Some r) e = e

pub found_given : (test : ℕ → Bool) (gs : List Given) → first_given (λ g. test g.need.name) gs ≡ find test (map (λ g. g.need.name) gs)
found_given test [] = refl
found_given test (g ∷ gs) = ap (λ o. if test g.need.name then Some g.need.name else o) (found_given test gs)

-- the container of each value is alive, and no view is stale

abbrev pub AreAlive : ScriptState → List Given → Type 0
AreAlive s [] = Unit {0}
AreAlive s (g ∷ gs) = (is_alive s (s.values g.need.name) ≡ true) × AreAlive s gs

abbrev pub AreFresh : ScriptState → List Given → Type 0
AreFresh s [] = Unit {0}
AreFresh s (g ∷ gs) = (is_stale s (s.values g.need.name) ≡ false) × AreFresh s gs

module _ (s : ScriptState) where
  pub all_alive : (gs : List Given) → find (λ n. not (is_alive s (s.values n))) (map (λ g. g.need.name) gs) ≡ None → AreAlive s gs
  all_alive [] e = tt
  all_alive (g ∷ gs) e =
      let f = none_found (λ n. not (is_alive s (s.values n))) g.need.name (map (λ g. g.need.name) gs) e in
      (by (is_alive s (s.values g.need.name)) f.0, all_alive gs f.1)
    where
      by : (b : Bool) → not b ≡ false → b ≡ true
      by true h = refl
      by false h = absurd cc

  pub all_fresh : (gs : List Given) → find (λ n. is_stale s (s.values n)) (map (λ g. g.need.name) gs) ≡ None → AreFresh s gs
  all_fresh [] e = tt
  all_fresh (g ∷ gs) e =
      let f = none_found (λ n. is_stale s (s.values n)) g.need.name (map (λ g. g.need.name) gs) e in
      (f.0, all_fresh gs f.1)

module _ (p : Planner) (s : ScriptState) (after : Jobs) where
  -- ---- a cause of one use

  module _ (cause : Refusal) (test : NamedUse → Bool) (is : Given → Bool) where
    first_step : (u : NamedUse) (us : List NamedUse) (g : Given) (gs : List Given) → u.name ≡ g.need.name → test u ≡ is g
        → as_refused (first_with cause test us) ≡ option_map (refused cause) (first_given is gs)
        → as_refused (first_with cause test (u ∷ us)) ≡ option_map (refused cause) (first_given is (g ∷ gs))
    first_step u us g gs named e rest =
        ap (λ b. as_refused (if b then Some (record { refusal = cause; name = u.name }) else first_with cause test us)) e
        ∙ by (is g)
      where
        by : (b : Bool) → as_refused (if b then Some (record { refusal = cause; name = u.name }) else first_with cause test us) ≡ option_map (refused cause)
            (if b then Some g.need.name else first_given is gs)
        by true = λ i. Some (refused cause (named i))
        by false = rest

    -- of any use
    pub first_is : ((u : NamedUse) (g : Given) → IsMeant p s after u g → test u ≡ is g) → (us : List NamedUse) (gs : List Given) → AreMeant p s after us gs
        → as_refused (first_with cause test us) ≡ option_map (refused cause) (first_given is gs)
    first_is each [] [] m = refl
    first_is each [] (g ∷ gs) m = absurd m
    first_is each (u ∷ us) [] m = absurd m
    first_is each (u ∷ us) (g ∷ gs) m = first_step u us g gs (λ i. (m.0.given i).need.name) (each u g m.0) (first_is each us gs m.1)

    -- of those whose containers are alive
    pub first_alive : ((u : NamedUse) (g : Given) → IsMeant p s after u g → is_alive s (s.values g.need.name) ≡ true → test u ≡ is g)
        → (us : List NamedUse) (gs : List Given) → AreMeant p s after us gs → AreAlive s gs
        → as_refused (first_with cause test us) ≡ option_map (refused cause) (first_given is gs)
    first_alive each [] [] m a = refl
    first_alive each [] (g ∷ gs) m a = absurd m
    first_alive each (u ∷ us) [] m a = absurd m
    first_alive each (u ∷ us) (g ∷ gs) m a = first_step u us g gs (λ i. (m.0.given i).need.name) (each u g m.0 a.0) (first_alive each us gs m.1 a.1)

  unblocked : (n : ℕ) → (blocked_as_disposed (checks.pending_on (job_numbered n)) ≡ false) × (blocked_as_stale (checks.pending_on (job_numbered n)) ≡ false)
  unblocked zero = (refl, refl)
  unblocked (suc n) = (refl, refl)

  pub disposed_is : (u : NamedUse) (g : Given) → IsMeant p s after u g → has_cause false Disposed u ≡ not (is_alive s (s.values g.need.name))
  disposed_is u g m =
      ap blocked_as_disposed m.blocked
      ∙ by (is_alive s (s.values g.need.name)) (is_stale s (s.values g.need.name)) (blocker s.book (s.uses g.need.container) after g.need.writes)
    where
      by : (a o : Bool) (n : ℕ) → blocked_as_disposed (if not a then Some NotLive else (if o then Some Broken else checks.pending_on (job_numbered n))) ≡ not a
      by false o n = refl
      by true true n = refl
      by true false n = (unblocked n).0

  pub stale_is : (u : NamedUse) (g : Given) → IsMeant p s after u g → is_alive s (s.values g.need.name) ≡ true
      → has_cause false StaleView u ≡ is_stale s (s.values g.need.name)
  stale_is u g m alive =
      ap blocked_as_stale m.blocked
      ∙ ap (λ a. blocked_as_stale (if not a then Some NotLive else (if is_stale s (s.values g.need.name) then Some Broken else checks.pending_on
      (job_numbered (blocker s.book (s.uses g.need.container) after g.need.writes))))) alive
      ∙ by (is_stale s (s.values g.need.name)) (blocker s.book (s.uses g.need.container) after g.need.writes)
    where
      by : (o : Bool) (n : ℕ) → blocked_as_stale (if o then Some Broken else checks.pending_on (job_numbered n)) ≡ o
      by true n = refl
      by false n = (unblocked n).1

  -- ---- aliases

  pub alias_is : (before us : List NamedUse) (done gs : List Given) → map given_of before ≡ done → AreMeant p s after us gs
      → as_refused (alias_after before us) ≡ option_map (refused Alias) (first_alias done gs)
  alias_is before [] done [] e m = refl
  alias_is before [] done (g ∷ gs) e m = absurd m
  alias_is before (u ∷ us) done [] e m = absurd m
  alias_is before (u ∷ us) done (g ∷ gs) e m =
      ap (λ b. as_refused (if b then Some (record { refusal = Alias; name = u.name }) else alias_after (before ++ u ∷ []) us)) same
      ∙ by (λ more. alias_is (before ++ u ∷ []) us (done ++ g ∷ []) gs more m.1) (list_any (λ a. alias a g) done)
    where
      any_given : (us : List NamedUse) (g : Given) → list_any (λ a. alias (given_of a) g) us ≡ list_any (λ a. alias a g) (map given_of us)
      any_given [] g = refl
      any_given (x ∷ us) g = ap (λ b. alias (given_of x) g || b) (any_given us g)

      same : list_any (λ a. alias (given_of a) (given_of u)) before ≡ list_any (λ a. alias a g) done
      same = any_given before (given_of u) ∙ (λ i. list_any (λ a. alias a (m.0.given i)) (e i))

      more : map given_of (before ++ u ∷ []) ≡ done ++ g ∷ []
      more = both before ∙ (λ i. e i ++ m.0.given i ∷ [])
        where
          both : (xs : List NamedUse) → map given_of (xs ++ u ∷ []) ≡ map given_of xs ++ given_of u ∷ []
          both [] = refl
          both (x ∷ xs) = ap (λ ys. given_of x ∷ ys) (both xs)

      by : (map given_of (before ++ u ∷ []) ≡ done ++ g ∷ [] → as_refused (alias_after (before ++ u ∷ []) us) ≡ option_map (refused Alias)
          (first_alias (done ++ g ∷ []) gs)) → (b : Bool)
          → as_refused (if b then Some (record { refusal = Alias; name = u.name }) else alias_after (before ++ u ∷ []) us) ≡ option_map (refused Alias)
          (if b then Some g.need.name else first_alias (done ++ g ∷ []) gs)
      by rest true = λ i. Some (refused Alias (m.0.given i).need.name)
      by rest false = rest more

  -- ---- jobs that block

  blocker_is : (u : NamedUse) (g : Given) → IsMeant p s after u g → is_alive s (s.values g.need.name) ≡ true → is_stale s (s.values g.need.name) ≡ false
      → blocker_number u.blocked ≡ blocker s.book (s.uses g.need.container) after g.need.writes
  blocker_is u g m alive fresh =
      ap blocker_number m.blocked
      ∙ (λ i. blocker_number (if not (alive i) then Some NotLive else (if fresh i then Some Broken else checks.pending_on
      (job_numbered (blocker s.book (s.uses g.need.container) after g.need.writes)))))
      ∙ by (blocker s.book (s.uses g.need.container) after g.need.writes)
    where
      by : (n : ℕ) → blocker_number (checks.pending_on (job_numbered n)) ≡ n
      by zero = refl
      by (suc n) = refl

  abbrev pub needs_of : List Given → List Need
  needs_of gs = map (λ g. g.need) gs

  number_is : (us : List NamedUse) (gs : List Given) → AreMeant p s after us gs → AreAlive s gs → AreFresh s gs
      → greatest_blocker us ≡ greatest (blocking s.book s.uses after (needs_of gs)) s.book.count
  number_is [] [] m a f = sym (greatest_nobody s.book.count)
  number_is [] (g ∷ gs) m a f = absurd m
  number_is (u ∷ us) [] m a f = absurd m
  number_is (u ∷ us) (g ∷ gs) m a f =
      (λ i. max (blocker_is u g m.0 a.0 f.0 i) (number_is us gs m.1 a.1 f.1 i))
      ∙ sym (greatest_both (blockers s.book (s.uses g.need.container) after g.need.writes) (blocking s.book s.uses after (needs_of gs)) s.book.count)

  -- of the greatest job that blocks, the uses that it blocks are those in conflict
  module _ (j : ℕ) (open_ : happens_before s.book after (suc j) ≡ false) (le : suc j ≤ s.book.count) where
    agrees : (u : Uses) (writes : Bool) (n : ℕ) → n ≡ blocker s.book u after writes → n ≤ suc j → nat_eq n (suc j) ≡ conflicts u writes (suc j)
    agrees u writes n e low = by (conflicts u writes (suc j)) refl
      where
        by : (b : Bool) → conflicts u writes (suc j) ≡ b → nat_eq n (suc j) ≡ conflicts u writes (suc j)
        by true c =
            let is : blockers s.book u after writes (suc j) ≡ true = (λ i. c i && not (open_ i)) in
            let up = greatest_above (blockers s.book u after writes) s.book.count (suc j) le is in
            let same : n ≡ suc j = omega arith in
            eq-eqb n (suc j) same ∙ sym c
        by false c =
            let ne : n ≢ suc j = λ same.
            let pos : 0 < blocker s.book u after writes = omega arith in
            let is = greatest_in (blockers s.book u after writes) s.book.count pos in
            let here : blockers s.book u after writes (suc j) ≡ true = subst (λ k. blockers s.book u after writes k ≡ true) (sym e ∙ same) is in
            not_both (and_parts (conflicts u writes (suc j)) (not (happens_before s.book after (suc j))) here).0 c in
            ne_eqb n (suc j) ne ∙ sym c

    abbrev cause : Refusal
    cause = Pending (record { 0 = suc j })

    first_in : (us : List NamedUse) (gs : List Given) → AreMeant p s after us gs → AreAlive s gs → AreFresh s gs → greatest_blocker us ≡ suc j
        → as_refused (first_with cause (has_cause false cause) us) ≡ Some (refused cause (name_in_conflict s.uses (needs_of gs) (suc j)))
    first_in [] [] m a f e = absurd (omega arith)
    first_in [] (g ∷ gs) m a f e = absurd m
    first_in (u ∷ us) [] m a f e = absurd m
    first_in (u ∷ us) (g ∷ gs) m a f e =
        let b = blocker_is u g m.0 a.0 f.0 in
        let low : blocker_number u.blocked ≤ suc j = omega arith in
        let test = agrees (s.uses g.need.container) g.need.writes (blocker_number u.blocked) b low in
        ap (λ t. as_refused (if t then Some (record { refusal = cause; name = u.name }) else first_with cause (has_cause false cause) us)) test
        ∙ by (λ e. first_in us gs m.1 a.1 f.1 e) (conflicts (s.uses g.need.container) g.need.writes (suc j)) test
      where
        by : (greatest_blocker us ≡ suc j → as_refused (first_with cause (has_cause false cause) us) ≡ Some
            (refused cause (name_in_conflict s.uses (needs_of gs) (suc j)))) → (t : Bool) → nat_eq (blocker_number u.blocked) (suc j) ≡ t
            → as_refused (if t then Some (record { refusal = cause; name = u.name }) else first_with cause (has_cause false cause) us)
            ≡ Some (refused cause (if t then g.need.name else name_in_conflict s.uses (needs_of gs) (suc j)))
        by rest true h = λ i. Some (refused cause (m.0.given i).need.name)
        by rest false h =
            let ne : blocker_number u.blocked ≢ suc j = λ same. not_both (eq-eqb (blocker_number u.blocked) (suc j) same) h in
            rest (omega arith)

  pub pending_is : (us : List NamedUse) (gs : List Given) → AreMeant p s after us gs → AreAlive s gs → AreFresh s gs
      → as_refused (pending_of us) ≡ pending s after (needs_of gs)
  pending_is us gs m a f = by (greatest_blocker us) refl ∙ ap (pending_on s.uses (needs_of gs)) (number_is us gs m a f)
    where
      by : (n : ℕ) → greatest_blocker us ≡ n → as_refused (causes.pending_on us n) ≡ pending_on s.uses (needs_of gs) n
      by zero e = refl
      by (suc j) e =
          let set = blocking s.book s.uses after (needs_of gs) in
          let is : greatest set s.book.count ≡ suc j = sym (number_is us gs m a f) ∙ e in
          let below = greatest_below set s.book.count in
          let has : set (suc j) ≡ true = subst (λ k. set k ≡ true) is (greatest_in set s.book.count (omega arith)) in
          first_in j (not_before s.book s.uses after (needs_of gs) (suc j) has) (omega arith) us gs m a f e

  -- ---- all causes

  pub refusal_is : (us : List NamedUse) (gs : List Given) → AreMeant p s after us gs → (parallel auto : Bool) (names : List ℕ) → after ≡ jobs_named s names
      → as_refused (refusal_by us parallel auto) ≡ schedule_refusal s parallel auto gs names
  refusal_is us gs m parallel auto names named =
      as_first _ _ (first_is Disposed (has_cause parallel Disposed) (λ g. not (is_alive s (s.values g.need.name))) disposed_is us gs m
      ∙ ap (option_map (refused Disposed)) (found_given (λ n. not (is_alive s (s.values n))) gs)) _ _ (λ none.
      let alive = all_alive s gs (none_named Disposed _ none) in
      as_first _ _ (first_alive StaleView (has_cause parallel StaleView) (λ g. is_stale s (s.values g.need.name)) stale_is us gs m alive
      ∙ ap (option_map (refused StaleView)) (found_given (λ n. is_stale s (s.values n)) gs)) _ _ (λ none.
      let fresh = all_fresh s gs (none_named StaleView _ none) in
      as_first _ _ (first_is NotParallel (has_cause parallel NotParallel) (λ g. parallel && (g.need.writes && is_shared g.kind))
      (λ u g m. λ i. parallel && ((m.given i).need.writes && is_shared (m.given i).kind)) us gs m) _ _ (λ none.
      as_first _ _ (first_alive TempInJob (has_cause parallel TempInJob) (λ g. is_temp (s.life g.need.container)) (λ u g m. m.temp) us gs m alive) _ _ (λ none.
      as_first _ _ (alias_is [] us [] gs refl m) _ _ (λ none.
      as_last _ _ (by auto alive fresh))))))
    where
      by : (b : Bool) → AreAlive s gs → AreFresh s gs → as_refused (if b then None else pending_of us) ≡
          (if b then None else pending s (jobs_named s names) (needs_of gs))
      by true a f = refl
      by false a f = pending_is us gs m a f ∙ ap (λ jobs. pending s jobs (needs_of gs)) named
