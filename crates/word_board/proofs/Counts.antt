-- Counts and releases keep the rule.
use Rattle.std.proofs.Common.{◌≡◌, ◌≢◌, ℕ, zero, suc, ◌+◌, ◌%◌, ◌<◌, ◌≤◌, ◌⊎◌, inl, inr, ⊎_elim, Bool, true, false, cond, ◌&&◌, eqb, ltb, lt-ltb, eq-eqb, ne_eqb, List, [], ◌∷◌, ◌++◌, map, length, get_or, set, refl, sym, ap, subst, ◌∙◌, arith, Option, Some, None}
use Rattle.std.specs.Prelude.{slice_get}
use mathlib.Core.Logic.{dite}
use mathlib.Core.Option.{none}
use native.Mathlib.Decide.{ℕ_discrete}
use Rattle.atomic_table.specs.Table.{Me, step, keeps, Allows}
use Rattle.merge_laws.specs.Numbers.{has, numbers_of}
use Rattle.merge_laws.specs.Claims.{Claims, total, owes, owed_for, dues, has_segment_duty}
use Rattle.merge_laws.specs.Countdowns.{unfinished, unended_parts}
use Rattle.merge_laws.specs.CountSteps.{ChangesWord}
use Rattle.merge_laws.specs.BoardSteps.{IsCount, IsRelease, counts, releases}
use Rattle.merge_laws.proofs.Sums.{numbers_come, numbers_stay, numbers_only}
use Rattle.frame_core.specs.declared.plan.Plan.{Plan}
use Rattle.frame_core.specs.Names.{has_job, deps_in, job_at}
use Rattle.frame_core.specs.Graphs.{jobs_of}
use Rattle.frame_core.specs.Know.{piece_count, is_of}
use Rattle.frame_core.specs.Laws.{IsNamed}
use Rattle.frame_core.proofs.Small.{some_is, none_some}
use Rattle.frame_core.proofs.Planned.{pieces_are_named}
use Rattle.word_board.specs.declared.view.View.{View}
use Rattle.word_board.specs.Words.{rest_base, wait_base, rest_word, wait_word, rests_in, waits_in}
use Rattle.word_board.specs.Views.{places, claims, owed_place, dues_on, duties_in, with_followers, counted_view, released_view}
use Rattle.word_board.specs.Rule.{states_at, moment, Holds}
use Rattle.word_board.proofs.Leases.{states_stay}
use Rattle.word_board.specs.Plays.{Counts as CountPlay, Releases as ReleasePlay}
use Rattle.word_board.proofs.Lists.{window_at}
use Rattle.word_board.proofs.Showing.{lease_kept, claims_at, claims_changed, states_far, cells_far, rests_far, waits_far, rests_put, waits_put, step_kept}
use Rattle.frame_core.proofs.Standing.{place_low_too, part_there, IsPart, part_is}
use Rattle.frame_core.proofs.Boards.{is_of_job, job_of_is, jobs_are, dependency_is}
use Rattle.word_board.proofs.Claiming.{duties_are, without_here, without_there, without_segments, followers_none, followers_one, followers_segments, right_there, IsRight, right_of}

pub total_at : (f : Claims → ℕ) (cs : List Claims) (k : ℕ) (v : Claims) → slice_get cs k ≡ Some v → f v ≤ total f cs
total_at f [] k v e = absurd (none_some e)
total_at f (x ∷ xs) zero v e = let same : f x ≡ f v = ap f (some_is e) in omega arith
total_at f (x ∷ xs) (suc k) v e = let r = total_at f xs k v e in omega arith

one_less : (n m : ℕ) → n ≡ suc m → n < 18446744073709551616 → (n + 18446744073709551615) % 18446744073709551616 ≡ m
one_less n m e lt = omega arith

pred_of : (n : ℕ) → 0 < n → (m : ℕ) × (n ≡ suc m)
pred_of zero h = absurd (omega arith)
pred_of (suc n) h = (n, refl)

below_of : (a b : ℕ) → ltb a b ≡ true → a < b
below_of a b t = Rattle.std.proofs.Common.ltb-true a b t

-- THE RIGHTS THAT A LAST RELEASE BRINGS

module _ (plan : Plan) (named : IsNamed plan) (j : ℕ) (rights : List ℕ) where
  -- the pieces of the job
  abbrev own : List ℕ
  own = numbers_of (λ p. is_of plan (suc j) p) (piece_count plan)

  right_stays : (q : ℕ) → IsRight plan q rights → has q (places plan (own ++ rights)) ≡ true
  right_stays q r = ap (λ y. has y (places plan (own ++ rights))) r.place
      ∙ right_there plan r.number (own ++ rights) r.below (numbers_stay (λ p. is_of plan (suc j) p) (piece_count plan) r.number rights r.right)

  right_comes : (q : ℕ) → IsPart plan named q j → has q (places plan (own ++ rights)) ≡ true
  right_comes q r = ap (λ y. has y (places plan (own ++ rights))) r.place
      ∙ right_there plan r.number (own ++ rights) r.below (numbers_come (λ p. is_of plan (suc j) p) (piece_count plan) r.number rights r.below
      (is_of_job plan j r.part r.number r.is))

  right_only : (q : ℕ) → IsRight plan q (own ++ rights) → (has q (places plan rights) ≡ true)
      ⊎ ((q < (jobs_of plan).pieces) × ((jobs_of plan).is_part q j ≡ true))
  right_only q r = ⊎_elim
      (λ old. inl (ap (λ y. has y (places plan rights)) r.place ∙ right_there plan r.number rights r.below old))
      (λ new. let o = job_of_is plan j r.number new.1 in inr (
        subst (λ y. y < (jobs_of plan).pieces) (sym r.place) (place_low_too plan named r.number r.below),
        ap (λ y. (jobs_of plan).is_part y j) r.place ∙ part_there plan named r.number r.below j o.0 o.1,
      ))
      (numbers_only (λ p. is_of plan (suc j) p) (piece_count plan) r.number rights r.right)

module _ (slots id : ℕ) (me : Me ℕ View) (j : ℕ) where
  abbrev plan : Plan
  plan = me.0.plan

  pub allows_count : j < length plan.jobs.items → me.0.owed ≡ Some (suc j)
      → Allows (Holds plan) slots id me (rest_word plan j) (λ n. (n + 18446744073709551615) % 18446744073709551616)
      (CountPlay (step slots (rest_word plan j) 1 0 none) me)
  allows_count low owed s H len at fits =
      let i : ℕ = rest_word plan j in
      let n : ℕ = get_or s.words i 0 in
      let v : Claims = claims plan me.0 in
      let new : View = counted_view me.0 (suc j) (eqb n 1) i n in
      let w : Claims = claims plan new in
      let cs : List Claims = map (claims plan) s.views in
      let mine : slice_get cs id ≡ Some v = claims_at plan s.views id me.0 new at in
      let rest_is : rests_in plan s.words j ≡ n = window_at s.words (rest_base plan) (length plan.jobs.items) j low in
      let in_plan : j < (jobs_of plan).jobs = subst (λ k. j < k) (sym (jobs_are plan)) low in
      let owed_is : owed_place me.0.owed ≡ Some j = ap owed_place owed in
      let one : owes j v ≡ 1 = ap (owed_for j) owed_is ∙ ap (λ (b : Bool). cond b 1 0) (eq-eqb j j refl) in
      let some_owed = total_at (owes j) cs id v mine in
      let left : ℕ = unended_parts (jobs_of plan) (states_at plan s) j in
      let c : rests_in plan s.words j ≡ left + total (owes j) cs = H.ruled.exact.rest_is j in_plan in
      let pre = pred_of n (omega arith) in
      let m : ℕ = pre.0 in
      let is : n ≡ suc m = pre.1 in
      let x : ℕ = (n + 18446744073709551615) % 18446744073709551616 in
      let xm : x ≡ m = one_less n m is fits in
      let put : ChangesWord (rests_in plan s.words) (rests_in plan (set s.words i x)) j x = rests_put plan s.words H.size j x low in
      let many : ℕ = length plan.jobs.items in
      let last_duties : m ≡ 0 → new.duties ≡ with_followers plan (suc j) many me.0.duties = λ z.
      ap (λ (b : Bool). cond b (with_followers plan (suc j) many me.0.duties) me.0.duties) (eq-eqb n 1 (omega arith)) in
      let more_duties : m ≢ 0 → new.duties ≡ me.0.duties = λ ne.
      ap (λ (b : Bool). cond b (with_followers plan (suc j) many me.0.duties) me.0.duties) (ne_eqb n 1 (λ e. ne (omega arith))) in
      let C : IsCount (jobs_of plan) (moment plan s) (moment plan record { words = set s.words i x; homes = s.homes; views = set s.views id new }) id = record {
        job = j;
        was = v;
        now = w;
        claims = record { was = mine; now = claims_changed plan s.views id me.0 new at };
        falls = record {
          job = in_plan;
          was = owed_is;
          now = refl;
          remaining = m;
          found = rest_is ∙ is;
          rests = record { here = put.here ∙ xm; there = put.there };
          not_last = λ ne. ap duties_in (more_duties ne);
          last = λ z. record {
            more = λ d lt t. let dep : has_job (deps_in (job_at plan d)) (suc j) ≡ true =
                (Rattle.std.proofs.lemmas.Bool.and_parts (ltb j many) (has_job (deps_in (job_at plan d)) (suc j)) (sym (dependency_is plan j d) ∙ t)).1 in
                duties_are d new.duties ∙ (ap (λ l. dues_on l (suc d)) (last_duties z)
                ∙ (followers_one plan (suc j) me.0.duties many d (subst (λ k. d < k) (jobs_are plan) lt) dep ∙ ap suc (sym (duties_are d me.0.duties))));
            same = λ d lt t. let dep : has_job (deps_in (job_at plan d)) (suc j) ≡ false =
                sym (ap (λ (b : Bool). b && has_job (deps_in (job_at plan d)) (suc j)) (lt-ltb j many low)) ∙ (sym (dependency_is plan j d) ∙ t) in
                duties_are d new.duties ∙ (ap (λ l. dues_on l (suc d)) (last_duties z)
                ∙ (followers_none plan (suc j) me.0.duties many d (inr dep) ∙ sym (duties_are d me.0.duties)));
          };
          segment_duties = λ t. dite (ℕ_discrete m 0)
              (λ z. sym (followers_segments plan (suc j) me.0.duties many) ∙ (sym (ap (λ l. has_segment_duty (duties_in l)) (last_duties z)) ∙ t))
              (λ ne. sym (ap (λ l. has_segment_duty (duties_in l)) (more_duties ne)) ∙ t);
          rights = refl;
          seen = refl;
          segments = record { number = refl; spent = refl; ended = refl; opened = refl };
        };
        core = record {
          state = states_stay plan s id me.0 new at (set s.words i x) (states_far plan s.words i x (inr (omega arith))) (λ q. refl);
          cells = cells_far plan s.words i x (omega arith);
          lease = lease_kept plan s.views id me.0 new at refl;
        };
        wait = waits_far plan s.words i x (omega arith);
      } in (
        new,
        keeps,
        tt,
        step_kept plan s H id me.0 new at refl i x (counts id C),
        λ q e. let jq : j ≡ q = omega arith in ap (λ (y : ℕ). (counted_view me.0 (suc y) (eqb n 1) i n, me.1)) jq,
      )

  pub allows_release : j < length plan.jobs.items → 0 < dues_on me.0.duties (suc j)
      → Allows (Holds plan) slots id me (wait_word plan j) (λ n. (n + 18446744073709551615) % 18446744073709551616)
      (ReleasePlay (step slots (wait_word plan j) 1 0 none) me)
  allows_release low due s H len at fits =
      let i : ℕ = wait_word plan j in
      let n : ℕ = get_or s.words i 0 in
      let v : Claims = claims plan me.0 in
      let new : View = released_view me.0 (suc j) (eqb n 1) i n in
      let w : Claims = claims plan new in
      let cs : List Claims = map (claims plan) s.views in
      let named : IsNamed plan = pieces_are_named plan H.well in
      let mine : slice_get cs id ≡ Some v = claims_at plan s.views id me.0 new at in
      let wait_is : waits_in plan s.words j ≡ n = window_at s.words (wait_base plan) (length plan.jobs.items) j low in
      let in_plan : j < (jobs_of plan).jobs = subst (λ k. j < k) (sym (jobs_are plan)) low in
      let due' : dues j v ≡ dues_on me.0.duties (suc j) = duties_are j me.0.duties in
      let some_due = total_at (dues j) cs id v mine in
      let U : ℕ = unfinished (jobs_of plan) (states_at plan s) (rests_in plan s.words) j in
      let c : waits_in plan s.words j ≡ U + total (dues j) cs = H.ruled.exact.wait_is j in_plan in
      let pre = pred_of n (omega arith) in
      let m : ℕ = pre.0 in
      let is : n ≡ suc m = pre.1 in
      let x : ℕ = (n + 18446744073709551615) % 18446744073709551616 in
      let xm : x ≡ m = one_less n m is fits in
      let put : ChangesWord (waits_in plan s.words) (waits_in plan (set s.words i x)) j x = waits_put plan s.words H.size j x low in
      let many : ℕ = piece_count plan in
      let own : List ℕ = numbers_of (λ p. is_of plan (suc j) p) many in
      let got : m ≡ 0 → new.rights ≡ own ++ me.0.rights = λ z. ap (λ (b : Bool). cond b (own ++ me.0.rights) me.0.rights) (eq-eqb n 1 (omega arith)) in
      let kept : m ≢ 0 → new.rights ≡ me.0.rights = λ ne. ap (λ (b : Bool). cond b (own ++ me.0.rights) me.0.rights) (ne_eqb n 1 (λ e. ne (omega arith))) in
      let R : IsRelease (jobs_of plan) (moment plan s) (moment plan record { words = set s.words i x; homes = s.homes; views = set s.views id new }) id =
      record {
        job = j;
        was = v;
        now = w;
        claims = record { was = mine; now = claims_changed plan s.views id me.0 new at };
        falls = record {
          job = in_plan;
          duty_gone = due' ∙ (without_here (suc j) me.0.duties due ∙ ap suc (sym (duties_are j new.duties)));
          duties_stay = λ k ne. duties_are k new.duties ∙ (without_there (suc k) (suc j) me.0.duties (λ e. ne (omega arith)) ∙ sym (duties_are k me.0.duties));
          segment_duties = without_segments (suc j) me.0.duties;
          remaining = m;
          found = wait_is ∙ is;
          waits = record { here = put.here ∙ xm; there = put.there };
          owed = refl;
          not_last = λ ne. ap (places plan) (kept ne);
          rights_stay = λ q t. dite (ℕ_discrete m 0)
              (λ z. ap (λ l. has q (places plan l)) (got z) ∙ right_stays plan named j me.0.rights q (right_of plan q me.0.rights t))
              (λ ne. ap (λ l. has q (places plan l)) (kept ne) ∙ t);
          rights_come = λ z q lt t. ap (λ l. has q (places plan l)) (got z) ∙ right_comes plan named j me.0.rights q (part_is plan named q j t);
          rights_only = λ z q t. right_only plan named j me.0.rights q (right_of plan q (own ++ me.0.rights)
              (sym (ap (λ l. has q (places plan l)) (got z)) ∙ t));
          seen = refl;
          segments = record { number = refl; spent = refl; ended = refl; opened = refl };
        };
        core = record {
          state = states_stay plan s id me.0 new at (set s.words i x) (states_far plan s.words i x (inr (omega arith))) (λ q. refl);
          cells = cells_far plan s.words i x (omega arith);
          lease = lease_kept plan s.views id me.0 new at refl;
        };
        rest = rests_far plan s.words i x (inr (omega arith));
      } in (
        new,
        keeps,
        tt,
        step_kept plan s H id me.0 new at refl i x (releases id R),
        λ q e. let jq : j ≡ q = omega arith in ap (λ (y : ℕ). (released_view me.0 (suc y) (eqb n 1) i n, me.1)) jq,
      )
