-- The levels as segment after segment is gone through.
use Rattle.std.proofs.Common.{◌≡◌, ℕ, zero, suc, ◌+◌, ◌-◌, ◌<◌, ◌≤◌, ◌⊎◌, inl, inr, ⊎_elim, Bool, true, false, ◌||◌, eqb, eq-eqb, eqb-true, List, [], ◌∷◌, ◌++◌, length, get_or, drop, drop-cons, length-append, ◌^◌, Option, Some, None, refl, sym, ap, subst, ◌∙◌, arith}
use Rattle.std.specs.Prelude.{slice_get}
use Rattle.std.proofs.lemmas.Bool.{cases_lt, or_cases}
use Rattle.std.proofs.lemmas.Option.{slice_get_read}
use Rattle.job_base.specs.declared.JobId.{JobId}
use Rattle.frame_core.specs.declared.plan.JobPlan.{JobPlan}
use Rattle.frame_core.specs.declared.plan.Segment.{Segment}
use Rattle.frame_core.specs.declared.plan.Plan.{Plan}
use Rattle.frame_core.specs.Names.{has_job, is_job, deps_in, waits_in, starts_in, job_at, segment_at}
use Rattle.frame_core.specs.Pieces.{starter_of}
use Rattle.frame_core.specs.Ordered.{IsWellOrderedPlan}
use Rattle.frame_core.proofs.Small.{not_both}
use Rattle.frame_core.proofs.Starting.{started_within}
use Rattle.frame_core.proofs.Orders.{starter_below, starter_starts, starter_alone}
use Rattle.frame_core.proofs.Graphing.{has_plan}
use Rattle.frame_core.proofs.Planned.{has_kernel}
use Rattle.job_depth.specs.declared.levels.Best.{Best}
use Rattle.job_depth.specs.Direct.{is_awaited, is_direct, level_of, number_of, better, best_among, nothing, AreWithin, IsBest, IsFound, AreFound}
use Rattle.job_depth.proofs.Earlier.{has_within, starter_le, dep_earlier, wait_job, wait_earlier}
use Rattle.job_depth.proofs.Passing.{awaited_at}
use Rattle.job_depth.proofs.Bests.{best_none, best_same, best_stays, best_of_list}

-- the levels of the jobs that the first segments start
pub record IsSoFar (plan : Plan) (levels : List ℕ) (before : List (Option JobId)) (awaited : Best) (k : ℕ) : Type 0 where
  pub few : length levels ≤ length plan.jobs.items
  pub same : length before ≡ length levels
  pub below : (j : ℕ) → j < length levels → starter_of plan j < k
  pub above : (j : ℕ) → length levels ≤ j → j < length plan.jobs.items → k ≤ starter_of plan j
  pub best : IsBest levels (is_awaited plan k) awaited
  pub each : (j : ℕ) → j < length levels → IsFound plan levels before j
  pub small : (j : ℕ) → j < length levels → get_or levels j 0 ≤ suc j

get_front : {A : Type 0} (d : A) (xs : List A) (x : A) (j : ℕ) → j < length xs → get_or (xs ++ x ∷ []) j d ≡ get_or xs j d
get_front d [] x j lt = absurd (omega arith)
get_front d (y ∷ ys) x zero lt = refl
get_front d (y ∷ ys) x (suc j) lt = get_front d ys x j (omega arith)

get_last : {A : Type 0} (d : A) (xs : List A) (x : A) → get_or (xs ++ x ∷ []) (length xs) d ≡ x
get_last d [] x = refl
get_last d (y ∷ ys) x = get_last d ys x

pub within_by : (m : ℕ) (ids : List JobId) → ((n : ℕ) → has_job ids n ≡ true → (0 < n) × (n ≤ m)) → AreWithin m ids
within_by m [] h = tt
within_by m (id ∷ more) h =
    let a = h id.0 (ap (λ x. x || has_job more id.0) (eq-eqb id.0 id.0 refl)) in
    (a.0, a.1, within_by m more (λ n t. h n (right (eqb id.0 n) (has_job more n) t)))
  where
    right : (x y : Bool) → y ≡ true → (x || y) ≡ true
    right true y t = refl
    right false y t = t

pub so_far_none : (plan : Plan) → IsSoFar plan [] [] nothing 0
so_far_none plan = record {
  few = omega arith;
  same = refl;
  below = λ j lt. absurd (omega arith);
  above = λ j le lt. omega arith;
  best = best_none [] (is_awaited plan 0) (λ n. refl);
  each = λ j lt. absurd (omega arith);
  small = λ j lt. absurd (omega arith);
}

module _ (plan : Plan) (well : IsWellOrderedPlan plan) where
  abbrev jobs : ℕ
  jobs = length plan.jobs.items

  -- what a segment waits for was started before it
  wait_before : (l n : ℕ) → has_job (waits_in (segment_at plan l)) n ≡ true → (d : ℕ) × (n ≡ suc d) × (d < jobs) × (starter_of plan d < l)
  wait_before l zero t = let r = (wait_job plan well l 0 t).0 in absurd (omega arith)
  wait_before l (suc d) t = let r = (wait_job plan well l (suc d) t).1 in (d, refl, omega arith, wait_earlier plan well l d t)

  -- a direct predecessor is an earlier job
  pub direct_earlier : (j n : ℕ) → j < jobs → is_direct plan j n ≡ true → (d : ℕ) × (n ≡ suc d) × (d < j)
  direct_earlier j n lt t = ⊎_elim
      (λ u.
      let a = awaited_at plan well (suc (starter_of plan j)) n u in
      let w = wait_before a.0 n a.2 in
      let la = a.1 in
      let lw = w.3 in
      (w.0, w.1, ⊎_elim (λ h. h) (λ (h : j ≤ w.0). let s = starter_le plan well j w.0 h w.2 in absurd (omega arith)) (cases_lt w.0 j)))
      (λ u. by n u)
      (or_cases (is_awaited plan (suc (starter_of plan j)) n) (has_job (deps_in (job_at plan j)) n) t)
    where
      dep_some : (n : ℕ) → has_job (deps_in (job_at plan j)) n ≡ true → 0 < n
      dep_some n u =
          let x = has_plan plan j lt in
          let k = has_kernel plan well.jobs j x.0 x.1 in
          let deps = (well.jobs.fits j x.0 k.0 x.1 k.1).deps in
          (has_within jobs 0 x.0.deps.items n deps.0 deps.1 (subst (λ o. has_job (deps_in o) n ≡ true) x.1 u)).0

      by : (n : ℕ) → has_job (deps_in (job_at plan j)) n ≡ true → (d : ℕ) × (n ≡ suc d) × (d < j)
      by zero u = let p = dep_some 0 u in absurd (omega arith)
      by (suc d) u = (d, refl, dep_earlier plan well j d lt u)

  module _ (levels : List ℕ) (before : List (Option JobId)) (awaited : Best) (k : ℕ) (so : IsSoFar plan levels before awaited k) where
    abbrev count : ℕ
    count = length levels

    started_before : (l n : ℕ) → l < suc k → has_job (waits_in (segment_at plan l)) n ≡ true → (d : ℕ) × (n ≡ suc d) × (d < count)
    started_before l n lt t =
        let w = wait_before l n t in
        let lw = w.3 in
        (w.0, w.1, ⊎_elim (λ h. h) (λ (h : count ≤ w.0). let a = so.above w.0 h w.2 in absurd (omega arith)) (cases_lt w.0 count))

    awaited_started : (n : ℕ) → is_awaited plan (suc k) n ≡ true → (d : ℕ) × (n ≡ suc d) × (d < count)
    awaited_started n t = let a = awaited_at plan well (suc k) n t in started_before a.0 n a.1 a.2

    level_some : (n : ℕ) → (d : ℕ) × (n ≡ suc d) × (d < count) → 0 < level_of levels n
    level_some n h =
        let e : level_of levels n ≡ get_or levels h.0 0 = ap (level_of levels) h.1 in
        let l = (so.each h.0 h.2).level in
        omega arith

    module _ (s : Segment) (at : segment_at plan k ≡ Some s) where
      wait_started : (n : ℕ) → has_job s.waits.items n ≡ true → (d : ℕ) × (n ≡ suc d) × (d < count)
      wait_started n t = started_before k n (omega arith) (subst (λ o. has_job (waits_in o) n ≡ true) (sym at) t)

      pub waits_within : AreWithin count s.waits.items
      waits_within = within_by count s.waits.items (λ n t. let w = wait_started n t in let e = w.1 in let lt = w.2 in (omega arith, omega arith))

      abbrev waited : Best
      waited = best_among levels awaited s.waits.items

      waited_best : IsBest levels (is_awaited plan (suc k)) waited
      waited_best = best_same levels (λ n. is_awaited plan k n || has_job s.waits.items n) (is_awaited plan (suc k)) waited
          (λ n. ap (λ o. is_awaited plan k n || has_job (waits_in o) n) at)
          (best_of_list levels (is_awaited plan k) awaited s.waits.items (λ n t. level_some n (wait_started n t)) so.best)

      pub step_none : s.starts ≡ None → IsSoFar plan levels before waited (suc k)
      step_none none = record {
        few = so.few;
        same = so.same;
        below = λ j lt. let r = so.below j lt in omega arith;
        above = λ j le lt. let r = so.above j le lt in ⊎_elim
            (λ (h : k < starter_of plan j). omega arith)
            (λ (h : starter_of plan j ≤ k).
            let here : starter_of plan j ≡ k = omega arith in
            let t : is_job (starts_in (segment_at plan k)) (suc j) ≡ true =
            subst (λ l. is_job (starts_in (segment_at plan l)) (suc j) ≡ true) here (starter_starts plan well.order.starts j lt) in
            let u : is_job s.starts (suc j) ≡ true = subst (λ o. is_job (starts_in o) (suc j) ≡ true) at t in
            absurd (not_both u (ap (λ o. is_job o (suc j)) none)))
            (cases_lt k (starter_of plan j));
        best = waited_best;
        each = so.each;
        small = so.small;
      }

      module _ (id : JobId) (starts : s.starts ≡ Some id) where
        started : starts_in (segment_at plan k) ≡ Some id
        started = ap starts_in at ∙ starts

        start_within : (1 ≤ id.0) × (id.0 < 1 + jobs)
        start_within = started_within plan.segments.items 1 jobs well.order.starts k id started

        start_here : (j : ℕ) → j < jobs → starter_of plan j ≡ k → id.0 ≡ suc j
        start_here j lt here =
            let t : is_job (starts_in (segment_at plan k)) (suc j) ≡ true =
            subst (λ l. is_job (starts_in (segment_at plan l)) (suc j) ≡ true) here (starter_starts plan well.order.starts j lt) in
            eqb-true id.0 (suc j) (subst (λ o. is_job o (suc j) ≡ true) started t)

        own : (j : ℕ) → id.0 ≡ suc j → k ≡ starter_of plan j
        own j e = starter_alone plan well.order.starts j k (subst (λ o. is_job o (suc j) ≡ true) (sym started) (eq-eqb id.0 (suc j) e))

        -- it starts the next job
        pub start_is : id.0 ≡ suc count
        start_is = by (id.0 - 1) (let w = start_within.0 in omega arith)
          where
            by : (j : ℕ) → id.0 ≡ suc j → id.0 ≡ suc count
            by j e =
                let w = start_within.1 in
                let o = own j e in
                let lj : j < jobs = omega arith in
                ⊎_elim
                (λ (lt : j < count). let b = so.below j lt in absurd (omega arith))
                (λ (le : count ≤ j). ⊎_elim
                (λ (lt : count < j).
                let a = so.above count (omega arith) (omega arith) in
                let r = starter_le plan well count j (omega arith) lj in
                start_here count (omega arith) (omega arith))
                (λ (ge : j ≤ count). omega arith)
                (cases_lt count j))
                (cases_lt j count)

        pub count_below : count < jobs
        count_below = let e = start_is in let w = start_within.1 in omega arith

        starter_is : starter_of plan count ≡ k
        starter_is = sym (own count start_is)

        module _ (x : JobPlan) (has : job_at plan count ≡ Some x) where
          dep_started : (n : ℕ) → has_job x.deps.items n ≡ true → (d : ℕ) × (n ≡ suc d) × (d < count)
          dep_started n t = direct_earlier count n count_below (right (is_awaited plan (suc (starter_of plan count)) n)
              (has_job (deps_in (job_at plan count)) n) (subst (λ o. has_job (deps_in o) n ≡ true) (sym has) t))
            where
              right : (a b : Bool) → b ≡ true → (a || b) ≡ true
              right true b t = refl
              right false b t = t

          pub deps_within : AreWithin count x.deps.items
          deps_within = within_by count x.deps.items (λ n t. let w = dep_started n t in let e = w.1 in let lt = w.2 in (omega arith, omega arith))

          abbrev found : Best
          found = best_among levels waited x.deps.items

          found_best : IsBest levels (is_direct plan count) found
          found_best = best_same levels (λ n. is_awaited plan (suc k) n || has_job x.deps.items n) (is_direct plan count) found
              (λ n. ap (λ l. is_awaited plan (suc l) n || has_job (deps_in (job_at plan count)) n) starter_is
              ∙ ap (λ o. is_awaited plan (suc k) n || has_job (deps_in o) n) has)
              (best_of_list levels (is_awaited plan (suc k)) waited x.deps.items (λ n t. level_some n (dep_started n t)) waited_best)

          pub found_small : found.level ≤ count
          found_small = ⊎_elim
              (λ (e : found ≡ nothing). let z : found.level ≡ 0 = ap (λ (b : Best). b.level) e in omega arith)
              (λ r.
              let d = direct_earlier count (number_of found.job) count_below r.0 in
              let e : level_of levels (number_of found.job) ≡ get_or levels d.0 0 = ap (level_of levels) d.1 in
              let lt = d.2 in
              let sm = so.small d.0 lt in
              let l = r.1 in
              omega arith)
              found_best.is

          module _ (lv : ℕ) (is_lv : lv ≡ suc found.level) where
            abbrev levels' : List ℕ
            levels' = levels ++ lv ∷ []

            abbrev before' : List (Option JobId)
            before' = before ++ found.job ∷ []

            stays : (n : ℕ) → (d : ℕ) × (n ≡ suc d) × (d < count) → level_of levels' n ≡ level_of levels n
            stays n h = ap (level_of levels') h.1 ∙ (get_front 0 levels lv h.0 h.2 ∙ sym (ap (level_of levels) h.1))

            long : length levels' ≡ suc count
            long = let e = length-append levels (lv ∷ []) in omega arith

            last_level : get_or levels' count 0 ≡ lv
            last_level = get_last 0 levels lv

            last_before : get_or before' count None ≡ found.job
            last_before = subst (λ m. get_or before' m None ≡ found.job) so.same (get_last None before found.job)

            found_now : (j : ℕ) → (j < count) ⊎ (j ≡ count) → IsFound plan levels' before' j
            found_now j (inl lt) = let f = so.each j lt in let m = so.few in let e = so.same in record {
              best = f.best;
              is_best = best_stays levels levels' (is_direct plan j) f.best
                  (λ n t. let d = direct_earlier j n (omega arith) t in let l = d.2 in stays n (d.0, d.1, omega arith)) f.is_best;
              level = get_front 0 levels lv j lt ∙ f.level;
              job = get_front None before found.job j (omega arith) ∙ f.job;
            }
            found_now j (inr e) = subst (IsFound plan levels' before') (sym e) (record {
              best = found;
              is_best = best_stays levels levels' (is_direct plan count) found (λ n t. stays n (direct_earlier count n count_below t)) found_best;
              level = last_level ∙ is_lv;
              job = last_before;
            })

            either : (j : ℕ) → j < length levels' → (j < count) ⊎ (j ≡ count)
            either j lt = let l = long in ⊎_elim (λ (h : j < count). inl h) (λ (h : count ≤ j). inr (omega arith)) (cases_lt j count)

            pub step_some : IsSoFar plan levels' before' waited (suc k)
            step_some = record {
              few = let l = long in let c = count_below in omega arith;
              same = let l = long in let e = length-append before (found.job ∷ []) in let s = so.same in omega arith;
              below = λ j lt. ⊎_elim (λ (h : j < count). let r = so.below j h in omega arith)
                  (λ (e : j ≡ count). let s : starter_of plan j ≡ k = ap (starter_of plan) e ∙ starter_is in omega arith) (either j lt);
              above = λ j le lt. let l = long in let r = so.above j (omega arith) lt in ⊎_elim
                  (λ (h : k < starter_of plan j). omega arith)
                  (λ (h : starter_of plan j ≤ k). let e = start_here j lt (omega arith) in let i = start_is in absurd (omega arith))
                  (cases_lt k (starter_of plan j));
              best = best_stays levels levels' (is_awaited plan (suc k)) waited (λ n t. stays n (awaited_started n t)) waited_best;
              each = λ j lt. found_now j (either j lt);
              small = λ j lt. ⊎_elim
                  (λ (h : j < count). let s = so.small j h in let g = get_front 0 levels lv j h in omega arith)
                  (λ (e : j ≡ count). let g : get_or levels' j 0 ≡ lv = ap (λ m. get_or levels' m 0) e ∙ last_level in let s = found_small in omega arith)
                  (either j lt);
            }

    -- all segments were gone through
    pub so_far_all : k ≡ length plan.segments.items → AreFound plan levels before
    so_far_all e =
        let few = so.few in
        let all : count ≡ jobs = ⊎_elim
        (λ (lt : count < jobs). let a = so.above count (omega arith) lt in let b = starter_below plan well.order.starts count lt in absurd (omega arith))
        (λ (ge : jobs ≤ count). omega arith)
        (cases_lt count jobs) in
        record {
          count = all;
          before_count = so.same ∙ all;
          each = λ j lt. so.each j (omega arith);
          small = λ j lt. so.small j (omega arith);
        }

-- THE SAME AS THE CODE SAYS IT

pub not_some : (o : Option JobId) → ((id : JobId) → o ≡ Some id → ⊥) → o ≡ None
not_some None h = refl
not_some (Some id) h = absurd (h id refl)

pub same_lists : (plan : Plan) (levels : List ℕ) (before : List (Option JobId)) (ls : List ℕ) (bs : List (Option JobId)) (awaited : Best) (k : ℕ) → ls ≡ levels
    → bs ≡ before → IsSoFar plan levels before awaited k → IsSoFar plan ls bs awaited k
same_lists plan levels before ls bs awaited k el eb h = subst (λ l. IsSoFar plan l bs awaited k) (sym el)
    (subst (λ l. IsSoFar plan levels l awaited k) (sym eb) h)

pub item_at : {A : Type 0} (xs ys : List A) (k : ℕ) (x : A) → xs ≡ ys → k < length xs → x ≡ get_or xs k x → slice_get ys k ≡ Some x
item_at xs ys k x e lt is = ap (λ zs. slice_get zs k) (sym e) ∙ slice_get_read xs (length xs) k x refl lt is

pub within_as : (m n : ℕ) (ids jds : List JobId) → m ≡ n → ids ≡ jds → AreWithin n jds → AreWithin m ids
within_as m n ids jds em e h = subst (λ k. AreWithin k ids) (sym em) (subst (AreWithin n) (sym e) h)

pub best_as : (levels ls : List ℕ) (b : Best) (ids jds : List JobId) (r : Best) → r ≡ best_among ls b ids → ls ≡ levels → ids ≡ jds
    → r ≡ best_among levels b jds
best_as levels ls b ids jds r e el ei = e ∙ (ap (λ l. best_among l b ids) el ∙ ap (best_among levels b) ei)

level_down : (levels : List ℕ) (n : ℕ) → 0 < n → level_of levels n ≡ get_or levels (n - 1) 0
level_down levels zero lt = absurd (omega arith)
level_down levels (suc m) lt = let e : m ≡ suc m - 1 = omega arith in ap (λ k. get_or levels k 0) e

pub record IsOn (levels : List ℕ) (best start : Best) (rest all : List JobId) : Type 0 where
  pub same : best_among levels best rest ≡ best_among levels start all
  pub within : AreWithin (length levels) rest

on_by : (levels : List ℕ) (best start : Best) (id : JobId) (more all : List JobId) (next : Best) → next ≡ better best (get_or levels (id.0 - 1) 0) id
    → IsOn levels best start (id ∷ more) all → IsOn levels next start more all
on_by levels best start id more all next e h =
    let d = level_down levels id.0 h.within.0 in
    let same : next ≡ better best (level_of levels id.0) id = e ∙ ap (λ l. better best l id) (sym d) in
    record { same = ap (λ b. best_among levels b more) same ∙ h.same; within = h.within.2 }

pub best_on : (levels : List ℕ) (best start : Best) (jobs : List JobId) (i : ℕ) (d : JobId) (next : Best) → i < length jobs
    → next ≡ better best (get_or levels ((get_or jobs i d).0 - 1) 0) (get_or jobs i d)
    → IsOn levels best start (drop i jobs) jobs → IsOn levels next start (drop (i + 1) jobs) jobs
best_on levels best start jobs i d next lt e h =
    let cut : drop i jobs ≡ get_or jobs i d ∷ drop (suc i) jobs = drop-cons jobs i d lt in
    let up : suc i ≡ i + 1 = omega arith in
    subst (λ k. IsOn levels next start (drop k jobs) jobs) up (on_by levels best start (get_or jobs i d) (drop (suc i) jobs) jobs next e
    (subst (λ xs. IsOn levels best start xs jobs) cut h))

module _ (plan : Plan) (well : IsWellOrderedPlan plan) (levels : List ℕ) (before : List (Option JobId)) (awaited : Best) (k : ℕ)
    (so : IsSoFar plan levels before awaited k) (s : Segment) (at : segment_at plan k ≡ Some s) where
  pub none_as : (aw : Best) → aw ≡ best_among levels awaited s.waits.items → s.starts ≡ None → IsSoFar plan levels before aw (k + 1)
  none_as aw ea none =
      let up : suc k ≡ k + 1 = omega arith in
      subst (λ n. IsSoFar plan levels before aw n) up (subst (λ b. IsSoFar plan levels before b (suc k)) (sym ea)
      (step_none plan well levels before awaited k so s at none))

  module _ (id : JobId) (starts : s.starts ≡ Some id) where
    pub id_one : 1 ≤ id.0
    id_one = let e = start_is plan well levels before awaited k so s at id starts in omega arith

    pub id_below : id.0 - 1 < length plan.jobs.items
    id_below = let e = start_is plan well levels before awaited k so s at id starts in
        let b = count_below plan well levels before awaited k so s at id starts in omega arith

    module _ (x : JobPlan) (has : slice_get plan.jobs.items (id.0 - 1) ≡ Some x) where
      at_count : job_at plan (length levels) ≡ Some x
      at_count = let e = start_is plan well levels before awaited k so s at id starts in let d : length levels ≡ id.0 - 1 = omega arith in
          ap (job_at plan) d ∙ has

      pub deps_as : AreWithin (length levels) x.deps.items
      deps_as = deps_within plan well levels before awaited k so s at id starts x at_count

      module _ (aw : Best) (ea : aw ≡ best_among levels awaited s.waits.items) (b : Best) (eb : b ≡ best_among levels aw x.deps.items) where
        is_found : b ≡ best_among levels (best_among levels awaited s.waits.items) x.deps.items
        is_found = eb ∙ ap (λ c. best_among levels c x.deps.items) ea

        pub small_as : b.level + 1 < 2 ^ 32
        small_as =
            let f = found_small plan well levels before awaited k so s at id starts x at_count in
            let e : b.level ≡ (best_among levels (best_among levels awaited s.waits.items) x.deps.items).level = ap (λ (c : Best). c.level) is_found in
            let few = so.few in
            let most = well.sized.jobs in
            omega arith

        pub some_as : (ls : List ℕ) (bs : List (Option JobId)) → ls ≡ levels ++ (b.level + 1) ∷ [] → bs ≡ before ++ b.job ∷ [] → IsSoFar plan ls bs aw (k + 1)
        some_as ls bs el eb2 =
            let up : suc k ≡ k + 1 = omega arith in
            let lv : b.level + 1 ≡ suc (best_among levels (best_among levels awaited s.waits.items) x.deps.items).level =
            (let e : b.level ≡ (best_among levels (best_among levels awaited s.waits.items) x.deps.items).level = ap (λ (c : Best). c.level) is_found in
            omega arith) in
            let st = step_some plan well levels before awaited k so s at id starts x at_count (b.level + 1) lv in
            let a : IsSoFar plan (levels ++ (b.level + 1) ∷ []) (before ++ b.job ∷ []) (best_among levels awaited s.waits.items) (suc k) =
            subst (λ j. IsSoFar plan (levels ++ (b.level + 1) ∷ []) (before ++ j ∷ []) (best_among levels awaited s.waits.items) (suc k))
            (sym (ap (λ (c : Best). c.job) is_found)) st in
            subst (λ n. IsSoFar plan ls bs aw n) up (subst (λ l. IsSoFar plan l bs aw (suc k)) (sym el)
            (subst (λ l. IsSoFar plan (levels ++ (b.level + 1) ∷ []) l aw (suc k)) (sym eb2)
            (subst (λ c. IsSoFar plan (levels ++ (b.level + 1) ∷ []) (before ++ b.job ∷ []) c (suc k)) (sym ea) a)))
