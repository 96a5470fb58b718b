-- The arrows as segment after segment is gone through.
use Rattle.std.proofs.Common.{◌≡◌, ℕ, zero, suc, ◌+◌, ◌-◌, ◌<◌, ◌≤◌, ◌⊎◌, inl, inr, ⊎_elim, Bool, true, false, ◌||◌, List, [], ◌∷◌, ◌++◌, length, length-append, map, All, Option, Some, None, refl, sym, ap, subst, ◌∙◌, arith}
use Rattle.std.specs.Prelude.{slice_get}
use Rattle.std.specs.declared.alloc.Global.{Global}
use Rattle.std.specs.declared.vec.Vec.{Vec}
use Rattle.std.proofs.lemmas.Bool.{cases_lt}
use Rattle.job_base.specs.declared.JobId.{JobId}
use Rattle.job_base.specs.declared.limits.TheConstants.{MOST_JOBS}
use Rattle.frame_ast.specs.Jobs.{Jobs, nobody, only, both}
use Rattle.frame_ast.specs.Laws.{AreUpTo}
use Rattle.frame_core.specs.declared.plan.JobPlan.{JobPlan}
use Rattle.frame_core.specs.declared.plan.Segment.{Segment}
use Rattle.frame_core.specs.declared.plan.Plan.{Plan}
use Rattle.frame_core.specs.Names.{has_job, deps_in, waits_in, job_at, segment_at}
use Rattle.frame_core.specs.Pieces.{starter_of}
use Rattle.frame_core.specs.Ordered.{IsWellOrderedPlan}
use Rattle.frame_core.proofs.Small.{get_below, none_some}
use Rattle.frame_core.proofs.Orders.{starter_below}
use Rattle.job_handle.specs.declared.handle.Handle.{Handle}
use Rattle.job_handle.specs.Sets.{jobs_of, HaveOwnJobs}
use Rattle.job_fewest.specs.Fewest.{IsFewest, IsClosure}
use Rattle.job_depth.specs.Direct.{is_awaited, is_direct}
use Rattle.job_depth.proofs.Steps.{direct_earlier}
use Rattle.plan_waits.specs.declared.arrow.Arrow.{Arrow}
use Rattle.plan_waits.specs.Arrows.{IsReduction, AreArrows}
use Rattle.plan_waits.specs.Marks.{arrow_of}
use Rattle.plan_waits.proofs.Lists.{right, snoc_cases, get_there, or_of_get, all_by}
use Rattle.plan_waits.proofs.Starting.{AreStarted, none_started, awaited_started, waits_started, starts_none, start_is, count_below, starter_is, starts_some}
use Rattle.plan_waits.proofs.Reducing.{IsRow, AreRows, rows_own, wanted_known, placed, reduced, row_is}

pub record IsSoFar (plan : Plan) (rows : List Handle) (found : List (Vec Arrow Global)) (completed : Handle) (k : ℕ) : Type 0 where
  pub same : length found ≡ length rows
  pub started : AreStarted plan (length rows) k
  pub are_completed : (n : ℕ) → jobs_of completed n ≡ is_awaited plan k n
  pub are_rows : AreRows plan rows
  pub each : (j : ℕ) (arrows : Vec Arrow Global) → slice_get found j ≡ Some arrows → IsReduction plan j arrows.items

pub so_far_none : (plan : Plan) (completed : Handle) → ((n : ℕ) → jobs_of completed n ≡ false) → IsSoFar plan [] [] completed 0
so_far_none plan completed none = record {
  same = refl;
  started = none_started plan;
  are_completed = none;
  are_rows = λ j row e. absurd (none_some e);
  each = λ j arrows e. absurd (none_some e);
}

pub so_far_all : (plan : Plan) (rows : List Handle) (found : List (Vec Arrow Global)) (completed : Handle) (k : ℕ) → IsWellOrderedPlan plan
    → IsSoFar plan rows found completed k → length plan.segments.items ≤ k → AreArrows plan found
so_far_all plan rows found completed k well so le = record {
  count = by (length rows) so.started so.same;
  each = so.each;
}
  where
    by : (n : ℕ) → AreStarted plan n k → length found ≡ n → length found ≡ length plan.jobs.items
    by n s e = ⊎_elim
        (λ (lt : n < length plan.jobs.items).
        let b = starter_below plan well.order.starts n lt in
        let a = s.above n (omega arith) lt in
        absurd (omega arith))
        (λ (ge : length plan.jobs.items ≤ n). let f = s.few in omega arith)
        (cases_lt n (length plan.jobs.items))

module _ (plan : Plan) (well : IsWellOrderedPlan plan) (rows : List Handle) (found : List (Vec Arrow Global)) (completed : Handle) (k : ℕ)
    (so : IsSoFar plan rows found completed k) (s : Segment) (at : segment_at plan k ≡ Some s) where
  abbrev jobs : ℕ
  jobs = length plan.jobs.items

  few : length rows ≤ MOST_JOBS
  few = let a = so.started.few in let b = well.sized.jobs in omega arith

  number_fits : (n : ℕ) → (d : ℕ) × (n ≡ suc d) × (d < length rows) → (0 < n) × (n ≤ MOST_JOBS)
  number_fits n h = let e = h.1 in let lt = h.2 in let f = few in (omega arith, omega arith)

  pub waits_fit : All (λ (id : JobId). (0 < id.0) × (id.0 ≤ MOST_JOBS)) s.waits.items
  waits_fit = all_by (λ n. (0 < n) × (n ≤ MOST_JOBS)) s.waits.items
      (λ n t. number_fits n (waits_started plan well (length rows) k so.started s at n t))

  module _ (now : Handle) (is_now : (n : ℕ) → jobs_of now n ≡ (jobs_of completed n || has_job s.waits.items n)) where
    awaited : (n : ℕ) → jobs_of now n ≡ is_awaited plan (suc k) n
    awaited n = is_now n ∙ (ap (λ b. b || has_job s.waits.items n) (so.are_completed n) ∙ sym (ap (λ o. is_awaited plan k n || has_job (waits_in o) n) at))

    pub step_none : s.starts ≡ None → IsSoFar plan rows found now (k + 1)
    step_none none =
        let up : suc k ≡ k + 1 = omega arith in
        subst (λ m. IsSoFar plan rows found now m) up (record {
          same = so.same;
          started = starts_none plan well (length rows) k so.started s at none;
          are_completed = awaited;
          are_rows = so.are_rows;
          each = so.each;
        })

    module _ (id : JobId) (starts : s.starts ≡ Some id) where
      pub id_is : id.0 ≡ suc (length rows)
      id_is = start_is plan well (length rows) k so.started s at id starts

      pub below : length rows < jobs
      below = count_below plan well (length rows) k so.started s at id starts

      starter : starter_of plan (length rows) ≡ k
      starter = starter_is plan well (length rows) k so.started s at id starts

      pub id_fits : (0 < id.0) × (id.0 ≤ MOST_JOBS) × (id.0 - 1 < jobs)
      id_fits = let e = id_is in let b = below in let m = well.sized.jobs in (omega arith, omega arith, omega arith)

      module _ (x : JobPlan) (has : slice_get plan.jobs.items (id.0 - 1) ≡ Some x) where
        has_at : job_at plan (length rows) ≡ Some x
        has_at = let e = id_is in let d : length rows ≡ id.0 - 1 = omega arith in ap (job_at plan) d ∙ has

        direct : (n : ℕ) → (jobs_of now n || has_job x.deps.items n) ≡ is_direct plan (length rows) n
        direct n = ap (λ b. b || has_job x.deps.items n) (awaited n)
            ∙ sym (ap (λ l. is_awaited plan (suc l) n || has_job (deps_in (job_at plan (length rows))) n) starter
            ∙ ap (λ o. is_awaited plan (suc k) n || has_job (deps_in o) n) has_at)

        pub deps_fit : All (λ (id : JobId). (0 < id.0) × (id.0 ≤ MOST_JOBS)) x.deps.items
        deps_fit = all_by (λ n. (0 < n) × (n ≤ MOST_JOBS)) x.deps.items
            (λ n t. number_fits n (direct_earlier plan well (length rows) n below (sym (direct n) ∙ right (jobs_of now n) _ t)))

        module _ (wanted : Handle) (is_wanted : (n : ℕ) → jobs_of wanted n ≡ (jobs_of now n || has_job x.deps.items n)) where
          wants : (n : ℕ) → jobs_of wanted n ≡ is_direct plan (length rows) n
          wants n = is_wanted n ∙ direct n

          -- what `fewest` needs
          pub rows_few : length rows ≤ MOST_JOBS
          rows_few = few

          pub rows_have : HaveOwnJobs (length rows) rows
          rows_have = rows_own plan rows so.are_rows

          pub known : AreUpTo (length rows) (jobs_of wanted)
          known = wanted_known plan well rows so.are_rows below (jobs_of wanted) wants

          module _ (ids : List JobId) (least : IsFewest rows (jobs_of wanted) ids) where
            pub ids_fit : All (λ (id : JobId). (0 < id.0) × (id.0 ≤ MOST_JOBS)) ids
            ids_fit i d lt =
                let g = get_there ids i lt in
                let p = placed plan well rows so.are_rows below (jobs_of wanted) wants ids least i g.0 g.1 in
                subst (λ (y : JobId). (0 < y.0) × (y.0 ≤ MOST_JOBS)) (sym (or_of_get ids i d g.0 g.1)) (number_fits g.0.0 (p.0, p.1, p.2))

            module _ (arrows : Vec Arrow Global) (marked : arrows.items ≡ map (arrow_of (jobs_of now)) ids) (closure row : Handle)
                (closes : IsClosure rows ids (jobs_of closure)) (mine : Handle) (is_mine : jobs_of mine ≡ only id.0)
                (joins : jobs_of row ≡ both (jobs_of closure) (jobs_of mine)) where
              own : IsReduction plan (length rows) arrows.items
              own = subst (IsReduction plan (length rows)) (sym marked)
                  (reduced plan well rows so.are_rows below (jobs_of wanted) wants ids least (jobs_of now)
                  (λ n. awaited n ∙ sym (ap (λ l. is_awaited plan (suc l) n) starter)))

              longer : length (rows ++ row ∷ []) ≡ suc (length rows)
              longer = let e = length-append rows (row ∷ []) in omega arith

              longer_found : length (found ++ arrows ∷ []) ≡ suc (length found)
              longer_found = let e = length-append found (arrows ∷ []) in omega arith

              pub step_some : (rows' : List Handle) (found' : List (Vec Arrow Global)) → rows' ≡ rows ++ row ∷ [] → found' ≡ found ++ arrows ∷ []
                  → IsSoFar plan rows' found' now (k + 1)
              step_some rows' found' er ef =
                  let up : suc k ≡ k + 1 = omega arith in
                  subst (λ m. IsSoFar plan rows' found' now m) up (subst (λ r. IsSoFar plan r found' now (suc k)) (sym er)
                  (subst (λ f. IsSoFar plan (rows ++ row ∷ []) f now (suc k)) (sym ef) (record {
                    same = let a = longer in let b = longer_found in let c = so.same in omega arith;
                    started = subst (λ n. AreStarted plan n (suc k)) (sym longer) (starts_some plan well (length rows) k so.started s at id starts);
                    are_completed = awaited;
                    are_rows = λ j r e. ⊎_elim (λ old. so.are_rows j r old)
                        (λ last. subst (λ h. IsRow plan h j) (sym last.1) (subst (IsRow plan row) (sym last.0)
                        (row_is plan well rows so.are_rows below (jobs_of wanted) wants ids least closure row closes id id_is mine is_mine joins)))
                        (snoc_cases rows row j r e);
                    each = λ j r e. ⊎_elim (λ old. so.each j r old)
                        (λ last. subst (λ (v : Vec Arrow Global). IsReduction plan j v.items) (sym last.1)
                        (subst (λ n. IsReduction plan n arrows.items) (sym (last.0 ∙ so.same)) own))
                        (snoc_cases found arrows j r e);
                  })))

-- AS THE CODE SAYS IT

pub fit_as : (ids jds : List JobId) → ids ≡ jds → All (λ (id : JobId). (0 < id.0) × (id.0 ≤ MOST_JOBS)) jds
    → All (λ (id : JobId). (0 < id.0) × (id.0 ≤ MOST_JOBS)) ids
fit_as ids jds e h = subst (λ xs. All (λ (id : JobId). (0 < id.0) × (id.0 ≤ MOST_JOBS)) xs) (sym e) h

pub has_as : (set next : Handle) (ids jds : List JobId) → ids ≡ jds → ((n : ℕ) → jobs_of next n ≡ (jobs_of set n || has_job ids n))
    → (n : ℕ) → jobs_of next n ≡ (jobs_of set n || has_job jds n)
has_as set next ids jds e h n = h n ∙ ap (λ xs. jobs_of set n || has_job xs n) e

pub same_sets : (plan : Plan) (rows rows' : List Handle) (found found' : List (Vec Arrow Global)) (completed : Handle) (k : ℕ) → rows' ≡ rows
    → found' ≡ found → IsSoFar plan rows found completed k → IsSoFar plan rows' found' completed k
same_sets plan rows rows' found found' completed k er ef h = subst (λ r. IsSoFar plan r found' completed k) (sym er)
    (subst (λ f. IsSoFar plan rows f completed k) (sym ef) h)

pub so_far_start : (plan : Plan) (rows : List Handle) (found : List (Vec Arrow Global)) (completed : Handle) → rows ≡ [] → found ≡ []
    → jobs_of completed ≡ nobody → IsSoFar plan rows found completed 0
so_far_start plan rows found completed er ef e = subst (λ r. IsSoFar plan r found completed 0) (sym er)
    (subst (λ f. IsSoFar plan [] f completed 0) (sym ef) (so_far_none plan completed (λ n. ap (λ f. f n) e)))
