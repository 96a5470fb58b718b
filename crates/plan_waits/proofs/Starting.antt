-- Which jobs the first segments start.
use Rattle.std.proofs.Common.{◌≡◌, ℕ, zero, suc, ◌+◌, ◌-◌, ◌<◌, ◌≤◌, ⊎_elim, true, eq-eqb, eqb-true, length, Option, Some, None, refl, sym, ap, subst, ◌∙◌, arith}
use Rattle.std.proofs.lemmas.Bool.{cases_lt}
use Rattle.job_base.specs.declared.JobId.{JobId}
use Rattle.frame_core.specs.declared.plan.Segment.{Segment}
use Rattle.frame_core.specs.declared.plan.Plan.{Plan}
use Rattle.frame_core.specs.Names.{has_job, is_job, waits_in, starts_in, segment_at}
use Rattle.frame_core.specs.Pieces.{starter_of}
use Rattle.frame_core.specs.Ordered.{IsWellOrderedPlan}
use Rattle.frame_core.proofs.Small.{not_both}
use Rattle.frame_core.proofs.Starting.{started_within}
use Rattle.frame_core.proofs.Orders.{starter_starts, starter_alone}
use Rattle.job_depth.specs.Direct.{is_awaited}
use Rattle.job_depth.proofs.Earlier.{starter_le, wait_job, wait_earlier}
use Rattle.job_depth.proofs.Passing.{awaited_at}

-- so many jobs, and no others, are started by the first segments
pub record AreStarted (plan : Plan) (count k : ℕ) : Type 0 where
  pub few : count ≤ length plan.jobs.items
  pub below : (j : ℕ) → j < count → starter_of plan j < k
  pub above : (j : ℕ) → count ≤ j → j < length plan.jobs.items → k ≤ starter_of plan j

pub none_started : (plan : Plan) → AreStarted plan 0 0
none_started plan = record { few = omega arith; below = λ j lt. absurd (omega arith); above = λ j le lt. omega arith }

module _ (plan : Plan) (well : IsWellOrderedPlan plan) (count k : ℕ) (so : AreStarted plan count k) where
  abbrev jobs : ℕ
  jobs = length plan.jobs.items

  -- what a segment waits for was started before it
  wait_started : (l n : ℕ) → l < suc k → has_job (waits_in (segment_at plan l)) n ≡ true → (d : ℕ) × (n ≡ suc d) × (d < count)
  wait_started l zero lt t = let r = (wait_job plan well l 0 t).0 in absurd (omega arith)
  wait_started l (suc d) lt t =
      let r = (wait_job plan well l (suc d) t).1 in
      let e = wait_earlier plan well l d t in
      (d, refl, ⊎_elim (λ h. h) (λ (h : count ≤ d). let a = so.above d h (omega arith) in absurd (omega arith)) (cases_lt d count))

  pub awaited_started : (n : ℕ) → is_awaited plan (suc k) n ≡ true → (d : ℕ) × (n ≡ suc d) × (d < count)
  awaited_started n t = let a = awaited_at plan well (suc k) n t in wait_started a.0 n a.1 a.2

  module _ (s : Segment) (at : segment_at plan k ≡ Some s) where
    pub waits_started : (n : ℕ) → has_job s.waits.items n ≡ true → (d : ℕ) × (n ≡ suc d) × (d < count)
    waits_started n t = wait_started k n (omega arith) (subst (λ o. has_job (waits_in o) n ≡ true) (sym at) t)

    pub starts_none : s.starts ≡ None → AreStarted plan count (suc k)
    starts_none none = record {
      few = so.few;
      below = λ j lt. let r = so.below j lt in omega arith;
      above = λ j le lt. let r = so.above j le lt in ⊎_elim
          (λ (h : k < starter_of plan j). omega arith)
          (λ (h : starter_of plan j ≤ k).
          let here : starter_of plan j ≡ k = omega arith in
          let t : is_job (starts_in (segment_at plan k)) (suc j) ≡ true =
          subst (λ l. is_job (starts_in (segment_at plan l)) (suc j) ≡ true) here (starter_starts plan well.order.starts j lt) in
          let u : is_job s.starts (suc j) ≡ true = subst (λ o. is_job (starts_in o) (suc j) ≡ true) at t in
          absurd (not_both u (ap (λ o. is_job o (suc j)) none)))
          (cases_lt k (starter_of plan j));
    }

    module _ (id : JobId) (starts : s.starts ≡ Some id) where
      started : starts_in (segment_at plan k) ≡ Some id
      started = ap starts_in at ∙ starts

      start_within : (1 ≤ id.0) × (id.0 < 1 + jobs)
      start_within = started_within plan.segments.items 1 jobs well.order.starts k id started

      start_here : (j : ℕ) → j < jobs → starter_of plan j ≡ k → id.0 ≡ suc j
      start_here j lt here =
          let t : is_job (starts_in (segment_at plan k)) (suc j) ≡ true =
          subst (λ l. is_job (starts_in (segment_at plan l)) (suc j) ≡ true) here (starter_starts plan well.order.starts j lt) in
          eqb-true id.0 (suc j) (subst (λ o. is_job o (suc j) ≡ true) started t)

      own : (j : ℕ) → id.0 ≡ suc j → k ≡ starter_of plan j
      own j e = starter_alone plan well.order.starts j k (subst (λ o. is_job o (suc j) ≡ true) (sym started) (eq-eqb id.0 (suc j) e))

      -- it starts the next job
      pub start_is : id.0 ≡ suc count
      start_is = by (id.0 - 1) (let w = start_within.0 in omega arith)
        where
          by : (j : ℕ) → id.0 ≡ suc j → id.0 ≡ suc count
          by j e =
              let w = start_within.1 in
              let o = own j e in
              let lj : j < jobs = omega arith in
              ⊎_elim
              (λ (lt : j < count). let b = so.below j lt in absurd (omega arith))
              (λ (le : count ≤ j). ⊎_elim
              (λ (lt : count < j).
              let a = so.above count (omega arith) (omega arith) in
              let r = starter_le plan well count j (omega arith) lj in
              start_here count (omega arith) (omega arith))
              (λ (ge : j ≤ count). omega arith)
              (cases_lt count j))
              (cases_lt j count)

      pub count_below : count < jobs
      count_below = let e = start_is in let w = start_within.1 in omega arith

      pub starter_is : starter_of plan count ≡ k
      starter_is = sym (own count start_is)

      pub starts_some : AreStarted plan (suc count) (suc k)
      starts_some = record {
        few = let c = count_below in omega arith;
        below = λ j lt. ⊎_elim
            (λ (h : j < count). let r = so.below j h in omega arith)
            (λ (h : count ≤ j).
            let e : j ≡ count = omega arith in
            let s : starter_of plan j ≡ k = ap (starter_of plan) e ∙ starter_is in
            omega arith)
            (cases_lt j count);
        above = λ j le lt. let r = so.above j (omega arith) lt in ⊎_elim
            (λ (h : k < starter_of plan j). omega arith)
            (λ (h : starter_of plan j ≤ k). let e = start_here j lt (omega arith) in let i = start_is in absurd (omega arith))
            (cases_lt k (starter_of plan j));
      }
