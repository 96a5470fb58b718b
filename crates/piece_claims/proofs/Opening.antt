-- The job whose pieces are opened.
use Rattle.std.proofs.Common.{◌≡◌, ℕ, suc, ◌+◌, ◌-◌, ◌<◌, ◌≤◌, true, length, get_or, Some, refl, ap, ◌∙◌, arith}
use Rattle.std.specs.Prelude.{nat_lt, nat_le}
use Rattle.std.proofs.lemmas.Bool.{and_from}
use Rattle.std.proofs.lemmas.Bool.Decides.{nat_tests}
use Rattle.std.proofs.lemmas.Option.{slice_get_read}
use Rattle.job_base.specs.declared.JobId.{JobId}
use Rattle.frame_core.specs.declared.plan.JobPlan.{JobPlan}
use Rattle.frame_core.specs.declared.plan.Plan.{Plan}
use Rattle.frame_core.specs.Know.{is_of}
use Rattle.frame_core.specs.Names.{job_at, pieces_of, pieces_before, job_pieces, IsJobOf}
use Rattle.frame_core.specs.Ordered.{IsWellOrderedPlan, IsCutIn}
use Rattle.frame_core.proofs.Numbered.{pieces_next, pieces_within}
use Rattle.frame_core.proofs.Planned.{has_kernel}

-- a number among those of the pieces of a job
module _ (plan : Plan) (n j p : ℕ) (x : JobPlan) (is : n ≡ suc j) (job : job_at plan j ≡ Some x) (lo : pieces_before plan.jobs.items j ≤ p)
    (hi : p < pieces_before plan.jobs.items j + pieces_of x) where
  pub is_one : is_of plan n p ≡ true
  is_one =
      let e = pieces_next plan.jobs.items j x job in
      let a : nat_le (pieces_before plan.jobs.items j) p ≡ true = grind (arith, nat_tests, lo) in
      let b : nat_lt p (pieces_before plan.jobs.items (suc j)) ≡ true = grind (arith, nat_tests, hi, e) in
      ap (λ (m : ℕ). is_of plan m p) is ∙ and_from (nat_le (pieces_before plan.jobs.items j) p) _ a b

module _ (plan : Plan) (well : IsWellOrderedPlan plan) (id : JobId) (is : IsJobOf plan id) (x : JobPlan) (at : x ≡ get_or plan.jobs.items (id.0 - 1) x) where
  abbrev j : ℕ
  j = id.0 - 1

  pub number_is : id.0 ≡ suc j
  number_is = let a = is.0 in omega (arith, a)

  pub there : job_at plan j ≡ Some x
  there = let a = is.0 in let b = is.1 in slice_get_read plan.jobs.items (length plan.jobs.items) j x refl (omega (arith, a, b)) at

  pub cut_is : IsCutIn x
  cut_is = let k = has_kernel plan well.jobs j x there in (well.jobs.fits j x k.0 there k.1).cut

  pub first_is : x.first.0 ≡ pieces_before plan.jobs.items j
  first_is = well.order.firsts j x there

  module _ (n p : ℕ) (count : n ≡ pieces_of x) where
    pub end_within : x.first.0 + n ≤ job_pieces plan
    end_within = let a = first_is in let b = pieces_within plan.jobs.items j x there in omega (arith, a, b, count)

    pub low : x.first.0 ≤ p → pieces_before plan.jobs.items j ≤ p
    low lo = let a = first_is in omega (arith, a, lo)

    pub high : p < x.first.0 + n → p < pieces_before plan.jobs.items j + pieces_of x
    high hi = let a = first_is in omega (arith, a, hi, count)
