-- Which segment starts a job, as the laws of boards ask it.
use Rattle.std.proofs.Common.{◌≡◌, ℕ, suc, ◌<◌, ⊎_elim, true, false, eqb, eq-eqb, eqb-true, sym, subst}
use Rattle.frame_core.specs.declared.plan.Plan.{Plan}
use Rattle.frame_core.specs.Names.{is_job, starts_in, segment_at}
use Rattle.frame_core.specs.Pieces.{starter_of}
use Rattle.frame_core.specs.Graphs.{jobs_of}
use Rattle.frame_core.proofs.Small.{not_both, either_bool}
use Rattle.frame_core.proofs.Orders.{StartsAll, starter_starts, starter_alone}

module _ (plan : Plan) (starts : StartsAll plan) where
  -- the segment that starts a job, by what it starts
  pub starts_it : (j k : ℕ) → j < (jobs_of plan).jobs → eqb ((jobs_of plan).starter j) k ≡ true → is_job (starts_in (segment_at plan k)) (suc j) ≡ true
  unfolding jobs_of
  starts_it j k lt t = subst (λ n. is_job (starts_in (segment_at plan n)) (suc j) ≡ true) (eqb-true (starter_of plan j) k t) (starter_starts plan starts j lt)

  pub starts_other : (j k : ℕ) → eqb ((jobs_of plan).starter j) k ≡ false → is_job (starts_in (segment_at plan k)) (suc j) ≡ false
  unfolding jobs_of
  starts_other j k f = ⊎_elim (λ t. absurd (not_both (eq-eqb (starter_of plan j) k (sym (starter_alone plan starts j k t))) f)) (λ q. q)
      (either_bool (is_job (starts_in (segment_at plan k)) (suc j)))
