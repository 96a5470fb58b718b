-- The jobs of a chain as they are put, one after another.
use Rattle.std.proofs.Common.{◌≡◌, ℕ, zero, suc, ◌+◌, ◌<◌, List, [], ◌∷◌, ◌++◌, length, get_or, drop, Option, refl, subst, arith}
use Rattle.std.specs.Prelude.{codes, decimal}
use Rattle.job_base.specs.declared.JobId.{JobId}
use Rattle.frame_print.specs.Gathering.{Joins}
use Rattle.frame_print.proofs.Gathering.{Going, Stops, going_on, going_stops}
use Rattle.job_depth.specs.Texts.{jobs_text}

jobs_next : (jobs : List JobId) (i : ℕ) (d : JobId) → i < length jobs → jobs_text (drop i jobs) ≡ (codes " " ++ decimal (get_or jobs i d).0)
    ++ jobs_text (drop (i + 1) jobs)
jobs_next [] i d h = absurd (omega arith)
jobs_next (id ∷ more) zero d h = refl
jobs_next (id ∷ more) (suc i) d h =
    let up : suc i + 1 ≡ suc (i + 1) = omega arith in
    rw up (jobs_next more i d (omega arith))

module _ (old : Option (List ℕ)) (w : List ℕ) (now : Option (List ℕ)) (w' : List ℕ) (new : Option (List ℕ)) where
  pub going_job : (w'' : List ℕ) (jobs : List JobId) (i : ℕ) (d : JobId) → i < length jobs
      → Going old w now w' (jobs_text jobs) (jobs_text (drop i jobs)) → Joins now w' new w'' (codes " " ++ decimal (get_or jobs i d).0)
      → Going old w new w'' (jobs_text jobs) (jobs_text (drop (i + 1) jobs))
  going_job w'' jobs i d h p q = going_on old w now w' new w'' (jobs_text jobs) (codes " " ++ decimal (get_or jobs i d).0) _
      (subst (Going old w now w' (jobs_text jobs)) (jobs_next jobs i d h) p) q

  pub stops_job : (jobs : List JobId) (i : ℕ) (d : JobId) → i < length jobs
      → Going old w now w' (jobs_text jobs) (jobs_text (drop i jobs)) → Stops now new (w' ++ (codes " " ++ decimal (get_or jobs i d).0))
      → Stops old new (w ++ jobs_text jobs)
  stops_job jobs i d h p q = going_stops old w now w' new (jobs_text jobs) (codes " " ++ decimal (get_or jobs i d).0) _
      (subst (Going old w now w' (jobs_text jobs)) (jobs_next jobs i d h) p) q
