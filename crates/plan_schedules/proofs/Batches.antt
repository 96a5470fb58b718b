-- The batch of a job: all of its indexes, where it is of little work.
use Rattle.std.proofs.Common.{◌≡◌, ℕ, ◌≤◌, Bool, true, false, ◌&&◌, List, Option, Some, refl}
use Rattle.std.specs.Prelude.{max, if◌then◌else◌, slice_get}
use Rattle.std.proofs.lemmas.Bool.{le-leb}
use Rattle.job_base.specs.declared.limits.TheConstants.{MOST_INDEXES}
use Rattle.frame_ast.specs.Accepted.{cut_fits}
use Rattle.plan_state.specs.Works.{batch_for, is_small}

-- one index is one batch either way
pub batch_of_one : (works : List (Option ℕ)) (kernel : ℕ) → batch_for works kernel 1 1 ≡ 1
batch_of_one works kernel = by (is_small (slice_get works kernel) 1)
  where
    by : (b : Bool) → (if b then max 1 1 else 1) ≡ 1
    by true = refl
    by false = refl

-- a number of indexes and a batch that are within the limits
pub numbers_fit : (n batch : ℕ) → n ≤ MOST_INDEXES → 1 ≤ batch → batch ≤ MOST_INDEXES → cut_fits (Some (n, batch)) ≡ true
numbers_fit n batch few some low =
    let a = le-leb n MOST_INDEXES few in
    let b = le-leb 1 batch some in
    let c = le-leb batch MOST_INDEXES low in
    λ i. a i && (b i && c i)
