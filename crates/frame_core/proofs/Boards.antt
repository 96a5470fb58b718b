-- What boards cite of a plan: which numbers a job's pieces have, and the parts of its graph of jobs.
use Rattle.std.proofs.Common.{◌≡◌, ℕ, zero, suc, ◌+◌, ◌-◌, ◌≤◌, inl, inr, true, ◌&&◌, Some, leb, ltb, le-leb, lt-ltb, leb-true, ltb-true, List, [], ◌∷◌, length, refl, sym, ap, subst, ◌∙◌, arith}
use Rattle.std.specs.Prelude.{slice_get}
use Rattle.std.proofs.lemmas.Bool.{and_parts, and_from, cases_lt}
use Rattle.frame_core.specs.declared.piece.Piece.TheVariants.{OfScript, OfJob}
use Rattle.frame_core.specs.declared.plan.JobPlan.{JobPlan}
use Rattle.frame_core.specs.declared.plan.Plan.{Plan}
use Rattle.frame_core.specs.Names.{has_job, deps_in, waits_in, job_at, segment_at, pieces_of, pieces_before}
use Rattle.frame_core.specs.Pieces.{segment_place, starter_of, script_order, piece_numbered}
use Rattle.frame_core.specs.Graphs.{piece_at, is_part_of, jobs_of}
use Rattle.frame_core.specs.Know.{is_of}
use Rattle.frame_core.proofs.Numbering.{part_among, Names, part, segment, names}
use Rattle.frame_core.proofs.Numbered.{pieces_next}
use Rattle.frame_core.proofs.Graphing.{has_plan}

-- NUMBERS OF A JOB'S PIECES

-- past the last job nothing is added
pub pieces_past : (jobs : List JobPlan) (j : ℕ) → length jobs ≤ j → pieces_before jobs (suc j) ≡ pieces_before jobs j
pieces_past [] zero le = refl
pieces_past [] (suc j) le = refl
pieces_past (y ∷ more) zero le = absurd (omega arith)
pieces_past (y ∷ more) (suc j) le = ap (λ n. pieces_of y + n) (pieces_past more j (omega arith))

pub pieces_grow : (jobs : List JobPlan) (j : ℕ) → pieces_before jobs j ≤ pieces_before jobs (suc j)
pieces_grow jobs zero = omega arith
pieces_grow [] (suc j) = omega arith
pieces_grow (x ∷ xs) (suc j) = let r = pieces_grow xs j in omega arith

module _ (plan : Plan) where
  abbrev before : ℕ → ℕ
  before j = pieces_before plan.jobs.items j

  -- a number of a piece of the job at place j is one of job j + 1
  pub is_of_job : (j i p : ℕ) → piece_numbered plan p ≡ OfJob j i → is_of plan (suc j) p ≡ true
  is_of_job j i p e = by (names plan.jobs.items 0 p)
    where
      job_is : (a b c d : ℕ) → OfJob a b ≡ OfJob c d → a ≡ c
      job_is a b c d e = cc

      no_job : (k c d : ℕ) → OfScript k ≡ OfJob c d → ⊥
      no_job k c d e = cc

      by : Names plan.jobs.items 0 p → is_of plan (suc j) p ≡ true
      by (part d m x h lt at is) =
          let same : 0 + d ≡ j = job_is (0 + d) m j i (sym is ∙ e) in
          let dj : d ≡ j = omega arith in
          let hj : slice_get plan.jobs.items j ≡ Some x = subst (λ n. slice_get plan.jobs.items n ≡ Some x) dj h in
          let atj : p ≡ before j + m = subst (λ n. p ≡ before n + m) dj at in
          let next = pieces_next plan.jobs.items j x hj in
          and_from (leb (before j) p) (ltb p (before (suc j))) (le-leb (before j) p (omega arith)) (lt-ltb p (before (suc j)) (omega arith))
      by (segment k at is) = absurd (no_job k j i (sym is ∙ e))

  -- and the other way round
  pub job_of_is : (j p : ℕ) → is_of plan (suc j) p ≡ true → (i : ℕ) × (piece_numbered plan p ≡ OfJob j i)
  job_of_is j p t =
      let both = and_parts (leb (before j) p) (ltb p (before (suc j))) t in
      let lo = leb-true (before j) p both.0 in
      let hi = ltb-true p (before (suc j)) both.1 in
      elim (cases_lt j (length plan.jobs.items)) [
        | inl lt ↦ (
            let x = has_plan plan j lt in
            let next = pieces_next plan.jobs.items j x.0 x.1 in
            let i = p - before j in
            let at : p ≡ before j + i = omega arith in
            let z : 0 + j ≡ j = omega arith in
            (i, ap (piece_numbered plan) at ∙ (part_among plan.jobs.items 0 j i x.0 x.1 (omega arith) ∙ ap (λ n. OfJob n i) z)))
        | inr ge ↦ (let none = pieces_past plan.jobs.items j ge in absurd (omega arith))
      ]

-- THE GRAPH OF JOBS

module _ (plan : Plan) where
  pub pieces_are : (jobs_of plan).pieces ≡ length (script_order plan)
  unfolding jobs_of
  pieces_are = refl

  pub jobs_are : (jobs_of plan).jobs ≡ length plan.jobs.items
  unfolding jobs_of
  jobs_are = refl

  pub segments_are : (jobs_of plan).segments ≡ length plan.segments.items
  unfolding jobs_of
  segments_are = refl

  pub part_is : (p j : ℕ) → (jobs_of plan).is_part p j ≡ is_part_of (piece_at plan p) j
  unfolding jobs_of
  part_is p j = refl

  pub segment_is : (k : ℕ) → (jobs_of plan).segment_at k ≡ segment_place plan.jobs.items plan.segments.items k
  unfolding jobs_of
  segment_is k = refl

  pub starter_is : (j : ℕ) → (jobs_of plan).starter j ≡ starter_of plan j
  unfolding jobs_of
  starter_is j = refl

  pub dependency_is : (d j : ℕ) → (jobs_of plan).is_dependency d j ≡ (ltb d (length plan.jobs.items) && has_job (deps_in (job_at plan j)) (suc d))
  unfolding jobs_of
  dependency_is d j = refl

  pub waits_are : (k j : ℕ) → (jobs_of plan).waits k j ≡ has_job (waits_in (segment_at plan k)) (suc j)
  unfolding jobs_of
  waits_are k j = refl
