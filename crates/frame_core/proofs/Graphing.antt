-- The graph of jobs is one of the graph of pieces.
use Rattle.std.proofs.Common.{◌≡◌, ℕ, zero, suc, ◌<◌, ◌⊎◌, inl, inr, true, ltb, eq-eqb, eqb-true, List, [], ◌∷◌, length, Option, Some, None, refl, sym, ap, subst, ◌∙◌, arith}
use Rattle.std.proofs.lemmas.Bool.{and_parts, and_from, ltb-true, lt-ltb}
use Rattle.std.specs.Prelude.{slice_get}
use Rattle.merge_laws.specs.Jobs.{IsJobGraph, HasParts, IsPredecessor, starts, feeds, comes_before, is_awaited, IsOf}
use Rattle.frame_core.specs.declared.plan.JobPlan.{JobPlan}
use Rattle.frame_core.specs.declared.plan.Plan.{Plan}
use Rattle.frame_core.specs.Names.{has_job, deps_in, job_at, pieces_of}
use Rattle.frame_core.specs.declared.piece.Piece.{Piece}
use Rattle.frame_core.specs.declared.piece.Piece.TheVariants.{OfScript, OfJob}
use Rattle.frame_core.specs.Pieces.{script_order, segment_place, starter_of, place_of, IsPieceOf}
use Rattle.frame_core.specs.Graphs.{is_predecessor, precedes_at, piece_at, is_part_of, graph_of, jobs_of}
use Rattle.frame_core.specs.Ordered.{AreInOrder}
use Rattle.frame_core.proofs.Small.{not_both, some_is, get_below}
use Rattle.frame_core.proofs.Orders.{starter_below, starter_starts, starter_alone, at_place, piece_is_at, place_below, some_at}

-- of a job the plan has, by its place
pub has_plan : (plan : Plan) (j : ℕ) → j < length plan.jobs.items → (x : JobPlan) × (slice_get plan.jobs.items j ≡ Some x)
has_plan plan j lt = by plan.jobs.items j lt
  where
    by : (xs : List JobPlan) (j : ℕ) → j < length xs → (x : JobPlan) × (slice_get xs j ≡ Some x)
    by [] j lt = absurd (omega arith)
    by (x ∷ xs) zero lt = (x, refl)
    by (x ∷ xs) (suc j) lt = by xs j (omega arith)

-- a part is a piece of its job
part_is : (o : Option Piece) (j : ℕ) → is_part_of o j ≡ true → (i : ℕ) × (o ≡ Some (OfJob j i))
part_is None j t = absurd (not_both t refl)
part_is (Some (OfScript k)) j t = absurd (not_both t refl)
part_is (Some (OfJob d i)) j t = (i, ap (λ k. Some (OfJob k i)) (eqb-true d j t))

-- the two pieces of which one precedes the other
both_are : (plan : Plan) (o u : Option Piece) → precedes_at plan o u ≡ true
    → (x : Piece) × (y : Piece) × (o ≡ Some x) × (u ≡ Some y) × (is_predecessor plan x y ≡ true)
both_are plan None None t = absurd (not_both t refl)
both_are plan None (Some y) t = absurd (not_both t refl)
both_are plan (Some x) None t = absurd (not_both t refl)
both_are plan (Some x) (Some y) t = (x, y, refl, refl, t)

module _ (plan : Plan) (order : AreInOrder plan) (has_pieces : (j : ℕ) (x : JobPlan) → job_at plan j ≡ Some x → 0 < pieces_of x) where
  abbrev jobs : ℕ
  jobs = length plan.jobs.items

  abbrev segments : ℕ
  segments = length plan.segments.items

  -- a segment stands at its place
  segment_there : (k : ℕ) → k < segments → piece_at plan (segment_place plan.jobs.items plan.segments.items k) ≡ Some (OfScript k)
  unfolding place_of
  segment_there k lt = at_place plan order.starts (OfScript k) lt

  segment_is : (p k : ℕ) → piece_at plan p ≡ Some (OfScript k) → (k < segments) × (p ≡ segment_place plan.jobs.items plan.segments.items k)
  unfolding place_of
  segment_is p k e = let a = piece_is_at plan order.starts p (OfScript k) e in (a.is, a.place)

  part_below : (p j i : ℕ) → piece_at plan p ≡ Some (OfJob j i) → j < jobs
  part_below p j i e = let a = (piece_is_at plan order.starts p (OfJob j i) e).is in get_below plan.jobs.items j a.0 a.1

  has_part : (p j i : ℕ) → piece_at plan p ≡ Some (OfJob j i) → is_part_of (piece_at plan p) j ≡ true
  has_part p j i e = subst (λ o. is_part_of o j ≡ true) (sym e) (eq-eqb j j refl)

  pub jobs_are : IsJobGraph (jobs_of plan)
  unfolding jobs_of
  jobs_are = record {
    one_job = λ p i j a b. let x = part_is (piece_at plan p) i a in let y = part_is (piece_at plan p) j b in same_job i j x.0 y.0 (some_is (sym x.1 ∙ y.1));
    no_job = λ k j lt. ap (λ o. is_part_of o j) (segment_there k lt);
    one_segment = λ i k li lk e. same_segment i k (some_is (sym (segment_there i li) ∙ (ap (piece_at plan) e ∙ segment_there k lk)));
    starter_below = λ j lt. starter_below plan order.starts j lt;
    dependency_below = λ i j t. ltb-true i jobs (and_parts (ltb i jobs) (has_job (deps_in (job_at plan j)) (suc i)) t).0;
  }
    where
      same_job : (i j m n : ℕ) → OfJob i m ≡ OfJob j n → i ≡ j
      same_job i j m n e = cc

      same_segment : (i k : ℕ) → OfScript i ≡ OfScript k → i ≡ k
      same_segment i k e = cc

  pub parts_are : HasParts (jobs_of plan)
  unfolding jobs_of
  parts_are j lt =
      let x = has_plan plan j lt in
      let piece : IsPieceOf plan (OfJob j 0) = (x.0, x.1, has_pieces j x.0 x.1) in
      let p = place_of plan (OfJob j 0) in
      (p, place_below plan order.starts (OfJob j 0) piece, has_part p j 0 (at_place plan order.starts (OfJob j 0) piece))

  predecessor_is : (q p : ℕ) (x y : Piece) → piece_at plan q ≡ Some x → piece_at plan p ≡ Some y → is_predecessor plan x y ≡ true
      → IsPredecessor (jobs_of plan) q p
  unfolding jobs_of
  predecessor_is q p (OfScript l) (OfScript k) a b t =
      let next : suc l ≡ k = eqb-true (suc l) k t in
      let s = segment_is p k b in
      let lt = s.0 in
      comes_before l (omega arith) (s.1 ∙ ap (segment_place plan.jobs.items plan.segments.items) (sym next)) (segment_is q l a).1
  predecessor_is q p (OfJob j i) (OfScript k) a b t =
      is_awaited j k (part_below q j i a) (segment_is p k b).0 (segment_is p k b).1 t (get_below (script_order plan) q (OfJob j i) a) (has_part q j i a)
  predecessor_is q p (OfScript k) (OfJob j i) a b t =
      let own : k ≡ starter_of plan j = starter_alone plan order.starts j k t in
      starts j (part_below p j i b) (has_part p j i b) ((segment_is q k a).1 ∙ ap (segment_place plan.jobs.items plan.segments.items) own)
  predecessor_is q p (OfJob d h) (OfJob j i) a b t =
      feeds d j (part_below q d h a) (part_below p j i b) (has_part p j i b)
      (and_from (ltb d jobs) (has_job (deps_in (job_at plan j)) (suc d)) (lt-ltb d jobs (part_below q d h a)) t)
      (get_below (script_order plan) q (OfJob d h) a) (has_part q d h a)

  each_is : (p : ℕ) (x : Piece) → piece_at plan p ≡ Some x → ((k : ℕ) × (k < segments) × (p ≡ segment_place plan.jobs.items plan.segments.items k))
      ⊎ ((j : ℕ) × (j < jobs) × (is_part_of (piece_at plan p) j ≡ true))
  each_is p (OfScript k) e = let s = segment_is p k e in inl (k, s.0, s.1)
  each_is p (OfJob j i) e = inr (j, part_below p j i e, has_part p j i e)

  pub graph_is : IsOf (jobs_of plan) (graph_of plan)
  unfolding jobs_of graph_of
  graph_is = record {
    count = refl;
    predecessor = λ q p t. let b = both_are plan (piece_at plan q) (piece_at plan p) t in predecessor_is q p b.0 b.1 b.2 b.3 b.4;
    each = λ p lt. let s = some_at plan order.starts p lt in each_is p s.0 s.1;
    last = order.last;
    last_is = order.last_is;
    last_waits = order.last_waits;
  }

  -- a piece of each of the four kinds precedes
  precedes_there : (q p : ℕ) (x y : Piece) → piece_at plan q ≡ Some x → piece_at plan p ≡ Some y → is_predecessor plan x y ≡ true
      → precedes_at plan (piece_at plan q) (piece_at plan p) ≡ true
  precedes_there q p x y a b t = ap (λ o. precedes_at plan o (piece_at plan p)) a ∙ (ap (precedes_at plan (Some x)) b ∙ t)

  pub precedes_it : (q p : ℕ) → IsPredecessor (jobs_of plan) q p → (graph_of plan).precedes q p ≡ true
  unfolding jobs_of graph_of
  precedes_it q p (starts j lt of at) =
      let y = part_is (piece_at plan p) j of in
      let s = starter_of plan j in
      precedes_there q p (OfScript s) (OfJob j y.0) (ap (piece_at plan) at ∙ segment_there s (starter_below plan order.starts j lt)) y.1
      (starter_starts plan order.starts j lt)
  precedes_it q p (feeds d j ld lt of dep low part) =
      let x = part_is (piece_at plan q) d part in
      let y = part_is (piece_at plan p) j of in
      precedes_there q p (OfJob d x.0) (OfJob j y.0) x.1 y.1 (and_parts (ltb d jobs) (has_job (deps_in (job_at plan j)) (suc d)) dep).1
  precedes_it q p (comes_before k lt at before) =
      precedes_there q p (OfScript k) (OfScript (suc k)) (ap (piece_at plan) before ∙ segment_there k (omega arith))
      (ap (piece_at plan) at ∙ segment_there (suc k) lt) (eq-eqb (suc k) (suc k) refl)
  precedes_it q p (is_awaited d k ld lt at waits low part) =
      let x = part_is (piece_at plan q) d part in
      precedes_there q p (OfJob d x.0) (OfScript k) x.1 (ap (piece_at plan) at ∙ segment_there k lt) waits
