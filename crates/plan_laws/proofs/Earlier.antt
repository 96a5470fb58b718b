-- A predecessor stands earlier in script order.
use Rattle.std.proofs.Common.{◌≡◌, ℕ, zero, suc, ◌+◌, ◌<◌, ◌≤◌, ⊎_elim, true, eqb-true, List, [], ◌∷◌, ◌++◌, length, Option, Some, None, refl, sym, ap, subst, ◌∙◌, arith}
use Rattle.std.specs.Prelude.{slice_get, nat_eq}
use Rattle.std.specs.List.{All}
use Rattle.std.proofs.lemmas.Bool.{cases_lt, cases_eq, or_cases}
use Rattle.std.proofs.lemmas.List.Elements.{All-head, All-tail}
use Rattle.job_base.specs.declared.JobId.{JobId}
use Rattle.frame_core.specs.declared.piece.Piece.{Piece}
use Rattle.frame_core.specs.declared.piece.Piece.TheVariants.{OfScript, OfJob}
use Rattle.frame_core.specs.declared.plan.JobPlan.{JobPlan}
use Rattle.frame_core.specs.declared.plan.Segment.{Segment}
use Rattle.frame_core.specs.declared.plan.Plan.{Plan}
use Rattle.frame_core.specs.Names.{is_job, has_job, waits_in, deps_in, starts_in, number_in, starts_from, numbers_from, segment_at, job_at, pieces_of}
use Rattle.frame_core.specs.Pieces.{segment_place, starter_of, place_of, IsPieceOf}
use Rattle.frame_core.specs.Graphs.{is_predecessor, piece_at, precedes_at, graph_of}
use Rattle.frame_core.proofs.Small.{not_both, some_is, none_some, get_below}
use Rattle.frame_core.proofs.Placing.{get_started}
use Rattle.frame_core.proofs.Orders.{StartsAll, starter_below, starter_starts, starter_alone, piece_is_at}
use Rattle.plan_laws.specs.Planned.{AreJobsUpTo, SegmentFits, SegmentsFit}
use Rattle.plan_laws.proofs.Closing.{length-both}

-- The first segment starts nothing, or it starts the first number and the others go on from the next one.
pub data Starts (o : Option JobId) (more : List Segment) (m n : ℕ) : Type 0 where
  nothing : o ≡ None → starts_from more ≡ numbers_from m n → Starts o more m n
  first : (i : JobId) (l : ℕ) → o ≡ Some i → i.0 ≡ m → n ≡ suc l → starts_from more ≡ numbers_from (suc m) l → Starts o more m n

pub starts_are : (o : Option JobId) (more : List Segment) (m n : ℕ) → number_in o ++ starts_from more ≡ numbers_from m n → Starts o more m n
starts_are None more m n e = nothing refl e
starts_are (Some i) more m zero e = cc
starts_are (Some i) more m (suc n) e = let h : i.0 ≡ m = cc in let t : starts_from more ≡ numbers_from (suc m) n = cc in first i n refl h refl t

-- how many jobs the first segments start
abbrev pub begun : List Segment → ℕ → ℕ
begun ss zero = 0
begun [] (suc k) = 0
begun (s ∷ ss) (suc k) = length (number_in s.starts) + begun ss k

begun_grows : (ss : List Segment) (k m : ℕ) → k ≤ m → begun ss k ≤ begun ss m
begun_grows ss zero m le = omega arith
begun_grows ss (suc k) zero le = absurd (omega arith)
begun_grows [] (suc k) (suc m) le = omega arith
begun_grows (s ∷ ss) (suc k) (suc m) le = let r = begun_grows ss k m (omega arith) in omega arith

pub begun_below : (ss : List Segment) (k : ℕ) → begun ss k ≤ length (starts_from ss)
begun_below ss zero = omega arith
begun_below [] (suc k) = omega arith
begun_below (s ∷ ss) (suc k) = let r = begun_below ss k in let l = length-both (number_in s.starts) (starts_from ss) in omega arith

-- so the job that a segment starts has the next number
begun_is : (ss : List Segment) (m n k : ℕ) (id : JobId) → starts_from ss ≡ numbers_from m n → starts_in (slice_get ss k) ≡ Some id → id.0 ≡ m + begun ss k
begun_is [] m n k id e h = absurd (none_some h)
begun_is (x ∷ more) m n zero id e h = elim (starts_are x.starts more m n e) [
  | nothing q f ↦ absurd (none_some (sym q ∙ h))
  | first i l q at long f ↦ let same : i.0 ≡ id.0 = ap (λ (j : JobId). j.0) (some_is (sym q ∙ h)) in omega arith
]
begun_is (x ∷ more) m n (suc k) id e h = elim (starts_are x.starts more m n e) [
  | nothing q f ↦ let r = begun_is more m n k id f h in let z : length (number_in x.starts) ≡ 0 = ap (λ o. length (number_in o)) q in omega arith
  | first i l q at long f ↦ let r = begun_is more (suc m) l k id f h in let z : length (number_in x.starts) ≡ 1 = ap (λ o. length (number_in o)) q in
      omega arith
]

pub segment_fits : (plan : Plan) (n : ℕ) (ss : List Segment) (k : ℕ) (s : Segment) → SegmentsFit plan n ss → slice_get ss k ≡ Some s
    → SegmentFits plan (n + begun ss k) s
segment_fits plan n [] k s f h = absurd (none_some h)
segment_fits plan n (x ∷ ss) zero s f h =
    let z : n ≡ n + 0 = omega arith in
    subst (λ k. SegmentFits plan k s) z (subst (SegmentFits plan n) (some_is h) f.0)
segment_fits plan n (x ∷ ss) (suc k) s f h =
    let z : (n + length (number_in x.starts)) + begun ss k ≡ n + (length (number_in x.starts) + begun ss k) = omega arith in
    subst (λ k. SegmentFits plan k s) z (segment_fits plan (n + length (number_in x.starts)) ss k s f.1 h)

pub some_segment : (ss : List Segment) (k : ℕ) → k < length ss → (s : Segment) × (slice_get ss k ≡ Some s)
some_segment [] k lt = absurd (omega arith)
some_segment (s ∷ ss) zero lt = (s, refl)
some_segment (s ∷ ss) (suc k) lt = some_segment ss k (omega arith)

-- PLACES

place_grows : (jobs : List JobPlan) (ss : List Segment) (k m : ℕ) → k < m → m ≤ length ss → segment_place jobs ss k < segment_place jobs ss m
place_grows jobs ss zero zero lt le = absurd (omega arith)
place_grows jobs ss (suc k) zero lt le = absurd (omega arith)
place_grows jobs [] zero (suc m) lt le = absurd (omega arith)
place_grows jobs [] (suc k) (suc m) lt le = absurd (omega arith)
place_grows jobs (s ∷ ss) zero (suc m) lt le = omega arith
place_grows jobs (s ∷ ss) (suc k) (suc m) lt le = let r = place_grows jobs ss k m (omega arith) (omega arith) in omega arith

place_keeps : (jobs : List JobPlan) (ss : List Segment) (k m : ℕ) → k ≤ m → m ≤ length ss → segment_place jobs ss k ≤ segment_place jobs ss m
place_keeps jobs ss k m le below = ⊎_elim
    (λ same. let e = ap (segment_place jobs ss) same in omega arith)
    (λ ne. let r = place_grows jobs ss k m (omega arith) below in omega arith)
    (cases_eq k m)

part_before : (jobs : List JobPlan) (ss : List Segment) (k j i : ℕ) (x : JobPlan) → k < length ss → is_job (starts_in (slice_get ss k)) (suc j) ≡ true
    → slice_get jobs j ≡ Some x → i < pieces_of x
    → suc (segment_place jobs ss k + i) < segment_place jobs ss (suc k)
part_before jobs [] k j i x lt is has below = absurd (omega arith)
part_before jobs (s ∷ ss) zero j i x lt is has below = let l = (get_started jobs s.starts j i x is has below).1 in omega arith
part_before jobs (s ∷ ss) (suc k) j i x lt is has below = let r = part_before jobs ss k j i x (omega arith) is has below in omega arith

pub id_of : (o : Option JobId) (n : ℕ) → is_job o n ≡ true → (id : JobId) × (o ≡ Some id) × (id.0 ≡ n)
id_of None n e = absurd (not_both e refl)
id_of (Some id) n e = (id, refl, eqb-true id.0 n e)

has_up : (n : ℕ) (ids : List JobId) (k : ℕ) → All (λ (id : JobId). id.0 ≤ n) ids → has_job ids k ≡ true → k ≤ n
has_up n [] k all e = absurd (not_both e refl)
has_up n (id ∷ more) k all e = ⊎_elim
    (λ here. let same : id.0 ≡ k = eqb-true id.0 k here in let le : id.0 ≤ n = All-head (λ (id : JobId). id.0 ≤ n) id more all in omega arith)
    (λ there. has_up n more k (All-tail (λ (id : JobId). id.0 ≤ n) id more all) there)
    (or_cases (nat_eq id.0 k) (has_job more k) e)

module _ (plan : Plan) (starts : StartsAll plan) (fits : SegmentsFit plan 0 plan.segments.items)
    (deps : (j : ℕ) (x : JobPlan) → job_at plan j ≡ Some x → AreJobsUpTo j x.deps.items) where
  abbrev jobs : List JobPlan
  jobs = plan.jobs.items

  abbrev segments : List Segment
  segments = plan.segments.items

  -- as many jobs are started before a job's own segment as it has before it
  starter_begun : (j : ℕ) → j < length jobs → begun segments (starter_of plan j) ≡ j
  starter_begun j lt =
      let o = id_of (starts_in (segment_at plan (starter_of plan j))) (suc j) (starter_starts plan starts j lt) in
      let r = begun_is segments 1 (length jobs) (starter_of plan j) o.0 starts o.1 in
      let same = o.2 in
      omega arith

  -- a job's pieces stand before each later segment
  part_place : (j i k : ℕ) → (h : IsPieceOf plan (OfJob j i)) → starter_of plan j < k → k ≤ length segments
      → suc (segment_place jobs segments (starter_of plan j) + i) < segment_place jobs segments k
  part_place j i k h lt le =
      let below = get_below jobs j h.0 h.1 in
      let p = part_before jobs segments (starter_of plan j) j i h.0 (starter_below plan starts j below) (starter_starts plan starts j below) h.1 h.2 in
      let q = place_keeps jobs segments (suc (starter_of plan j)) k (omega arith) le in
      omega arith

  stands_before : (x y : Piece) → IsPieceOf plan x → IsPieceOf plan y → is_predecessor plan x y ≡ true → place_of plan x < place_of plan y
  unfolding place_of
  stands_before (OfScript l) (OfScript k) hx hy e = let at : suc l ≡ k = eqb-true (suc l) k e in place_grows jobs segments l k (omega arith) (omega arith)
  stands_before (OfJob j i) (OfScript k) hx hy e =
      let s = some_segment segments k hy in
      let up = has_up (0 + begun segments k) s.0.waits.items (suc j) (segment_fits plan 0 segments k s.0 fits s.1).waits.1
      (ap (λ o. has_job (waits_in o) (suc j)) (sym s.1) ∙ e) in
      let b = starter_begun j (get_below jobs j hx.0 hx.1) in
      let early : starter_of plan j < k = ⊎_elim (λ lt. lt) (λ ge. let g = begun_grows segments k (starter_of plan j) ge in absurd (omega arith))
      (cases_lt (starter_of plan j) k) in
      part_place j i k hx early (omega arith)
  stands_before (OfScript k) (OfJob j i) hx hy e =
      let own = ap (segment_place jobs segments) (starter_alone plan starts j k e) in
      omega arith
  stands_before (OfJob b h) (OfJob j i) hx hy e =
      let up = has_up j hy.0.deps.items (suc b) (deps j hy.0 hy.1).1 (ap (λ o. has_job (deps_in o) (suc b)) (sym hy.1) ∙ e) in
      let below = get_below jobs j hy.0 hy.1 in
      let bb = starter_begun b (get_below jobs b hx.0 hx.1) in
      let bj = starter_begun j below in
      let early : starter_of plan b < starter_of plan j = ⊎_elim (λ lt. lt)
      (λ ge. let g = begun_grows segments (starter_of plan j) (starter_of plan b) ge in absurd (omega arith))
      (cases_lt (starter_of plan b) (starter_of plan j)) in
      let there = starter_below plan starts j below in
      let p = part_place b h (starter_of plan j) hx early (omega arith) in
      omega arith

  pub earlier : (p q : ℕ) → q < (graph_of plan).count → (graph_of plan).precedes p q ≡ true → p < q
  unfolding graph_of
  earlier p q lt e = by (piece_at plan p) (piece_at plan q) refl refl e
    where
      by : (o u : Option Piece) → piece_at plan p ≡ o → piece_at plan q ≡ u → precedes_at plan o u ≡ true → p < q
      by None None a b e = absurd (not_both e refl)
      by None (Some y) a b e = absurd (not_both e refl)
      by (Some x) None a b e = absurd (not_both e refl)
      by (Some x) (Some y) a b e =
          let ax = piece_is_at plan starts p x a in
          let ay = piece_is_at plan starts q y b in
          let lt = stands_before x y ax.is ay.is e in
          let px = ax.place in
          let py = ay.place in
          omega arith
