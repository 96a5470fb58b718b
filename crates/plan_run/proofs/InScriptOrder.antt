-- The pieces of a plan in script order, one after another.
use Rattle.std.proofs.Common.{◌≡◌, ℕ, zero, suc, ◌+◌, ◌-◌, ◌<◌, ◌≤◌, Bool, eq-eqb, get_or, List, [], ◌∷◌, ◌++◌, length, Option, Some, None, refl, sym, ap, ◌∙◌, arith}
use Rattle.std.specs.Prelude.{slice_get}
use Rattle.std.proofs.lemmas.Option.{slice_get_read}
use Rattle.job_base.specs.declared.JobId.{JobId}
use Rattle.merge_laws.specs.Graph.{Cells, cells_before}
use Rattle.frame_core.specs.declared.piece.Piece.{Piece}
use Rattle.frame_core.specs.declared.piece.Piece.TheVariants.{OfScript, OfJob}
use Rattle.frame_core.specs.declared.plan.JobPlan.{JobPlan}
use Rattle.frame_core.specs.declared.plan.Plan.{Plan}
use Rattle.frame_core.specs.declared.plan.Segment.{Segment}
use Rattle.frame_core.specs.Effects.{touches, piece_cells}
use Rattle.frame_core.specs.Graphs.{graph_of, piece_at, cells_at, cells_at_first, before_piece, cells_after}
use Rattle.frame_core.specs.Names.{is_job, job_at, job_pieces, pieces_of, segment_at, starts_in, IsJobOf}
use Rattle.frame_core.specs.Ordered.{IsCutIn, IsWellOrderedPlan}
use Rattle.frame_core.specs.Pieces.{IsPieceOf, order_from, parts_of, place_of, script_order, segment_place, started, starter_of}
use Rattle.frame_core.specs.Rights.{MayReadIn, MayWriteIn}
use Rattle.frame_core.proofs.Numbered.{pieces_within}
use Rattle.frame_core.proofs.Orders.{at_place, starter_alone}
use Rattle.frame_core.proofs.Placing.{length_parts}
use Rattle.frame_core.proofs.Planned.{has_kernel}
use Rattle.frame_core.proofs.Starting.{started_within}
use Rattle.frame_core.proofs.Extents.Touching.{writes_read}
use Rattle.frame_core.proofs.Extents.Within.{pieces_stay_within}
use Rattle.plan_run.specs.ScriptOrder.{AllowsAll, AreFresh, before_part}
use Rattle.plan_run.specs.Lines.{segment_cells}

-- PLACES

long : {A : Type 0} (xs ys : List A) → length (xs ++ ys) ≡ length xs + length ys
long [] ys = let e : length ys ≡ 0 + length ys = omega arith in e
long (x ∷ xs) ys = let r = long xs ys in let e : length ((x ∷ xs) ++ ys) ≡ length (x ∷ xs) + length ys = omega (arith, r) in e

place_next : (jobs : List JobPlan) (segments : List Segment) (k : ℕ) → k < length segments
    → segment_place jobs segments (suc k) ≡ suc (segment_place jobs segments k + length (started jobs (starts_in (slice_get segments k))))
place_next jobs [] k lt = absurd (omega arith)
place_next jobs (s ∷ more) zero lt = omega arith
place_next jobs (s ∷ more) (suc k) lt = let r = place_next jobs more k (omega arith) in omega (arith, r)

place_end : (jobs : List JobPlan) (n : ℕ) (segments : List Segment) → segment_place jobs segments (length segments) ≡ length (order_from jobs n segments)
place_end jobs n [] = refl
place_end jobs n (s ∷ more) =
    let r = place_end jobs (suc n) more in
    let a = long (started jobs s.starts) (order_from jobs (suc n) more) in
    omega (arith, r, a)

-- CELLS

-- before the first piece they are those at first
pub at_first : (plan : Plan) → before_piece plan (OfScript 0) ≡ cells_at_first plan
unfolding before_piece place_of graph_of
at_first plan = refl

pub fresh_before : (plan : Plan) (cells : Cells) → AreFresh plan cells → cells ≡ before_piece plan (OfScript 0)
fresh_before plan cells fresh = (λ i w. fresh w i) ∙ sym (at_first plan)

module _ (plan : Plan) (well : IsWellOrderedPlan plan) where
  abbrev place : ℕ → ℕ
  place k = segment_place plan.jobs.items plan.segments.items k

  step : (x : Piece) (p : ℕ) → IsPieceOf plan x → p ≡ place_of plan x → cells_before (graph_of plan) (suc p) ≡ piece_cells plan x
      (cells_before (graph_of plan) p)
  unfolding graph_of
  step x p is at = ap (λ o. cells_at plan o (cells_before (graph_of plan) p)) (ap (piece_at plan) at ∙ at_place plan well.order.starts x is)

  pub ends : (k : ℕ) (cells : Cells) → k ≡ length plan.segments.items → cells ≡ before_piece plan (OfScript k) → cells ≡ cells_after plan
  unfolding before_piece place_of cells_after script_order
  ends k cells e c = c ∙ ap (cells_before (graph_of plan)) (ap place e ∙ place_end plan.jobs.items 0 plan.segments.items)

  pub segment_step : (k : ℕ) (cells : Cells) → k < length plan.segments.items → cells ≡ segment_cells plan k → cells ≡ before_part plan k 0
  unfolding before_piece place_of
  segment_step k cells lt c =
      let z : place k ≡ place k + 0 = omega arith in
      c ∙ (sym (step (OfScript k) (place k) lt refl) ∙ ap (λ n. cells_before (graph_of plan) (suc n)) z)

  -- the piece after the pieces that segment k starts is segment k + 1
  next_is : (k n : ℕ) (cells : Cells) → k < length plan.segments.items → n ≡ length (started plan.jobs.items (starts_in (segment_at plan k)))
      → cells ≡ before_part plan k n → cells ≡ before_piece plan (OfScript (k + 1))
  unfolding before_piece place_of
  next_is k n cells lt e c =
      let r = place_next plan.jobs.items plan.segments.items k lt in
      let up : suc k ≡ k + 1 = omega arith in
      let at : suc (place k + n) ≡ place (suc k) = omega (arith, r, e) in
      c ∙ ap (cells_before (graph_of plan)) (at ∙ ap place up)

  pub none_end : (k : ℕ) (cells : Cells) → k < length plan.segments.items → starts_in (segment_at plan k) ≡ None → cells ≡ segment_cells plan k
      → cells ≡ before_piece plan (OfScript (k + 1))
  none_end k cells lt none c = next_is k 0 cells lt (sym (ap (λ o. length (started plan.jobs.items o)) none)) (segment_step k cells lt c)

  module _ (k : ℕ) (id : JobId) (below : k < length plan.segments.items) (starts : starts_in (segment_at plan k) ≡ Some id) (j : ℕ) (number : id.0 ≡ suc j)
      (x : JobPlan) (has : job_at plan j ≡ Some x) where
    own : k ≡ starter_of plan j
    own = starter_alone plan well.order.starts j k (ap (λ o. is_job o (suc j)) starts ∙ eq-eqb id.0 (suc j) number)

    part_place : (i : ℕ) → suc (place k + i) ≡ place_of plan (OfJob j i)
    unfolding place_of
    part_place i = ap (λ l. suc (place l + i)) own

    pub part_step : (i : ℕ) (old new : Cells) → i < pieces_of x → old ≡ before_part plan k i
        → new ≡ piece_cells plan (OfJob j i) old → new ≡ before_part plan k (i + 1)
    part_step i old new lt o n =
        let up : suc (place k + i) ≡ place k + (i + 1) = omega arith in
        n ∙ (ap (piece_cells plan (OfJob j i)) o
        ∙ (sym (step (OfJob j i) (suc (place k + i)) (x, has, lt) (part_place i))
        ∙ ap (λ n. cells_before (graph_of plan) (suc n)) up))

    pub parts_end : (i : ℕ) (cells : Cells) → i ≡ pieces_of x → cells ≡ before_part plan k i → cells ≡ before_piece plan (OfScript (k + 1))
    parts_end i cells e c =
        let down : id.0 - 1 ≡ j = omega (arith, number) in
        let count : length (started plan.jobs.items (starts_in (segment_at plan k))) ≡ pieces_of x =
        ap (λ o. length (started plan.jobs.items o)) starts
        ∙ (ap (λ l. length (parts_of l (slice_get plan.jobs.items l))) down
        ∙ (ap (λ o. length (parts_of j o)) has ∙ length_parts j 0 (pieces_of x))) in
        next_is k i cells below (e ∙ sym count) c

  -- RIGHTS

  pub may_read : (readable now : ℕ → Bool) → AllowsAll plan readable → now ≡ readable → (x : Piece) → IsPieceOf plan x → MayReadIn (touches plan x) now
  may_read readable now all same x is w t = rw (ap (λ f. f w) same) (all w ((pieces_stay_within plan well x is).read w t))

  pub may_write : (writable now : ℕ → Bool) → AllowsAll plan writable → now ≡ writable → (x : Piece) → IsPieceOf plan x → MayWriteIn (touches plan x) now
  may_write writable now all same x is w t = rw (ap (λ f. f w) same) (all w ((pieces_stay_within plan well x is).read w (writes_read (touches plan x) w t)))

-- the job of a number
module _ (plan : Plan) (well : IsWellOrderedPlan plan) (id : JobId) (is : IsJobOf plan id) (x : JobPlan) (at : x ≡ get_or plan.jobs.items (id.0 - 1) x) where
  pub number_is : id.0 ≡ suc (id.0 - 1)
  number_is = let a = is.0 in omega (arith, a)

  pub there : job_at plan (id.0 - 1) ≡ Some x
  there = let a = is.0 in let b = is.1 in slice_get_read plan.jobs.items (length plan.jobs.items) (id.0 - 1) x refl (omega (arith, a, b)) at

  pub cut_is : IsCutIn x
  cut_is = let k = has_kernel plan well.jobs (id.0 - 1) x there in (well.jobs.fits (id.0 - 1) x k.0 there k.1).cut

  pub end_within : x.first.0 + pieces_of x ≤ job_pieces plan
  end_within = let a = well.order.firsts (id.0 - 1) x there in let b = pieces_within plan.jobs.items (id.0 - 1) x there in omega (arith, a, b)

-- the job that a segment starts
module _ (plan : Plan) (well : IsWellOrderedPlan plan) (k : ℕ) (below : k < length plan.segments.items) (s : Segment)
    (at : s ≡ get_or plan.segments.items k s) where
  pub here : segment_at plan k ≡ Some s
  here = slice_get_read plan.segments.items (length plan.segments.items) k s refl below at

  pub starts_is : (o : Option JobId) → s.starts ≡ o → starts_in (segment_at plan k) ≡ o
  starts_is o e = ap starts_in here ∙ e

  pub started_job : (id : JobId) → s.starts ≡ Some id → IsJobOf plan id
  started_job id e = let h = started_within plan.segments.items 1 (length plan.jobs.items) well.order.starts k id (starts_is (Some id) e) in let a = h.0 in
      let b = h.1 in (omega (arith, a), omega (arith, b))
