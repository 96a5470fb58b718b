-- Where the piece of a number stands, and what the laws of the merge call by its place.
use Rattle.std.proofs.Common.{◌≡◌, ℕ, suc, ◌<◌, true, eq-eqb, eqb-true, refl, sym, ap, ◌∙◌, Option, Some, None}
use Rattle.merge_laws.specs.Graph.{cells_before}
use Rattle.frame_core.specs.declared.piece.Piece.{Piece}
use Rattle.frame_core.specs.declared.piece.Piece.TheVariants.{OfScript, OfJob}
use Rattle.frame_core.specs.declared.plan.Plan.{Plan}
use Rattle.frame_core.specs.Pieces.{script_order, place_of, number_of, piece_numbered}
use Rattle.frame_core.specs.Touches.{reads_in, writes_in}
use Rattle.frame_core.specs.Effects.{piece_cells}
use Rattle.frame_core.specs.Events.{place_numbered}
use Rattle.frame_core.specs.Graphs.{piece_at, touches_at, cells_at, is_part_of, graph_of, jobs_of, before_piece, before_number}
use Rattle.frame_core.specs.Know.{piece_count, reads, writes}
use Rattle.frame_core.specs.Laws.{IsNamed}
use Rattle.frame_core.proofs.Small.{not_both, some_is, get_below}

module _ (plan : Plan) (named : IsNamed plan) (p : ℕ) (low : p < piece_count plan) where
  pub stands : piece_at plan (place_numbered plan p) ≡ Some (piece_numbered plan p)
  stands = named.place (piece_numbered plan p) (named.numbered p low).0

  pub place_low : place_numbered plan p < (graph_of plan).count
  unfolding graph_of
  place_low = get_below (script_order plan) (place_numbered plan p) (piece_numbered plan p) stands

  pub place_low_too : place_numbered plan p < (jobs_of plan).pieces
  unfolding jobs_of
  place_low_too = get_below (script_order plan) (place_numbered plan p) (piece_numbered plan p) stands

  pub reads_there : (w : ℕ) → (graph_of plan).reads (place_numbered plan p) w ≡ reads plan p w
  unfolding graph_of
  reads_there w = ap (λ o. reads_in (touches_at plan o) w) stands

  pub writes_there : (w : ℕ) → (graph_of plan).writes (place_numbered plan p) w ≡ writes plan p w
  unfolding graph_of
  writes_there w = ap (λ o. writes_in (touches_at plan o) w) stands

  pub before_there : (w : ℕ) → before_number plan p w ≡ cells_before (graph_of plan) (place_numbered plan p) w
  unfolding before_piece
  before_there w = refl

  -- the cells after the piece in script order
  pub after_there : (w : ℕ) → cells_before (graph_of plan) (suc (place_numbered plan p)) w ≡ piece_cells plan (piece_numbered plan p) (before_number plan p) w
  unfolding graph_of before_piece
  after_there w = ap (λ o. cells_at plan o (cells_before (graph_of plan) (place_numbered plan p)) w) stands

  pub part_there : (j i : ℕ) → piece_numbered plan p ≡ OfJob j i → (jobs_of plan).is_part (place_numbered plan p) j ≡ true
  unfolding jobs_of
  part_there j i e = ap (λ o. is_part_of o j) (stands ∙ ap Some e) ∙ eq-eqb j j refl

  pub segment_there : (k : ℕ) → piece_numbered plan p ≡ OfScript k → place_numbered plan p ≡ (jobs_of plan).segment_at k
  unfolding jobs_of place_of
  segment_there k e = ap (place_of plan) e

  -- where the place is a segment's, so is the number
  pub segment_is : (k : ℕ) → k < (jobs_of plan).segments → place_numbered plan p ≡ (jobs_of plan).segment_at k → piece_numbered plan p ≡ OfScript k
  unfolding jobs_of place_of
  segment_is k lt e = some_is (sym stands ∙ (ap (piece_at plan) e ∙ named.place (OfScript k) lt))

module _ (plan : Plan) (named : IsNamed plan) where
  -- two numbers with one place are one
  pub place_once : (p q : ℕ) → p < piece_count plan → q < piece_count plan → place_numbered plan p ≡ place_numbered plan q → p ≡ q
  place_once p q lp lq e =
      let same : piece_numbered plan p ≡ piece_numbered plan q = some_is (sym (stands plan named p lp) ∙ (ap (piece_at plan) e ∙ stands plan named q lq)) in
      sym (named.numbered p lp).1 ∙ (ap (number_of plan) same ∙ (named.numbered q lq).1)

  -- the number of what stands at a place
  pub record IsNumberAt (q : ℕ) (x : Piece) : Type 0 where
    pub number : ℕ
    pub below : number < piece_count plan
    pub place : q ≡ place_numbered plan number
    pub is : piece_numbered plan number ≡ x

  pub number_at : (q : ℕ) (x : Piece) → piece_at plan q ≡ Some x → IsNumberAt q x
  number_at q x e =
      let at = named.placed q x e in
      let n = named.number x at.0 in
      record { number = number_of plan x; below = n.0; place = sym at.1 ∙ ap (place_of plan) (sym n.1); is = n.1 }

  part_of : (o : Option Piece) (j : ℕ) → is_part_of o j ≡ true → (i : ℕ) × (o ≡ Some (OfJob j i))
  part_of None j t = absurd (not_both t refl)
  part_of (Some (OfScript k)) j t = absurd (not_both t refl)
  part_of (Some (OfJob d i)) j t = (i, ap (λ k. Some (OfJob k i)) (eqb-true d j t))

  -- the number of a job's piece, by its place
  pub record IsPart (q j : ℕ) : Type 0 where
    pub number : ℕ
    pub part : ℕ
    pub below : number < piece_count plan
    pub place : q ≡ place_numbered plan number
    pub is : piece_numbered plan number ≡ OfJob j part

  pub part_is : (q j : ℕ) → (jobs_of plan).is_part q j ≡ true → IsPart q j
  unfolding jobs_of
  part_is q j t =
      let o = part_of (piece_at plan q) j t in
      let n = number_at q (OfJob j o.0) o.1 in
      record { number = n.number; part = o.0; below = n.below; place = n.place; is = n.is }
