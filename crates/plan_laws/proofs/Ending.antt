-- The whole plan that a draft becomes.
use Rattle.std.proofs.Common.{◌≡◌, ℕ, zero, suc, ◌+◌, ◌-◌, ◌<◌, false, ne_eqb, List, [], ◌∷◌, ◌++◌, length, map, Option, Some, None, refl, sym, ap, subst, ◌∙◌, arith, append-nil}
use Rattle.std.specs.Prelude.{slice_get, if◌then◌else◌}
use Rattle.std.proofs.lemmas.List.{append_assoc}
use Rattle.job_base.specs.declared.JobId.{JobId}
use Rattle.merge_laws.specs.Graph.{Cells, cells_before}
use Rattle.merge_laws.specs.Pieces as made
use Rattle.frame_core.specs.declared.piece.Piece.{Piece}
use Rattle.frame_core.specs.declared.piece.Piece.TheVariants.{OfScript, OfJob}
use Rattle.frame_core.specs.declared.plan.JobPlan.{JobPlan}
use Rattle.frame_core.specs.declared.plan.Segment.{Segment}
use Rattle.frame_core.specs.declared.plan.Plan.{Plan}
use Rattle.frame_core.specs.Names.{has_job, waits_in, ops_in, segment_at, job_at, pieces_of}
use Rattle.frame_core.specs.Pieces.{parts_from, parts_of, started, order_from, script_order, segment_place, place_of}
use Rattle.frame_core.specs.Touches.{reads_in, writes_in, ops_touch}
use Rattle.frame_core.specs.Operations.{ops_cells, ops_refused}
use Rattle.frame_core.specs.Effects.{touches, piece_cells, is_last, all_own_words}
use Rattle.frame_core.specs.Graphs.{piece_at, cells_at, graph_of, before_piece}
use Rattle.frame_core.specs.Output.{ops_lines, lines_of, refused_of, plan_lines, plan_refused, pieces_in}
use Rattle.frame_core.proofs.Small.{some_is, none_some, get_before, get_behind}
use Rattle.plan_laws.specs.Drafts.{Output, segment_piece, part_piece, parts, started_parts, started_traps, pieces_onto, output_onto, with_ops, with_traps, no_output, cells_past}
use Rattle.plan_laws.specs.WholePlans.{made_piece, turned, whole_pieces}
use Rattle.plan_laws.specs.Ending.{Ends, PiecesAreMade, IsReported, LinesAreReported}
use Rattle.plan_laws.proofs.WholePlans.{at_back, back_old, back_new, turned_append, turned_top, turned_get, length-turned}

-- a piece more of a job
parts_more : (j i n : ℕ) → parts_from j i (suc n) ≡ parts_from j i n ++ OfJob j (i + n) ∷ []
parts_more j i zero = let e : i ≡ i + 0 = omega arith in ap (λ k. OfJob j k ∷ []) e
parts_more j i (suc n) = let e : suc i + n ≡ i + suc n = omega arith in ap (λ ps. OfJob j i ∷ ps)
    (parts_more j (suc i) n ∙ ap (λ k. parts_from j (suc i) n ++ OfJob j k ∷ []) e)

pub order_more : (jobs : List JobPlan) (k : ℕ) (xs : List Segment) (y : Segment) → y.starts ≡ None
    → order_from jobs k (xs ++ y ∷ []) ≡ order_from jobs k xs ++ OfScript (k + length xs) ∷ []
order_more jobs k [] y e = let z : k ≡ k + 0 = omega arith in (λ i. OfScript (z i) ∷ (started jobs (e i) ++ []))
order_more jobs k (x ∷ xs) y e =
    let z : suc k + length xs ≡ k + suc (length xs) = omega arith in
    ap (λ ps. OfScript k ∷ (started jobs x.starts ++ ps)) (order_more jobs (suc k) xs y e ∙ ap (λ n. order_from jobs (suc k) xs ++ OfScript n ∷ []) z)
    ∙ ap (λ ps. OfScript k ∷ ps) (sym (append_assoc (started jobs x.starts) (order_from jobs (suc k) xs) (OfScript (k + suc (length xs)) ∷ [])))

module _ (plan : Plan) where
  abbrev pub make : Piece → made.Piece
  make x = made_piece plan x

  abbrev pub all : List Piece → List made.Piece
  all top = map make top

  pub all_parts : (j n : ℕ) (top : List Piece) → all (turned top (parts_from j 0 n)) ≡ parts plan j n ++ all top
  all_parts j zero top = refl
  all_parts j (suc n) top =
      let z : 0 + n ≡ n = omega arith in
      ap (λ ps. all (turned top ps)) (parts_more j 0 n ∙ ap (λ k. parts_from j 0 n ++ OfJob j k ∷ []) z)
      ∙ ap all (turned_append (parts_from j 0 n) (OfJob j n ∷ []) top)
      ∙ ap (λ ps. part_piece plan j n ∷ ps) (all_parts j n top)

  pub all_started : (o : Option JobId) (top : List Piece) → all (turned top (started plan.jobs.items o)) ≡ started_parts plan o ++ all top
  all_started None top = refl
  all_started (Some id) top = by (job_at plan (id.0 - 1))
    where
      by : (x : Option JobPlan) → all (turned top (parts_of (id.0 - 1) x)) ≡ parts plan (id.0 - 1) (pieces_in x) ++ all top
      by None = refl
      by (Some x) = all_parts (id.0 - 1) (pieces_of x) top

  -- a segment that isn't the last one
  pub segment_is : (k : ℕ) (s : Segment) → segment_at plan k ≡ Some s → is_last plan k ≡ false
      → make (OfScript k) ≡ segment_piece plan s.waits.items s.ops.items
  unfolding touches piece_cells
  segment_is k s e last =
      let ts : ops_touch (ops_in (segment_at plan k)) ++ (if is_last plan k then all_own_words plan ∷ [] else []) ≡ ops_touch s.ops.items =
      (λ i. ops_touch (ops_in (e i)) ++ (if last i then all_own_words plan ∷ [] else [])) ∙ append-nil (ops_touch s.ops.items) in
      λ i. record { job = 0; after = has_job (waits_in (e i)); reads = reads_in (ts i); writes = writes_in (ts i); effect = ops_cells plan (ops_in (e i)) }

  -- the segments from one on
  abbrev pub AreFrom : ℕ → List Segment → Type 0
  AreFrom k segments = (i : ℕ) → i < length segments → (segment_at plan (k + i) ≡ slice_get segments i) × (is_last plan (k + i) ≡ false)

  pub from_next : (k : ℕ) (s : Segment) (more : List Segment) → AreFrom k (s ∷ more) → AreFrom (suc k) more
  from_next k s more are i lt = let e : suc k + i ≡ k + suc i = omega arith in let a = are (suc i) (omega arith) in
      (ap (segment_at plan) e ∙ a.0, ap (is_last plan) e ∙ a.1)

  pub here : (k : ℕ) (s : Segment) (more : List Segment) → AreFrom k (s ∷ more) → (segment_at plan k ≡ Some s) × (is_last plan k ≡ false)
  here k s more are = let e : k ≡ k + 0 = omega arith in let a = are 0 (omega arith) in (ap (segment_at plan) e ∙ a.0, ap (is_last plan) e ∙ a.1)

  pub all_onto : (segments : List Segment) (k : ℕ) (top : List Piece) → AreFrom k segments
      → all (turned top (order_from plan.jobs.items k segments)) ≡ pieces_onto plan (all top) segments
  all_onto [] k top are = refl
  all_onto (s ∷ more) k top are =
      let h = here k s more are in
      ap all (turned_append (started plan.jobs.items s.starts) (order_from plan.jobs.items (suc k) more) (OfScript k ∷ top))
      ∙ all_onto more (suc k) (turned (OfScript k ∷ top) (started plan.jobs.items s.starts)) (from_next k s more are)
      ∙ ap (λ ps. pieces_onto plan ps more) (all_started s.starts (OfScript k ∷ top))
      ∙ ap (λ p. pieces_onto plan (started_parts plan s.starts ++ p ∷ all top) more) (segment_is k s h.0 h.1)

  module _ (segments : List Segment) (final : Segment) (ends : Ends plan segments final) where
    pub count : length plan.segments.items ≡ suc (length segments)
    count = ap length ends.segments_are ∙ long segments
      where
        long : (xs : List Segment) → length (xs ++ final ∷ []) ≡ suc (length xs)
        long [] = refl
        long (x ∷ xs) = ap suc (long xs)

    pub are_from : AreFrom 0 segments
    are_from i lt =
        let z : 0 + i ≡ i = omega arith in (
          ap (segment_at plan) z ∙ ap (λ ss. slice_get ss i) ends.segments_are ∙ get_before segments (final ∷ []) i lt,
          ap (is_last plan) z ∙ ne_eqb (suc i) (length plan.segments.items) (λ e. let c = count in omega arith),
        )

    pieces_made : whole_pieces plan ≡ make (OfScript (length segments)) ∷ pieces_onto plan [] segments
    unfolding script_order
    pieces_made =
        let z : 0 + length segments ≡ length segments = omega arith in
        ap (λ ss. all (turned [] (order_from plan.jobs.items 0 ss))) ends.segments_are
        ∙ ap (λ ps. all (turned [] ps)) (order_more plan.jobs.items 0 segments final ends.starts)
        ∙ ap all (turned_append (order_from plan.jobs.items 0 segments) (OfScript (0 + length segments) ∷ []) [])
        ∙ (λ i. make (OfScript (z i)) ∷ all_onto segments 0 [] are_from i)

    -- ---- the run

    -- a beginning of the script order, turned round
    abbrev pub IsBegun : List Piece → Type 0
    IsBegun top = (p : ℕ) → p < length top → at_back top p ≡ piece_at plan p

    begun_less : (x : Piece) (top : List Piece) → IsBegun (x ∷ top) → IsBegun top
    begun_less x top b p lt = sym (back_old x top p (λ e. omega arith)) ∙ b p (omega arith)

    pub cells_are : (top : List Piece) → IsBegun top → cells_past plan (all top) ≡ cells_before (graph_of plan) (length top)
    unfolding graph_of
    cells_are [] b = refl
    cells_are (x ∷ top) b =
        ap (make x).effect (cells_are top (begun_less x top b))
        ∙ made_effect x (cells_before (graph_of plan) (length top))
        ∙ ap (λ o. cells_at plan o (cells_before (graph_of plan) (length top))) (sym (back_new x top) ∙ b (length top) (omega arith))
      where
        made_effect : (x : Piece) (cells : Cells) → (make x).effect cells ≡ cells_at plan (Some x) cells
        made_effect (OfScript k) cells = refl
        made_effect (OfJob j i) cells = refl

    pub next_place : (ss : List Segment) (k : ℕ) (s : Segment) → slice_get ss k ≡ Some s
        → segment_place plan.jobs.items ss (suc k) ≡ segment_place plan.jobs.items ss k + suc (length (started plan.jobs.items s.starts))
    next_place [] k s e = absurd (none_some e)
    next_place (x ∷ ss) zero s e = ap (λ (x : Segment). suc (length (started plan.jobs.items x.starts) + segment_place plan.jobs.items ss 0)) (some_is e)
        ∙ zero_place ss
      where
        zero_place : (ss : List Segment) → suc (length (started plan.jobs.items s.starts) + segment_place plan.jobs.items ss 0) ≡ 0 + suc
            (length (started plan.jobs.items s.starts))
        zero_place [] = omega arith
        zero_place (y ∷ ss) = omega arith
    next_place (x ∷ ss) (suc k) s e = let r = next_place ss k s e in omega arith

    -- the cells before a segment
    pub before_is : (k : ℕ) (top : List Piece) → IsBegun top → length top ≡ segment_place plan.jobs.items plan.segments.items k
        → cells_past plan (all top) ≡ before_piece plan (OfScript k)
    unfolding before_piece place_of
    before_is k top b e = cells_are top b ∙ ap (cells_before (graph_of plan)) e

    told_are : (more : List Segment) (k : ℕ) (top : List Piece) (told : Output) → AreFrom k more → IsBegun (turned top (order_from plan.jobs.items k more))
        → length top ≡ segment_place plan.jobs.items plan.segments.items k
        → told.lines ≡ lines_of plan k → told.refused ≡ refused_of plan k
        → ((output_onto plan (all top) told more).lines ≡ lines_of plan (k + length more))
        × ((output_onto plan (all top) told more).refused ≡ refused_of plan (k + length more))
    told_are [] k top told are b place lines refused = let z : k ≡ k + 0 = omega arith in (lines ∙ ap (lines_of plan) z, refused ∙ ap (refused_of plan) z)
    told_are (s ∷ more) k top told are b place lines refused =
        let h = here k s more are in
        let next : List Piece = turned (OfScript k ∷ top) (started plan.jobs.items s.starts) in
        let turn = turned_append (started plan.jobs.items s.starts) (order_from plan.jobs.items (suc k) more) (OfScript k ∷ top) in
        let b_next : IsBegun (turned next (order_from plan.jobs.items (suc k) more)) = subst IsBegun turn b in
        let b_top : IsBegun top = (λ p lt. sym (turned_top (order_from plan.jobs.items k (s ∷ more)) top p lt)
        ∙ b p (let l = length-turned (order_from plan.jobs.items k (s ∷ more)) top in omega arith)) in
        let cells = before_is k top b_top place in
        let long = length-turned (started plan.jobs.items s.starts) (OfScript k ∷ top) in
        let place_next : length next ≡ segment_place plan.jobs.items plan.segments.items (suc k) =
        (let q = next_place plan.segments.items k s h.0 in omega arith) in
        let now : Output = with_traps (started_traps plan (segment_piece plan s.waits.items s.ops.items ∷ all top) s.starts)
        (with_ops plan s.ops.items (cells_past plan (all top)) told) in
        let now_lines : now.lines ≡ lines_of plan (suc k) = (λ i. lines i ++ ops_lines plan s.ops.items (cells i))
        ∙ ap (λ o. lines_of plan k ++ ops_lines plan (ops_in o) (before_piece plan (OfScript k))) (sym h.0) in
        let now_refused : now.refused ≡ refused_of plan (suc k) = (λ i. refused i + ops_refused plan s.ops.items (cells i))
        ∙ ap (λ o. refused_of plan k + ops_refused plan (ops_in o) (before_piece plan (OfScript k))) (sym h.0) in
        let r = told_are more (suc k) next now (from_next k s more are) b_next place_next now_lines now_refused in
        let same : started_parts plan s.starts ++ segment_piece plan s.waits.items s.ops.items ∷ all top ≡ all next =
        sym (all_started s.starts (OfScript k ∷ top) ∙ ap (λ p. started_parts plan s.starts ++ p ∷ all top) (segment_is k s h.0 h.1)) in
        let z : suc k + length more ≡ k + suc (length more) = omega arith in (
          ap (λ ps. (output_onto plan ps now more).lines) same ∙ r.0 ∙ ap (lines_of plan) z,
          ap (λ ps. (output_onto plan ps now more).refused) same ∙ r.1
              ∙ ap (refused_of plan) z,
        )

    pub no_place : (ss : List Segment) → segment_place plan.jobs.items ss 0 ≡ 0
    no_place [] = refl
    no_place (s ∷ ss) = refl

    pub begins : (p : ℕ) → p < length (turned [] (order_from plan.jobs.items 0 segments))
        → at_back (turned [] (order_from plan.jobs.items 0 segments)) p ≡ piece_at plan p
    unfolding script_order
    begins p lt =
        let l = length-turned (order_from plan.jobs.items 0 segments) [] in
        turned_get (order_from plan.jobs.items 0 segments) p
        ∙ sym (get_before (order_from plan.jobs.items 0 segments) (OfScript (0 + length segments) ∷ []) p (omega arith))
        ∙ ap (λ ps. slice_get ps p) (sym (order_more plan.jobs.items 0 segments final ends.starts))
        ∙ ap (λ ss. slice_get (order_from plan.jobs.items 0 ss) p) (sym ends.segments_are)

    told : IsReported plan segments
    unfolding plan_lines plan_refused script_order
    told =
        let none = no_place plan.segments.items in
        let begun : IsBegun (turned [] (order_from plan.jobs.items 0 segments)) = begins in
        let r = told_are segments 0 [] no_output are_from begun (sym none) refl refl in
        let z : 0 + length segments ≡ length segments = omega arith in
        let c = count in
        let last : ops_in (segment_at plan (length segments)) ≡ [] = (ap (λ ss. ops_in (slice_get ss (length segments))) ends.segments_are
        ∙ ap ops_in ((let y : length segments ≡ length segments + 0 = omega arith in ap (slice_get (segments ++ final ∷ [])) y)
        ∙ get_behind segments (final ∷ []) 0) ∙ ends.ops) in
        record {
          lines = ap (lines_of plan) c ∙ ap (λ ops. lines_of plan (length segments) ++ ops_lines plan ops (before_piece plan (OfScript (length segments)))) last
              ∙ append-nil (lines_of plan (length segments)) ∙ ap (lines_of plan) (sym z) ∙ sym r.0;
          refused = ap (refused_of plan) c ∙ ap (λ ops. refused_of plan (length segments) + ops_refused plan ops
              (before_piece plan (OfScript (length segments)))) last ∙ (let y : refused_of plan (length segments) + 0 ≡ refused_of plan (length segments) =
              omega arith in y) ∙ ap (refused_of plan) (sym z) ∙ sym r.1;
        }

pub pieces_are_made : PiecesAreMade
pieces_are_made plan segments final ends = pieces_made plan segments final ends

pub lines_are_reported : LinesAreReported
lines_are_reported plan segments final ends = told plan segments final ends
