-- A segment that is run on its cells.
use Rattle.std.proofs.Common.{◌≡◌, ℕ, suc, ◌+◌, ◌<◌, Bool, true, false, cond, List, [], ◌∷◌, length, All, get_or, Option, Some, None, IsTrue, refl, sym, ap, subst, ◌∙◌, arith, eqb-true, eq-eqb}
use Rattle.std.specs.Prelude.{nat_eq}
use Rattle.std.proofs.lemmas.Option.{slice_get_read}
use Rattle.merge_laws.specs.Graph.{Cells}
use Rattle.frame_core.specs.declared.piece.Piece.{Piece}
use Rattle.frame_core.specs.declared.piece.Piece.TheVariants.{OfScript}
use Rattle.frame_core.specs.declared.plan.Op.{Op}
use Rattle.frame_core.specs.declared.plan.Plan.{Plan}
use Rattle.frame_core.specs.declared.plan.Segment.{Segment}
use Rattle.frame_core.specs.declared.touch.Touch.{Touch}
use Rattle.frame_core.specs.Names.{job_pieces, segment_at, ops_in}
use Rattle.frame_core.specs.Pieces.{piece_numbered}
use Rattle.frame_core.specs.Touches.{has_word, reads_in, writes_in, ops_touch}
use Rattle.frame_core.specs.Operations.{ops_cells, ops_refused}
use Rattle.frame_core.specs.Effects.{touches, piece_cells, is_last, all_own_words}
use Rattle.frame_core.specs.Graphs.{before_piece}
use Rattle.frame_core.specs.Output.{ops_lines, segment_lines, segment_refused}
use Rattle.frame_core.specs.Know.{reads, writes}
use Rattle.frame_core.specs.Ordered.{IsWellOrderedPlan, OpFits, OpsStand}
use Rattle.frame_core.specs.Rights.{MayReadIn, MayWriteIn}
use Rattle.frame_core.proofs.Numbered.{of_script}
use Rattle.frame_core.proofs.Reported.OwnWords.{traps_are_told}
use Rattle.frame_core.proofs.Extents.Touching.{reads_append, writes_append, has_it}
use Rattle.plan_run.specs.Lines.{segment_cells, MayReadOwn, TellAll}
use Rattle.plan_run.specs.Says.{Said, Says}
use Rattle.plan_run.proofs.InOps.{first_way, second_way}

-- THE CELLS BEFORE IT

module _ (plan : Plan) (well : IsWellOrderedPlan plan) (i : ℕ) where
  stand_in : (o : Option Segment) → segment_at plan i ≡ o → OpsStand plan (ops_in o) (before_piece plan (OfScript i))
  stand_in None e = tt
  stand_in (Some s) e = well.stand.ops i s e

  -- before the last segment the own words of pieces tell the traps
  pub told : (cells : Cells) → cells ≡ before_piece plan (OfScript i) → suc i ≡ length plan.segments.items → TellAll plan cells
  told cells e last = subst (TellAll plan) (sym e) (λ j h is. (traps_are_told plan well j h is).last i last)

-- RIGHTS

as_true : (b : Bool) → b ≡ true → IsTrue b
as_true b e = e

-- the lease of a segment allows what the segment touches

pub may_read_as : (plan q : Plan) → plan ≡ q → (p i : ℕ) → p ≡ job_pieces plan + i → (read : ℕ → Bool) → reads q p ≡ read
    → MayReadIn (touches plan (OfScript i)) read
may_read_as plan q e p i at read is w t =
    let here : piece_numbered plan p ≡ OfScript i = ap (piece_numbered plan) at ∙ of_script plan i in
    let same : read w ≡ reads_in (touches plan (OfScript i)) w =
    ap (λ (f : ℕ → Bool). f w) (sym is) ∙ (ap (λ (r : Plan). reads r p w) (sym e) ∙ ap (λ (x : Piece). reads_in (touches plan x) w) here) in
    as_true (read w) (same ∙ t)

pub may_write_as : (plan q : Plan) → plan ≡ q → (p i : ℕ) → p ≡ job_pieces plan + i → (write : ℕ → Bool) → writes q p ≡ write
    → MayWriteIn (touches plan (OfScript i)) write
may_write_as plan q e p i at write is w t =
    let here : piece_numbered plan p ≡ OfScript i = ap (piece_numbered plan) at ∙ of_script plan i in
    let same : write w ≡ writes_in (touches plan (OfScript i)) w =
    ap (λ (f : ℕ → Bool). f w) (sym is) ∙ (ap (λ (r : Plan). writes r p w) (sym e) ∙ ap (λ (x : Piece). writes_in (touches plan x) w) here) in
    as_true (write w) (same ∙ t)

module _ (plan : Plan) (well : IsWellOrderedPlan plan) (i : ℕ) (below : i < length plan.segments.items) where
  pub segment_there : (s : Segment) → s ≡ get_or plan.segments.items i s → segment_at plan i ≡ Some s
  segment_there s e = slice_get_read plan.segments.items (length plan.segments.items) i s refl below e

  pub ops_there : (s : Segment) (ops : List Op) → s ≡ get_or plan.segments.items i s → ops ≡ s.ops.items → ops_in (segment_at plan i) ≡ ops
  ops_there s ops e h = ap ops_in (segment_there s e) ∙ sym h

  pub fits : (s : Segment) (ops : List Op) → s ≡ get_or plan.segments.items i s → ops ≡ s.ops.items → All (OpFits plan) ops
  fits s ops e h = subst (All (OpFits plan)) (sym h) (well.ops i s (segment_there s e))

  module _ (ops : List Op) (are : ops_in (segment_at plan i) ≡ ops) where
    pub may_read : (readable now : ℕ → Bool) → now ≡ readable → MayReadIn (touches plan (OfScript i)) readable → MayReadIn (ops_touch ops) now
    unfolding touches
    may_read readable now e h w t =
        let own : List Touch = cond (is_last plan i) (all_own_words plan ∷ []) [] in
        let there : reads_in (ops_touch (ops_in (segment_at plan i))) w ≡ true = ap (λ (l : List Op). reads_in (ops_touch l) w) are ∙ t in
        subst (λ (f : ℕ → Bool). IsTrue (f w)) (sym e) (h w (reads_append (ops_touch (ops_in (segment_at plan i))) own w ∙ first_way _ (reads_in own w) there))

    pub may_write : (writable now : ℕ → Bool) → now ≡ writable → MayWriteIn (touches plan (OfScript i)) writable → MayWriteIn (ops_touch ops) now
    unfolding touches
    may_write writable now e h w t =
        let own : List Touch = cond (is_last plan i) (all_own_words plan ∷ []) [] in
        let there : writes_in (ops_touch (ops_in (segment_at plan i))) w ≡ true = ap (λ (l : List Op). writes_in (ops_touch l) w) are ∙ t in
        subst (λ (f : ℕ → Bool). IsTrue (f w)) (sym e) (h w (writes_append (ops_touch (ops_in (segment_at plan i))) own w
        ∙ first_way _ (writes_in own w) there))

    module _ (cells : Cells) (is : cells ≡ before_piece plan (OfScript i)) where
      as_before : {A : Type 0} (f : List Op → Cells → A) → f ops cells ≡ f (ops_in (segment_at plan i)) (before_piece plan (OfScript i))
      as_before f = ap (f ops) is ∙ ap (λ (l : List Op). f l (before_piece plan (OfScript i))) (sym are)

      pub stands : OpsStand plan ops cells
      stands = subst (OpsStand plan ops) (sym is)
          (subst (λ (l : List Op). OpsStand plan l (before_piece plan (OfScript i))) are (stand_in plan well i (segment_at plan i) refl))

      refused_same : ops_refused plan ops cells ≡ segment_refused plan i
      refused_same = as_before (ops_refused plan)

      pub few : (r limit : ℕ) → r + segment_refused plan i < limit → r + ops_refused plan ops cells < limit
      few r limit lt = let same = refused_same in omega (arith, same, lt)

      pub refused_is : (r s : ℕ) → s ≡ r + ops_refused plan ops cells → s ≡ r + segment_refused plan i
      refused_is r s e = let same = refused_same in omega (arith, same, e)

      pub text_is : (a b : Said) → Says a b (ops_lines plan ops cells) → Says a b (segment_lines plan i)
      text_is a b p = subst (Says a b) (as_before (ops_lines plan)) p

      pub cells_are : (new : Cells) → new ≡ ops_cells plan ops cells → new ≡ segment_cells plan i
      unfolding piece_cells
      cells_are new e = e ∙ as_before (ops_cells plan)

  module _ (n : ℕ) (count : n ≡ length plan.segments.items) (last : nat_eq (i + 1) n ≡ true) where
    pub is_end : suc i ≡ length plan.segments.items
    is_end = let e : i + 1 ≡ n = eqb-true (i + 1) n last in omega (arith, e, count)

    pub may_read_own : (readable : ℕ → Bool) → MayReadIn (touches plan (OfScript i)) readable → MayReadOwn plan readable
    unfolding touches
    may_read_own readable h w lo hi =
        let yes : is_last plan i ≡ true = eq-eqb (suc i) (length plan.segments.items) is_end in
        let own : reads_in (cond (is_last plan i) (all_own_words plan ∷ []) []) w ≡ true =
        ap (λ (b : Bool). reads_in (cond b (all_own_words plan ∷ []) []) w) yes
        ∙ first_way (has_word (all_own_words plan) w) false (has_it (all_own_words plan) w lo hi) in
        h w (reads_append (ops_touch (ops_in (segment_at plan i))) _ w ∙ second_way (reads_in (ops_touch (ops_in (segment_at plan i))) w) _ own)
