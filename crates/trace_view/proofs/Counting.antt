-- One piece or one segment more.
use Rattle.std.proofs.Common.{◌≡◌, ℕ, suc, ◌+◌, ◌<◌, List, [], ◌∷◌, ◌++◌, map, sym, ap, ◌∙◌, append_assoc, arith}
use Rattle.std.specs.Prelude.{◌-◌}
use Rattle.std.proofs.lemmas.List.{map-append}
use Rattle.frame_core.specs.declared.plan.JobPlan.{JobPlan}
use Rattle.frame_core.specs.Names.{numbers_from}
use Rattle.trace_text.specs.declared.data.PieceTrace.{PieceTrace}
use Rattle.trace_text.specs.declared.data.SegmentTrace.{SegmentTrace}
use Rattle.trace_view.specs.Shapes.{PieceShape, piece_shape, shape_at, piece_shapes, segment_number}

one_less : (w k : ℕ) → k < w → w - k ≡ suc (w - (k + 1))
one_less w k lt = omega arith

-- a list with one more at its end, and what is still to come
on : {A B : Type 0} (f : A → B) (olds news : List A) (t : A) (rest : List B) → news ≡ olds ++ (t ∷ [])
    → map f news ++ rest ≡ map f olds ++ (f t ∷ rest)
on f olds news t rest pushed =
    ap (λ ys. map f ys ++ rest) pushed
    ∙ ap (λ ys. ys ++ rest) (map-append f olds (t ∷ []))
    ∙ append_assoc (map f olds) (f t ∷ []) rest

pub pieces_on : (x : JobPlan) (olds news : List PieceTrace) (t : PieceTrace) (w i : ℕ) (total : List PieceShape) → i < w
    → piece_shape t ≡ shape_at x i → news ≡ olds ++ (t ∷ []) → map piece_shape olds ++ piece_shapes x i (w - i) ≡ total
    → map piece_shape news ++ piece_shapes x (i + 1) (w - (i + 1)) ≡ total
pieces_on x olds news t w i total lt is pushed h =
    on piece_shape olds news t (piece_shapes x (i + 1) (w - (i + 1))) pushed
    ∙ ap (λ p. map piece_shape olds ++ (p ∷ piece_shapes x (i + 1) (w - (i + 1)))) is
    ∙ ap (λ n. map piece_shape olds ++ piece_shapes x i n) (sym (one_less w i lt))
    ∙ h

pub segments_on : (olds news : List SegmentTrace) (t : SegmentTrace) (w k : ℕ) (total : List ℕ) → k < w
    → segment_number t ≡ k + 1 → news ≡ olds ++ (t ∷ []) → map segment_number olds ++ numbers_from (k + 1) (w - k) ≡ total
    → map segment_number news ++ numbers_from (k + 1 + 1) (w - (k + 1)) ≡ total
segments_on olds news t w k total lt is pushed h =
    let up : k + 1 + 1 ≡ suc (k + 1) = omega arith in
    ap (λ m. map segment_number news ++ numbers_from m (w - (k + 1))) up
    ∙ on segment_number olds news t (numbers_from (suc (k + 1)) (w - (k + 1))) pushed
    ∙ ap (λ n. map segment_number olds ++ (n ∷ numbers_from (suc (k + 1)) (w - (k + 1)))) is
    ∙ ap (λ n. map segment_number olds ++ numbers_from (k + 1) n) (sym (one_less w k lt))
    ∙ h
