-- A segment is closed.
use Rattle.std.proofs.Common.{◌≡◌, ℕ, zero, suc, ◌+◌, List, [], ◌∷◌, ◌++◌, length, refl, sym, ap, subst, ◌∙◌, arith, append-nil}
use Rattle.merge_laws.specs.Pieces.{Piece}
use Rattle.frame_core.specs.declared.plan.Segment.{Segment}
use Rattle.frame_core.specs.declared.plan.Plan.{Plan}
use Rattle.frame_core.specs.Names.{starts_from, number_in, numbers_from}
use Rattle.frame_core.specs.Ordered.{OpsStand}
use Rattle.plan_laws.specs.Drafts.{Output, segment_piece, started_parts, started_traps, pieces_onto, output_onto, with_ops, with_traps, cells_past}
use Rattle.plan_laws.specs.Planned.{ClosedStand, StartedStand, SegmentFits, SegmentsFit}

pub pieces_onto-one : (plan : Plan) (earlier : List Piece) (xs : List Segment) (s : Segment)
    → pieces_onto plan earlier (xs ++ s ∷ []) ≡ started_parts plan s.starts ++ segment_piece plan s.waits.items s.ops.items ∷ pieces_onto plan earlier xs
pieces_onto-one plan earlier [] s = refl
pieces_onto-one plan earlier (x ∷ xs) s = pieces_onto-one plan (started_parts plan x.starts ++ segment_piece plan x.waits.items x.ops.items ∷ earlier) xs s

pub output_onto-one : (plan : Plan) (earlier : List Piece) (told : Output) (xs : List Segment) (s : Segment)
    → output_onto plan earlier told (xs ++ s ∷ []) ≡ with_traps (started_traps plan
    (segment_piece plan s.waits.items s.ops.items ∷ pieces_onto plan earlier xs) s.starts)
    (with_ops plan s.ops.items (cells_past plan (pieces_onto plan earlier xs)) (output_onto plan earlier told xs))
output_onto-one plan earlier told [] s = refl
output_onto-one plan earlier told (x ∷ xs) s =
    let here = segment_piece plan x.waits.items x.ops.items ∷ earlier in
    output_onto-one plan (started_parts plan x.starts ++ here) (with_traps (started_traps plan here x.starts)
    (with_ops plan x.ops.items (cells_past plan earlier) told)) xs s

pub closed_stand-one : (plan : Plan) (earlier : List Piece) (xs : List Segment) (s : Segment) → ClosedStand plan earlier xs
    → OpsStand plan s.ops.items (cells_past plan (pieces_onto plan earlier xs))
    → StartedStand plan (segment_piece plan s.waits.items s.ops.items ∷ pieces_onto plan earlier xs) s.starts → ClosedStand plan earlier (xs ++ s ∷ [])
closed_stand-one plan earlier [] s c ops started = (ops, started, tt)
closed_stand-one plan earlier (x ∷ xs) s c ops started = (
  c.0,
  c.1,
  closed_stand-one plan
      (started_parts plan x.starts ++ segment_piece plan x.waits.items x.ops.items ∷ earlier) xs s c.2 ops started,
)

pub starts_from-one : (xs : List Segment) (s : Segment) → starts_from (xs ++ s ∷ []) ≡ starts_from xs ++ number_in s.starts
starts_from-one [] s = append-nil (number_in s.starts)
starts_from-one (x ∷ xs) s = ap (λ ns. number_in x.starts ++ ns) (starts_from-one xs s)
    ∙ sym (Rattle.std.proofs.lemmas.List.append_assoc (number_in x.starts) (starts_from xs) (number_in s.starts))

pub length-both : {A : Type 0} (xs ys : List A) → length (xs ++ ys) ≡ length xs + length ys
length-both [] ys = omega arith
length-both (x ∷ xs) ys = let r = length-both xs ys in omega arith

pub length-numbers : (m n : ℕ) → length (numbers_from m n) ≡ n
length-numbers m zero = refl
length-numbers m (suc n) = ap suc (length-numbers (suc m) n)

pub segments_fit-one : (plan : Plan) (n : ℕ) (xs : List Segment) (s : Segment) → SegmentsFit plan n xs → SegmentFits plan (n + length (starts_from xs)) s
    → SegmentsFit plan n (xs ++ s ∷ [])
segments_fit-one plan n [] s h f = (let z : n + 0 ≡ n = omega arith in subst (λ k. SegmentFits plan k s) z f, tt)
segments_fit-one plan n (x ∷ xs) s h f =
    let l = length-both (number_in x.starts) (starts_from xs) in
    let e : n + length (starts_from (x ∷ xs)) ≡ (n + length (number_in x.starts)) + length (starts_from xs) = omega arith in
    (h.0, segments_fit-one plan (n + length (number_in x.starts)) xs s h.1 (subst (λ k. SegmentFits plan k s) e f))

-- as many segments start a job as there are jobs
pub jobs_started : (xs : List Segment) (n : ℕ) → starts_from xs ≡ numbers_from 1 n → 0 + length (starts_from xs) ≡ n
jobs_started xs n e = let l = ap length e ∙ length-numbers 1 n in omega arith
