-- The footprint of a piece, from its parts.
use Rattle.std.proofs.Common.{◌≡◌, ℕ, ◌+◌, ◌*◌, ◌<◌, ◌≤◌, Bool, true, cond, ◌&&◌, ◌||◌, List, [], ◌∷◌, ◌++◌, length, Some, refl, sym, ap, subst, ◌∙◌, get_or}
use Rattle.std.proofs.lemmas.List.{append_assoc}
use Rattle.std.proofs.lemmas.Option.{slice_get_read}
use Rattle.job_base.specs.declared.Span.{Span}
use Rattle.frame_ast.specs.declared.kernel.Kernel.{Kernel}
use Rattle.frame_ast.specs.declared.kernel.Param.{Param}
use Rattle.kernel_exec.specs.declared.binds.Bind.{Bind}
use Rattle.frame_core.specs.declared.piece.Piece.{Piece}
use Rattle.frame_core.specs.declared.piece.Piece.TheVariants.{OfScript, OfJob}
use Rattle.frame_core.specs.declared.plan.JobPlan.{JobPlan}
use Rattle.frame_core.specs.declared.plan.Segment.{Segment}
use Rattle.frame_core.specs.declared.plan.Op.{Op}
use Rattle.frame_core.specs.declared.plan.Plan.{Plan}
use Rattle.frame_core.specs.declared.touch.Touch.{Touch}
use Rattle.frame_core.specs.Names.{job_at, segment_at, kernel_of, ops_in, indexes_of}
use Rattle.frame_core.specs.Pieces.{own_word, piece_numbered, IsPieceOf}
use Rattle.frame_core.specs.Touches.{has_word, counts, hits, binds_touch, ops_touch}
use Rattle.frame_core.specs.Effects.{is_last, all_own_words, touches}
use Rattle.frame_core.specs.Know.{piece_count}
use Rattle.frame_core.specs.Ordered.{IsWellOrderedPlan}
use Rattle.frame_core.proofs.Extents.Hitting.{hits_append}
use Rattle.frame_core.proofs.PartRuns as part
use Rattle.frame_core.proofs.PartRuns.{job_of_piece}
use Rattle.frame_core.proofs.Planned.{has_kernel, pieces_are_named}

-- what stands at a place
pub segment_there : (plan : Plan) (k : ℕ) (s : Segment) → k < length plan.segments.items → s ≡ get_or plan.segments.items k s → segment_at plan k ≡ Some s
segment_there plan k s lt e = slice_get_read plan.segments.items (length plan.segments.items) k s refl lt e

-- a segment: its operations, and what it reads of the own words
module _ (plan : Plan) (k : ℕ) (s : Segment) (ops : List Op) (last : List Touch) (hs : segment_at plan k ≡ Some s) (eo : ops ≡ s.ops.items)
    (el : last ≡ cond (is_last plan k) (all_own_words plan ∷ []) []) where
  pub segment_are : ops_touch ops ++ last ≡ touches plan (OfScript k)
  unfolding touches
  segment_are =
      ap (λ xs. ops_touch ops ++ xs) el
      ∙ (ap (λ (o : List Op). ops_touch o ++ cond (is_last plan k) (all_own_words plan ∷ []) []) eo
      ∙ ap (λ o. ops_touch (ops_in o) ++ cond (is_last plan k) (all_own_words plan ∷ []) []) (sym hs))

  pub segment_hits : (only : Bool) (w : ℕ) (a b : Bool) → a ≡ hits only (ops_touch ops) w → b ≡ hits only last w
      → (a || b) ≡ hits only (touches plan (OfScript k)) w
  segment_hits only w a b ea eb =
      ap (λ x. x || b) ea
      ∙ (ap (λ x. hits only (ops_touch ops) w || x) eb
      ∙ (sym (hits_append only (ops_touch ops) last w) ∙ ap (λ ts. hits only ts w) segment_are))

  pub segment_listed : (old mid : List Touch) → mid ≡ old ++ ops_touch ops → mid ++ last ≡ old ++ touches plan (OfScript k)
  segment_listed old mid e = ap (λ l. l ++ last) e ∙ (append_assoc old (ops_touch ops) last ∙ ap (λ l. old ++ l) segment_are)

-- the own word of a piece of a job is a word of the plan
pub own_there : (plan : Plan) (well : IsWellOrderedPlan plan) (j i : ℕ) (x : JobPlan) → IsPieceOf plan (OfJob j i) → x ≡ get_or plan.jobs.items j x
    → plan.cells + (x.first.0 + i) + 1 ≤ plan.words
own_there plan well j i x p e =
    let h = job_of_piece plan j i x p e in
    let k = has_kernel plan well.jobs j x h.job in
    part.own_within plan well j i x k.0 h.job k.1 h.below

-- a piece of a job: its own word, and what its indexes touch
pub part_are : (plan : Plan) (well : IsWellOrderedPlan plan) (j i : ℕ) (x : JobPlan) (k : Kernel) (hx : job_at plan j ≡ Some x) (hk : kernel_of plan x ≡ Some k)
    (ps : List Param) (bs : List Bind) (span : Span) (own : ℕ)
    → own ≡ own_word plan j i → ps ≡ k.params.items → bs ≡ x.binds.items → span ≡ indexes_of x i
    → touches plan (OfJob j i) ≡ record { from = own; end = own + 1; written = true } ∷ binds_touch x.parallel ps bs span.start (span.start + span.len)
part_are plan well j i x k hx hk ps bs span own eo ep eb es =
    let t : ℕ → Touch = λ n. record { from = n; end = n + 1; written = true } in
    part.touches_are plan well j i x k hx hk
    ∙ (ap (λ (y : ℕ). t y ∷ binds_touch x.parallel k.params.items x.binds.items (indexes_of x i).start ((indexes_of x i).start + (indexes_of x i).len)) (sym eo)
    ∙ (ap (λ (y : Span). t own ∷ binds_touch x.parallel k.params.items x.binds.items y.start (y.start + y.len)) (sym es)
    ∙ (ap (λ (y : List Bind). t own ∷ binds_touch x.parallel k.params.items y span.start (span.start + span.len)) (sym eb)
    ∙ ap (λ (y : List Param). t own ∷ binds_touch x.parallel y bs span.start (span.start + span.len)) (sym ep))))

-- a piece that touches one span, and then others
pub part_listed : (old mid : List Touch) (t : Touch) (more all : List Touch) → all ≡ t ∷ more → mid ≡ old ++ t ∷ [] → mid ++ more ≡ old ++ all
part_listed old mid t more all e em = ap (λ l. l ++ more) em ∙ (append_assoc old (t ∷ []) more ∙ ap (λ l. old ++ l) (sym e))

-- a number's piece is one of the plan's
pub named : (plan : Plan) → IsWellOrderedPlan plan → (p : ℕ) (x : Piece) → p < piece_count plan → x ≡ piece_numbered plan p → IsPieceOf plan x
named plan well p x lt e = subst (IsPieceOf plan) (sym e) ((pieces_are_named plan well).numbered p lt).0
