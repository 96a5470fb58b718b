-- A piece changes only what it writes, and what it reads decides what it makes.
use Rattle.std.proofs.Common.{◌≡◌, ◌≢◌, ℕ, ◌+◌, ◌<◌, ◌^◌, true, false, cond, eqb, pos, List, [], ◌∷◌, length, Option, Some, None, refl, sym, ap, subst, ◌∙◌, arith}
use Rattle.std.specs.List.{All}
use Rattle.std.proofs.lemmas.Bool.{or_left, or_right}
use Rattle.std.proofs.lemmas.List.Elements.{All-head, All-tail}
use Rattle.job_base.specs.declared.Trap.{Trap}
use Rattle.job_base.specs.Cells.{with_cell}
use Rattle.job_base.proofs.Windows.{with_cell-other}
use Rattle.frame_ast.specs.declared.kernel.Kernel.{Kernel}
use Rattle.frame_ast.specs.Checked.{IsChecked}
use Rattle.frame_ast.specs.JobRuns.{Ran, full_steps}
use Rattle.kernel_exec.specs.Conditions.{BindsFit}
use Rattle.kernel_exec.specs.Laws.{StayAlike}
use Rattle.kernel_exec.proofs.Pieces.{only_written_words_change, read_words_decide}
use Rattle.merge_laws.specs.Graph.{Cells}
use Rattle.frame_core.specs.declared.piece.Piece.{Piece}
use Rattle.frame_core.specs.declared.piece.Piece.TheVariants.{OfScript, OfJob}
use Rattle.frame_core.specs.declared.plan.JobPlan.{JobPlan}
use Rattle.frame_core.specs.declared.plan.Op.{Op}
use Rattle.frame_core.specs.declared.plan.Segment.{Segment}
use Rattle.frame_core.specs.declared.plan.Plan.{Plan}
use Rattle.frame_core.specs.declared.touch.Touch.{Touch}
use Rattle.frame_core.specs.Names.{job_at, segment_at, kernel_of, ops_in, indexes_of}
use Rattle.frame_core.specs.Pieces.{own_word}
use Rattle.frame_core.specs.Touches.{has_word, reads_in, writes_in, binds_touch, ops_touch}
use Rattle.frame_core.specs.Operations.{ops_cells}
use Rattle.frame_core.specs.Effects.{params_in, part_touches, is_last, all_own_words, segment_touches, touches, note_of, noted, part_ran, job_ran, part_run, with_notes, piece_cells}
use Rattle.frame_core.specs.Ordered.{OpFits, AreJobsFitting, AreOpsFitting}
use Rattle.frame_core.specs.Framed.{Frames, PartsKeepToTouches}
use Rattle.frame_core.proofs.Small.{not_both, or_false_left, or_false_right}
use Rattle.frame_core.proofs.Extents.Touching.{reads_append, writes_append, has_it, read_touched, written_touched}
use Rattle.frame_core.proofs.Acting.{AllFit, ops_keep, ops_same}

-- OWN WORDS

abbrev own_touch : ℕ → Touch
own_touch own = record { from = own; end = own + 1; written = true }

noted_keep : (own : ℕ) (ts : List (ℕ × Trap)) (a : Cells) (w : ℕ) → has_word (own_touch own) w ≡ false → noted own ts a w ≡ a w
noted_keep own [] a w out = refl
noted_keep own (t ∷ more) a w out =
    with_cell-other a own (pos (note_of (t ∷ more))) w (λ e. not_both (has_it (own_touch own) w (omega arith) (omega arith)) out)

noted_same : (own : ℕ) (ts : List (ℕ × Trap)) (a b : Cells) (w : ℕ) → b w ≡ a w → noted own ts b w ≡ noted own ts a w
noted_same own [] a b w e = e
noted_same own (t ∷ more) a b w e = λ i. cond (eqb w own) (pos (note_of (t ∷ more))) (e i)

with_notes_frames : (own : ℕ) (ts : List Touch) (run : Cells → Ran Cells)
    → ((a : Cells) (w : ℕ) → writes_in ts w ≡ false → (run a).store w ≡ a w)
    → ((a b : Cells) → ((w : ℕ) → reads_in ts w ≡ true → b w ≡ a w) → ((run a).traps ≡ (run b).traps) × StayAlike a b (run a).store (run b).store)
    → Frames (own_touch own ∷ ts) (λ cells. with_notes own (run cells))
with_notes_frames own ts run keeps decides = record {
  kept = λ a w out.
      noted_keep own (run a).traps (run a).store w (or_false_left (has_word (own_touch own) w) (writes_in ts w) out)
      ∙ keeps a w (or_false_right (has_word (own_touch own) w) (writes_in ts w) out);
  same = λ a b agree w e.
      let d = decides a b (λ u r. agree u (or_right (has_word (own_touch own) u) (reads_in ts u) r)) in
      ap (λ traps. noted own traps (run b).store w) (sym d.0) ∙ noted_same own (run a).traps (run a).store (run b).store w (d.1 w e);
}

-- JOBS

-- through the binds of a piece, and its own words
bound_frames : (own i : ℕ) (x : JobPlan) (k : Kernel) → IsChecked k → BindsFit k x.binds.items
    → Frames (own_touch own ∷ binds_touch x.parallel k.params.items x.binds.items (indexes_of x i).start ((indexes_of x i).start + (indexes_of x i).len))
    (λ cells. with_notes own (part_ran x i (Some k) cells))
bound_frames own i x k checked fit =
    let from = (indexes_of x i).start in
    let n = (indexes_of x i).len in
    with_notes_frames own (binds_touch x.parallel k.params.items x.binds.items from (from + n)) (part_ran x i (Some k))
    (λ a w out. only_written_words_change.at_many k x.binds.items full_steps n from a w checked fit
    (λ u. not_both (written_touched x.parallel from (from + n) k.params.items x.binds.items w u) out))
    (λ a b agree. read_words_decide.at_many k x.binds.items full_steps n from a b checked fit
    (λ w u. agree w (read_touched x.parallel from (from + n) k.params.items x.binds.items w u)))

-- one job that fits its kernel
pub parts_keep_to_touches : PartsKeepToTouches
unfolding touches piece_cells part_run
parts_keep_to_touches plan j i x k h e checked fits =
    let own = own_word plan j i in
    let from = (indexes_of x i).start in
    let to = from + (indexes_of x i).len in
    let there : Frames (part_touches plan j i (Some x)) (λ cells. with_notes own (job_ran plan i (Some x) cells)) =
    subst (λ o. Frames (own_touch own ∷ binds_touch x.parallel (params_in o) x.binds.items from to) (λ cells. with_notes own (part_ran x i o cells))) (sym e)
    (bound_frames own i x k checked fits.binds) in
    subst (λ o. Frames (part_touches plan j i o) (λ cells. with_notes own (job_ran plan i o cells))) (sym h) there

module _ (plan : Plan) (jobs : AreJobsFitting plan) where
  -- without a kernel nothing runs
  by_kernel : (j i : ℕ) (x : JobPlan) → job_at plan j ≡ Some x → (k : Option Kernel) → kernel_of plan x ≡ k
      → Frames (own_touch (own_word plan j i) ∷ binds_touch x.parallel (params_in k) x.binds.items (indexes_of x i).start
      ((indexes_of x i).start + (indexes_of x i).len))
      (λ cells. with_notes (own_word plan j i) (part_ran x i k cells))
  by_kernel j i x h None e =
      with_notes_frames (own_word plan j i) (binds_touch x.parallel [] x.binds.items (indexes_of x i).start ((indexes_of x i).start + (indexes_of x i).len))
      (part_ran x i None)
      (λ a w out. refl) (λ a b agree. (refl, λ w e. e))
  by_kernel j i x h (Some k) e = bound_frames (own_word plan j i) i x k (jobs.checked x.kernel k e) (jobs.fits j x k h e).binds

  job_frames : (j i : ℕ) (o : Option JobPlan) → job_at plan j ≡ o → Frames (part_touches plan j i o)
      (λ cells. with_notes (own_word plan j i) (job_ran plan i o cells))
  job_frames j i None e = record { kept = λ a w out. refl; same = λ a b agree w e. e }
  job_frames j i (Some x) e = by_kernel j i x e (kernel_of plan x) refl

-- SEGMENTS

module _ (plan : Plan) (small : plan.cells < 2 ^ 32) (ops : AreOpsFitting plan) where
  all_fit : (xs : List Op) → All (OpFits plan) xs → AllFit plan small xs
  all_fit [] h = tt
  all_fit (op ∷ more) h = (All-head (OpFits plan) op more h, all_fit more (All-tail (OpFits plan) op more h))

  fit_in : (k : ℕ) (o : Option Segment) → segment_at plan k ≡ o → AllFit plan small (ops_in o)
  fit_in k None e = tt
  fit_in k (Some s) e = all_fit s.ops.items (ops k s e)

  segment_frames : (k : ℕ) → Frames (segment_touches plan k) (λ cells. ops_cells plan (ops_in (segment_at plan k)) cells)
  segment_frames k =
      let os = ops_in (segment_at plan k) in
      let last : List Touch = cond (is_last plan k) (all_own_words plan ∷ []) [] in
      let fit = fit_in k (segment_at plan k) refl in
      record {
        kept = λ a w out. ops_keep plan small os a w fit (or_false_left (writes_in (ops_touch os) w) (writes_in last w)
            (sym (writes_append (ops_touch os) last w) ∙ out));
        same = λ a b agree. ops_same plan small os a b fit (λ w r. agree w
            (reads_append (ops_touch os) last w ∙ or_left (reads_in (ops_touch os) w) (reads_in last w) r));
      }

-- each piece keeps to its footprint, from whatever cells
pub piece_frames : (plan : Plan) → plan.cells < 2 ^ 32 → AreJobsFitting plan → AreOpsFitting plan → (x : Piece) → Frames (touches plan x) (piece_cells plan x)
unfolding touches piece_cells part_run
piece_frames plan small jobs ops (OfScript k) = segment_frames plan small ops k
piece_frames plan small jobs ops (OfJob j i) = job_frames plan jobs j i (job_at plan j) refl
