-- A piece of a job: what it touches, and what it makes of cells.
use Rattle.std.proofs.Common.{◌≡◌, ℕ, suc, ◌+◌, ◌-◌, ◌*◌, ◌<◌, ◌≤◌, ◌^◌, Bool, true, false, cond, IsTrue, List, [], ◌∷◌, length, Option, Some, None, refl, sym, ap, subst, ◌∙◌, arith}
use Rattle.std.proofs.lemmas.Bool.{or_left, or_right}
use Rattle.std.proofs.lemmas.Option.{slice_get_read}
use Rattle.job_base.specs.declared.Span.{Span}
use Rattle.job_base.specs.declared.Trap.{Trap}
use Rattle.frame_ast.specs.declared.kernel.Kernel.{Kernel}
use Rattle.frame_ast.specs.Checked.{IsChecked}
use Rattle.frame_ast.specs.JobRuns.{Ran, full_steps}
use Rattle.kernel_exec.specs.declared.binds.Bind.{Bind}
use Rattle.kernel_exec.specs.Footprint.{IsRead, IsWritten}
use Rattle.kernel_exec.specs.Conditions.{BindsFit}
use Rattle.kernel_exec.specs.Laws.{at_indexes}
use Rattle.merge_laws.specs.Graph.{Cells}
use Rattle.frame_core.specs.declared.piece.Piece.TheVariants.{OfJob}
use Rattle.frame_core.specs.declared.plan.JobPlan.{JobPlan}
use Rattle.frame_core.specs.declared.plan.Plan.{Plan}
use Rattle.frame_core.specs.declared.touch.Touch.{Touch}
use Rattle.kernel_exec.specs.declared.notes.Notes.{Notes}
use Rattle.frame_core.specs.Names.{job_at, kernel_of, indexes_of, pieces_of, pieces_before}
use Rattle.frame_core.specs.Pieces.{own_word, piece_numbered, IsPieceOf}
use Rattle.frame_core.specs.Touches.{has_word, reads_in, writes_in, binds_touch}
use Rattle.frame_core.specs.Effects.{params_in, part_touches, touches, noted, part_ran, job_ran, part_run, with_notes, piece_cells}
use Rattle.frame_core.specs.Rights.{MayReadIn, MayWriteIn}
use Rattle.kernel_exec.specs.Notes.{IsNoteOf}
use Rattle.frame_core.specs.Ordered.{IsWellOrderedPlan}
use Rattle.frame_core.proofs.Small.{some_is, get_below}
use Rattle.frame_core.proofs.Extents.Touching.{has_it, read_touched, written_touched}
use Rattle.frame_core.proofs.Numbered.{pieces_within, pieces_next, part_numbered}

module _ (plan : Plan) (well : IsWellOrderedPlan plan) (j i : ℕ) (x : JobPlan) (k : Kernel) (hx : job_at plan j ≡ Some x) (hk : kernel_of plan x ≡ Some k) where
  abbrev own : Touch
  own = record { from = own_word plan j i; end = own_word plan j i + 1; written = true }

  abbrev from : ℕ
  from = (indexes_of x i).start

  abbrev to : ℕ
  to = (indexes_of x i).start + (indexes_of x i).len

  pub touches_are : touches plan (OfJob j i) ≡ own ∷ binds_touch x.parallel k.params.items x.binds.items from to
  unfolding touches
  touches_are = ap (part_touches plan j i) hx ∙ ap (λ (o : Option Kernel). own ∷ binds_touch x.parallel (params_in o) x.binds.items from to) hk

  pub checked : IsChecked k
  checked = well.jobs.checked x.kernel k hk

  pub fit : BindsFit k x.binds.items
  fit = (well.jobs.fits j x k hx hk).binds

  pub one : (span : Span) → span.start + span.len ≤ x.cut.n → k.parallel ≡ false → span.start + span.len ≤ 1
  one span le e = let n = ((well.jobs.fits j x k hx hk).one e).0 in omega arith

  pub few : (span : Span) → span.start + span.len ≤ x.cut.n → span.start + span.len < 2 ^ 32
  few span le = let n = (well.jobs.fits j x k hx hk).cut.indexes in omega arith

  pub may_read : (readable : ℕ → Bool) → MayReadIn (touches plan (OfJob j i)) readable → (w : ℕ) → IsRead k.params.items x.binds.items from to w
      → IsTrue (readable w)
  may_read readable may w h = may w (ap (λ (ts : List Touch). reads_in ts w) touches_are
      ∙ or_right (has_word own w) (reads_in (binds_touch x.parallel k.params.items x.binds.items from to) w)
      (read_touched x.parallel from to k.params.items x.binds.items w h))

  pub may_write : (writable : ℕ → Bool) → MayWriteIn (touches plan (OfJob j i)) writable → (w : ℕ) → IsWritten k.params.items x.binds.items from to w
      → IsTrue (writable w)
  may_write writable may w h = may w (ap (λ (ts : List Touch). writes_in ts w) touches_are
      ∙ or_right (has_word own w) (writes_in (binds_touch x.parallel k.params.items x.binds.items from to) w)
      (written_touched x.parallel from to k.params.items x.binds.items w h))

  pub may_note : (writable : ℕ → Bool) → MayWriteIn (touches plan (OfJob j i)) writable → (w : ℕ) → own_word plan j i ≤ w → w < own_word plan j i + 1
      → IsTrue (writable w)
  may_note writable may w lo hi = may w (ap (λ (ts : List Touch). writes_in ts w) touches_are
      ∙ or_left (has_word own w) (writes_in (binds_touch x.parallel k.params.items x.binds.items from to) w) (has_it own w lo hi))

  pub own_is : x.first.0 ≡ pieces_before plan.jobs.items j
  own_is = well.order.firsts j x hx

  -- the own words are among the plan's
  pub own_within : i < pieces_of x → plan.cells + (x.first.0 + i) + 1 ≤ plan.words
  own_within lt =
      let first = own_is in
      let all = pieces_within plan.jobs.items j x hx in
      let words = well.sized.words_are in
      omega arith

  pub cells_are : (c : Cells) → piece_cells plan (OfJob j i) c ≡ noted (own_word plan j i)
      (at_indexes k x.binds.items full_steps (indexes_of x i).len from c).traps (at_indexes k x.binds.items full_steps (indexes_of x i).len from c).store
  unfolding piece_cells part_run
  cells_are c = ap (λ (o : Option JobPlan). with_notes (own_word plan j i) (job_ran plan i o c)) hx
      ∙ ap (λ (o : Option Kernel). with_notes (own_word plan j i) (part_ran x i o c)) hk

  -- the same, of binds and a span that are those of the piece
  module _ (bs : List Bind) (span : Span) (eb : bs ≡ x.binds.items) (es : span ≡ indexes_of x i) where
    pub fit_as : BindsFit k bs
    fit_as = subst (λ (b : List Bind). BindsFit k b) (sym eb) fit

    pub may_read_as : (readable : ℕ → Bool) → MayReadIn (touches plan (OfJob j i)) readable → (w : ℕ)
        → IsRead k.params.items bs span.start (span.start + span.len) w → IsTrue (readable w)
    may_read_as readable may w h =
        may_read readable may w (subst (λ (s : Span). IsRead k.params.items x.binds.items s.start (s.start + s.len) w) es
        (subst (λ (b : List Bind). IsRead k.params.items b span.start (span.start + span.len) w) eb h))

    pub may_write_as : (writable : ℕ → Bool) → MayWriteIn (touches plan (OfJob j i)) writable → (w : ℕ)
        → IsWritten k.params.items bs span.start (span.start + span.len) w → IsTrue (writable w)
    may_write_as writable may w h =
        may_write writable may w (subst (λ (s : Span). IsWritten k.params.items x.binds.items s.start (s.start + s.len) w) es
        (subst (λ (b : List Bind). IsWritten k.params.items b span.start (span.start + span.len) w) eb h))

    ran_as : (old : Cells) → at_indexes k bs full_steps span.len span.start old ≡ at_indexes k x.binds.items full_steps (indexes_of x i).len from old
    ran_as old = ap (λ (b : List Bind). at_indexes k b full_steps span.len span.start old) eb
        ∙ ap (λ (s : Span). at_indexes k x.binds.items full_steps s.len s.start old) es

    pub cells_as : (old mid new : Cells) (notes : Notes) (at : ℕ) → at ≡ own_word plan j i → mid ≡ (at_indexes k bs full_steps span.len span.start old).store
        → IsNoteOf (at_indexes k bs full_steps span.len span.start old).traps notes
        → ((traps : List (ℕ × Trap)) → IsNoteOf traps notes → new ≡ noted at traps mid) → new ≡ piece_cells plan (OfJob j i) old
    cells_as old mid new notes at own_at m n e =
        let ran = at_indexes k bs full_steps span.len span.start old in
        e ran.traps n
        ∙ (ap (noted at ran.traps) m
        ∙ (ap (λ (o : ℕ). noted o ran.traps ran.store) own_at
        ∙ (ap (λ (r : Ran Cells). noted (own_word plan j i) r.traps r.store) (ran_as old) ∙ sym (cells_are old))))

    pub own_as : x.first.0 ≡ pieces_before plan.jobs.items j → plan.cells + (x.first.0 + i) ≡ own_word plan j i
    own_as e = ap (λ f. plan.cells + (f + i)) e

-- what a piece of the plan has: its job and its kernel
pub record HasJob (plan : Plan) (j i : ℕ) (x : JobPlan) : Type 0 where
  pub job : job_at plan j ≡ Some x
  pub below : i < pieces_of x

pub job_of_piece : (plan : Plan) (j i : ℕ) (x : JobPlan) → IsPieceOf plan (OfJob j i) → x ≡ Rattle.std.proofs.Common.get_or plan.jobs.items j x
    → HasJob plan j i x
job_of_piece plan j i x p e =
    let lt = get_below plan.jobs.items j p.0 p.1 in
    let there : job_at plan j ≡ Some x = slice_get_read plan.jobs.items (length plan.jobs.items) j x refl lt e in
    record { job = there; below = subst (λ (y : JobPlan). i < pieces_of y) (some_is (sym p.1 ∙ there)) p.2 }

pub kernel_there : (plan : Plan) (j : ℕ) (x : JobPlan) (k : Kernel) → IsWellOrderedPlan plan → job_at plan j ≡ Some x
    → k ≡ Rattle.std.proofs.Common.get_or plan.kernels.items x.kernel k → kernel_of plan x ≡ Some k
kernel_there plan j x k well hx e = slice_get_read plan.kernels.items (length plan.kernels.items) x.kernel k refl (well.jobs.has_kernel j x hx) e
