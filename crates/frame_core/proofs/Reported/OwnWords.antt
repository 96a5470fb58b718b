-- The own word of a piece tells its traps.
use Rattle.std.proofs.Common.{◌≡◌, ◌≢◌, ℕ, zero, suc, ◌+◌, ◌-◌, ◌*◌, ◌<◌, ◌≤◌, ◌⊎◌, inl, inr, ⊎_elim, Bool, true, false, cond, pos, List, [], ◌∷◌, length, Option, Some, None, refl, sym, ap, subst, ◌∙◌, arith}
use Rattle.std.proofs.lemmas.List.{get_or_past}
use Rattle.std.specs.Prelude.{slice_get}
use Rattle.job_base.specs.declared.Trap.{Trap}
use Rattle.job_base.specs.Cells.{with_cell}
use Rattle.job_base.proofs.Windows.{with_cell-same, with_cell-other}
use Rattle.frame_ast.specs.declared.kernel.Kernel.{Kernel}
use Rattle.frame_ast.specs.Kernels.{Outcome, store_after, trap_after}
use Rattle.frame_ast.specs.JobRuns.{full_steps, trap_at, indexes}
use Rattle.batch_cut.specs.Cuts.{piece_of}
use Rattle.kernel_exec.specs.Laws.{at_index}
use Rattle.std.proofs.Common.{length-append, ◌++◌}
use Rattle.std.proofs.Math.Nat.{mul-le-mul_right}
use Rattle.std.proofs.lemmas.Bool.{cases_lt}
use Rattle.kernel_exec.proofs.Pieces.{only_written_words_change}
use Rattle.merge_laws.specs.Graph.{Cells, PieceGraph, cells_before}
use Rattle.job_base.specs.declared.limits.TheConstants.{MOST_INDEXES}
use Rattle.frame_core.specs.declared.piece.Piece.{Piece}
use Rattle.frame_core.specs.declared.piece.Piece.TheVariants.{OfScript, OfJob}
use Rattle.frame_core.specs.declared.plan.JobPlan.{JobPlan}
use Rattle.frame_core.specs.declared.plan.Plan.{Plan}
use Rattle.frame_core.specs.Names.{job_at, kernel_of, indexes_of, has_job, waits_in, segment_at}
use Rattle.frame_core.specs.Pieces.{script_order, place_of, number_of, piece_numbered, own_word, IsPieceOf}
use Rattle.frame_core.specs.Touches.{reads_in, writes_in}
use Rattle.frame_core.specs.Effects.{touches, note_of, noted, part_ran, job_ran, part_run, piece_cells}
use Rattle.frame_core.specs.Graphs.{piece_at, touches_at, precedes_at, cells_at, graph_of, before_piece, cells_after}
use Rattle.frame_core.specs.Ordered.{IsWellOrderedPlan}
use Rattle.frame_core.specs.Laws.{IsOwn, TellsTraps, AreIndexesBelow, TrapsAreTold}
use Rattle.frame_core.proofs.Small.{get_below}
use Rattle.frame_core.proofs.Extents.Touching.{writes_read, written_touched}
use Rattle.frame_core.proofs.Extents.Within.{read_below, binds_below, pieces_stay_within}
use Rattle.frame_core.proofs.Planned.{graph_ordered, pieces_are_named}

-- what notes leave
told : (own : ℕ) (traps : List (ℕ × Trap)) (c : Cells) → c own ≡ pos 0 → TellsTraps own traps (noted own traps c)
told own [] c e = e
told own (t ∷ more) c e = with_cell-same c own (pos (note_of (t ∷ more)))

-- HOW MANY

module _ {S : Type 0} (ex : ℕ → S → Outcome S) where
  few_at : (index : ℕ) (t : Option Trap) → length (trap_at index t) ≤ 1
  few_at index None = omega arith
  few_at index (Some t) = omega arith

  few_in : (n index : ℕ) (s : S) → length (indexes ex n index s).traps ≤ n
  few_in zero index s = omega arith
  few_in (suc n) index s =
      let t = trap_at index (trap_after (ex index s)) in
      let more = (indexes ex n (index + 1) (store_after (ex index s))).traps in
      let one = few_at index (trap_after (ex index s)) in
      let rest = few_in n (index + 1) (store_after (ex index s)) in
      omega (arith, length-append t more)

  below_in : (m n index : ℕ) (s : S) → index + n ≤ m → AreIndexesBelow m (indexes ex n index s).traps
  below_in m zero index s le = tt
  below_in m (suc n) index s le = below_then (trap_after (ex index s)) (below_in m n (index + 1) (store_after (ex index s)) (omega arith))
    where
      below_then : (t : Option Trap) → AreIndexesBelow m (indexes ex n (index + 1) (store_after (ex index s))).traps
          → AreIndexesBelow m (trap_at index t ++ (indexes ex n (index + 1) (store_after (ex index s))).traps)
      below_then None h = h
      below_then (Some t) h = (omega arith, h)

-- the indexes of a piece are among those of its job, or there are none
within : (b : Bool) (n step i m : ℕ) → n ≤ m
    → let span = cond b (piece_of n step i) (record { start = 0; len = n }) in ((span.start + span.len ≤ m) ⊎ (span.len ≡ 0)) × (span.len ≤ m)
within true n step i m le =
    let a = i * step in
    let b = (i + 1) * step in (
      elim (cases_lt n a) [ inl lt ↦ inr (omega arith) | inr ge ↦ (let up = mul-le-mul_right {m = i} {n = i + 1} step (omega arith) in inl (omega arith)) ],
      omega arith,
    )
within false n step i m le = (inl (omega arith), omega arith)

module _ (plan : Plan) (well : IsWellOrderedPlan plan) where
  few_traps : (j i : ℕ) (x : JobPlan) (o : Option Kernel) (c : Cells) → job_at plan j ≡ Some x → kernel_of plan x ≡ o
      → (length (part_ran x i o c).traps ≤ MOST_INDEXES) × AreIndexesBelow MOST_INDEXES (part_ran x i o c).traps
  few_traps j i x None c hx hk = (omega arith, tt)
  few_traps j i x (Some k) c hx hk =
      let n = (well.jobs.fits j x k hx hk).cut.indexes in
      let from = (indexes_of x i).start in
      let len = (indexes_of x i).len in
      let ex : ℕ → Cells → Outcome Cells = λ index cells. at_index k x.binds.items full_steps index cells in
      let w = within x.parallel x.cut.n x.cut.step i MOST_INDEXES n in
      let few = few_in ex len from c in (
        (let le = w.1 in omega arith),
        ⊎_elim
            (λ le. below_in ex MOST_INDEXES len from c le)
            (λ z. subst (λ l. AreIndexesBelow MOST_INDEXES (indexes ex l from c).traps) (sym z) tt)
            w.0,
      )

  few_run : (j i : ℕ) (o : Option JobPlan) (c : Cells) → job_at plan j ≡ o
      → (length (job_ran plan i o c).traps ≤ MOST_INDEXES) × AreIndexesBelow MOST_INDEXES (job_ran plan i o c).traps
  few_run j i None c e = (omega arith, tt)
  few_run j i (Some x) c e = few_traps j i x (kernel_of plan x) c e refl

  -- a job's indexes leave what isn't a container's
  part_keeps : (j i : ℕ) (x : JobPlan) (o : Option Kernel) (c : Cells) (w : ℕ) → job_at plan j ≡ Some x → kernel_of plan x ≡ o → plan.cells ≤ w
      → (part_ran x i o c).store w ≡ c w
  part_keeps j i x None c w hx hk le = refl
  part_keeps j i x (Some k) c w hx hk le =
      let fits = well.jobs.fits j x k hx hk in
      let from = (indexes_of x i).start in
      let n = (indexes_of x i).len in
      only_written_words_change.at_many k x.binds.items full_steps n from c w (well.jobs.checked x.kernel k hk) fits.binds
      (λ u.
      let ts = Rattle.frame_core.specs.Touches.binds_touch x.parallel k.params.items x.binds.items from (from + n) in
      let lt = read_below plan.cells ts w (binds_below plan.cells x.parallel k.params.items x.binds.items from (from + n) fits.within)
      (writes_read ts w (written_touched x.parallel from (from + n) k.params.items x.binds.items w u)) in
      omega arith)

  run_keeps : (j i : ℕ) (o : Option JobPlan) (c : Cells) (w : ℕ) → job_at plan j ≡ o → plan.cells ≤ w → (job_ran plan i o c).store w ≡ c w
  run_keeps j i None c w e le = refl
  run_keeps j i (Some x) c w e le = part_keeps j i x (kernel_of plan x) c w e refl le

  module _ (j i : ℕ) (is : IsPieceOf plan (OfJob j i)) where
    abbrev own : ℕ
    own = own_word plan j i

    abbrev q : ℕ
    q = place_of plan (OfJob j i)

    abbrev g : PieceGraph
    g = graph_of plan

    -- two pieces with the same own word are one
    own_once : (x : Piece) → IsPieceOf plan x → IsOwn plan x own → x ≡ OfJob j i
    own_once (OfScript k) h o = absurd o
    own_once (OfJob d h) p o =
        let same : number_of plan (OfJob d h) ≡ number_of plan (OfJob j i) = omega (arith, o) in
        sym ((pieces_are_named plan well).number (OfJob d h) p).1 ∙ (ap (piece_numbered plan) same ∙ ((pieces_are_named plan well).number (OfJob j i) is).1)

    piece_misses : (x : Piece) → IsPieceOf plan x → (x ≡ OfJob j i → ⊥) → (b : Bool) → writes_in (touches plan x) own ≡ b → b ≡ false
    piece_misses x h ne false e = refl
    piece_misses x h ne true e = ⊎_elim
        (λ l. absurd (omega arith))
        (λ r. absurd (ne (own_once x h r)))
        ((pieces_stay_within plan well x h).written own e)

    place_misses : (p : ℕ) (o : Option Piece) → piece_at plan p ≡ o → p ≢ q → writes_in (touches_at plan o) own ≡ false
    place_misses p None e ne = refl
    place_misses p (Some x) e ne =
        let a = (pieces_are_named plan well).placed p x e in
        piece_misses x a.0 (λ same. ne (sym a.1 ∙ ap (place_of plan) same)) (writes_in (touches plan x) own) refl

    misses : (p : ℕ) → p ≢ q → g.writes p own ≡ false
    unfolding graph_of
    misses p ne = place_misses p (piece_at plan p) refl ne

    first_zero : g.first own ≡ pos 0
    unfolding graph_of
    first_zero = get_or_past plan.first.items own (pos 0) (let few = well.sized.first in omega arith)

    before : (p : ℕ) → p ≤ q → p ≤ g.count → cells_before g p own ≡ pos 0
    before zero le lt = first_zero
    before (suc p) le lt =
        (graph_ordered plan well).writes_only p own (omega arith) (misses p (λ e. omega arith)) ∙ before p (omega arith) (omega arith)

    after : (d : ℕ) → suc (q + d) ≤ g.count → cells_before g (suc (q + d)) own ≡ cells_before g (suc q) own
    after zero le = let e : q + 0 ≡ q = omega arith in ap (λ n. cells_before g (suc n) own) e
    after (suc d) le =
        let e : suc (q + suc d) ≡ suc (suc (q + d)) = omega arith in
        ap (λ n. cells_before g n own) e
        ∙ ((graph_ordered plan well).writes_only (suc (q + d)) own (omega arith) (misses (suc (q + d)) (λ e. omega arith))
        ∙ after d (omega arith))

    stands : slice_get (script_order plan) q ≡ Some (OfJob j i)
    stands = (pieces_are_named plan well).place (OfJob j i) is

    q_below : q < g.count
    unfolding graph_of
    q_below = get_below (script_order plan) q (OfJob j i) stands

    abbrev old : Cells
    old = before_piece plan (OfJob j i)

    old_is : old ≡ cells_before g q
    unfolding before_piece
    old_is = refl

    here : cells_before g (suc q) ≡ noted own (part_run plan j i old).traps (part_run plan j i old).store
    unfolding graph_of piece_cells before_piece
    here = ap (λ o. cells_at plan o (cells_before g q)) stands

    kept : (part_run plan j i old).store own ≡ old own
    unfolding part_run
    kept = run_keeps j i (job_at plan j) old own refl (omega arith)

    old_zero : old own ≡ pos 0
    old_zero = ap (λ c. c own) old_is ∙ before q (omega arith) (let lt = q_below in omega arith)

    abbrev traps : List (ℕ × Trap)
    traps = (part_run plan j i old).traps

    next_tells : TellsTraps own traps (cells_before g (suc q))
    next_tells = subst (λ c. TellsTraps own traps c) (sym here) (told own traps (part_run plan j i old).store (kept ∙ old_zero))

    later_tells : (r : ℕ) → q < r → r ≤ g.count → TellsTraps own traps (cells_before g r)
    later_tells r lt le =
        let e : r ≡ suc (q + (r - suc q)) = omega arith in
        subst (λ n. TellsTraps own traps (cells_before g n)) (sym e) (after (r - suc q) (omega arith) ∙ next_tells)

    module _ (k : ℕ) (last : suc k ≡ length plan.segments.items) where
      abbrev r : ℕ
      r = place_of plan (OfScript k)

      r_stands : slice_get (script_order plan) r ≡ Some (OfScript k)
      r_stands = (pieces_are_named plan well).place (OfScript k) (omega arith)

      r_below : r < g.count
      unfolding graph_of
      r_below = get_below (script_order plan) r (OfScript k) r_stands

      waited : has_job (waits_in (segment_at plan k)) (suc j) ≡ true
      waited =
          let same : well.order.last ≡ k = (let e = well.order.last_is in omega arith) in
          subst (λ n. has_job (waits_in (segment_at plan n)) (suc j) ≡ true) same (well.order.last_waits j (get_below plan.jobs.items j is.0 is.1))

      precedes : g.precedes q r ≡ true
      unfolding graph_of
      precedes = ap (λ o. precedes_at plan o (piece_at plan r)) stands ∙ (ap (λ o. precedes_at plan (Some (OfJob j i)) o) r_stands ∙ waited)

      last_tells : TellsTraps own traps (before_piece plan (OfScript k))
      unfolding before_piece
      last_tells = later_tells r (well.order.earlier q r r_below precedes) (let lt = r_below in omega arith)

    few : (length traps ≤ MOST_INDEXES) × AreIndexesBelow MOST_INDEXES traps
    unfolding part_run
    few = few_run j i (job_at plan j) old refl

    end_tells : TellsTraps own traps (cells_after plan)
    unfolding cells_after graph_of
    end_tells = later_tells (length (script_order plan)) q_below (omega arith)

pub traps_are_told : TrapsAreTold
traps_are_told plan well j i is = record {
  last = λ k e. last_tells plan well j i is k e;
  after = end_tells plan well j i is;
  few = (few plan well j i is).0;
  below = (few plan well j i is).1;
}
