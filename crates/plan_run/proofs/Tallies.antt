-- Traps that are counted piece by piece.
use Rattle.std.proofs.Common.{◌≡◌, ℕ, suc, ◌+◌, ◌*◌, ◌<◌, ◌≤◌, List, [], ◌∷◌, ◌++◌, length, map, Some, None, refl, sym, ap, subst, ◌∙◌, arith, append-nil}
use Rattle.std.specs.Prelude.{slice_get, IfSome}
use Rattle.std.proofs.lemmas.Grind.{common_steps}
use Rattle.job_base.specs.declared.Trap.{Trap}
use Rattle.job_base.specs.declared.limits.TheConstants.{MOST_INDEXES}
use Rattle.frame_ast.specs.States.{JobTrap}
use Rattle.frame_core.specs.declared.report.Report.{Report}
use Rattle.frame_core.specs.Reports.{Names, IsReportOf}
use Rattle.merge_laws.specs.Graph.{Cells}
use Rattle.frame_core.specs.declared.piece.Piece.{Piece}
use Rattle.frame_core.specs.declared.piece.Piece.TheVariants.{OfScript, OfJob}
use Rattle.frame_core.specs.declared.plan.Plan.{Plan}
use Rattle.kernel_exec.specs.declared.notes.Notes.{Notes}
use Rattle.frame_core.specs.Names.{job_pieces}
use Rattle.frame_core.specs.Pieces.{piece_numbered, number_of, own_word, IsPieceOf}
use Rattle.frame_core.specs.Output.{job_trap, piece_traps, first_traps, plan_traps}
use Rattle.kernel_exec.specs.Notes.{IsNoteOf}
use Rattle.frame_core.specs.Ordered.{IsWellOrderedPlan}
use Rattle.frame_core.specs.Laws.{TellsTraps, AreIndexesBelow}
use Rattle.frame_core.proofs.Small.{some_is, none_some, get_below}
use Rattle.frame_core.proofs.Numbered.{of_job, number_numbered}
use Rattle.frame_core.proofs.Reported.OwnWords.{traps_are_told}
use Rattle.frame_core.proofs.Reported.Traps.{traps_come_by_number}
use Rattle.plan_run.specs.Lines.{TellAll, piece_run, NotesPiece}

-- A report that goes on.

module _ (ts : List JobTrap) (us : List (ℕ × Trap)) (j : ℕ) (old new : Report) (notes : Notes) (is : IsReportOf ts old) (note : IsNoteOf us notes) where
  nothing_more : (vs : List (ℕ × Trap)) → slice_get vs 0 ≡ None → vs ≡ []
  nothing_more [] e = refl
  nothing_more (v ∷ vs) e = absurd (none_some (sym e))

  pub report_same : notes.first ≡ None → IsReportOf (ts ++ map (job_trap j) us) old
  report_same none =
      let empty : us ≡ [] = nothing_more us (sym note.first ∙ none) in
      let e : ts ++ map (job_trap j) us ≡ ts = ap (λ (l : List (ℕ × Trap)). ts ++ map (job_trap j) l) empty ∙ append-nil ts in
      subst (λ (l : List JobTrap). IsReportOf l old) (sym e) is

  longer : new.traps ≡ old.traps + notes.count → length (ts ++ map (job_trap j) us) ≡ new.traps
  longer count =
      let n = is.number in
      let k = note.count in
      let e : length (ts ++ map (job_trap j) us) ≡ length ts + length us = grind (arith, common_steps) in
      omega (arith, n, k, e, count)

  first_stays : (xs ys : List JobTrap) (r s : Report) → s.job ≡ r.job → s.index ≡ r.index → s.trap ≡ r.trap → 0 < length xs → IfSome (slice_get xs 0) (Names r)
      → IfSome (slice_get (xs ++ ys) 0) (Names s)
  first_stays [] ys r s a b d lt h = absurd (omega (arith, lt))
  first_stays (x ∷ xs) ys r s a b d lt h = record { job = h.job ∙ ap (λ id. id.0) (sym a); index = h.index ∙ sym b; trap = h.trap ∙ sym d }

  pub report_more : 0 < old.traps → new.traps ≡ old.traps + notes.count → new.job ≡ old.job → new.index ≡ old.index → new.trap ≡ old.trap
      → IsReportOf (ts ++ map (job_trap j) us) new
  report_more some count a b d = record {
    number = longer count;
    first = first_stays ts (map (job_trap j) us) old new a b d (let n = is.number in omega (arith, n, some)) is.first;
  }

  none_yet : (xs : List JobTrap) → length xs ≡ 0 → xs ≡ []
  none_yet [] e = refl
  none_yet (x ∷ xs) e = let h : suc (length xs) ≡ 0 = e in absurd (omega (arith, h))

  first_of : (vs : List (ℕ × Trap)) (t : ℕ × Trap) (s : Report) → slice_get vs 0 ≡ Some t → s.job.0 ≡ suc j → s.index ≡ t.0 → s.trap ≡ t.1
      → IfSome (slice_get (map (job_trap j) vs) 0) (Names s)
  first_of [] t s e a b d = absurd (none_some e)
  first_of (v ∷ vs) t s e a b d = let same : v ≡ t = some_is e in record { job = sym a; index = ap (λ x. x.0) same ∙ sym b; trap = ap (λ x. x.1) same ∙ sym d }

  pub report_first : (k : ℕ) (t : Trap) → notes.first ≡ Some (k, t) → old.traps ≡ 0 → new.traps ≡ old.traps + notes.count → new.job.0 ≡ suc j → new.index ≡ k
      → new.trap ≡ t → IsReportOf (ts ++ map (job_trap j) us) new
  report_first k t at none count a b d = record {
    number = longer count;
    first =
        let empty : ts ≡ [] = none_yet ts (is.number ∙ none) in
        subst (λ (l : List JobTrap). IfSome (slice_get (l ++ map (job_trap j) us) 0) (Names new)) (sym empty)
        (first_of us (k, t) new (sym note.first ∙ at) a b d);
  }

-- The pieces of a plan.

module _ (plan : Plan) (p : ℕ) (lt : p < job_pieces plan) where
  abbrev x : Piece
  x = piece_numbered plan p

  pub next_traps : (j i : ℕ) → x ≡ OfJob j i → first_traps plan (p + 1) ≡ first_traps plan p ++ map (job_trap j) (piece_run plan x)
  next_traps j i is =
      let up : p + 1 ≡ suc p = omega arith in
      ap (first_traps plan) up
      ∙ (ap (λ (y : Piece). first_traps plan p ++ piece_traps plan y) is
      ∙ ap (λ (y : Piece). first_traps plan p ++ map (job_trap j) (piece_run plan y)) (sym is))

  is_piece : (j i : ℕ) → x ≡ OfJob j i → IsPieceOf plan (OfJob j i)
  is_piece j i is = subst (IsPieceOf plan) is (number_numbered plan p (omega (arith, lt))).is

  pub not_script : (k : ℕ) → x ≡ OfScript k → ⊥
  not_script k e = let n = of_job plan p lt in let h : OfScript k ≡ OfJob n.0 n.1 = sym e ∙ n.2 in cc

  module _ (well : IsWellOrderedPlan plan) where
    pub run_few : length (piece_run plan x) ≤ MOST_INDEXES
    run_few =
        let n = of_job plan p lt in
        subst (λ (y : Piece). length (piece_run plan y) ≤ MOST_INDEXES) (sym n.2) (traps_are_told plan well n.0 n.1 (is_piece n.0 n.1 n.2)).few

    -- the own word of the piece notes the traps that it has in the run in script order
    own_told : (own : ℕ) (cells : Cells) → own ≡ plan.cells + p → TellAll plan cells
        → let traps = piece_run plan (piece_numbered plan p) in
        TellsTraps own traps cells × (length traps ≤ MOST_INDEXES) × AreIndexesBelow MOST_INDEXES traps
    own_told own cells at tells =
        let n = of_job plan p lt in
        let is = is_piece n.0 n.1 n.2 in
        let told = traps_are_told plan well n.0 n.1 is in
        let number : p ≡ number_of plan (OfJob n.0 n.1) = (number_numbered plan p (omega (arith, lt))).number ∙ ap (number_of plan) n.2 in
        let same : own ≡ own_word plan n.0 n.1 = at ∙ ap (λ k. plan.cells + k) number in
        let here = subst (λ k. TellsTraps k (piece_run plan (OfJob n.0 n.1)) cells) (sym same) (tells n.0 n.1 is) in
        subst (λ (y : Piece). TellsTraps own (piece_run plan y) cells × (length (piece_run plan y) ≤ MOST_INDEXES)
        × AreIndexesBelow MOST_INDEXES (piece_run plan y)) (sym n.2) (here, told.few, told.below)

    pub told_there : (own : ℕ) (cells : Cells) → own ≡ plan.cells + p → TellAll plan cells
        → (traps : List (ℕ × Trap)) × TellsTraps own traps cells × (length traps ≤ MOST_INDEXES)
        × AreIndexesBelow MOST_INDEXES traps
    told_there own cells at tells =
        let told = own_told own cells at tells in (piece_run plan (piece_numbered plan p), told.0, told.1, told.2)

    pub told_piece : (own : ℕ) (cells : Cells) (notes : Notes) → own ≡ plan.cells + p → TellAll plan cells
        → ((traps : List (ℕ × Trap)) → TellsTraps own traps cells → length traps ≤ MOST_INDEXES → AreIndexesBelow MOST_INDEXES traps → IsNoteOf traps notes)
        → NotesPiece plan p notes
    told_piece own cells notes at tells f =
        let told = own_told own cells at tells in
        f (piece_run plan (piece_numbered plan p)) told.0 told.1 told.2

pub all_counted : (plan : Plan) (p : ℕ) (report : Report) → p ≡ job_pieces plan → IsReportOf (first_traps plan p) report → IsReportOf (plan_traps plan) report
all_counted plan p report e h = subst (λ (l : List JobTrap). IsReportOf l report) (ap (first_traps plan) e ∙ sym (traps_come_by_number plan)) h

pub job_below : (plan : Plan) (p j i : ℕ) → p < job_pieces plan → piece_numbered plan p ≡ OfJob j i → j < length plan.jobs.items
job_below plan p j i lt is = let h = is_piece plan p lt j i is in get_below plan.jobs.items j h.0 h.1

-- one piece more

module _ (plan : Plan) (well : IsWellOrderedPlan plan) (p : ℕ) (lt : p < job_pieces plan) (old new : Report) (notes : Notes) (note : NotesPiece plan p notes)
    (is : IsReportOf (first_traps plan p) old) where
  pub few_more : (n : ℕ) → n ≡ old.traps + notes.count → old.traps ≤ MOST_INDEXES * p → n ≤ MOST_INDEXES * (p + 1)
  few_more n e few = let a = run_few plan p lt well in let b = note.count in omega (arith, e, few, a, b)

  pub same_next : notes.first ≡ None → IsReportOf (first_traps plan (p + 1)) old
  same_next none =
      let n = of_job plan p lt in
      subst (λ (l : List JobTrap). IsReportOf l old) (sym (next_traps plan p lt n.0 n.1 n.2))
      (report_same (first_traps plan p) (piece_run plan (piece_numbered plan p)) n.0 old new notes is note none)

  pub more_next : 0 < old.traps → new.traps ≡ old.traps + notes.count → new.job ≡ old.job → new.index ≡ old.index → new.trap ≡ old.trap
      → IsReportOf (first_traps plan (p + 1)) new
  more_next some count a b d =
      let n = of_job plan p lt in
      subst (λ (l : List JobTrap). IsReportOf l new) (sym (next_traps plan p lt n.0 n.1 n.2))
      (report_more (first_traps plan p) (piece_run plan (piece_numbered plan p)) n.0 old new notes is note some count a b d)

  pub first_next : (j i k : ℕ) (t : Trap) (y : Piece) → y ≡ piece_numbered plan p → y ≡ OfJob j i → notes.first ≡ Some (k, t) → old.traps ≤ 0
      → new.traps ≡ old.traps + notes.count → new.job.0 ≡ j + 1 → new.index ≡ k → new.trap ≡ t → IsReportOf (first_traps plan (p + 1)) new
  first_next j i k t y here this at none count a b d =
      subst (λ (l : List JobTrap). IsReportOf l new) (sym (next_traps plan p lt j i (sym here ∙ this)))
      (report_first (first_traps plan p) (piece_run plan (piece_numbered plan p)) j old new notes is note k t at (omega (arith, none)) count
      (omega (arith, a)) b d)
