-- A draft that is finished.
use Rattle.std.proofs.Common.{◌≡◌, ◌≢◌, ℕ, zero, suc, ◌+◌, ◌-◌, ◌*◌, ◌<◌, ◌≤◌, ◌^◌, ◌⊎◌, inl, inr, ⊎_elim, Bool, true, false, cond, eq-eqb, eqb-true, ◌&&◌, ◌||◌, List, [], ◌∷◌, ◌++◌, length, map, Option, Some, None, refl, sym, ap, subst, ◌∙◌, arith}
use Rattle.std.specs.Prelude.{nat_lt, nat_le, slice_get, if◌then◌else◌}
use Rattle.std.proofs.lemmas.Bool.{cases_lt}
use Rattle.std.proofs.lemmas.List.{append_assoc}
use Rattle.frame_ast.specs.Laws.{IsKnown}
use Rattle.frame_ast.specs.States.{ScriptState}
use Rattle.merge_laws.specs.Graph.{Cells, IsWellOrdered}
use Rattle.merge_laws.specs.Pieces.{Piece, IsFramed, graph_from}
use Rattle.merge_laws.specs.Ledger.{Ledger, IsLedger, AreInOrder}
use Rattle.merge_laws.specs.Planning.{DoesMore, BeginsSegment}
use Rattle.merge_laws.proofs.Proceeding.{new_segments_keep_order}
use Rattle.merge_laws.proofs.Touching.{segments_keep_order}
use Rattle.merge_laws.proofs.Framing.{plans_are_well_ordered}
use Rattle.frame_core.specs.declared.piece.Piece.TheVariants.{OfScript}
use Rattle.frame_core.specs.declared.plan.JobPlan.{JobPlan}
use Rattle.frame_core.specs.declared.plan.Segment.{Segment}
use Rattle.frame_core.specs.declared.plan.Plan.{Plan}
use Rattle.frame_core.specs.Names.{has_job, waits_in, ops_in, starts_in, segment_at, job_at, pieces_of, pieces_before, job_pieces, starts_from, numbers_from}
use Rattle.frame_core.specs.Pieces.{own_word}
use Rattle.frame_core.specs.Output.{pieces_in}
use Rattle.frame_core.specs.Touches.{reads_in, writes_in, ops_touch}
use Rattle.frame_core.specs.Operations.{ops_cells}
use Rattle.frame_core.specs.Effects.{touches, piece_cells, is_last, all_own_words}
use Rattle.frame_core.specs.Graphs.{graph_of, cells_at_first}
use Rattle.frame_core.specs.Ordered.{ConflictsLead}
use Rattle.frame_core.proofs.Small.{not_both, get_behind}
use Rattle.frame_core.proofs.Starting.{started_within}
use Rattle.frame_core.proofs.Extents.Touching.{it_has}
use Rattle.plan_laws.specs.Drafts.{Draft, segment_piece, closed_pieces, pieces_onto, Draft, cells_past}
use Rattle.plan_laws.specs.Drafts as drafts
use Rattle.plan_laws.specs.Ledgers.{Own, number_of, is_own_word, owner_live, owner_words, owner_writers}
use Rattle.plan_laws.specs.Planned.{Outline, jobs_before, ledger_at, IsPlanned}
use Rattle.plan_laws.specs.WholePlans.{made_piece, StartJobs}
use Rattle.plan_laws.specs.Ending.{Ends}
use Rattle.plan_laws.specs.Finishing.{IsPlanFrom, FinishedPlansAreOrdered}
use Rattle.plan_laws.proofs.WholePlans.{lists_order_plans}
use Rattle.plan_laws.proofs.Closing.{pieces_onto-one, starts_from-one}
use Rattle.plan_laws.proofs.Ending.{pieces_are_made}
use Rattle.plan_laws.proofs.Schedules.Enrolling.{next_before}
use Rattle.plan_laws.proofs.Owners.{owner_own}

-- whose own word it is
whose : (plan : Plan) (n w : ℕ) → own_word plan 0 0 ≤ w → w < plan.cells + pieces_before plan.jobs.items n
    → (j : ℕ) × (j < n) × (is_own_word plan (suc j) w ≡ true)
whose plan zero w lo hi = let z = nothing plan.jobs.items in absurd (omega arith)
  where
    nothing : (jobs : List JobPlan) → pieces_before jobs 0 ≡ 0
    nothing [] = refl
    nothing (x ∷ jobs) = refl
whose plan (suc n) w lo hi = by (whose plan n w lo) (cases_lt w (plan.cells + pieces_before plan.jobs.items n))
  where
    here : (a b w : ℕ) → a ≤ w → w < b → (nat_le a w && nat_lt w b) ≡ true
    here a b w le lt = λ i. (let f : nat_le a w ≡ true = grind arith in f) i && (let f : nat_lt w b ≡ true = grind arith in f) i

    by : (w < plan.cells + pieces_before plan.jobs.items n → (j : ℕ) × (j < n) × (is_own_word plan (suc j) w ≡ true))
        → (w < plan.cells + pieces_before plan.jobs.items n) ⊎ (plan.cells + pieces_before plan.jobs.items n ≤ w)
        → (j : ℕ) × (j < suc n) × (is_own_word plan (suc j) w ≡ true)
    by more (inl lt) = let r = more lt in (r.0, (let l = r.1 in omega arith), r.2)
    by more (inr ge) = (
      n,
      omega arith,
      here (own_word plan n 0) (own_word plan n (pieces_in (job_at plan n))) w (omega arith)
          (let e = next_before plan.jobs.items n in omega arith),
    )

module _ (x : Outline) (small : x.plan.cells < 2 ^ 32) (s : ScriptState) (d : Draft) (last final : Segment) (is_known : IsKnown s) (was : IsPlanned x s d)
    (from : IsPlanFrom x d last final) (words : x.plan.words ≡ x.plan.cells + job_pieces x.plan) where
  abbrev n : ℕ
  n = length d.jobs

  abbrev segments : List Segment
  segments = d.segments ++ last ∷ []

  pub ends : Ends x.plan segments final
  ends = record { segments_are = from.segments ∙ sym (append_assoc d.segments (last ∷ []) (final ∷ [])); ops = from.final_ops; starts = from.final_starts }

  pub pieces_are : pieces_onto x.plan [] segments ≡ drafts.pieces_of x.plan d
  pieces_are = pieces_onto-one x.plan [] d.segments last ∙ (λ i. drafts.started_parts x.plan (from.starts i) ++ segment_piece x.plan (from.waits i) (from.ops i)
      ∷ closed_pieces x.plan d)

  abbrev l : Ledger
  l = ledger_at x s d

  -- every job is completed
  abbrev m : Ledger
  m = record l { completed = λ j. nat_lt 0 j && nat_le j n }

  abbrev first : Piece
  first = segment_piece x.plan final.waits.items []

  abbrev end : Piece
  end = made_piece x.plan (OfScript (length segments))

  pub final_at : segment_at x.plan (length segments) ≡ Some final
  final_at =
      ap (λ ss. slice_get ss (length segments)) ends.segments_are
      ∙ (let y : length segments ≡ length segments + 0 = omega arith in ap (slice_get (segments ++ final ∷ [])) y) ∙ get_behind segments (final ∷ []) 0

  is_end : is_last x.plan (length segments) ≡ true
  is_end = eq-eqb (suc (length segments)) (length x.plan.segments.items) (sym (ap length ends.segments_are ∙ long segments))
    where
      long : (xs : List Segment) → length (xs ++ final ∷ []) ≡ suc (length xs)
      long [] = refl
      long (x ∷ xs) = ap suc (long xs)

  touched : touches x.plan (OfScript (length segments)) ≡ all_own_words x.plan ∷ []
  unfolding touches
  touched =
      let ops : ops_in (segment_at x.plan (length segments)) ≡ [] = ap ops_in final_at ∙ from.final_ops in
      λ i. ops_touch (ops i) ++ (if is_end i then all_own_words x.plan ∷ [] else [])

  pub effect_is : (cells : Cells) → end.effect cells ≡ cells
  unfolding piece_cells
  effect_is cells = ap (λ o. ops_cells x.plan (ops_in o) cells) final_at ∙ ap (λ ops. ops_cells x.plan ops cells) from.final_ops

  or_none : (b : Bool) → (b || false) ≡ true → b ≡ true
  or_none true e = refl
  or_none false e = absurd (not_both e refl)

  begins : BeginsSegment l m first
  begins = record {
    segment = refl;
    reads = λ w. refl;
    writes = λ w. refl;
    jobs = refl;
    depends = λ j k e. e;
    no_depends = λ k. by (nat_lt 0 k) (nat_lt 0 0) (s.book.deps (jobs_before x + 0) (jobs_before x + k)) (let f : nat_lt 0 0 ≡ false = grind arith in f);
    completed = λ j e. let b = both (nat_lt 0 j) (nat_le j n) e in inr (from.final_waits j (lt_of 0 j b.0) (le_of j n b.1));
    still_completed = λ j e. still j (both (nat_lt 0 j) (s.book.completed (jobs_before x + j)) e);
    live = λ c. refl;
    words = λ c w. refl;
    users = λ c j. refl;
    writers = λ c j. refl;
  }
    where
      by : (a b c : Bool) → b ≡ false → (a && (b && c)) ≡ false
      by a true c e = absurd (not_both refl e)
      by true false c e = refl
      by false false c e = refl

      both : (a b : Bool) → (a && b) ≡ true → (a ≡ true) × (b ≡ true)
      both true b e = (refl, e)
      both false b e = absurd (not_both e refl)

      lt_of : (a b : ℕ) → nat_lt a b ≡ true → a < b
      lt_of a b e = grind arith

      le_of : (a b : ℕ) → nat_le a b ≡ true → a ≤ b
      le_of a b e = grind arith

      still : (j : ℕ) → (nat_lt 0 j ≡ true) × (s.book.completed (jobs_before x + j) ≡ true) → (nat_lt 0 j && nat_le j n) ≡ true
      still j h = let up = known j h.1 in λ i. h.0 i && (let f : nat_le j n ≡ true = grind arith in f) i
        where
          known : (j : ℕ) → s.book.completed (jobs_before x + j) ≡ true → j ≤ n
          known j e = let up = (is_known.book.completed (jobs_before x + j) e).1 in let c = was.ordered.count in omega arith

  order_first : AreInOrder m (first ∷ drafts.pieces_of x.plan d)
  order_first = new_segments_keep_order l m (drafts.pieces_of x.plan d) first was.ordered.pieces begins

  is_m : IsLedger m
  is_m = record { older = was.ordered.ledger.older; written = was.ordered.ledger.written; apart = was.ordered.ledger.apart }

  more : DoesMore m first end
  more = record {
    segment = refl;
    job = refl;
    after = λ j. ap (λ o. has_job (waits_in o) j) final_at;
    reads = λ w e.
        let b = it_has (all_own_words x.plan) w (or_none _ (ap (λ ts. reads_in ts w) (sym touched) ∙ e)) in
        let lo = b.0 in
        let hi = b.1 in
        let z = nothing x.plan.jobs.items in
        let jobs : length x.plan.jobs.items ≡ n = ap length from.jobs in
        let o = whose x.plan (length x.plan.jobs.items) w (omega arith) (omega arith) in
        inr (record {
          container = number_of (Own (suc o.0));
          live = ap (owner_live s n) (owner_own (suc o.0)) ∙ is_live_own (suc o.0) (omega arith) (let lt = o.1 in omega arith);
          word = ap (λ q. owner_words x.plan x.starts s q w) (owner_own (suc o.0)) ∙ o.2;
          completed = λ j u.
              let same = eqb-true j (suc o.0) (sym (ap (λ q. owner_writers (jobs_before x) s q j) (owner_own (suc o.0))) ∙ u) in
              subst (λ j. (nat_lt 0 j && nat_le j n) ≡ true) (sym same) (is_live_own (suc o.0) (omega arith) (let lt = o.1 in omega arith));
        });
    writes = λ w e. absurd (not_both (ap (λ ts. writes_in ts w) (sym touched) ∙ e) refl);
    reads_written = λ w e. absurd (not_both (ap (λ ts. writes_in ts w) (sym touched) ∙ e) refl);
  }
    where
      nothing : (jobs : List JobPlan) → pieces_before jobs 0 ≡ 0
      nothing [] = refl
      nothing (x ∷ jobs) = refl

      is_live_own : (j : ℕ) → 0 < j → j ≤ n → (nat_lt 0 j && nat_le j n) ≡ true
      is_live_own j pos le = λ i. (let f : nat_lt 0 j ≡ true = grind arith in f) i && (let f : nat_le j n ≡ true = grind arith in f) i

  order_end : AreInOrder m (end ∷ drafts.pieces_of x.plan d)
  order_end = segments_keep_order m first end (drafts.pieces_of x.plan d) is_m order_first more

  end_framed : IsFramed end (cells_past x.plan (drafts.pieces_of x.plan d))
  end_framed = record {
    written = λ cells agree w wr. absurd (not_both (ap (λ ts. writes_in ts w) (sym touched) ∙ wr) refl);
    kept = λ cells agree w out. ap (λ (c : Cells). c w) (effect_is cells);
  }

  pub starts_are : starts_from x.plan.segments.items ≡ numbers_from 1 n
  starts_are =
      ap starts_from ends.segments_are ∙ starts_from-one segments final ∙ ap (λ o. starts_from segments
      ++ Rattle.frame_core.specs.Names.number_in o) from.final_starts
      ∙ Rattle.std.proofs.Common.append-nil (starts_from segments) ∙ starts_from-one d.segments last
      ∙ ap (λ o. starts_from d.segments ++ Rattle.frame_core.specs.Names.number_in o) from.starts
      ∙ Rattle.std.proofs.Common.append-nil (starts_from d.segments) ∙ was.fitting.starts

  start_jobs : StartJobs x.plan
  start_jobs k q id at e = let b = (started_within x.plan.segments.items 1 n starts_are k id (ap starts_in at ∙ e)).0 in omega arith

  ordered : ConflictsLead (graph_of x.plan)
  ordered = lists_order_plans x.plan start_jobs
      (subst (λ ps. IsWellOrdered (graph_from (cells_at_first x.plan) ps)) (sym (pieces_are_made x.plan segments final ends ∙ ap (λ ps. end ∷ ps) pieces_are))
      (plans_are_well_ordered m (cells_at_first x.plan) (end ∷ drafts.pieces_of x.plan d) order_end (end_framed, was.ordered.framed)))

pub finished_plans_are_ordered : FinishedPlansAreOrdered
finished_plans_are_ordered x s d last final small is_known was from words = ordered x small s d last final is_known was from words
