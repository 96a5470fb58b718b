-- A job that the segment at hand starts, whatever its kernel and its arguments are: the plan goes on.
use Rattle.std.proofs.Common.{get_or, ◌≡◌, ℕ, zero, suc, ◌+◌, ◌-◌, ◌<◌, ◌^◌, ⊎_elim, inl, Bool, true, false, ◌&&◌, List, [], ◌∷◌, ◌++◌, length, map, Some, refl, sym, ap, subst, ◌∙◌, arith, append-nil}
use Rattle.std.specs.Prelude.{nat_lt, slice_get}
use Rattle.std.specs.List.{All}
use Rattle.std.proofs.lemmas.Bool.{cases_eq}
use Rattle.std.proofs.lemmas.List.{append_assoc, map-append}
use Rattle.job_base.specs.declared.Trap.{Trap}
use Rattle.frame_ast.specs.declared.kernel.Kernel.{Kernel}
use Rattle.frame_ast.specs.Jobs.{Jobs, Book}
use Rattle.frame_ast.specs.Laws.{IsKnown}
use Rattle.frame_ast.specs.States.{ScriptState}
use Rattle.kernel_exec.specs.Layout.{Holds}
use Rattle.merge_laws.specs.Graph.{Cells}
use Rattle.merge_laws.specs.Pieces.{AreFramed}
use Rattle.merge_laws.specs.Ledger.{Ledger, IsLedger, AreInOrder}
use Rattle.merge_laws.proofs.Proceeding.{new_segments_keep_order}
use Rattle.frame_core.specs.declared.plan.JobPlan.{JobPlan}
use Rattle.frame_core.specs.declared.plan.Segment.{Segment}
use Rattle.frame_core.specs.Names.{job_at, kernel_of, pieces_before, starts_from, numbers_from, number_in}
use Rattle.frame_core.specs.Names as names
use Rattle.frame_core.specs.Ordered.{OpFits, OpsStand, JobFits}
use Rattle.frame_core.specs.Output.{job_trap, pieces_in}
use Rattle.frame_core.proofs.Small.{some_is, none_some, get_either}
use Rattle.frame_core.specs.Graphs.{cells_at_first}
use Rattle.plan_laws.specs.Binds.{bind_of_container}
use Rattle.plan_laws.specs.Drafts.{Draft, Output, parts, parts_traps, segment_piece, started_parts, started_traps, with_ops, with_traps, no_output, closed_pieces, pieces_of, output_closed, output_of, cells_past}
use Rattle.plan_laws.specs.Ledgers.{ledger_of}
use Rattle.plan_laws.specs.Planned.{Outline, jobs_before, HasPieceOf, AreJobsUpTo, SegmentFits, PartsStand, StartedStand, renumbered, IsPlanned}
use Rattle.plan_laws.specs.Scheduling.{script_trap, IsStarted, StartedJobsArePlanned}
use Rattle.plan_laws.proofs.Apart.{parts_are_apart}
use Rattle.plan_laws.proofs.Closing.{pieces_onto-one, output_onto-one, closed_stand-one, starts_from-one, segments_fit-one, jobs_started}
use Rattle.plan_laws.proofs.Statements.Completing.{All-nothing}
use Rattle.plan_laws.proofs.Operations.{segment_framed}
use Rattle.plan_laws.proofs.Schedules.Enrolling.{enrolled_jobs_are_in_order, live_was, later_in}
use Rattle.plan_laws.proofs.Owners.{end_is}
use Rattle.plan_laws.proofs.Schedules.PartFraming.{part_framed}
use Rattle.plan_laws.proofs.Schedules.ScheduledParts.{some_pieces, before_more, numbers_more, has_it, part_over, parts_over, part_there, traps_renumbered}

module _ (x : Outline) (small : x.plan.cells < 2 ^ 32) (s t : ScriptState) (d : Draft) (segment : Segment) (job : JobPlan) (k : Kernel)
    (given writable : ℕ → Bool) (deps : Jobs) (traps : List (ℕ × Trap))
    (known : IsKnown s) (was : IsPlanned x s d) (st : IsStarted x s t d job k given writable deps traps) where
  abbrev n : ℕ
  n = length d.jobs

  abbrev N : ℕ
  N = names.pieces_of job

  has_job : job_at x.plan n ≡ Some job
  has_job = st.enrolled.has

  long : (xs : List JobPlan) → length (xs ++ job ∷ []) ≡ suc (length xs)
  long [] = refl
  long (x ∷ xs) = ap suc (long xs)

  abbrev m : Ledger
  m = ledger_of x.plan x.starts (jobs_before x) (suc n) t

  order : IsLedger m × AreInOrder m (parts x.plan n N ++ pieces_of x.plan d)
  order = enrolled_jobs_are_in_order x s t d job given writable deps N known was st.enrolled (omega arith)
      (parts_are_apart x n job k has_job st.has_kernel st.fits)

  no_depends : (j : ℕ) → m.depends 0 j ≡ false
  no_depends j = by (nat_lt 0 j)
    where
      by : (a : Bool) → (a && (nat_lt 0 0 && t.book.deps (jobs_before x + 0) (jobs_before x + j))) ≡ false
      by true = refl
      by false = refl

  order_next : AreInOrder m (segment_piece x.plan [] [] ∷ (parts x.plan n N ++ pieces_of x.plan d))
  order_next = new_segments_keep_order m m (parts x.plan n N ++ pieces_of x.plan d) (segment_piece x.plan [] []) order.1 (record {
    segment = refl;
    reads = λ w. refl;
    writes = λ w. refl;
    jobs = refl;
    depends = λ j k e. e;
    no_depends = no_depends;
    completed = λ j e. inl e;
    still_completed = λ j e. e;
    live = λ c. refl;
    words = λ c w. refl;
    users = λ c j. refl;
    writers = λ c j. refl;
  })

  abbrev after : Cells
  after = cells_past x.plan (parts x.plan n N ++ pieces_of x.plan d)

  module _ (waits_were : segment.waits.items ≡ d.waits) (ops_were : segment.ops.items ≡ d.ops) (starts : segment.starts ≡ Some (record { 0 = suc n })) where
    abbrev e : Draft
    e = record { segments = d.segments ++ segment ∷ []; jobs = d.jobs ++ job ∷ []; waits = []; ops = [] }

    down : suc n - 1 ≡ n
    down = omega arith

    started_are : started_parts x.plan segment.starts ≡ parts x.plan n N
    started_are =
        ap (started_parts x.plan) starts
        ∙ ap (λ j. parts x.plan j (pieces_in (job_at x.plan j))) down
        ∙ ap (λ o. parts x.plan n (pieces_in o)) has_job

    here_is : segment_piece x.plan segment.waits.items segment.ops.items ∷ closed_pieces x.plan d ≡ pieces_of x.plan d
    here_is = λ i. segment_piece x.plan (waits_were i) (ops_were i) ∷ closed_pieces x.plan d

    pieces_are : closed_pieces x.plan e ≡ parts x.plan n N ++ pieces_of x.plan d
    pieces_are = pieces_onto-one x.plan [] d.segments segment ∙ (λ i. started_are i ++ here_is i)

    output_is : output_closed x.plan e ≡ with_traps (map (job_trap n) traps) (output_of x.plan d)
    output_is =
        output_onto-one x.plan [] no_output d.segments segment
        ∙ (λ i. with_traps (started_traps x.plan (here_is i) (starts i)) (with_ops x.plan (ops_were i) (cells_past x.plan (closed_pieces x.plan d))
        (output_closed x.plan d)))
        ∙ ap (λ ts. with_traps ts (output_of x.plan d))
        (ap (λ j. parts_traps x.plan (pieces_of x.plan d) j (pieces_in (job_at x.plan j))) down
        ∙ ap (λ o. parts_traps x.plan (pieces_of x.plan d) n (pieces_in o)) has_job ∙ st.traps_are)

    framed_parts : (i : ℕ) → AreFramed (cells_at_first x.plan) (parts x.plan n i ++ pieces_of x.plan d)
    framed_parts zero = was.ordered.framed
    framed_parts (suc i) = (
      part_framed x.plan n job k has_job st.has_kernel st.checked st.fits i (cells_past x.plan (parts x.plan n i ++ pieces_of x.plan d)),
      framed_parts i,
    )

    jobs_fit : (j : ℕ) (it : JobPlan) → slice_get e.jobs j ≡ Some it → (q : Kernel) × (kernel_of x.plan it ≡ Some q) × JobFits x.plan it q
    jobs_fit j it h = ⊎_elim (λ l. was.fitting.jobs_fit j it l.1) (λ r. one (r.0) r.2) (get_either d.jobs (job ∷ []) j it h)
      where
        one : (i : ℕ) → slice_get (job ∷ []) i ≡ Some it → (q : Kernel) × (kernel_of x.plan it ≡ Some q) × JobFits x.plan it q
        one zero h = subst (λ it. (q : Kernel) × (kernel_of x.plan it ≡ Some q) × JobFits x.plan it q) (some_is h) (k, st.has_kernel, st.fits)
        one (suc i) h = absurd (none_some h)

    firsts : (j : ℕ) (it : JobPlan) → slice_get e.jobs j ≡ Some it → it.first.0 ≡ pieces_before e.jobs j
    firsts j it h = ⊎_elim
        (λ l. was.fitting.firsts j it l.1 ∙ sym (before_more d.jobs job j (let lt = l.0 in omega arith)))
        (λ r. one r.0 r.1 r.2)
        (get_either d.jobs (job ∷ []) j it h)
      where
        one : (i : ℕ) → j ≡ length d.jobs + i → slice_get (job ∷ []) i ≡ Some it → it.first.0 ≡ pieces_before e.jobs j
        one zero at h = ap (λ (q : JobPlan). q.first.0) (sym (some_is h)) ∙ st.first ∙ sym (before_more d.jobs job n (omega arith))
            ∙ ap (pieces_before e.jobs) (let a : n ≡ j = omega arith in a)
        one (suc i) at h = absurd (none_some h)

    -- it depends on jobs before it
    deps_before : AreJobsUpTo n job.deps.items
    deps_before = (
      st.fits.deps.0,
      λ i id lt.
          let on = later_in (jobs_before x) deps (get_or job.deps.items i id).0
          (sym (st.enrolled.deps_are (get_or job.deps.items i id).0) ∙ has_it job.deps.items i id lt) in
          let up = (st.enrolled.deps_up (jobs_before x + (get_or job.deps.items i id).0) on.1).1 in
          let count = was.ordered.count in
          omega arith,
    )

    deps_fit : (j : ℕ) (it : JobPlan) → slice_get e.jobs j ≡ Some it → AreJobsUpTo j it.deps.items
    deps_fit j it h = ⊎_elim (λ l. was.fitting.deps j it l.1) (λ r. one r.0 r.1 r.2) (get_either d.jobs (job ∷ []) j it h)
      where
        one : (i : ℕ) → j ≡ length d.jobs + i → slice_get (job ∷ []) i ≡ Some it → AreJobsUpTo j it.deps.items
        one zero at h = subst (λ (q : JobPlan). AreJobsUpTo j q.deps.items) (some_is h)
            (subst (λ k. AreJobsUpTo k job.deps.items) (let a : n ≡ j = omega arith in a) deps_before)
        one (suc i) at h = absurd (none_some h)

    planned : IsPlanned x t e
    planned =
        let len : length e.jobs ≡ suc n = long d.jobs in
        record {
          ordered = record {
            count = (let c = was.ordered.count in let b = ap (λ (b : Book). b.count) st.enrolled.book in omega arith);
            before = λ j pos le. ap (λ (b : Book). b.completed j) st.enrolled.book ∙ was.ordered.before j pos le;
            ledger = subst (λ c. IsLedger (ledger_of x.plan x.starts (jobs_before x) c t)) (sym len) order.0;
            pieces = subst (λ c. AreInOrder (ledger_of x.plan x.starts (jobs_before x) c t) (segment_piece x.plan [] [] ∷ closed_pieces x.plan e)) (sym len)
                (subst (λ ps. AreInOrder m (segment_piece x.plan [] [] ∷ ps)) (sym pieces_are) order_next);
            parts = λ j pos le. subst (λ ps. HasPieceOf (segment_piece x.plan [] [] ∷ ps) j) (sym pieces_are)
                (part_over (segment_piece x.plan [] []) (parts x.plan n N ++ pieces_of x.plan d) j
                (⊎_elim
                (λ at. subst (HasPieceOf (parts x.plan n N ++ pieces_of x.plan d)) (sym at)
                (part_there x.plan n N (pieces_of x.plan d) (some_pieces job.parallel job.cut.n job.cut.step st.fits.cut.step.0)))
                (λ ne. parts_over x.plan n N (pieces_of x.plan d) j (was.ordered.parts j pos (omega arith)))
                (cases_eq j (suc n))));
            framed = subst (λ ps. AreFramed (cells_at_first x.plan) (segment_piece x.plan [] [] ∷ ps)) (sym pieces_are)
                (segment_framed x.plan small [] [] after (All-nothing (OpFits x.plan)), framed_parts N);
          };
          fitting = record {
            first = was.fitting.first;
            jobs_later = st.jobs_later;
            jobs_are = st.jobs_are;
            jobs_fit = jobs_fit;
            firsts = firsts;
            deps = deps_fit;
            starts = starts_from-one d.segments segment ∙ (λ i. was.fitting.starts i ++ number_in (starts i))
                ∙ (let one : suc n ≡ 1 + n = omega arith in ap (λ c. numbers_from 1 n ++ c ∷ []) one) ∙ numbers_more 1 n ∙ ap (numbers_from 1) (sym len);
            closed = segments_fit-one x.plan 0 d.segments segment was.fitting.closed
                (subst (λ k. SegmentFits x.plan k segment) (sym (jobs_started d.segments n was.fitting.starts))
                (record {
                  waits = subst (AreJobsUpTo n) (sym waits_were) was.fitting.waits;
                  ops = subst (All (OpFits x.plan)) (sym ops_were) was.fitting.ops;
                }));
            waits = (tt, All-nothing _);
            ops = All-nothing (OpFits x.plan);
          };
          standing = record {
            closed = closed_stand-one x.plan [] d.segments segment was.standing.closed
                (subst (λ ops. OpsStand x.plan ops (cells_past x.plan (closed_pieces x.plan d))) (sym ops_were) was.standing.ops)
                (subst (λ ps. StartedStand x.plan ps segment.starts) (sym here_is) (subst (StartedStand x.plan (pieces_of x.plan d)) (sym starts)
                (subst (λ j. PartsStand x.plan (pieces_of x.plan d) j (job_at x.plan j)) (sym down)
                (subst (PartsStand x.plan (pieces_of x.plan d) n) (sym has_job) st.stand))));
            ops = tt;
            contents = λ c below alive. subst (λ ps. Holds (cells_past x.plan ps) (bind_of_container x.starts t c) (t.contents c)) (sym pieces_are)
                (st.held c below alive);
            within = λ c live.
                let le = was.standing.within c (live_was x s t d job given writable deps known was st.enrolled c live) in
                let a = end_is (x.starts (t.range c)) (t.contents c) in
                let b = end_is (x.starts (s.range c)) (s.contents c) in
                let r : x.starts (t.range c) ≡ x.starts (s.range c) = ap (λ f. x.starts (f c)) st.enrolled.range in
                let z = st.enrolled.words c in
                omega arith;
          };
          output = record {
            lines = st.lines ∙ was.output.lines ∙ ap (λ l. x.begun.lines ++ l)
                (sym (append-nil (output_of x.plan d).lines) ∙ ap (λ (q : Output). q.lines ++ []) (sym output_is));
            refused = let u = st.refused in let r = was.output.refused in let q = ap (λ (q : Output). q.refused) output_is in omega arith;
            traps =
                (let count = was.ordered.count in
                st.traps_more
                ∙ ap (λ ts. ts ++ map (script_trap (suc s.book.count)) traps) was.output.traps
                ∙ append_assoc x.begun.traps (map (renumbered (jobs_before x)) (output_of x.plan d).traps) (map (script_trap (suc s.book.count)) traps)
                ∙ ap (λ ts. x.begun.traps ++ (map (renumbered (jobs_before x)) (output_of x.plan d).traps ++ ts))
                (sym (traps_renumbered (jobs_before x) n (suc s.book.count) (omega arith) traps))
                ∙ ap (λ ts. x.begun.traps ++ ts) (sym (map-append (renumbered (jobs_before x)) (output_of x.plan d).traps (map (job_trap n) traps)))
                ∙ ap (λ (q : Output). x.begun.traps ++ map (renumbered (jobs_before x)) q.traps) (sym output_is));
          };
        }

pub started_jobs_are_planned : StartedJobsArePlanned
started_jobs_are_planned x small s t d e segment job k given writable deps traps known was st starts closes =
    let is : record { segments = d.segments ++ segment ∷ []; jobs = d.jobs ++ job ∷ []; waits = []; ops = [] } ≡ e = (
    let segments = sym closes.segments in
    let jobs = sym closes.jobs in
    let waits = sym closes.waits in
    let ops = sym closes.ops in
    λ i. record { segments = segments i; jobs = jobs i; waits = waits i; ops = ops i }) in
    subst (IsPlanned x t) is (planned x small s t d segment job k given writable deps traps known was st closes.waits_were closes.ops_were starts)
