-- The plan so far becomes a whole one: what it counts is small, and it is a plan of the script.
use Rattle.std.proofs.Common.{◌≡◌, ℕ, zero, suc, ◌+◌, ◌*◌, ◌<◌, ◌≤◌, ◌^◌, ⊎_elim, Bool, true, false, cond, ne_eqb, eq-eqb, List, [], ◌∷◌, ◌++◌, length, None, Some, refl, sym, ap, subst, ◌∙◌, arith, append-nil}
use Rattle.std.specs.Prelude.{nat_eq, slice_get}
use Rattle.std.specs.Int.{div_ceil}
use Rattle.std.proofs.lemmas.Bool.{cases_eq, cases_lt, cond-false, leb-true}
use Rattle.std.proofs.lemmas.Grind.{div_ceil_times}
use Rattle.std.proofs.lemmas.List.{append_assoc, length-append}
use Rattle.std.proofs.Math.Nat.{mul-le-mul_right}
use Rattle.job_base.specs.declared.limits.TheConstants.{MOST_JOBS, MOST_PIECES, MOST_STATEMENTS, MOST_CREATED_WORDS}
use Rattle.batch_cut.specs.Cuts.{count_of}
use Rattle.frame_ast.specs.declared.kernel.Kernel.{Kernel}
use Rattle.frame_ast.specs.declared.script.Script.{Script}
use Rattle.frame_ast.specs.Orders.{setting}
use Rattle.kernel_bytecode.specs.declared.code.Code.{Code}
use Rattle.slot_store.specs.Stores.{peak_of}
use Rattle.frame_core.specs.declared.plan.JobPlan.{JobPlan}
use Rattle.frame_core.specs.declared.plan.Segment.{Segment}
use Rattle.frame_core.specs.declared.plan.Plan.{Plan}
use Rattle.frame_core.specs.Empty.{no_plan}
use Rattle.frame_core.specs.Names.{has_job, pieces_of, pieces_before}
use Rattle.frame_core.specs.Ordered.{AreCodesOf, IsCutIn, ops_count}
use Rattle.plan_laws.specs.Finishing.{IsDone}
use Rattle.plan_laws.specs.Planned.{AreJobsUpTo, IsPlanned}
use Rattle.plan_laws.proofs.Becoming.{drafts_become_plans}
use Rattle.plan_state.specs.declared.state.Planner.{Planner}
use Rattle.frame_plan.specs.Runs.{AreWithin, IsInside, outline_of}
use Rattle.plan_state.specs.Stands.{Agrees, draft_of}
use Rattle.plan_state.specs.Steps.{state_at}
use Rattle.plan_state.proofs.Accessing.{there}
use Rattle.frame_plan.proofs.Passing.{stands_within}

-- ---- pieces are few

few_pieces : (n step : ℕ) → 1 ≤ step → n ≤ MOST_PIECES * step → count_of n step ≤ MOST_PIECES
few_pieces n step pos le = ⊎_elim
    (λ (z : n ≡ 0). subst (λ b. cond b 1 (div_ceil n step) ≤ MOST_PIECES) (sym (eq-eqb n 0 z)) (omega arith))
    (λ ne. subst (λ x. x ≤ MOST_PIECES) (sym (cond-false (nat_eq n 0) 1 (div_ceil n step) (ne_eqb n 0 ne)))
    (below (div_ceil n step) (div_ceil_times n step (omega arith)).1))
    (cases_eq n 0)
  where
    below : (q : ℕ) → q * step < n + step → q ≤ MOST_PIECES
    below q lt = ⊎_elim (λ (h : q < 65). omega arith) (λ (h : 65 ≤ q). let more : 65 * step ≤ q * step = mul-le-mul_right step h in absurd (omega arith))
        (cases_lt q 65)

pieces_few : (n step : ℕ) (b : Bool) → 1 ≤ step → n ≤ MOST_PIECES * step → cond b (count_of n step) 1 ≤ MOST_PIECES
pieces_few n step true pos le = few_pieces n step pos le
pieces_few n step false pos le = omega arith

jobs_pieces : (jobs : List JobPlan) → ((j : ℕ) (job : JobPlan) → slice_get jobs j ≡ Some job → IsCutIn job)
    → pieces_before jobs (length jobs) ≤ MOST_PIECES * length jobs
jobs_pieces [] cut = omega arith
jobs_pieces (x ∷ more) cut =
    let here = cut 0 x refl in
    let few : pieces_of x ≤ MOST_PIECES = pieces_few x.cut.n x.cut.step x.parallel here.step.0 here.pieces in
    let rest = jobs_pieces more (λ j job e. cut (suc j) job e) in
    omega arith

-- ---- what is counted is small

-- a rising list of numbers has at least its place at each place
rank : (xs : List ℕ) → ((k l c d : ℕ) → k < l → slice_get xs k ≡ Some c → slice_get xs l ≡ Some d → c < d) → (k c : ℕ) → k < length xs → slice_get xs k ≡ Some c
    → k ≤ c
rank xs rising zero c lt e = omega arith
rank xs rising (suc k) c lt e =
    let b = there xs k (omega arith) in
    let below = rank xs rising k b.0 (omega arith) b.1 in
    let less = rising k (suc k) b.0 c (omega arith) b.1 e in
    omega arith

few_rising : (xs : List ℕ) (m : ℕ) → ((k l c d : ℕ) → k < l → slice_get xs k ≡ Some c → slice_get xs l ≡ Some d → c < d)
    → ((k c : ℕ) → slice_get xs k ≡ Some c → c < m) → length xs ≤ m
few_rising xs m rising below = by (length xs) refl
  where
    by : (n : ℕ) → length xs ≡ n → length xs ≤ m
    by zero e = omega arith
    by (suc n) e =
        let last = there xs n (omega arith) in
        let low = rank xs rising n last.0 (omega arith) last.1 in
        let high = below n last.0 last.1 in
        omega arith

-- ---- kernels that went from one plan to another have their codes there

pub coded_as : (ks had : List Kernel) (cs had_codes : List Code) → ks ≡ had → cs ≡ had_codes → AreCodesOf had had_codes → AreCodesOf ks cs
coded_as ks had cs had_codes k c are = subst (λ l. AreCodesOf l cs) (sym k) (subst (AreCodesOf had) (sym c) are)

-- a plan that has all of the plan so far
abbrev pub plan_so_far : Script → Planner → Plan
plan_so_far script p = record no_plan {
  names = script.names;
  kernels = p.draft.kernels;
  literals = p.draft.literals;
  jobs = p.draft.jobs;
  first = p.draft.first;
  cells = peak_of p.world.store;
}

module _ {script : Script} {p : Planner} (at : IsInside script p) where
  open at use {accepted, table, begun, n, found, inside, stands as st}

  peak_small : peak_of p.world.store < 2 ^ 32
  peak_small = let low = st.numbers.peak_low in let few = st.numbers.created_few in omega arith

  -- a plan that has all of the plan so far
  pub agrees : (plan : Plan) → plan.names ≡ script.names
      → plan.kernels.items ≡ p.draft.kernels.items → plan.literals.items ≡ p.draft.literals.items → plan.jobs.items ≡ p.draft.jobs.items
      → plan.cells ≡ peak_of p.world.store → plan.first.items ≡ p.draft.first.items
      → Agrees p (setting script table) begun found (outline_of plan found begun)
  agrees plan names kernels literals jobs cells first = record {
    begins = refl;
    names = names;
    kernels = ([], kernels ∙ sym (append-nil p.draft.kernels.items));
    literals = ([], literals ∙ sym (append-nil p.draft.literals.items));
    jobs = ([], jobs ∙ sym (append-nil p.draft.jobs.items));
    starts = λ k lt. refl;
    cells = omega arith;
    first = first;
    small = (let few = peak_small in omega arith);
  }

  pub some_planned : IsPlanned (outline_of (plan_so_far script p) found begun) (state_at script table n) (draft_of p)
  some_planned = st.planned _ (agrees (plan_so_far script p) refl refl refl refl refl refl)

  -- what is live lies below the peak
  pub live_low : AreWithin (peak_of p.world.store) found (state_at script table n)
  live_low = some_planned.standing.within

  pub jobs_few : length p.draft.jobs.items ≤ MOST_JOBS
  jobs_few =
      let count = some_planned.ordered.count in
      let few = (stands_within p (setting script table) begun n (state_at script table n) found st).jobs in
      omega arith

  pub pieces_small : p.draft.pieces ≤ 262144
  pieces_small =
      let few = jobs_pieces p.draft.jobs.items (λ j job e. (some_planned.fitting.jobs_fit j job e).2.cut) in
      let jobs = jobs_few in
      let is = st.numbers.pieces in
      omega arith

  pub cells_small : peak_of p.world.store ≤ MOST_CREATED_WORDS
  cells_small = let low = st.numbers.peak_low in let few = st.numbers.created_few in omega arith

  statements_few : length script.statements.items ≤ MOST_STATEMENTS
  statements_few = leb-true (length script.statements.items) MOST_STATEMENTS accepted.statement_count

  overdue_few : p.world.overdue ≤ MOST_STATEMENTS
  overdue_few =
      let few = few_rising p.world.tempjobs.items (state_at script table n).made st.knows.tempjobs.rising (λ k c e. (st.knows.tempjobs.each k c e).0) in
      let within = st.knows.tempjobs.within in
      let made = st.numbers.made_few in
      let most = statements_few in
      omega arith

  ops_two : (xs : List Segment) (last final : Segment) → final.ops.items ≡ [] → ops_count (xs ++ last ∷ final ∷ []) ≡ ops_count xs + length last.ops.items
  ops_two [] last final e = let z = ap length e in omega arith
  ops_two (x ∷ more) last final e = let rest = ops_two more last final e in omega arith

  pub is_done : (plan : Plan) (last final : Segment) → plan.names ≡ script.names
      → plan.kernels.items ≡ p.draft.kernels.items → plan.codes.items ≡ p.draft.codes.items
      → plan.literals.items ≡ p.draft.literals.items → plan.jobs.items ≡ p.draft.jobs.items
      → plan.cells ≡ peak_of p.world.store → plan.first.items ≡ p.draft.first.items
      → plan.words ≡ plan.cells + p.draft.pieces
      → plan.segments.items ≡ (p.draft.segments.items ++ last ∷ []) ++ final ∷ []
      → last.waits.items ≡ p.draft.waits.items
      → last.ops.items ≡ p.draft.ops.items
      → last.starts ≡ None
      → AreJobsUpTo (length p.draft.jobs.items) final.waits.items
      → ((j : ℕ) → 0 < j → j ≤ length p.draft.jobs.items → has_job final.waits.items j ≡ true)
      → final.ops.items ≡ []
      → final.starts ≡ None
      → IsDone (outline_of plan found begun) (state_at script table n)
  is_done plan last final names kernels codes literals jobs cells first words segments waits ops starts known all final_ops final_starts =
      let split : plan.segments.items ≡ p.draft.segments.items ++ last ∷ final ∷ [] = segments ∙ append_assoc p.draft.segments.items (last ∷ []) (final ∷ []) in
      let pieces_is : pieces_before plan.jobs.items (length plan.jobs.items) ≡ p.draft.pieces = ap (λ l. pieces_before l (length l)) jobs
      ∙ sym st.numbers.pieces in
      let long : length plan.segments.items ≡ length p.draft.segments.items + 2 = ap length split ∙ length-append p.draft.segments.items (last ∷ final ∷ []) in
      let count : ops_count plan.segments.items ≡ ops_count p.draft.segments.items + length last.ops.items = ap ops_count split
      ∙ ops_two p.draft.segments.items last final final_ops in
      let ops_long : length last.ops.items ≡ length p.draft.ops.items = ap length ops in
      let few = jobs_few in
      let small = pieces_small in
      let low = cells_small in
      let most = statements_few in
      let late = overdue_few in
      let so_many = st.numbers.ops_few in
      let so_few = st.numbers.segments_few in
      let as_many : length plan.jobs.items ≡ length p.draft.jobs.items = ap length jobs in
      let planned = st.planned (outline_of plan found begun) (agrees plan names kernels literals jobs cells first) in
      drafts_become_plans (outline_of plan found begun) (state_at script table n) (draft_of p) last final st.knows.known planned
      (record {
        jobs = jobs;
        segments = split;
        waits = waits;
        ops = ops;
        starts = starts;
        final_waits = all;
        final_known = known;
        final_ops = final_ops;
        final_starts = final_starts;
      })
      (record {
        jobs = omega arith;
        words_are = words ∙ ap (λ k. plan.cells + k) (sym pieces_is);
        words = omega arith;
        first = planned.fitting.first;
        pieces = omega arith;
        ops = omega arith;
      })
      (λ place k e. st.kernels.checked place k (sym (ap (λ l. slice_get l place) kernels) ∙ e))
      (coded_as plan.kernels.items p.draft.kernels.items plan.codes.items p.draft.codes.items kernels codes st.kernels.coded)
