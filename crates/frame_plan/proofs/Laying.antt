-- A plan so far that is laid out stays so as it grows by a statement, and as it becomes a whole one.
use Rattle.std.proofs.Common.{◌≡◌, ℕ, zero, suc, ◌-◌, ◌≤◌, ⊎_elim, false, List, [], ◌∷◌, ◌++◌, Option, None, Some, refl, sym, ap, subst, ◌∙◌, arith, append-nil}
use Rattle.std.specs.Prelude.{Vec, max, nat_le, get_or, if◌then◌else◌, slice_get, take}
use Rattle.std.specs.declared.alloc.Global.{Global}
use Rattle.std.proofs.lemmas.Bool.{cases_eq, le-leb}
use Rattle.std.proofs.lemmas.List.{append_assoc, get_or_append_left, length-append}
use Rattle.job_base.specs.declared.Span.{Span}
use Rattle.frame_ast.specs.declared.kernel.Kernel.{Kernel}
use Rattle.frame_ast.specs.declared.script.Arg.{Arg}
use Rattle.frame_ast.specs.declared.script.Order.{Order}
use Rattle.frame_ast.specs.declared.script.Order.TheVariants.{Schedule}
use Rattle.frame_ast.specs.declared.script.Script.{Script}
use Rattle.frame_ast.specs.declared.script.Statement.{Statement}
use Rattle.frame_ast.specs.Checks.{refusal}
use Rattle.frame_ast.specs.Jobs.{Jobs}
use Rattle.frame_ast.specs.Accepted.{IsAccepted}
use Rattle.frame_ast.specs.Orders.{Table, Setting, setting}
use Rattle.frame_ast.specs.Ranges.{Starts, Takes, AreFirstFits}
use Rattle.frame_ast.specs.Refusals.{Refused}
use Rattle.frame_ast.specs.Scripts.{act, act_all}
use Rattle.frame_ast.specs.States.{ScriptState, at_start}
use Rattle.slot_store.specs.Stores.{peak_of}
use Rattle.frame_core.specs.declared.plan.JobPlan.{JobPlan}
use Rattle.frame_core.specs.declared.plan.Segment.{Segment}
use Rattle.frame_core.proofs.Small.{some_is, none_some, get_before, get_below}
use Rattle.plan_state.specs.declared.state.Planner.{Planner}
use Rattle.plan_state.specs.Growth.{span_by, greatest_end, StartAs, HasJobOf, IsJobOf, Schedules, SchedulesUnless, deps_after, Awaits, AwaitsUnless, IsStartedAfter, HasWaited, unless_none, newly_completed, Grows}
use Rattle.frame_plan.specs.Layouts.{span_of, spans_at, spans_between, completed_at, completed_between, HasItsJob, AreScheduled, HasRanges, HasGrown}
use Rattle.frame_plan.specs.Runs.{IsAtStatement, IsFurther, HasGone}
use Rattle.plan_state.specs.Steps.{state_at, StandsAt}
use Rattle.plan_state.proofs.Reaching.{next_state}

-- ---- lists

get_front : {A : Type 0} (xs ys : List A) (n : ℕ) (x : A) → slice_get xs n ≡ Some x → slice_get (xs ++ ys) n ≡ Some x
get_front xs ys n x e = get_before xs ys n (get_below xs n x e) ∙ e

-- ---- ranges

-- one first fit more
fits_more : (g : Setting) (starts : Starts) (xs : List Statement) (n : ℕ) (x : Statement) (s : ScriptState) → slice_get xs n ≡ Some x
    → AreFirstFits g starts (take n xs) s
    → Takes g starts (act_all g (take n xs) s) (act_all g (take n xs) s).passing x.act
    → AreFirstFits g starts (take (suc n) xs) s
fits_more g starts [] n x s e fits takes = absurd (none_some e)
fits_more g starts (y ∷ ys) zero x s e fits takes = (subst (λ (z : Statement). Takes g starts s s.passing z.act) (sym (some_is e)) takes, tt)
fits_more g starts (y ∷ ys) (suc n) x s e fits takes = (fits.0, fits_more g starts ys n x (act g s y) e fits.1 takes)

ends_more : (xs ys : List Span) → greatest_end (xs ++ ys) ≡ max (greatest_end xs) (greatest_end ys)
ends_more [] ys = (let e : greatest_end ys ≡ max 0 (greatest_end ys) = omega arith in e)
ends_more (x ∷ xs) ys = (let e = ends_more xs ys in omega arith)

module _ (script : Script) (table : Table) (starts : Starts) where
  abbrev g : Setting
  g = setting script table

  abbrev at_place : ℕ → ScriptState
  at_place n = state_at script table n

  -- the statement at a place takes what it does in the state before it
  pub span_here : (n : ℕ) (x : Statement) → slice_get script.statements.items n ≡ Some x
      → spans_at script table starts n ≡ span_by g starts (at_place n) (at_place n).passing x.act
  span_here n x here = ap (span_of g starts (at_place n)) here

  pub spans_more : (from n : ℕ) → from ≤ n → spans_between script table starts from (suc n) ≡ spans_between script table starts from n
      ++ spans_at script table starts n
  spans_more from n le = ap (λ b. if b then spans_between script table starts from n ++ spans_at script table starts n else []) (le-leb from n le)

  pub no_spans : (from : ℕ) → spans_between script table starts from from ≡ []
  no_spans zero = refl
  no_spans (suc n) = ap (λ b. if b then spans_between script table starts (suc n) n ++ spans_at script table starts n else []) (above n)
    where
      above : (n : ℕ) → nat_le (suc n) n ≡ false
      above n = grind arith

  -- so of what is newly completed

  pub completed_more : (from n : ℕ) → from ≤ n
      → completed_between script table from (suc n) ≡ completed_between script table from n ++ unless_none (completed_at script table from n)
  completed_more from n le =
      ap (λ b. if b then completed_between script table from n ++ unless_none (completed_at script table from n) else []) (le-leb from n le)

  pub none_so_far : (from : ℕ) → completed_between script table from from ≡ []
  none_so_far zero = refl
  none_so_far (suc n) =
      ap (λ b. if b then completed_between script table (suc n) n ++ unless_none (completed_at script table (suc n) n) else []) (above n)
    where
      above : (n : ℕ) → nat_le (suc n) n ≡ false
      above n = grind arith

  -- a statement more
  pub ranges_more : (p q : Planner) (n : ℕ) (x : Statement) → slice_get script.statements.items n ≡ Some x
      → HasRanges script table starts p n
      → Takes g starts (at_place n) (at_place n).passing x.act
      → peak_of q.world.store ≡ max (peak_of p.world.store) (greatest_end (span_by g starts (at_place n) (at_place n).passing x.act))
      → HasRanges script table starts q (suc n)
  ranges_more p q n x here r takes peak = record {
    fits = fits_more g starts script.statements.items n x at_start here r.fits takes;
    peak = peak
        ∙ (let a = r.peak in let b = sym (span_here n x here) in λ i. max (a i) (greatest_end (b i)))
        ∙ sym (ends_more (spans_between script table starts 0 n) (spans_at script table starts n))
        ∙ ap greatest_end (sym (spans_more 0 n (omega arith)));
  }

  -- ---- jobs: those so far stay, with their kernels and segments

  job_later : (works : List (Option ℕ)) (before : ℕ) (s : ScriptState) (deps : Jobs) (kernel : ℕ) (args : List Arg)
      (cut defer : Option (ℕ × ℕ)) (waive : List ℕ)
      (kernels more : List Kernel) (job : JobPlan)
      → IsJobOf g works starts before s deps kernel args cut defer waive kernels job
      → IsJobOf g works starts before s deps kernel args cut defer waive (kernels ++ more) job
  job_later works before s deps kernel args cut defer waive kernels more job j = record {
    source = j.source;
    is_source = j.is_source;
    copy = j.copy;
    is_copy = get_front kernels more job.kernel j.copy j.is_copy;
    copied = j.copied;
    binds = j.binds;
    indexes = j.indexes;
    step = j.step;
    parallel = j.parallel;
    deps = j.deps;
  }

  has_later : (works : List (Option ℕ)) (before : ℕ) (s : ScriptState) (deps : Jobs) (kernel : ℕ) (args : List Arg)
      (cut defer : Option (ℕ × ℕ)) (waive : List ℕ)
      (kernels more : List Kernel) (jobs later : List JobPlan) (k : ℕ)
      → HasJobOf g works starts before s deps kernel args cut defer waive kernels (slice_get jobs k)
      → HasJobOf g works starts before s deps kernel args cut defer waive (kernels ++ more) (slice_get (jobs ++ later) k)
  has_later works before s deps kernel args cut defer waive kernels more jobs later k = by (slice_get jobs k) refl
    where
      by : (o : Option JobPlan) → slice_get jobs k ≡ o → HasJobOf g works starts before s deps kernel args cut defer waive kernels o
          → HasJobOf g works starts before s deps kernel args cut defer waive (kernels ++ more) (slice_get (jobs ++ later) k)
      by None e h = absurd h
      by (Some job) e h =
          subst (HasJobOf g works starts before s deps kernel args cut defer waive (kernels ++ more)) (sym (get_front jobs later k job e))
          (job_later works before s deps kernel args cut defer waive kernels more job h)

  started_later : (segments more : List Segment) (number before : ℕ) (completed : Jobs) → IsStartedAfter segments number before completed
      → IsStartedAfter (segments ++ more) number before completed
  started_later segments more number before completed h = record {
    earlier = h.earlier;
    segment = h.segment;
    rest = h.rest ++ more;
    are = ap (λ l. l ++ more) h.are ∙ append_assoc h.earlier (h.segment ∷ h.rest) more;
    starts = h.starts;
    waits = h.waits;
  }

  module _ (works : List (Option ℕ)) (before : ℕ) (s : ScriptState) (x : Statement) (kernels more : List Kernel) (jobs later : List JobPlan)
      (segments rest : List Segment) where
    abbrev k : ℕ
    k = s.book.count - before

    unless_later : (deps : Jobs) (a : Order) (o : Option Refused) → SchedulesUnless g works starts before s deps a o kernels (slice_get jobs k)
        → SchedulesUnless g works starts before s deps a o (kernels ++ more) (slice_get (jobs ++ later) k)
    unless_later deps (Schedule job) None h =
        has_later works before s deps job.value.kernel job.value.args.items job.value.cut job.value.defer job.value.waive.items kernels more jobs later k h
    unless_later deps (Schedule job) (Some r) h = tt
    unless_later deps a o h = tt

    schedules_later : (deps : Jobs) (passing : ℕ) → Schedules g works starts before s deps passing x.act kernels (slice_get jobs k)
        → Schedules g works starts before s deps passing x.act (kernels ++ more) (slice_get (jobs ++ later) k)
    schedules_later deps zero h = unless_later deps x.act (refusal g s x.act) h
    schedules_later deps (suc n) h = tt

    awaits_unless_later : (a : Order) (o : Option Refused) → AwaitsUnless before s a o segments → AwaitsUnless before s a o (segments ++ rest)
    awaits_unless_later (Schedule job) None h = started_later segments rest (suc k) before s.book.completed h
    awaits_unless_later (Schedule job) (Some r) h = tt
    awaits_unless_later a o h = tt

    awaits_later : (passing : ℕ) → Awaits g before s passing x.act segments → Awaits g before s passing x.act (segments ++ rest)
    awaits_later zero h = awaits_unless_later x.act (refusal g s x.act) h
    awaits_later (suc n) h = tt

    pub its_job_later : HasItsJob g works starts before s x kernels jobs segments
        → HasItsJob g works starts before s x (kernels ++ more) (jobs ++ later) (segments ++ rest)
    its_job_later h = record { job = schedules_later (deps_after g s x) s.passing h.job; after = awaits_later s.passing h.after }

  pub scheduled_later : (works : List (Option ℕ)) (from to : ℕ) (kernels more kernels_now : List Kernel) (jobs later jobs_now : List JobPlan)
      (segments rest segments_now : List Segment)
      → kernels_now ≡ kernels ++ more → jobs_now ≡ jobs ++ later → segments_now ≡ segments ++ rest
      → AreScheduled script table works starts from to kernels jobs segments → AreScheduled script table works starts from to kernels_now jobs_now segments_now
  scheduled_later works from to kernels more kernels_now jobs later jobs_now segments rest segments_now ks js ss h n x low high here =
      let before = (at_place from).book.count in
      let a = its_job_later works before (at_place n) x kernels more jobs later segments rest (h n x low high here) in
      subst (λ l. HasItsJob g works starts before (at_place n) x l jobs_now segments_now) (sym ks)
      (subst (λ l. HasItsJob g works starts before (at_place n) x (kernels ++ more) l segments_now) (sym js)
      (subst (λ l. HasItsJob g works starts before (at_place n) x (kernels ++ more) (jobs ++ later) l) (sym ss) a))

  -- ---- a statement more

  pub grown_more : (p q : Planner) (from n : ℕ) (x : Statement) → slice_get script.statements.items n ≡ Some x → from ≤ n
      → Grows g (at_place n) x starts (at_place from).book.count p q
      → HasGrown script table starts p from n
      → HasGrown script table starts q from (suc n)
  grown_more p q from n x here le grows h =
      let before = (at_place from).book.count in
      let works = p.world.works.items in
      record {
        ranges = ranges_more p q n x here h.ranges grows.first_fit grows.peak;
        spans = grows.spans
            ∙ (let a = h.spans in let b = sym (span_here n x here) in λ i. a i ++ b i)
            ∙ sym (spans_more from n le);
        jobs = λ m y low high there.
            subst (λ (v : Vec (Option ℕ) Global).
            HasItsJob g v.items starts before (at_place m) y q.draft.kernels.items q.draft.jobs.items q.draft.segments.items) (sym grows.works)
            (⊎_elim
            (λ (e : m ≡ n). (let same : x ≡ y = some_is (sym here ∙ ap (slice_get script.statements.items) (sym e) ∙ there) in
            subst (λ k. HasItsJob g works starts before (at_place k) y q.draft.kernels.items q.draft.jobs.items q.draft.segments.items) (sym e)
            (subst (λ z. HasItsJob g works starts before (at_place n) z q.draft.kernels.items q.draft.jobs.items q.draft.segments.items) same
            (record { job = grows.schedules; after = grows.awaited h.waited }))))
            (λ ne. scheduled_later works from n
            p.draft.kernels.items grows.kernels_later q.draft.kernels.items
            p.draft.jobs.items grows.jobs_later q.draft.jobs.items
            p.draft.segments.items grows.segments_later q.draft.segments.items
            grows.kernels_are grows.jobs_are grows.segments_are h.jobs m y low (omega arith) there)
            (cases_eq m n));
        waited = subst (λ s. HasWaited before s q) (next_state script table n x here) (grows.waited h.waited);
        waits = grows.waits
            ∙ (let a = h.waits in let b = next_state script table n x here in λ i. a i ++ unless_none (newly_completed before (at_place n) (b i)))
            ∙ sym (completed_more from n le);
      }

-- ---- the loop over statements

pub not_gone : (script : Script) (table : Table) (p : Planner) (begun : ScriptState) (n : ℕ) (found : List ℕ) → StandsAt p script table begun n found
    → HasGone script table p p begun n found n
not_gone script table p begun n found st = record {
  more = [];
  stands = subst (StandsAt p script table begun n) (sym (append-nil found)) st;
  works = refl;
  grown = λ start starts le count same h. h;
}

-- starts that go on from more ranges go on from fewer
pub fewer : (starts : Starts) (found more : List ℕ) → StartAs starts (found ++ more) → StartAs starts found
fewer starts found more same k lt =
    same k (let e = length-append found more in omega arith)
    ∙ get_or_append_left found more 0 k lt

-- where it has gone it stands before the next statement
abbrev pub at_gone : {script : Script} {table : Table} {old p : Planner} {begun : ScriptState} {from : ℕ} {found : List ℕ} {n : ℕ} {x : Statement}
    → IsAccepted script → HasGone script table old p begun from found n → slice_get script.statements.items n ≡ Some x → IsAtStatement script table p x
at_gone {begun = begun} {found = found} {n = n} accepted h here = record {
  accepted = accepted;
  begun = begun;
  n = n;
  found = found ++ h.more;
  here = here;
  stands = h.stands;
}

pub gone_further : {script : Script} {table : Table} {old p q : Planner} {begun : ScriptState} {from n : ℕ} {found : List ℕ} {x : Statement}
    (accepted : IsAccepted script) (h : HasGone script table old p begun from found n) (here : slice_get script.statements.items n ≡ Some x)
    → from ≤ n
    → IsFurther (at_gone accepted h here) q
    → HasGone script table old q begun from found (suc n)
gone_further {script} {table} {old} {p} {q} {begun} {from} {n} {found} {x} accepted h here le f =
    let all : (found ++ h.more) ++ f.more ≡ found ++ (h.more ++ f.more) = append_assoc found h.more f.more in
    record {
      more = h.more ++ f.more;
      stands = subst (StandsAt q script table begun (suc n)) all f.stands;
      works = (f.grows (λ k. get_or ((found ++ h.more) ++ f.more) k 0) (λ k lt. refl)).works ∙ h.works;
      grown = λ start starts low count same was.
          let together = subst (StartAs starts) (sym all) same in
          grown_more script table starts p q start n x here (omega arith)
          (subst (λ k. Grows (setting script table) (state_at script table n) x starts k p q) count (f.grows starts together))
          (h.grown start starts low count (fewer starts (found ++ h.more) f.more together) was);
    }
