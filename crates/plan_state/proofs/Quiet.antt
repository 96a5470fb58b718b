-- A statement that gives no range and schedules no job: the plan grows by neither.
--
-- Such are all that are refused, those that are passed by, and those of which `IsPlain` holds.
use Rattle.std.proofs.Common.{◌≡◌, ℕ, zero, suc, ◌+◌, ◌-◌, Bool, true, false, ◌&&◌, not, List, [], ◌∷◌, ◌++◌, Option, None, Some, refl, sym, ap, subst, ◌∙◌, arith, append-nil}
use Rattle.std.specs.Prelude.{if◌then◌else◌, max, slice_get}
use Rattle.std.proofs.lemmas.List.{append_assoc}
use Rattle.job_base.specs.declared.JobId.{JobId}
use Rattle.frame_ast.specs.declared.kernel.Kernel.{Kernel}
use Rattle.frame_ast.specs.declared.script.Order.{Order}
use Rattle.frame_ast.specs.declared.script.Order.TheVariants.{Schedule}
use Rattle.frame_ast.specs.declared.script.Script.{Script}
use Rattle.frame_ast.specs.declared.script.Statement.{Statement}
use Rattle.frame_ast.specs.Checks.{refusal}
use Rattle.frame_ast.specs.Jobs.{Jobs, Book}
use Rattle.frame_ast.specs.Orders.{Table, Setting, setting}
use Rattle.frame_ast.specs.Ranges.{Starts, IsTaken, Takes, TakesUnless, takes_words}
use Rattle.frame_ast.specs.Refusals.{Refused}
use Rattle.frame_ast.specs.Scripts.{act}
use Rattle.frame_ast.specs.States.{ScriptState}
use Rattle.frame_ast.proofs.Refusing.{refused_changes_little}
use Rattle.slot_store.specs.Stores.{peak_of}
use Rattle.frame_core.specs.declared.plan.JobPlan.{JobPlan}
use Rattle.frame_core.specs.declared.plan.Op.{Op}
use Rattle.frame_core.specs.declared.plan.Segment.{Segment}
use Rattle.frame_core.specs.Names.{has_job}
use Rattle.plan_laws.specs.Ledgers.{later}
use Rattle.plan_state.specs.declared.state.Planner.{Planner}
use Rattle.plan_state.specs.Growth.{given_by, given_in, given_from, given_so_far, span_at, span_unless, span_by, greatest_end, waits_in, Schedules, SchedulesUnless, deps_after, Awaits, AwaitsUnless, HasWaited, rising_jobs, unless_none, waits_of, waits_by, newly_in, newly_completed, Grows}
use Rattle.plan_state.specs.Stands.{Stands}
use Rattle.plan_state.specs.Steps.{state_at, state_after, IsBefore, HasStepped}

-- WHAT IS GIVEN

pub given_more : (xs ys : List Op) → given_in (xs ++ ys) ≡ given_in xs ++ given_in ys
given_more [] ys = refl
given_more (x ∷ xs) ys = ap (λ l. given_by x.act ++ l) (given_more xs ys) ∙ sym (append_assoc (given_by x.act) (given_in xs) (given_in ys))

-- one operation more that gives none
pub given_one : (xs ys : List Op) (op : Op) → ys ≡ xs ++ op ∷ [] → given_by op.act ≡ [] → given_in ys ≡ given_in xs
given_one xs ys op e none =
    ap given_in e ∙ given_more xs (op ∷ []) ∙ ap (λ l. given_in xs ++ l) (append-nil (given_by op.act) ∙ none) ∙ append-nil (given_in xs)

pub given_later : (xs ys : List Segment) → given_from (xs ++ ys) ≡ given_from xs ++ given_from ys
given_later [] ys = refl
given_later (x ∷ xs) ys = ap (λ l. given_in x.ops.items ++ l) (given_later xs ys) ∙ sym (append_assoc (given_in x.ops.items) (given_from xs) (given_from ys))

-- a segment that is closed gives what its operations gave
pub given_closed : (xs ys : List Segment) (x : Segment) (ops now : List Op) → ys ≡ xs ++ x ∷ [] → x.ops.items ≡ ops → now ≡ []
    → given_from ys ++ given_in now ≡ given_from xs ++ given_in ops
given_closed xs ys x ops now e were none =
    (let n = none in λ i. given_from (e i) ++ given_in (n i))
    ∙ append-nil (given_from (xs ++ x ∷ []))
    ∙ given_later xs (x ∷ [])
    ∙ ap (λ l. given_from xs ++ l) (append-nil (given_in x.ops.items) ∙ ap given_in were)

-- segments that are finished give what was given
pub given_finished : (xs ys : List Segment) (last final : Segment) (ops : List Op) → ys ≡ (xs ++ last ∷ []) ++ final ∷ [] → last.ops.items ≡ ops
    → final.ops.items ≡ []
    → given_from ys ≡ given_from xs ++ given_in ops
given_finished xs ys last final ops e were none =
    ap given_from e
    ∙ given_later (xs ++ last ∷ []) (final ∷ [])
    ∙ ap (λ l. given_from (xs ++ last ∷ []) ++ (given_in l ++ [])) none
    ∙ given_closed xs (xs ++ last ∷ []) last ops [] refl were refl

-- and its waits stay before those that follow
waits_later : (xs ys : List Segment) → waits_in (xs ++ ys) ≡ waits_in xs ++ waits_in ys
waits_later [] ys = refl
waits_later (x ∷ xs) ys = ap (λ l. x.waits.items ++ l) (waits_later xs ys) ∙ sym (append_assoc x.waits.items (waits_in xs) (waits_in ys))

pub waits_closed : (xs ys : List Segment) (x : Segment) (waits now after : List JobId) → ys ≡ xs ++ x ∷ [] → x.waits.items ≡ waits → now ≡ after
    → waits_in ys ++ now ≡ (waits_in xs ++ waits) ++ after
waits_closed xs ys x waits now after e were is =
    (λ i. waits_in (e i) ++ is i)
    ∙ ap (λ l. l ++ after) (waits_later xs (x ∷ []) ∙ ap (λ l. waits_in xs ++ l) (append-nil x.waits.items ∙ were))

-- what each segment waits for, for itself

pub each_later : (xs ys : List Segment) → waits_of (xs ++ ys) ≡ waits_of xs ++ waits_of ys
each_later [] ys = refl
each_later (x ∷ xs) ys =
    ap (λ l. unless_none x.waits.items ++ l) (each_later xs ys) ∙ sym (append_assoc (unless_none x.waits.items) (waits_of xs) (waits_of ys))

-- a segment that is closed waits for what it waited for
pub each_closed : (xs ys : List Segment) (x : Segment) (waits now after : List JobId) → ys ≡ xs ++ x ∷ [] → x.waits.items ≡ waits → now ≡ after
    → waits_of ys ++ unless_none now ≡ (waits_of xs ++ unless_none waits) ++ unless_none after
each_closed xs ys x waits now after e were is =
    (λ i. waits_of (e i) ++ unless_none (is i))
    ∙ ap (λ l. l ++ unless_none after)
    (each_later xs (x ∷ []) ∙ ap (λ l. waits_of xs ++ l) (append-nil (unless_none x.waits.items) ∙ ap unless_none were))

-- and so do segments that are finished
pub waits_finished : (xs ys : List Segment) (last final : Segment) (waits : List JobId) → ys ≡ (xs ++ last ∷ []) ++ final ∷ [] → last.waits.items ≡ waits
    → waits_of ys ≡ (waits_of xs ++ unless_none waits) ++ unless_none final.waits.items
waits_finished xs ys last final waits e were =
    ap waits_of e
    ∙ each_later (xs ++ last ∷ []) (final ∷ [])
    ∙ ap (λ l. waits_of (xs ++ last ∷ []) ++ l) (append-nil (unless_none final.waits.items))
    ∙ each_closed xs (xs ++ last ∷ []) last waits final.waits.items final.waits.items refl were refl

none_rising : (set : Jobs) → ((j : ℕ) → set j ≡ false) → (n : ℕ) → rising_jobs set n ≡ []
none_rising set none zero = refl
none_rising set none (suc n) = (let a = none_rising set none n in let b = none (suc n) in λ i. a i ++ (if b i then record { 0 = suc n } ∷ [] else []))

-- where no more is completed, nothing is newly completed
pub none_newly : (before : ℕ) (s t : ScriptState) → t.book.completed ≡ s.book.completed → newly_completed before s t ≡ []
none_newly before s t same =
    none_rising (newly_in before s t)
    (λ j. ap (λ (set : Jobs). set (before + j) && not (s.book.completed (before + j))) same ∙ by (s.book.completed (before + j)))
    (s.book.count - before)
  where
    by : (b : Bool) → (b && not b) ≡ false
    by true = refl
    by false = refl

-- and so no segment more waits for anything
pub waits_stay : (before : ℕ) (s t : ScriptState) (all : List (List JobId)) → t.book.completed ≡ s.book.completed
    → all ≡ all ++ unless_none (newly_completed before s t)
waits_stay before s t all same = sym (append-nil all) ∙ ap (λ ids. all ++ unless_none ids) (sym (none_newly before s t same))

-- WHO ADDS NOTHING

abbrev pub IsNoSchedule : Order → Type 0
IsNoSchedule (Schedule job) = ⊥
IsNoSchedule _ = Unit {0}

abbrev pub IsPlain : Setting → Order → Type 0
IsPlain g x = (takes_words g x ≡ None) × IsNoSchedule x

module _ (g : Setting) (works : List (Option ℕ)) (starts : Starts) (before : ℕ) (s : ScriptState) (deps : Jobs) (kernels : List Kernel)
    (place : Option JobPlan) where
  none_scheduled : (x : Order) (o : Option Refused) → IsNoSchedule x → SchedulesUnless g works starts before s deps x o kernels place
  none_scheduled (Schedule job) o h = absurd h
  none_scheduled x o h = tt

  unscheduled : (x : Order) (r : Refused) → SchedulesUnless g works starts before s deps x (Some r) kernels place
  unscheduled (Schedule job) r = tt
  unscheduled x r = tt

  pub plain_schedules : (x : Order) (k : ℕ) → IsNoSchedule x → Schedules g works starts before s deps k x kernels place
  plain_schedules x zero h = none_scheduled x (refusal g s x) h
  plain_schedules x (suc k) h = tt

  refused_schedules : (x : Order) (r : Refused) → s.passing ≡ 0 → refusal g s x ≡ Some r → Schedules g works starts before s deps s.passing x kernels place
  refused_schedules x r acts e =
      subst (λ k. Schedules g works starts before s deps k x kernels place) (sym acts)
      (subst (λ o. SchedulesUnless g works starts before s deps x o kernels place) (sym e) (unscheduled x r))

module _ (g : Setting) (before : ℕ) (s : ScriptState) (segments : List Segment) where
  none_awaited : (x : Order) (o : Option Refused) → IsNoSchedule x → AwaitsUnless before s x o segments
  none_awaited (Schedule job) o h = absurd h
  none_awaited x o h = tt

  unawaited : (x : Order) (r : Refused) → AwaitsUnless before s x (Some r) segments
  unawaited (Schedule job) r = tt
  unawaited x r = tt

  pub plain_awaits : (x : Order) (k : ℕ) → IsNoSchedule x → Awaits g before s k x segments
  plain_awaits x zero h = none_awaited x (refusal g s x) h
  plain_awaits x (suc k) h = tt

  refused_awaits : (x : Order) (r : Refused) → s.passing ≡ 0 → refusal g s x ≡ Some r → Awaits g before s s.passing x segments
  refused_awaits x r acts e =
      subst (λ k. Awaits g before s k x segments) (sym acts)
      (subst (λ o. AwaitsUnless before s x o segments) (sym e) (unawaited x r))

module _ (g : Setting) (starts : Starts) (s : ScriptState) (x : Order) where
  none_taken : (o : Option Refused) → takes_words g x ≡ None → TakesUnless g starts s x o
  none_taken None none = subst (IsTaken starts s) (sym none) tt
  none_taken (Some r) none = tt

  none_spanned : (o : Option Refused) → takes_words g x ≡ None → span_unless g starts s x o ≡ []
  none_spanned None none = ap (span_at starts s) none
  none_spanned (Some r) none = refl

  pub plain_takes : (k : ℕ) → takes_words g x ≡ None → Takes g starts s k x
  plain_takes zero none = none_taken (refusal g s x) none
  plain_takes (suc k) none = tt

  pub plain_span : (k : ℕ) → takes_words g x ≡ None → span_by g starts s k x ≡ []
  plain_span zero none = none_spanned (refusal g s x) none
  plain_span (suc k) none = refl

-- GROWING BY NOTHING

-- The planner gave no range, started no job and waits for no more: what a statement needs that adds nothing.
pub record IsQuiet (old new : Planner) : Type 0 where
  pub spans : given_so_far new ≡ given_so_far old
  pub peak : peak_of new.world.store ≡ peak_of old.world.store
  pub works : new.world.works ≡ old.world.works
  pub jobs : new.draft.jobs.items ≡ old.draft.jobs.items
  pub kernels : new.draft.kernels.items ≡ old.draft.kernels.items
  pub segments : new.draft.segments.items ≡ old.draft.segments.items
  pub waits : new.draft.waits.items ≡ old.draft.waits.items

-- Neither a range nor a job is added, and what was waited for stays what is completed.
pub record IsStill (g : Setting) (s : ScriptState) (x : Statement) (before : ℕ) (old new : Planner) : Type 0 where
  pub spans : given_so_far new ≡ given_so_far old
  pub peak : peak_of new.world.store ≡ peak_of old.world.store
  pub works : new.world.works ≡ old.world.works
  pub jobs : new.draft.jobs.items ≡ old.draft.jobs.items
  pub kernels : new.draft.kernels.items ≡ old.draft.kernels.items
  pub segments_later : List Segment
  pub segments_are : new.draft.segments.items ≡ old.draft.segments.items ++ segments_later
  pub waited : HasWaited before s old → HasWaited before (act g s x) new
  pub waits : waits_by new ≡ waits_by old ++ unless_none (newly_completed before s (act g s x))

pub quiet_still : (g : Setting) (s : ScriptState) (x : Statement) (before : ℕ) (old new : Planner) → IsQuiet old new
    → (act g s x).book.completed ≡ s.book.completed → IsStill g s x before old new
quiet_still g s x before old new quiet completed = record {
  spans = quiet.spans;
  peak = quiet.peak;
  works = quiet.works;
  jobs = quiet.jobs;
  kernels = quiet.kernels;
  segments_later = [];
  segments_are = quiet.segments ∙ sym (append-nil old.draft.segments.items);
  waited = λ h j pos.
      (let a = quiet.segments in let b = quiet.waits in λ i. has_job (waits_in (a i) ++ b i) j)
      ∙ h j pos
      ∙ ap (λ jobs. later before jobs j) (sym completed);
  waits = (let a = quiet.segments in let b = quiet.waits in λ i. waits_of (a i) ++ unless_none (b i))
      ∙ waits_stay before s (act g s x) (waits_by old) completed;
}

module _ (g : Setting) (s : ScriptState) (x : Statement) (starts : Starts) (before : ℕ) (old new : Planner) (still : IsStill g s x before old new) where
  abbrev works : List (Option ℕ)
  works = old.world.works.items

  abbrev place : Option JobPlan
  place = slice_get new.draft.jobs.items (s.book.count - before)

  grown : Takes g starts s s.passing x.act → span_by g starts s s.passing x.act ≡ []
      → Schedules g works starts before s (deps_after g s x) s.passing x.act new.draft.kernels.items place
      → Awaits g before s s.passing x.act new.draft.segments.items
      → Grows g s x starts before old new
  grown fit none schedules awaits = record {
    first_fit = fit;
    spans = still.spans ∙ sym (append-nil (given_so_far old)) ∙ ap (λ l. given_so_far old ++ l) (sym none);
    peak = still.peak ∙ (let same : peak_of old.world.store ≡ max (peak_of old.world.store) 0 = omega arith in same)
        ∙ ap (λ l. max (peak_of old.world.store) (greatest_end l)) (sym none);
    segments_later = still.segments_later;
    segments_are = still.segments_are;
    jobs_later = [];
    jobs_are = still.jobs ∙ sym (append-nil old.draft.jobs.items);
    kernels_later = [];
    kernels_are = still.kernels ∙ sym (append-nil old.draft.kernels.items);
    works = still.works;
    schedules = schedules;
    waited = still.waited;
    awaited = λ h. awaits;
    waits = still.waits;
  }

  pub plain_grows : IsPlain g x.act → Grows g s x starts before old new
  plain_grows plain =
      grown (plain_takes g starts s x.act s.passing plain.0) (plain_span g starts s x.act s.passing plain.0)
      (plain_schedules g works starts before s (deps_after g s x) new.draft.kernels.items place x.act s.passing plain.1)
      (plain_awaits g before s new.draft.segments.items x.act s.passing plain.1)

  pub refused_grows : (r : Refused) → s.passing ≡ 0 → refusal g s x.act ≡ Some r → Grows g s x starts before old new
  refused_grows r acts e =
      grown
      (subst (λ k. Takes g starts s k x.act) (sym acts) (subst (TakesUnless g starts s x.act) (sym e) tt))
      (ap (λ k. span_by g starts s k x.act) acts ∙ ap (span_unless g starts s x.act) e)
      (refused_schedules g works starts before s (deps_after g s x) new.draft.kernels.items place x.act r acts e)
      (refused_awaits g before s new.draft.segments.items x.act r acts e)

  -- one that is passed by
  pub passed_grows : (k : ℕ) → s.passing ≡ suc k → Grows g s x starts before old new
  passed_grows k e =
      grown
      (subst (λ k. Takes g starts s k x.act) (sym e) tt)
      (ap (λ k. span_by g starts s k x.act) e)
      (subst (λ k. Schedules g works starts before s (deps_after g s x) k x.act new.draft.kernels.items place) (sym e) tt)
      (subst (λ k. Awaits g before s k x.act new.draft.segments.items) (sym e) tt)

-- A STATEMENT THAT ADDS NOTHING goes on.

module _ {script : Script} {table : Table} {old : Planner} {x : Statement} (b : IsBefore script table old x) (new : Planner)
    (stands : Stands new (setting script table) b.begun (suc b.n) (state_after script table b.n x) b.found) where
  open b use {begun, n, found, step}

  abbrev g : Setting
  g = setting script table

  abbrev s : ScriptState
  s = state_at script table n

  stepped : ((starts : Starts) → Grows g s x starts begun.book.count old new) → HasStepped b new
  stepped grows = record {
    more = [];
    stands = subst (Stands new g begun (suc n) (state_after script table n x)) (sym (append-nil found)) stands;
    grows = λ starts same. grows starts;
  }

  pub still_steps : IsStill g s x begun.book.count old new → IsPlain g x.act → HasStepped b new
  still_steps still plain = stepped (λ starts. plain_grows g s x starts begun.book.count old new still plain)

  module _ (quiet : IsQuiet old new) where
    pub plain_steps : IsPlain g x.act → (state_after script table n x).book.completed ≡ s.book.completed → HasStepped b new
    plain_steps plain completed = still_steps (quiet_still g s x begun.book.count old new quiet completed) plain

    pub refused_steps : (r : Refused) → refusal g s x.act ≡ Some r → HasStepped b new
    refused_steps r e =
        let book = (refused_changes_little g s x r step.acts e).book in
        stepped (λ starts. refused_grows g s x starts begun.book.count old new
        (quiet_still g s x begun.book.count old new quiet (ap (λ (b : Book). b.completed) book)) r step.acts e)
