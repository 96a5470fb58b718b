-- What the plan grows by at an accepted schedule: the segment at hand is closed and starts the job of the schedule.
use Rattle.std.proofs.Common.{◌≡◌, ℕ, suc, ◌+◌, ◌-◌, Bool, true, false, ◌&&◌, ◌||◌, eq-eqb, List, [], ◌∷◌, ◌++◌, length, Option, Some, None, refl, sym, ap, subst, ◌∙◌, arith, append-nil}
use Rattle.std.specs.Prelude.{Box, max, nat_eq, slice_get}
use Rattle.std.specs.declared.alloc.Global.{Global}
use Rattle.frame_ast.specs.declared.kernel.Kernel.{Kernel}
use Rattle.frame_ast.specs.declared.script.Order.TheVariants.{Schedule}
use Rattle.frame_ast.specs.declared.script.Script.{Script}
use Rattle.frame_ast.specs.declared.script.Statement.{Statement}
use Rattle.frame_ast.specs.Checks.{refusal}
use Rattle.frame_ast.specs.Jobs.{Jobs, Book, with_job}
use Rattle.frame_ast.specs.Laws.{IsBook}
use Rattle.frame_ast.specs.Orders.{Table, Setting, setting}
use Rattle.frame_ast.specs.Ranges.{Starts}
use Rattle.frame_ast.specs.Scripts.{act}
use Rattle.frame_ast.specs.States.{ScriptState}
use Rattle.frame_core.specs.declared.plan.JobPlan.{JobPlan}
use Rattle.frame_core.specs.declared.plan.Segment.{Segment}
use Rattle.frame_core.specs.Names.{has_job}
use Rattle.frame_core.proofs.Small.{get_behind}
use Rattle.slot_store.specs.Stores.{peak_of}
use Rattle.plan_laws.specs.Ledgers.{later}
use Rattle.plan_laws.specs.Planned.{Outline}
use Rattle.plan_state.specs.declared.state.Planner.{Planner}
use Rattle.plan_state.specs.Growth.{given_so_far, greatest_end, StartAs, IsJobOf, HasJobOf, Schedules, SchedulesUnless, deps_after, is_none, waits_in, HasWaited, IsStartedAfter, Awaits, AwaitsUnless, unless_none, waits_by, newly_completed, Grows}
use Rattle.plan_state.specs.Stands.{Agrees, Stands}
use Rattle.plan_state.specs.Steps.{state_at, IsBefore, HasStepped}
use Rattle.plan_state.proofs.Outlining as outlining
use Rattle.plan_state.proofs.Quiet.{each_closed, given_closed, plain_span, plain_takes, waits_closed, waits_stay}
use Rattle.frame_ast.specs.declared.script.NewJob.{NewJob}
use Rattle.plan_schedules.specs.Starting.{in_box}

-- ---- jobs

-- the dependency set of a book's new job
pub new_set : (b : Book) → IsBook b → (set : Jobs) → (with_job b set).deps (suc b.count) ≡ set
new_set b known set = λ i k. (by k (b.deps (suc b.count) k) refl ∙ ap (λ e. e && set k) (eq-eqb (suc b.count) (suc b.count) refl)) i
  where
    by : (k : ℕ) (c : Bool) → b.deps (suc b.count) k ≡ c
        → (b.deps (suc b.count) k || (nat_eq (suc b.count) (suc b.count) && set k)) ≡ (nat_eq (suc b.count) (suc b.count) && set k)
    by k true e = (let up = (known.older (suc b.count) k e).0 in absurd (omega arith))
    by k false e = ap (λ c. c || (nat_eq (suc b.count) (suc b.count) && set k)) e

-- nothing is waived
pub none_waived : {A : Type 0} (xs : List A) → is_none xs ≡ true → xs ≡ []
none_waived [] e = refl
none_waived (x ∷ xs) e = absurd cc

-- Starts that agree with those found so far give a whole plan that goes on from the plan so far.
module _ {script : Script} {table : Table} {p : Planner} {x : Statement} (b : IsBefore script table p x) (starts : Starts) where
  open b use {begun, n, found, stands as st}

  abbrev pub outline_by : Outline
  outline_by = record (outlining.outline p script table begun n (state_at script table n) found st) { starts = starts }

  pub agrees_by : StartAs starts found → Agrees p (setting script table) begun found outline_by
  agrees_by h =
      let a = outlining.agrees p script table begun n (state_at script table n) found st in
      record {
        begins = a.begins;
        names = a.names;
        kernels = a.kernels;
        literals = a.literals;
        first = a.first;
        jobs = a.jobs;
        starts = h;
        cells = a.cells;
        small = a.small;
      }

-- ---- the statement

module _ (line : ℕ) (home : Box NewJob Global) (asked : NewJob) where
  abbrev pub x : Statement
  x = record { line = line; act = Schedule (in_box home asked) }

  module _ {script : Script} {table : Table} {p : Planner} (b : IsBefore script table p x) (new : Planner) where
    open b use {begun, n, found, step, stands as st}

    abbrev g : Setting
    g = setting script table

    abbrev s : ScriptState
    s = state_at script table n

    abbrev kept : List (Option ℕ)
    kept = p.world.works.items

    -- The planner closed the segment at hand, and started a job that the schedule is to have.
    pub record HasStarted (segment : Segment) (job : JobPlan) (waited : Jobs) : Type 0 where
      pub store : new.world.store ≡ p.world.store
      pub works : new.world.works ≡ p.world.works
      pub segments : new.draft.segments.items ≡ p.draft.segments.items ++ segment ∷ []
      pub waits_were : segment.waits.items ≡ p.draft.waits.items
      pub ops_were : segment.ops.items ≡ p.draft.ops.items
      pub starts : segment.starts ≡ Some (record { 0 = suc (length p.draft.jobs.items) })
      pub waits : new.draft.waits.items ≡ []
      pub ops : new.draft.ops.items ≡ []
      pub jobs : new.draft.jobs.items ≡ p.draft.jobs.items ++ job ∷ []
      pub kernels : (later : List Kernel) × (new.draft.kernels.items ≡ p.draft.kernels.items ++ later)
      pub book : (act g s x).book ≡ with_job s.book waited
      pub job_is : (starts : Starts)
          → StartAs starts found
          → IsJobOf g kept starts begun.book.count s waited asked.kernel asked.args.items asked.cut asked.defer asked.waive.items
          new.draft.kernels.items job

    module _ (none : refusal g s x.act ≡ None) (segment : Segment) (job : JobPlan) (waited : Jobs) (is : HasStarted segment job waited) where
      spans_stay : given_so_far new ≡ given_so_far p
      spans_stay =
          given_closed p.draft.segments.items new.draft.segments.items segment p.draft.ops.items new.draft.ops.items is.segments is.ops_were is.ops

      -- its job has the next place
      place : s.book.count - begun.book.count ≡ length p.draft.jobs.items + 0
      place = let e = outlining.jobs_are p script table begun n s found st in omega arith

      at_place : slice_get new.draft.jobs.items (s.book.count - begun.book.count) ≡ Some job
      at_place = (λ i. slice_get (is.jobs i) (place i)) ∙ get_behind p.draft.jobs.items (job ∷ []) 0

      set_is : deps_after g s x ≡ waited
      set_is = ap (λ (b : Book). b.deps (suc s.book.count)) is.book ∙ new_set s.book st.knows.known.book waited

      job_there : (starts : Starts) → StartAs starts found
          → HasJobOf g kept starts begun.book.count s (deps_after g s x) asked.kernel asked.args.items asked.cut asked.defer asked.waive.items
          new.draft.kernels.items
          (slice_get new.draft.jobs.items (s.book.count - begun.book.count))
      job_there starts h =
          subst (λ o. HasJobOf g kept starts begun.book.count s (deps_after g s x) asked.kernel asked.args.items asked.cut asked.defer asked.waive.items
          new.draft.kernels.items o) (sym at_place)
          (subst (λ set. IsJobOf g kept starts begun.book.count s set asked.kernel asked.args.items asked.cut asked.defer asked.waive.items
          new.draft.kernels.items
          job) (sym set_is) (is.job_is starts h))

      schedules : (starts : Starts) → StartAs starts found
          → Schedules g kept starts begun.book.count s (deps_after g s x) s.passing x.act new.draft.kernels.items
          (slice_get new.draft.jobs.items (s.book.count - begun.book.count))
      schedules starts h =
          subst (λ passing. Schedules g kept starts begun.book.count s (deps_after g s x) passing x.act new.draft.kernels.items
          (slice_get new.draft.jobs.items (s.book.count - begun.book.count))) (sym step.acts)
          (subst (λ o. SchedulesUnless g kept starts begun.book.count s (deps_after g s x) x.act o new.draft.kernels.items
          (slice_get new.draft.jobs.items (s.book.count - begun.book.count))) (sym none) (job_there starts h))

      -- no more is waited for, and no more is completed
      has_waited : HasWaited begun.book.count s p → HasWaited begun.book.count (act g s x) new
      has_waited h j above =
          ap (λ ids. has_job ids j)
          (waits_closed p.draft.segments.items new.draft.segments.items segment p.draft.waits.items new.draft.waits.items [] is.segments is.waits_were is.waits
          ∙ append-nil (waits_in p.draft.segments.items ++ p.draft.waits.items))
          ∙ h j above
          ∙ ap (λ (b : Book). later begun.book.count b.completed j) (sym is.book)

      waits_kept : waits_by new ≡ waits_by p ++ unless_none (newly_completed begun.book.count s (act g s x))
      waits_kept =
          each_closed p.draft.segments.items new.draft.segments.items segment p.draft.waits.items new.draft.waits.items [] is.segments is.waits_were is.waits
          ∙ append-nil (waits_by p)
          ∙ waits_stay begun.book.count s (act g s x) (waits_by p) (ap (λ (b : Book). b.completed) is.book)

      started_after : HasWaited begun.book.count s p
          → IsStartedAfter new.draft.segments.items (suc (s.book.count - begun.book.count)) begun.book.count s.book.completed
      started_after h = record {
        earlier = p.draft.segments.items;
        segment = segment;
        rest = [];
        are = is.segments;
        starts = is.starts ∙ (let k : length p.draft.jobs.items ≡ s.book.count - begun.book.count = (let e = place in omega arith) in
            ap (λ m. Some (record { 0 = suc m })) k);
        waits = λ j above. ap (λ ids. has_job (waits_in p.draft.segments.items ++ ids) j) is.waits_were ∙ h j above;
      }

      awaited : HasWaited begun.book.count s p → Awaits g begun.book.count s s.passing x.act new.draft.segments.items
      awaited h =
          subst (λ passing. Awaits g begun.book.count s passing x.act new.draft.segments.items) (sym step.acts)
          (subst (λ o. AwaitsUnless begun.book.count s x.act o new.draft.segments.items) (sym none) (started_after h))

      pub grows : (starts : Starts) → StartAs starts found → Grows g s x starts begun.book.count p new
      grows starts h =
          let no_span = plain_span g starts s x.act s.passing refl in
          record {
            first_fit = plain_takes g starts s x.act s.passing refl;
            spans = spans_stay ∙ sym (append-nil (given_so_far p)) ∙ ap (λ spans. given_so_far p ++ spans) (sym no_span);
            peak = ap peak_of is.store ∙ sym (or_none (peak_of p.world.store)) ∙ ap (λ spans. max (peak_of p.world.store) (greatest_end spans)) (sym no_span);
            segments_later = segment ∷ [];
            segments_are = is.segments;
            jobs_later = job ∷ [];
            jobs_are = is.jobs;
            kernels_later = is.kernels.0;
            kernels_are = is.kernels.1;
            works = is.works;
            schedules = schedules starts h;
            waited = has_waited;
            awaited = awaited;
            waits = waits_kept;
          }
        where
          or_none : (k : ℕ) → max k 0 ≡ k
          or_none k = omega arith

      -- so it goes on, where it stands for the state afterwards
      pub stepped : Stands new g begun (suc n) (act g s x) found → HasStepped b new
      stepped stands = record {
        more = [];
        stands = subst (Stands new g begun (suc n) (act g s x)) (sym (append-nil found)) stands;
        grows = λ starts h. grows starts (subst (StartAs starts) (append-nil found) h);
      }
