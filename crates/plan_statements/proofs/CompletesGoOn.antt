-- Completions go on: what follows waits for the jobs that are newly completed.
use Rattle.std.proofs.Common.{◌≡◌, ℕ, suc, ◌+◌, ◌-◌, ◌<◌, ◌≤◌, ⊎_elim, Bool, true, false, ◌&&◌, ◌||◌, not, List, [], ◌∷◌, ◌++◌, length, Some, refl, sym, ap, subst, ◌∙◌, arith, append-nil}
use Rattle.std.specs.Prelude.{vec_len, nat_lt, slice_get}
use Rattle.std.proofs.lemmas.Bool.{cases_lt, lt-ltb}
use Rattle.std.proofs.lemmas.List.{length-append}
use Rattle.job_base.specs.declared.JobId.{JobId}
use Rattle.frame_ast.specs.declared.script.Order.TheVariants.{Complete}
use Rattle.frame_ast.specs.declared.script.Script.{Script}
use Rattle.frame_ast.specs.declared.script.Statement.{Statement}
use Rattle.frame_ast.specs.declared.name_kind.NameKind.TheVariants as kind
use Rattle.frame_ast.specs.Effects.{complete}
use Rattle.frame_ast.specs.Jobs.{Jobs, ancestors_in, with_completed}
use Rattle.frame_ast.specs.Laws.{AreUpTo, IsKnown}
use Rattle.frame_ast.specs.Orders.{Table, Setting, setting}
use Rattle.frame_ast.specs.Scripts.{act}
use Rattle.frame_ast.specs.States as states
use Rattle.frame_ast.specs.States.{ScriptState}
use Rattle.frame_ast.proofs.Ancestry.{least}
use Rattle.frame_ast.proofs.Known.{ancestors_among}
use Rattle.job_handle.specs.declared.handle.Handle.{Handle}
use Rattle.job_handle.specs.Sets.{jobs_of}
use Rattle.job_handle.specs.Books.{count_of}
use Rattle.slot_store.specs.Places.{users_of}
use Rattle.slot_store.specs.Stores.{place_of}
use Rattle.frame_core.specs.declared.plan.Segment.{Segment}
use Rattle.frame_core.specs.Names.{has_job}
use Rattle.frame_core.specs.Ordered.{ops_count}
use Rattle.frame_core.proofs.Small.{not_both, either_bool}
use Rattle.plan_laws.specs.Completing.{AreNewlyCompleted}
use Rattle.plan_laws.specs.Planned.{Outline, jobs_before, AreJobsUpTo, IsPlanned}
use Rattle.plan_laws.proofs.Statements.Completing.{completes_are_planned}
use Rattle.plan_state.specs.declared.answer.Answer.{Answer}
use Rattle.plan_state.specs.declared.answer.Answer.TheVariants.{Nothing, Refused, Does, Fills, Waits, Reports}
use Rattle.plan_state.specs.declared.state.Draft.{Draft}
use Rattle.plan_state.specs.declared.state.Planner.{Planner}
use Rattle.plan_state.specs.declared.state.Value.{Value}
use Rattle.plan_state.specs.declared.state.World.{World}
use Rattle.plan_state.specs.Accesses.{AreThere, jobs_of_value}
use Rattle.plan_state.specs.Answers.{HasTaken, IsClosed}
use Rattle.plan_statements.specs.Completions.{newly_of, AreEnded, AreCompleted, IsCompletion}
use Rattle.plan_state.specs.Growth.{waits_so_far, HasWaited, rising_jobs, unless_none, waits_by, newly_in, newly_completed}
use Rattle.plan_state.specs.Stands.{AreNames, AreContainers, AreTemps, AreTempJobs, Agrees, Stands, draft_of}
use Rattle.plan_state.specs.Steps.{state_at, IsBefore, HasStepped, GoesOn, IsReady}
use Rattle.plan_state.proofs.Accessing.{are_there}
use Rattle.plan_statements.proofs.CompletedJobs.{has_append, has_set, has_none, rising_up_to, completed_stand}
use Rattle.plan_statements.proofs.Endings.Continuing.{IsContinued, continued, same_temps, same_tempjobs}
use Rattle.plan_statements.proofs.DisposalsGoOn.{as_continued, value_jobs}
use Rattle.plan_statements.proofs.Endings.Holding.{store_users}
use Rattle.plan_state.proofs.Naming.{same_names}
use Rattle.plan_state.proofs.Outlining.{outline, agrees, jobs_are}
use Rattle.plan_state.proofs.Quiet.{IsPlain, IsStill, each_closed, given_closed, plain_steps, still_steps, waits_closed}
use Rattle.plan_state.proofs.Reaching.{known_after, fits_at, used_below, within}
use Rattle.plan_state.proofs.Restating.{accepted_state}

ops_more : (xs : List Segment) (x : Segment) → ops_count (xs ++ x ∷ []) ≡ ops_count xs + length x.ops.items
ops_more [] x = omega arith
ops_more (y ∷ ys) x = let more = ops_more ys x in omega arith

-- ---- what completing needs
module _ {script : Script} {table : Table} {p : Planner} {x : Statement} (b : IsBefore script table p x) where
  open b use {begun, n, found, stands as st}

  jobs_count : count_of p.world.jobs ≡ (state_at script table n).book.count
  jobs_count = st.knows.jobs.count

  pub section_low : p.world.jobs_before ≤ count_of p.world.jobs
  section_low =
      let are = jobs_are p script table begun n (state_at script table n) found st in
      let before = st.numbers.before in
      let c = jobs_count in
      omega arith

  pub section_jobs : count_of p.world.jobs - p.world.jobs_before ≡ length p.draft.jobs.items
  section_jobs =
      let are = jobs_are p script table begun n (state_at script table n) found st in
      let before = st.numbers.before in
      let c = jobs_count in
      omega arith

  pub users_known : (k : ℕ) → AreUpTo (count_of p.world.jobs) (users_of (place_of p.world.store k).state)
  users_known k = subst (λ m. AreUpTo m (users_of (place_of p.world.store k).state)) (sym jobs_count)
      (store_users p.world (state_at script table n) found st.knows.containers st.knows.known.book st.knows.known.uses k)

-- ---- jobs are completed
module _ {script : Script} {table : Table} {p : Planner} {x : Statement} (b : IsBefore script table p x) (handle : Jobs)
    (up : AreUpTo (state_at script table b.n).book.count handle) where
  open b use {begun, n, found, step, stands as st}

  abbrev g : Setting
  g = setting script table

  abbrev s : ScriptState
  s = state_at script table n

  abbrev t : ScriptState
  t = complete handle s

  -- where some weren't
  module _ (w : World) (d : Draft) (newly : List JobId) (c : AreCompleted p.world w handle newly) (i : IsClosed p.draft d newly) where
    abbrev q : Planner
    q = record p { world = w; draft = d }

    abbrev last : ℕ
    last = count_of p.world.jobs - p.world.jobs_before

    abbrev set : Jobs
    set = newly_of s.book p.world.jobs_before (ancestors_in s.book handle)

    newly_is : newly ≡ rising_jobs set last
    newly_is = c.newly_are s.book st.knows.jobs

    -- those after the last are none
    none_later : (j : ℕ) → last < j → set j ≡ false
    none_later j lt = ⊎_elim
        (λ e. (let range = ancestors_among s.book st.knows.known.book handle up (p.world.jobs_before + j) e in
        let count = jobs_count b in absurd (omega arith))) (λ e. ap (λ b. b && not (s.book.completed (p.world.jobs_before + j))) e)
        (either_bool (ancestors_in s.book handle (p.world.jobs_before + j)))

    has_newly : (j : ℕ) → 0 < j → has_job newly j ≡ set j
    has_newly j pos =
        ap (λ ids. has_job ids j) newly_is
        ∙ ⊎_elim (λ lt. has_none set last j lt ∙ sym (none_later j lt)) (λ le. has_set set last j pos le) (cases_lt last j)

    -- what follows waits for what is completed
    waited : waits_so_far q ≡ waits_so_far p ++ newly → HasWaited begun.book.count s p → HasWaited begun.book.count t q
    waited are h j pos =
        ap (λ ids. has_job ids j) are
        ∙ has_append (waits_so_far p) newly j
        ∙ (let old = h j pos in
        let new = has_newly j pos ∙ ap (λ b. newly_of s.book b (ancestors_in s.book handle) j) st.numbers.before in
        λ i. old i || new i)
        ∙ by (nat_lt 0 j) (s.book.completed (begun.book.count + j)) (ancestors_in s.book handle (begun.book.count + j)) (lt-ltb 0 j pos)
      where
        by : (x done now : Bool) → x ≡ true → ((x && done) || (now && not done)) ≡ (x && (done || now))
        by false done now e = absurd (not_both e refl)
        by true true now e = refl
        by true false true e = refl
        by true false false e = refl

    module _ (y : Outline) (a : Agrees p g begun found y) where
      was : IsPlanned y s (draft_of p)
      was = st.planned y a

      before_is : jobs_before y ≡ p.world.jobs_before
      before_is = ap (λ (b : ScriptState). b.book.count) a.begins ∙ sym st.numbers.before

      news : AreNewlyCompleted y s handle newly
      news j pos = has_newly j pos ∙ ap (λ b. newly_of s.book b (ancestors_in s.book handle) j) (sym before_is)

      fits : AreJobsUpTo (length p.draft.jobs.items) newly
      fits = subst (λ m. AreJobsUpTo m newly) (section_jobs b) (subst (AreJobsUpTo last) (sym newly_is) (rising_up_to set last))

      planned : IsPlanned y t (draft_of q)
      planned =
          completes_are_planned y a.small s handle (draft_of p) (draft_of q) i.segment newly was st.knows.known up fits news i.starts
          (record {
            waits_were = i.waits_were;
            ops_were = i.ops_were;
            segments = i.segments;
            jobs = ap (λ (k : Draft). k.jobs.items) i.rest ∙ sym (append-nil p.draft.jobs.items);
            waits = i.waits;
            ops = i.ops;
          })

    -- what is newly completed, as the states say it
    newly_now : newly ≡ newly_completed begun.book.count s t
    newly_now =
        newly_is
        ∙ (let before = st.numbers.before in
        let count = jobs_count b in
        λ i. rising_jobs (newly_of s.book (before i) (ancestors_in s.book handle)) (count i - before i))
        ∙ (let path : newly_of s.book begun.book.count (ancestors_in s.book handle) ≡ newly_in begun.book.count s t =
        λ i j. by (s.book.completed (begun.book.count + j)) (ancestors_in s.book handle (begun.book.count + j)) i in
        ap (λ set. rising_jobs set (s.book.count - begun.book.count)) path)
      where
        by : (done now : Bool) → (now && not done) ≡ ((done || now) && not done)
        by true true = refl
        by true false = refl
        by false true = refl
        by false false = refl

    abbrev as_q : Planner
    as_q = record p {
      world = record p.world { jobs = w.jobs; store = w.store };
      draft = record p.draft { segments = d.segments; waits = d.waits; ops = d.ops };
    }

    is_q : q ≡ as_q
    is_q = (let world = c.rest in let draft = i.rest in λ k. record p { world = world k; draft = draft k })

    stand : AreContainers w t found
    stand = completed_stand p.world w s found handle st.knows.containers st.knows.known up
        (ap (λ (k : World). k.containers) c.rest) (ap (λ (k : World). length k.values.items) c.rest)
        (ap (λ (k : World). k.safety) c.rest) (c.places (with_completed s.book handle) (c.jobs s.book st.knows.jobs))

    goes : IsContinued p q s t found
    goes =
        let segments = ap length i.segments in
        let one = length-append p.draft.segments.items (i.segment ∷ []) in
        let counted = ap ops_count i.segments ∙ ops_more p.draft.segments.items i.segment in
        let were = ap length i.ops_were in
        let none = ap length i.ops in
        let overdue = ap (λ (k : World). k.overdue) c.rest in
        record {
          planner = as_continued p q as_q is_q refl;
          state = refl;
          frame = ap (λ (k : World). k.frame) c.rest ∙ st.numbers.frame;
          later = omega arith;
          next = omega arith;
          values = ap (λ (k : World). length k.values.items) c.rest;
          handles = (let e = ap (λ (k : World). length k.handles.items) c.rest in omega arith);
          peak = c.peak;
          slots = c.used;
          segments = omega arith;
          ops = omega arith;
          temps = subst (λ (k : World). AreTemps k.temps.items t) (sym c.rest)
              (same_temps p.world.temps.items s s.alive (with_completed s.book handle) s.values s.lines (λ c a. a) st.knows.temps);
          tempjobs = subst (λ (k : World). AreTempJobs p.world.tempjobs.items k.overdue t) (sym c.rest)
              (same_tempjobs p.world.tempjobs.items p.world.overdue s s.alive (with_completed s.book handle) s.values s.lines st.knows.tempjobs);
          jobs = c.jobs s.book st.knows.jobs;
          containers = stand;
        }

    module _ (is : act g s x ≡ t) (plain : IsPlain g x.act) where
      still : IsStill g s x begun.book.count p q
      still = record {
        spans = given_closed p.draft.segments.items d.segments.items i.segment p.draft.ops.items d.ops.items i.segments i.ops_were i.ops;
        peak = c.peak;
        works = ap (λ (k : World). k.works) c.rest;
        jobs = ap (λ (k : Draft). k.jobs.items) i.rest;
        kernels = ap (λ (k : Draft). k.kernels.items) i.rest;
        segments_later = i.segment ∷ [];
        segments_are = i.segments;
        waited = λ h. subst (λ u. HasWaited begun.book.count u q) (sym is) (waited
            (waits_closed p.draft.segments.items d.segments.items i.segment p.draft.waits.items d.waits.items newly i.segments i.waits_were i.waits) h);
        waits = each_closed p.draft.segments.items d.segments.items i.segment p.draft.waits.items d.waits.items newly i.segments i.waits_were i.waits
            ∙ ap (λ ids. waits_by p ++ unless_none ids) (newly_now ∙ ap (newly_completed begun.book.count s) (sym is));
      }

      pub completes_on : HasStepped b q
      completes_on =
          still_steps b q (subst (λ u. Stands q g begun (suc n) u found) (sym is) (continued st goes (subst IsKnown is (known_after step))
          (subst (λ (k : World). AreNames k.values.items k.handles.items (length p.world.containers.items) t) (sym c.rest)
          (same_names p.world.values.items p.world.handles.items (length p.world.containers.items) s t refl st.knows.names))
          planned))
          still plain

  -- where all were
  module _ (ended : AreEnded p.world handle) where
    -- so they are in the script, where sections end with all jobs completed
    done : (j : ℕ) → handle j ≡ true → s.book.completed j ≡ true
    done j e =
        let range = up j e in
        let high = range.1 in
        let count = jobs_count b in
        let a = agrees p script table begun n s found st in
        let begins = ap (λ (b : ScriptState). b.book.count) a.begins in
        let before = st.numbers.before in
        ⊎_elim
        (λ lt. ended s.book st.knows.jobs j lt (omega arith) e)
        (λ le. (st.planned (outline p script table begun n s found st) a).ordered.before j range.0 (omega arith))
        (cases_lt p.world.jobs_before j)

    -- and their ancestors are completed with them
    completed_same : (j : ℕ) → (s.book.completed j || ancestors_in s.book handle j) ≡ s.book.completed j
    completed_same j = by (s.book.completed j) (ancestors_in s.book handle j)
        (least s.book.deps (λ k. s.book.completed k ≡ true) st.knows.known.book.closed s.book.count handle done j)
      where
        by : (a b : Bool) → (b ≡ true → a ≡ true) → (a || b) ≡ a
        by true b f = refl
        by false true f = sym (f refl)
        by false false f = refl

    same : t ≡ s
    same = (let path : t.book.completed ≡ s.book.completed = λ i j. completed_same j i in
        λ i. record s { book = record s.book { completed = path i } })

    stay : IsContinued p p s s found
    stay = record {
      planner = refl;
      state = refl;
      frame = st.numbers.frame;
      later = omega arith;
      next = omega arith;
      values = refl;
      handles = omega arith;
      peak = refl;
      slots = omega arith;
      segments = omega arith;
      ops = omega arith;
      temps = st.knows.temps;
      tempjobs = st.knows.tempjobs;
      jobs = st.knows.jobs;
      containers = st.knows.containers;
    }

    pub ended_on : act g s x ≡ t → IsPlain g x.act → HasStepped b p
    ended_on is plain =
        plain_steps b p (subst (λ u. Stands p g begun (suc n) u found) (sym (is ∙ same))
        (continued st stay st.knows.known st.knows.names (λ y a. st.planned y a)))
        (record { spans = refl; peak = refl; works = refl; jobs = refl; kernels = refl; segments = refl; waits = refl })
        plain (ap (λ (u : ScriptState). u.book.completed) (is ∙ same))

-- ---- a statement that completes some jobs goes on by what that leaves to do
module _ {script : Script} {table : Table} {p : Planner} {x : Statement} (b : IsBefore script table p x) (handle : Jobs)
    (up : AreUpTo (state_at script table b.n).book.count handle) where
  abbrev IsNext : World → Draft → Type 0
  IsNext w d = HasStepped b (record p { world = w; draft = d })

  pub completion_on : (w : World) (d : Draft) (answer : Answer) → IsCompletion p.world w handle answer → HasTaken p.draft d x.line answer
      → act (setting script table) (state_at script table b.n) x ≡ complete handle (state_at script table b.n) → IsPlain (setting script table) x.act
      → IsNext w d
  completion_on w d Nothing done took is plain =
      subst (λ (v : World). IsNext v d) (sym done.1) (subst (λ (e : Draft). IsNext p.world e) (sym took) (ended_on b handle up done.0 is plain))
  completion_on w d (Waits newly) done took is plain =
      completes_on b handle up w d newly.items done took is plain
  completion_on w d (Refused name refusal) done took is plain = absurd done
  completion_on w d (Does name what) done took is plain = absurd done
  completion_on w d (Fills name span values) done took is plain = absurd done
  completion_on w d (Reports ops) done took is plain = absurd done

-- ---- `complete`
module _ (p : Planner) (name : ℕ) where
  abbrev statement : ℕ → Statement
  statement line = record { line = line; act = Complete name }

  -- what the code needs
  pub record CanComplete : Type 0 where
    pub name_in : name < vec_len p.world.values
    pub there : AreThere (vec_len p.world.containers) (vec_len p.world.handles) p.world.values.items
    pub before : p.world.jobs_before ≤ count_of p.world.jobs
    pub users : (k : ℕ) → AreUpTo (count_of p.world.jobs) (users_of (place_of p.world.store k).state)
    pub jobs : (v : Value) → slice_get p.world.values.items name ≡ Some v → AreUpTo (count_of p.world.jobs) (jobs_of_value p.world.handles.items v)

  pub complete_ready : (line : ℕ) → IsReady p (statement line) → CanComplete
  complete_ready line ready =
      let b = ready.2 in
      let s = state_at ready.0 ready.1 b.n in
      let fits = fits_at b.step in
      record {
        name_in = within b.stands name (used_below b.step fits.made name
            (kind.Handle ∷ []) fits.fits);
        there = are_there b.stands;
        before = section_low b;
        users = users_known b;
        jobs = λ v h j e.
            subst (λ m. (0 < j) × (j ≤ m)) (sym b.stands.knows.jobs.count)
            (b.stands.knows.known.handles name j (sym (ap (λ w. states.jobs_of w j) (b.stands.knows.names.are name v h))
            ∙ sym (value_jobs p.world.values.items p.world.handles.items (length p.world.containers.items) s b.stands.knows.names v j) ∙ e));
      }

  pub complete_goes : (w : World) (draft : Draft) (answer : Answer) (jobs : Handle) (v : Value) → slice_get p.world.values.items name ≡ Some v
      → jobs_of jobs ≡ jobs_of_value p.world.handles.items v
      → IsCompletion p.world w (jobs_of jobs) answer → (line : ℕ) → HasTaken p.draft draft line answer
      → GoesOn p (record p { world = w; draft = draft }) (statement line)
  complete_goes w draft answer jobs v h are done line took script table b =
      let s = state_at script table b.n in
      let same : jobs_of jobs ≡ states.jobs_of (s.values name) =
      are ∙ (λ i j. value_jobs p.world.values.items p.world.handles.items (length p.world.containers.items) s b.stands.knows.names v j i)
      ∙ ap states.jobs_of (b.stands.knows.names.are name v h) in
      completion_on b (states.jobs_of (s.values name)) (b.stands.knows.known.handles name) w draft answer
      (subst (λ js. IsCompletion p.world w js answer) same done) took (accepted_state (setting script table) s (statement line) b.step.acts refl) (refl, tt)
