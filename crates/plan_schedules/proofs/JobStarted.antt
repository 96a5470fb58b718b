-- After an accepted schedule the planner that scheduled its job stands for the state of the script, whatever kernel the job
-- runs.
use Rattle.std.proofs.Common.{◌≡◌, ⊎_elim, ℕ, suc, ◌+◌, ◌-◌, ◌*◌, ◌<◌, ◌≤◌, All, Bool, true, false, ◌&&◌, ◌||◌, List, [], ◌∷◌, ◌++◌, length, take, Option, Some, None, refl, sym, ap, subst, ◌∙◌, arith, append-nil, append_assoc, length-take}
use Rattle.std.specs.Prelude.{Box, Vec, nat_eq, slice_get}
use Rattle.std.specs.declared.alloc.Global.{Global}
use Rattle.std.proofs.lemmas.Bool.{or_cases, eqb-true, and_parts}
use Rattle.std.proofs.lemmas.List.{length-append}
use Rattle.batch_cut.specs.declared.pieces.Cut.{Cut}
use Rattle.batch_cut.specs.Cuts.{step_of}
use Rattle.job_base.specs.declared.JobId.{JobId}
use Rattle.job_base.specs.declared.limits.TheConstants.{MOST_STATEMENTS, MOST_INDEXES, MOST_PIECES}
use Rattle.frame_ast.specs.declared.kernel.Kernel.{Kernel}
use Rattle.frame_ast.specs.declared.script.NewJob.{NewJob}
use Rattle.frame_ast.specs.declared.script.Script.{Script}
use Rattle.frame_ast.specs.declared.script.Statement.{Statement}
use Rattle.frame_ast.specs.Checked.{IsChecked}
use Rattle.frame_ast.specs.Checks.{refusal}
use Rattle.frame_ast.specs.Conflicts.{Uses, blocking, uses_it, with_uses}
use Rattle.frame_ast.specs.Effects.{all_broken}
use Rattle.frame_ast.specs.Jobs.{Jobs, only, with_job}
use Rattle.frame_ast.specs.Laws.{IsKnown, AreUpTo}
use Rattle.frame_ast.specs.Orders.{Table, Setting, setting, is_parallel}
use Rattle.frame_ast.specs.Ranges.{Starts}
use Rattle.frame_ast.specs.Schedules.{Given, widths_from}
use Rattle.frame_ast.specs.States as states
use Rattle.frame_ast.specs.States.{ScriptState}
use Rattle.frame_ast.proofs.Breaking.{view_numbers_are_few}
use Rattle.job_handle.specs.declared.handle.Handle.{Handle}
use Rattle.job_handle.specs.Books.{count_of, StandsFor}
use Rattle.kernel_bytecode.specs.declared.code.Code.{Code}
use Rattle.kernel_exec.specs.declared.binds.Bind.{Bind}
use Rattle.safety_handle.specs.Entries.{SlotState, state_of}
use Rattle.safety_handle.specs.Uses.{Latest, StandForUses}
use Rattle.frame_core.specs.declared.plan.JobPlan.{JobPlan}
use Rattle.frame_core.proofs.Small.{not_both, get_below, get_before}
use Rattle.plan_laws.specs.Accepting.{Schedule, uses_of, deps_of, accepted, IsAcceptedSchedule, IsPlannedJob}
use Rattle.plan_laws.specs.Binds.{binds_by}
use Rattle.plan_laws.specs.Ledgers.{later}
use Rattle.plan_laws.specs.Planned.{Outline, IsPlanned, Closes, jobs_before}
use Rattle.plan_laws.specs.ScheduleTexts.{schedule_by, IsScheduleOf}
use Rattle.plan_laws.proofs.Statements.Making.{at_here, at_other}
use Rattle.plan_laws.proofs.Schedules.ScheduleTexts.{schedules_are_accepted}
use Rattle.plan_laws.proofs.Schedules.Uses.{unblocked, deps_up}
use Rattle.plan_schedules.specs.declared.accepting.Run.{Run}
use Rattle.plan_state.specs.declared.state.Container.{Container}
use Rattle.plan_state.specs.declared.state.Planner.{Planner}
use Rattle.plan_state.specs.declared.state.World.{World}
use Rattle.plan_state.specs.declared.state.Value.{Value}
use Rattle.plan_schedules.specs.declared.uses.NamedUse.{NamedUse}
use Rattle.plan_state.specs.Growth.{StartAs, IsCopyFor, IsJobOf, length_binds, numbers_of, is_none}
use Rattle.plan_state.specs.Works.{batch_for}
use Rattle.plan_schedules.specs.Noting.{MayNoteAll, noted_all}
use Rattle.plan_state.specs.Stands.{AreKernels, AreNames, Agrees, Stands, draft_of}
use Rattle.plan_schedules.specs.Starting.{IsCutBy}
use Rattle.plan_state.specs.Steps.{state_at, state_after, IsBefore, HasStepped}
use Rattle.plan_schedules.proofs.Choosing.{AreAlive}
use Rattle.plan_schedules.proofs.Taken.{IsScheduled}
use Rattle.plan_schedules.proofs.Meaning.{AreMeant}
use Rattle.plan_state.proofs.Naming.{IsNamed, handle_names, handles_more, set_long}
use Rattle.plan_schedules.proofs.Jobs as newly
use Rattle.plan_schedules.proofs.Notes.{needs, folded, folded_view, folded_unused, folded_stands, AreApart}
use Rattle.plan_state.proofs.Reaching.{known_after, statements_few}
use Rattle.plan_state.proofs.Restating.{accepted_state}
use Rattle.plan_schedules.proofs.Scheduled.{bind_by_form, accepted_is, left, left_view}
use Rattle.plan_schedules.proofs.Grown as growing
use Rattle.plan_schedules.proofs.Grown.{none_waived}
use Rattle.plan_schedules.proofs.Slots.{noted_live, noted_version, noted_folded, may_note}

-- The kernel of a job is in its place, the kernels so far keep theirs, and at most one is new.
pub record HasPlace (p : Planner) (g : Setting) (kernels guards : Vec (Option ℕ) Global) (copies : Vec Kernel Global) (codes : Vec Code Global) (place : ℕ)
    (kernel : Kernel) : Type 0 where
  pub here : slice_get copies.items place ≡ Some kernel
  pub few : length copies.items ≤ suc (length p.draft.kernels.items)
  -- what a whole plan has after them, it has after those so far
  pub later : (all : List Kernel) → (rest : List Kernel) × (all ≡ copies.items ++ rest) → (rest : List Kernel) × (all ≡ p.draft.kernels.items ++ rest)
  pub stand : (q : Planner) → q.draft.copies_of ≡ kernels → q.draft.guards_of ≡ guards → q.draft.kernels ≡ copies → q.draft.codes ≡ codes → AreKernels q g

module _ (line : ℕ) (home : Box NewJob Global) (asked : NewJob)
    {script : Script} {table : Table} {p : Planner} (b : IsBefore script table p (growing.x line home asked)) where
  open b use {begun, n, found, step, stands as st}

  abbrev g : Setting
  g = setting script table

  abbrev s : ScriptState
  s = state_at script table n

  abbrev x : Statement
  x = growing.x line home asked

  abbrev pub o : Schedule
  o = schedule_by asked

  abbrev t : ScriptState
  t = accepted g s o

  abbrev pub waited : Jobs
  waited = deps_of g s o

  abbrev gives : List Given
  gives = uses_of g s o

  -- The noted uses mean values of the script, which do what all values of the schedule do.
  pub record IsNoted (named : Jobs) (us : List NamedUse) (gs : List Given) : Type 0 where
    pub meant : AreMeant p s named us gs
    pub alive : AreAlive s gs
    pub apart : AreApart gs
    pub uses : (job : ℕ) → with_uses s.uses job (needs gs) ≡ with_uses s.uses job (needs gives)
    pub open_ : (j : ℕ) → blocking s.book s.uses waited (needs gives) j ≡ false → blocking s.book s.uses waited (needs gs) j ≡ false
    pub broken : (u : ScriptState) → all_broken gs u ≡ all_broken gives u

  -- What the job runs, for a kernel of the script.
  pub record IsRunOf (run : Run) (kernel : Kernel) : Type 0 where
    pub source : Kernel
    pub is_source : slice_get script.kernels.items asked.kernel ≡ Some source
    pub copied : IsCopyFor asked.defer source kernel
    pub binds : (y : Outline) → Agrees p g begun found y
        → run.binds.items
        ≡ binds_by y.starts s source.params.items (widths_from source.parallel asked.waive.items 0 source.params.items) asked.args.items
        ++ length_binds y.starts s asked.defer
    pub indexes : run.cut.n ≡ (numbers_of s asked.cut asked.defer).0
    pub step : run.cut.step ≡ step_of (numbers_of s asked.cut asked.defer).0
        (batch_for p.world.works.items asked.kernel (numbers_of s asked.cut asked.defer).0 (numbers_of s asked.cut asked.defer).1)
    pub parallel : run.parallel ≡ (source.parallel && is_none asked.waive.items)

  module _ (none : refusal g s x.act ≡ None) where
    pub is_schedule : IsScheduleOf g s x o
    is_schedule = schedules_are_accepted script step.accepted table n x o step.here refl none

    pub accepted_as : IsAcceptedSchedule g s o
    accepted_as = is_schedule.is_accepted

    views_few : (c : ℕ) → s.view c < MOST_STATEMENTS
    views_few c =
        let few = view_numbers_are_few g (take n script.statements.items) c in
        let low = length-take n script.statements.items in
        let lt = statements_few step in
        omega arith

    pub waited_up : AreUpTo s.book.count waited
    waited_up = deps_up s st.knows.known asked.auto (is_parallel g asked.kernel) gives asked.after.items

    -- the state after the statement
    abbrev as_t : ScriptState
    as_t = record s { values = t.values; contents = t.contents; view = t.view; uses = t.uses; book = with_job s.book waited; traps = t.traps }

    t_is : t ≡ as_t
    t_is =
        accepted_is g s o
        ∙ (λ i. record s {
          values = sym (ap (λ (u : ScriptState). u.values) (accepted_is g s o)) i;
          contents = t.contents;
          view = t.view;
          uses = sym (ap (λ (u : ScriptState). u.uses) (accepted_is g s o)) i;
          book = with_job s.book waited;
          traps = t.traps;
        })

    after_is : state_after script table n x ≡ t
    after_is = accepted_state g s x step.acts none ∙ is_schedule.effect_is

    module _ (named : Jobs) (us : List NamedUse) (gs : List Given) (noted : IsNoted named us gs) where
      pub may_note_all : MayNoteAll us (state_of p.world.safety)
      may_note_all = may_note p s found named st.knows.containers us gs noted.meant noted.alive noted.apart (state_of p.world.safety)
          (λ c it has is_alive. let k = st.knows.containers.each c it has in (
            (and_parts (state_of p.world.safety it.slot.0).live (nat_eq (state_of p.world.safety it.slot.0).version it.version.0) (k.alive ∙ is_alive)).0,
            λ w. subst (λ v. v < MOST_STATEMENTS) (sym (k.view is_alive)) (views_few c),
          ))

      used_alive : (us : List NamedUse) (gs : List Given) → AreMeant p s named us gs → AreAlive s gs → (c : ℕ) → uses_it (needs gs) c ≡ true
          → s.alive c ≡ true
      used_alive [] [] m a c e = absurd (not_both e refl)
      used_alive [] (h ∷ hs) m a c e = absurd m
      used_alive (u ∷ us) [] m a c e = absurd m
      used_alive (u ∷ us) (h ∷ hs) m a c e = ⊎_elim
          (λ here. ap s.alive (eqb-true c h.need.container here) ∙ (m.0.known_by a.0).3)
          (λ more. used_alive us hs m.1 a.1 c more)
          (or_cases (nat_eq c h.need.container) (uses_it (needs hs) c) e)

      open_now : (j : ℕ) → 0 < j → j ≤ s.book.count → blocking s.book s.uses waited (needs gs) j ≡ false
      open_now j above le = noted.open_ j (unblocked s st.knows.known asked.auto (is_parallel g asked.kernel) gives asked.after.items none j above le)

      -- ---- the planner afterwards

      module _ (kernels guards : Vec (Option ℕ) Global) (copies : Vec Kernel Global) (codes : Vec Code Global) (kernel : Kernel) (run : Run)
          (place : HasPlace p g kernels guards copies codes run.kernel kernel) (q : Planner) (deps : Jobs) (deps_is : deps ≡ waited)
          (d : IsScheduled (record p { draft = record p.draft { kernels = copies; codes = codes; copies_of = kernels; guards_of = guards } }) q asked.handle
          run us deps) where
        abbrev pub as_q : Planner
        as_q = newly.q p g begun n s found st q.world.values q.world.handles d.books.after.jobs d.books.after.safety kernels guards copies codes
            q.draft.segments q.draft.jobs q.draft.waits q.draft.ops q.draft.pieces
            t.values t.contents t.view t.uses waited t.traps

        world_is : q.world ≡ as_q.world
        world_is = d.books.named.rest ∙ ap (λ (k : World). record k { values = q.world.values; handles = q.world.handles }) d.books.rest

        q_is : q ≡ as_q
        q_is = λ i. record { world = world_is i; draft = d.started.rest i }

        known : IsKnown as_t
        known = subst IsKnown (after_is ∙ t_is) (known_after step)

        count_is : count_of p.world.jobs ≡ s.book.count
        count_is = st.knows.jobs.count

        -- names

        values_were : d.books.after.values ≡ p.world.values
        values_were = ap (λ (k : World). k.values) d.books.rest

        handles_were : d.books.after.handles ≡ p.world.handles
        handles_were = ap (λ (k : World). k.handles) d.books.rest

        was : AreNames d.books.after.values.items d.books.after.handles.items (length p.world.containers.items) s
        was = subst (λ (v : Vec Value Global). AreNames v.items d.books.after.handles.items (length p.world.containers.items) s) (sym values_were)
            (subst (λ (v : Vec Handle Global). AreNames p.world.values.items v.items (length p.world.containers.items) s) (sym handles_were) st.knows.names)

        names_now : IsNamed s as_t asked.handle (states.Handle (only (count_of p.world.jobs + 1)))
        names_now = record {
          here = ap (λ f. f asked.handle) (ap (λ (u : ScriptState). u.values) (accepted_is g s o))
              ∙ at_here s.values asked.handle (states.Handle (only (s.book.count + 1))) ∙ ap (λ k. states.Handle (only (k + 1))) (sym count_is);
          others = λ m ne. ap (λ f. f m) (ap (λ (u : ScriptState). u.values) (accepted_is g s o))
              ∙ at_other s.values asked.handle (states.Handle (only (s.book.count + 1))) m ne;
        }

        -- slots

        abbrev job_number : ℕ
        job_number = suc s.book.count

        number_is : count_of p.world.jobs + 1 ≡ job_number
        number_is = let e = count_is in omega arith

        safety_is : (k : ℕ) → state_of d.books.after.safety k ≡ noted_all job_number us (state_of p.world.safety) k
        safety_is k = d.books.safety k ∙ ap (λ j. noted_all j us (state_of p.world.safety) k) number_is

        slot_is : (c : ℕ) (it : Container) → slice_get p.world.containers.items c ≡ Some it → s.alive c ≡ true
            → state_of d.books.after.safety it.slot.0 ≡ folded job_number c gs (state_of p.world.safety it.slot.0)
        slot_is c it has is_alive = safety_is it.slot.0 ∙ noted_folded p s found named st.knows.containers job_number us gs noted.meant noted.alive c it has
            is_alive
            (state_of p.world.safety)

        uses_are : with_uses s.uses job_number (needs gs) ≡ t.uses
        uses_are =
            noted.uses job_number
            ∙ (let e : job_number ≡ s.book.count + 1 = omega arith in ap (λ j. with_uses s.uses j (needs gives)) e)
            ∙ sym (ap (λ (u : ScriptState). u.uses) (accepted_is g s o))

        stand : (c : ℕ) (it : Container) → slice_get p.world.containers.items c ≡ Some it → s.alive c ≡ true
            → StandForUses (with_job s.book waited) (state_of d.books.after.safety it.slot.0).latest (t.uses c)
        stand c it has is_alive =
            subst (λ (us : ℕ → Uses). StandForUses (with_job s.book waited) (state_of d.books.after.safety it.slot.0).latest (us c)) uses_are
            (subst (λ (z : SlotState). StandForUses (with_job s.book waited) z.latest (with_uses s.uses job_number (needs gs) c))
            (sym (slot_is c it has is_alive))
            (folded_stands s.book st.knows.known.book s.uses st.knows.known.uses waited waited_up gs noted.apart open_now c (state_of p.world.safety it.slot.0)
            ((st.knows.containers.each c it has).uses is_alive)))

        views : (c : ℕ) (it : Container) → slice_get p.world.containers.items c ≡ Some it → s.alive c ≡ true
            → (state_of d.books.after.safety it.slot.0).view ≡ t.view c
        views c it has is_alive =
            ap (λ (z : SlotState). z.view) (slot_is c it has is_alive)
            ∙ folded_view job_number c gs (state_of p.world.safety it.slot.0) (left g s o)
            ((st.knows.containers.each c it has).view is_alive ∙ ap (λ f. f c) (sym (left_view g s o)))
            ∙ ap (λ (u : ScriptState). u.view c) (noted.broken (left g s o))

        unused_now : (c : ℕ) → s.alive c ≡ false → uses_it (needs gs) c ≡ false
        unused_now c dead = by (uses_it (needs gs) c) refl
          where
            by : (b : Bool) → uses_it (needs gs) c ≡ b → b ≡ false
            by true e = absurd (not_both (used_alive us gs noted.meant noted.alive c e) dead)
            by false e = refl

        -- what stands for the uses of a container that was disposed stands for them still
        dead_stands : (c : ℕ) (latest : Latest) → s.alive c ≡ false → StandForUses s.book latest (s.uses c)
            → StandForUses (with_job s.book waited) latest (t.uses c)
        dead_stands c latest dead h =
            let state : SlotState = record { live = false; version = 0; view = 0; latest = latest } in
            subst (λ (us : ℕ → Uses). StandForUses (with_job s.book waited) latest (us c)) uses_are
            (subst (λ (z : SlotState). StandForUses (with_job s.book waited) z.latest (with_uses s.uses job_number (needs gs) c))
            (folded_unused job_number c gs state (unused_now c dead))
            (folded_stands s.book st.knows.known.book s.uses st.knows.known.uses waited waited_up gs noted.apart open_now c state h))

        unused : (c : ℕ) → s.alive c ≡ false → (j : ℕ) → (t.uses c).users j ≡ (s.uses c).users j
        unused c dead j =
            ap (λ (us : ℕ → Uses). (us c).users j) (sym uses_are)
            ∙ ap (λ b. (s.uses c).users j || (nat_eq j job_number && b)) (unused_now c dead)
            ∙ or_none ((s.uses c).users j) (nat_eq j job_number)
          where
            or_none : (a b : Bool) → (a || (b && false)) ≡ a
            or_none true b = refl
            or_none false true = refl
            or_none false false = refl

        -- ---- the plan

        jobs_are : q.draft.jobs.items ≡ p.draft.jobs.items ++ d.job ∷ []
        jobs_are = d.started.jobs

        segments_are : q.draft.segments.items ≡ p.draft.segments.items ++ d.started.segment ∷ []
        segments_are = d.started.segments

        pub closes : Closes (draft_of p) (draft_of as_q) d.started.segment (d.job ∷ []) []
        closes = record {
          waits_were = d.started.waits_were;
          ops_were = d.started.ops_were;
          segments = segments_are;
          jobs = jobs_are;
          waits = d.started.waits;
          ops = d.started.ops;
        }

        pub starts_next : d.started.segment.starts ≡ Some (record { 0 = suc (length p.draft.jobs.items) })
        starts_next = d.started.starts

        pub agrees : (y : Outline) → Agrees as_q g begun found y → Agrees p g begun found y
        agrees y a = record {
          begins = a.begins;
          names = a.names;
          kernels = place.later y.plan.kernels.items a.kernels;
          literals = a.literals;
          first = a.first;
          jobs = (d.job ∷ a.jobs.0, a.jobs.1 ∙ ap (λ js. js ++ a.jobs.0) jobs_are ∙ append_assoc p.draft.jobs.items (d.job ∷ []) a.jobs.0);
          starts = a.starts;
          cells = a.cells;
          small = a.small;
        }

        cut_is : d.job.cut ≡ run.cut
        cut_is = ap (λ (j : JobPlan). j.cut) d.runs

        up_to_all : (ids : List JobId) (k m : ℕ) → k ≤ m → All (λ (id : JobId). id.0 ≤ k) ids → All (λ (id : JobId). id.0 ≤ m) ids
        up_to_all ids k m le h i e lt = let low = h i e lt in omega arith

        -- it is the planned job of what it runs
        pub job_as : (y : Outline) → Agrees as_q g begun found y → (numbers : Option (ℕ × ℕ)) → IsCutBy p.world.works.items asked.kernel numbers run.cut
            → (b : List Bind) (i : ℕ)
            → IsChecked kernel → run.binds.items ≡ b → run.cut.n ≡ i
            → (kernel.parallel ≡ false → (run.cut.n ≡ 1) × (run.cut.step ≡ 1))
            → (run.parallel ≡ true → (kernel.parallel ≡ true) × (asked.waive.items ≡ []))
            → IsPlannedJob y (draft_of p) o (record { kernel = kernel; binds = b; indexes = i }) waited d.job
        job_as y a numbers cut b i checked binds indexes one parallel =
            let begun_jobs : jobs_before y ≡ p.world.jobs_before = ap (λ (u : ScriptState). u.book.count) a.begins ∙ sym st.numbers.before in
            record {
              jobs_later = a.jobs.0;
              jobs_are = a.jobs.1 ∙ ap (λ js. js ++ a.jobs.0) jobs_are;
              has_kernel =
                  ap (λ (j : JobPlan). slice_get y.plan.kernels.items j.kernel) d.runs
                  ∙ ap (λ xs. slice_get xs run.kernel) a.kernels.1
                  ∙ get_before copies.items a.kernels.0 run.kernel (get_below copies.items run.kernel kernel place.here)
                  ∙ place.here;
              checked = checked;
              first = d.first ∙ st.numbers.pieces;
              binds = ap (λ (j : JobPlan). j.binds.items) d.runs ∙ binds;
              indexes = ap (λ (c : Cut). c.n) cut_is ∙ indexes;
              cut = record {
                step = subst (λ (c : Cut). (1 ≤ c.step) × (c.step ≤ MOST_INDEXES)) (sym cut_is) cut.steps;
                pieces = subst (λ (c : Cut). c.n ≤ MOST_PIECES * c.step) (sym cut_is) cut.pieces;
                indexes = subst (λ (c : Cut). c.n ≤ MOST_INDEXES) (sym cut_is) cut.few;
              };
              one = λ h. subst (λ (c : Cut). (c.n ≡ 1) × (c.step ≡ 1)) (sym cut_is) (one h);
              parallel = λ h. parallel (sym (ap (λ (j : JobPlan). j.parallel) d.runs) ∙ h);
              known_deps = (
                d.later_are.within.0,
                up_to_all d.job.deps.items (count_of p.world.jobs - p.world.jobs_before) (length y.plan.jobs.items)
                    (let c = (st.planned y (agrees y a)).ordered.count in let e = count_is in let f = begun_jobs in let h = ap length a.jobs.1 in
                    let i = ap length jobs_are in let j = length-append q.draft.jobs.items a.jobs.0 in
                    let k = length-append p.draft.jobs.items (d.job ∷ []) in omega arith)
                    d.later_are.within.1,
              );
              deps_are = λ j. d.later_are.are j ∙ (λ i. later (sym begun_jobs i) (deps_is i) j);
            }

        -- ---- it stands

        module _ (is : IsRunOf run kernel) (plans : (y : Outline) → Agrees as_q g begun found y → IsPlanned y t (draft_of as_q)) where
          with_job_is : newly.IsWithJob p g begun n s found st q.world.values q.world.handles d.books.after.jobs d.books.after.safety kernels guards copies
              codes
              q.draft.segments q.draft.jobs q.draft.waits q.draft.ops q.draft.pieces
              t.values t.contents t.view t.uses waited t.traps d.started.segment d.job
          with_job_is = record {
            known = known;
            named = handle_names d.books.after q.world (length p.world.containers.items) s as_t asked.handle
                (only (count_of p.world.jobs + 1)) was d.books.named names_now;
            values_long = ap length d.books.named.values ∙ set_long d.books.after.values.items asked.handle _
                ∙ ap (λ (v : Vec Value Global). length v.items) values_were;
            handles_few =
                (let h = (handles_more d.books.after q.world (length p.world.containers.items) s as_t asked.handle
                (only (count_of p.world.jobs + 1)) was d.books.named names_now).1 in
                let e = ap (λ (v : Vec Handle Global). length v.items) handles_were in omega arith);
            form = λ c start lt. bind_by_form start (t.contents c) (s.contents c) (accepted_as.forms c lt);
            lives = λ k. ap (λ (z : SlotState). z.live) (safety_is k) ∙ noted_live job_number us (state_of p.world.safety) k;
            versions = λ k. ap (λ (z : SlotState). z.version) (safety_is k) ∙ noted_version job_number us (state_of p.world.safety) k;
            stand = stand;
            views = views;
            unused = unused;
            held = dead_stands;
            book = subst (λ (j : Jobs). StandsFor d.books.after.jobs (with_job s.book j)) deps_is (d.books.jobs s.book st.knows.jobs);
            kernels_are = place.stand as_q refl refl refl refl;
            copies_few = place.few;
            segments_are = segments_are;
            ops_were = closes.ops_were;
            ops_are = d.started.ops;
            jobs_are = jobs_are;
            pieces_are = d.started.pieces;
            planned = λ y a. subst (λ u. IsPlanned y u (draft_of as_q)) t_is (plans y a);
          }

          -- ---- its job is that of the schedule

          kernels_now : q.draft.kernels.items ≡ copies.items
          kernels_now = ap (λ (k : Planner). k.draft.kernels.items) q_is

          job_of : (starts : Starts) → StartAs starts found
              → IsJobOf g p.world.works.items starts begun.book.count s waited asked.kernel asked.args.items asked.cut asked.defer asked.waive.items
              q.draft.kernels.items d.job
          job_of starts as_found = record {
            source = is.source;
            is_source = is.is_source;
            copy = kernel;
            is_copy = ap (λ xs. slice_get xs d.job.kernel) kernels_now ∙ ap (λ (j : JobPlan). slice_get copies.items j.kernel) d.runs ∙ place.here;
            copied = is.copied;
            binds = ap (λ (j : JobPlan). j.binds.items) d.runs
                ∙ is.binds (growing.outline_by b starts) (growing.agrees_by b starts as_found);
            indexes = ap (λ (c : Cut). c.n) cut_is ∙ is.indexes;
            step = ap (λ (c : Cut). c.step) cut_is ∙ is.step;
            parallel = ap (λ (j : JobPlan). j.parallel) d.runs ∙ is.parallel;
            deps = λ j. d.later_are.are j ∙ (λ i. later (st.numbers.before i) (deps_is i) j);
          }

          has_started : growing.HasStarted line home asked b q d.started.segment d.job waited
          has_started = record {
            store = ap (λ (k : Planner). k.world.store) q_is;
            works = ap (λ (k : Planner). k.world.works) q_is;
            segments = ap (λ (k : Planner). k.draft.segments.items) q_is ∙ segments_are;
            waits_were = closes.waits_were;
            ops_were = closes.ops_were;
            starts = starts_next;
            waits = ap (λ (k : Planner). k.draft.waits.items) q_is ∙ d.started.waits;
            ops = ap (λ (k : Planner). k.draft.ops.items) q_is ∙ d.started.ops;
            jobs = ap (λ (k : Planner). k.draft.jobs.items) q_is ∙ jobs_are;
            kernels = place.later q.draft.kernels.items ([], kernels_now ∙ sym (append-nil copies.items));
            book = ap (λ (u : ScriptState). u.book) (after_is ∙ t_is);
            job_is = job_of;
          }

          pub goes_on : HasStepped b q
          goes_on = growing.stepped line home asked b q none d.started.segment d.job waited has_started
              (subst (λ u. Stands q g begun (suc n) u found) (sym (after_is ∙ t_is))
              (subst (λ k. Stands k g begun (suc n) as_t found) (sym q_is)
              (newly.with_job_stands p g begun n s found st q.world.values q.world.handles d.books.after.jobs d.books.after.safety kernels guards copies codes
              q.draft.segments q.draft.jobs q.draft.waits q.draft.ops q.draft.pieces
              t.values t.contents t.view t.uses waited t.traps d.started.segment d.job with_job_is)))
