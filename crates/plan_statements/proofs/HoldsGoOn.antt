-- Disposals that wait go on: the container ends, its range is held, and a name of a handle stands for some jobs.
use Rattle.std.proofs.Common.{◌≡◌, ℕ, zero, suc, ◌+◌, ◌<◌, ◌^◌, inr, true, false, ◌&&◌, List, [], ◌∷◌, length, Some, None, Ok, Err, refl, sym, ap, subst, ◌∙◌, arith}
use Rattle.std.specs.Prelude.{Vec, vec_len, slice_get, nat_le}
use Rattle.std.specs.declared.alloc.Global.{Global}
use Rattle.std.specs.List.{All}
use Rattle.std.proofs.lemmas.Bool.{and_parts}
use Rattle.job_base.specs.declared.Refusal.{Refusal}
use Rattle.frame_ast.specs.declared.script.Order.TheVariants.{Dispose}
use Rattle.frame_ast.specs.declared.script.Script.{Script}
use Rattle.frame_ast.specs.declared.script.Statement.{Statement}
use Rattle.frame_ast.specs.declared.name_kind.NameKind.{NameKind}
use Rattle.frame_ast.specs.declared.name_kind.NameKind.TheVariants as kind
use Rattle.frame_ast.specs.declared.name_kind.TheConstants.{DISPOSABLE}
use Rattle.frame_ast.specs.Accepted.{Names, uses, makes, all_used}
use Rattle.frame_ast.specs.Checks.{refusal}
use Rattle.frame_ast.specs.Effects.{dispose}
use Rattle.frame_ast.specs.Jobs.{Jobs, nobody}
use Rattle.frame_ast.specs.Laws.{AreUpTo, IsKnown}
use Rattle.frame_ast.specs.Orders.{Table, Setting, setting}
use Rattle.frame_ast.specs.Refusals.{jobs_named}
use Rattle.frame_ast.specs.Scripts.{act}
use Rattle.frame_ast.specs.States as states
use Rattle.frame_ast.specs.States.{ScriptState, with_at, with_name, container_at}
use Rattle.frame_ast.proofs.Known.{named_among}
use Rattle.frame_ast.proofs.Naming.{FitsThere}
use Rattle.job_handle.specs.Books.{StandsFor, count_of}
use Rattle.slot_store.specs.Stores.{peak_of, slots_in_use}
use Rattle.frame_core.specs.declared.plan.Act.TheVariants.{Say}
use Rattle.frame_core.specs.Ordered.{ops_count}
use Rattle.plan_laws.specs.Planned.{Outline, IsPlanned}
use Rattle.plan_laws.proofs.Statements.Disposing.{disposals_are_planned, others_are_planned}
use Rattle.plan_state.specs.declared.state.Value.TheVariants.{Jobs as Handles}
use Rattle.plan_state.specs.declared.state.Planner.{Planner}
use Rattle.plan_state.specs.declared.state.World.{World}
use Rattle.plan_state.specs.Accesses.{jobs_by, IsPushed, HasHandle, AreThere}
use Rattle.plan_statements.specs.Endings.{disposal, IsDisposable, CanHold, IsHeldBack}
use Rattle.plan_state.specs.Growth.{given_so_far}
use Rattle.plan_state.specs.Stands.{AreNames, AreContainers, AreTemps, AreTempJobs, Agrees, Stands, draft_of}
use Rattle.plan_state.specs.Steps.{state_at, IsBefore, HasStepped, GoesOn, IsReady}
use Rattle.plan_state.proofs.Accessing.{are_there}
use Rattle.plan_statements.proofs.Endings.Continuing.{IsContinued, continued, quiet_continued, same_temps, same_tempjobs}
use Rattle.plan_statements.proofs.Disposals.{disposed_alive, alive_container}
use Rattle.plan_statements.proofs.DisposalsGoOn.{Answers, all_named, can_hold, as_continued}
use Rattle.plan_statements.proofs.Endings.Ending.{still}
use Rattle.plan_statements.proofs.Endings.Giving.{at_here, at_other, fallen}
use Rattle.plan_statements.proofs.Endings.Holding.{held_stand}
use Rattle.plan_state.proofs.Naming.{IsNamed, handle_names, handles_more, set_long}
use Rattle.plan_state.proofs.Quiet.{IsPlain, plain_steps}
use Rattle.plan_state.proofs.Reaching.{known_after, fits_at, statements_few, used_below, made_below, within}
use Rattle.plan_state.proofs.Restating.{accepted_state, said_nobody}

-- ---- a container ends, and a name of a handle stands for some jobs
module _ {script : Script} {table : Table} {p : Planner} {x : Statement} (b : IsBefore script table p x) (name handle : ℕ) (jobs : Jobs)
    (alive : (state_at script table b.n).alive (container_at (state_at script table b.n) name) ≡ true)
    (m last : World) (i : IsHeldBack p.world m (container_at (state_at script table b.n) name)) (e : HasHandle m last handle jobs) where
  open b use {begun, n, found, step, stands as st}

  abbrev q : Planner
  q = record p { world = last }

  abbrev g : Setting
  g = setting script table

  abbrev s : ScriptState
  s = state_at script table n

  abbrev c0 : ℕ
  c0 = container_at s name

  abbrev t : ScriptState
  t = with_name handle (states.Handle jobs) (dispose name s)

  made : ℕ
  made = length p.world.containers.items

  named : IsNamed s t handle (states.Handle jobs)
  named = record { here = at_here s.values handle (states.Handle jobs); others = λ k ne. at_other s.values handle (states.Handle jobs) k ne }

  was_named : AreNames m.values.items m.handles.items (length p.world.containers.items) s
  was_named = subst (λ (k : World). AreNames k.values.items k.handles.items (length p.world.containers.items) s) (sym i.rest) st.knows.names

  stand_held : AreContainers m t found
  stand_held = held_stand p.world m s found c0 st.knows.containers alive i st.knows.jobs st.knows.known.book st.knows.known.uses s.frame t.values s.lines

  stand : AreContainers q.world t found
  stand = still m last t found t.alive t.frame t.values t.lines stand_held
      (ap (λ (k : World). k.containers) e.rest) (ap length e.values ∙ set_long m.values.items handle (Handles e.place))
      (ap (λ (k : World). k.store) e.rest) (ap (λ (k : World). k.safety) e.rest) (λ c lt. refl)

  is_q : q ≡ record p { world = record p.world { safety = m.safety; store = m.store; values = last.values; handles = last.handles } }
  is_q = ap (λ (k : World). record p { world = k }) (e.rest ∙ ap (λ (k : World). record k { values = last.values; handles = last.handles }) i.rest)

  goes : IsContinued p q s t found
  goes = record {
    planner = as_continued p q (record p {
      world = record p.world {
        safety = m.safety;
        store = m.store;
        values = last.values;
        handles = last.handles;
      };
    }) is_q refl;
    state = refl;
    frame = ap (λ (k : Planner). k.world.frame) is_q ∙ st.numbers.frame;
    later = omega arith;
    next = omega arith;
    values = ap length e.values ∙ set_long m.values.items handle (Handles e.place) ∙ ap (λ (k : World). length k.values.items) i.rest;
    handles = (let more = (handles_more m last (length p.world.containers.items) s t handle jobs was_named e named).1 in
        let h = ap (λ (k : World). length k.handles.items) i.rest in omega arith);
    peak = ap (λ (k : Planner). peak_of k.world.store) is_q ∙ i.peak;
    slots = (let u = i.used in let h = ap (λ (k : Planner). slots_in_use k.world.store) is_q in omega arith);
    segments = (let h = ap (λ (k : Planner). length k.draft.segments.items) is_q in omega arith);
    ops = (let h = ap (λ (k : Planner). ops_count k.draft.segments.items + length k.draft.ops.items) is_q in let o = ap
        (λ (k : Planner). k.world.overdue) is_q in
        omega arith);
    temps = subst (λ (k : Planner). AreTemps k.world.temps.items t) (sym is_q)
        (same_temps p.world.temps.items s (with_at s.alive c0 false) s.book t.values s.lines (λ c a. (fallen s c0 c a).1) st.knows.temps);
    tempjobs = subst (λ (k : Planner). AreTempJobs p.world.tempjobs.items k.world.overdue t) (sym is_q)
        (same_tempjobs p.world.tempjobs.items p.world.overdue s (with_at s.alive c0 false) s.book t.values s.lines st.knows.tempjobs);
    jobs = subst (λ (k : Planner). StandsFor k.world.jobs s.book) (sym is_q) st.knows.jobs;
    containers = stand;
  }

  planned : (y : Outline) → Agrees p g begun found y → IsPlanned y t (draft_of q)
  planned y a = subst (λ (k : Planner). IsPlanned y t (draft_of k)) (sym is_q)
      (others_are_planned y (dispose name s) t (draft_of p)
      (record { made = refl; contents = refl; alive = refl; uses = refl; range = refl; book = refl; traps = refl; refused = refl; lines = refl })
      (disposals_are_planned y s name (draft_of p) st.knows.known (st.planned y a)))

  pub held_on : act g s x ≡ t → IsPlain g x.act → HasStepped b q
  held_on is plain =
      plain_steps b q (subst (λ u. Stands q g begun (suc n) u found) (sym is) (continued st goes (subst IsKnown is (known_after step))
      (handle_names m last (length p.world.containers.items) s t handle jobs was_named e named) planned))
      (quiet_continued p q s t found goes (ap given_so_far is_q) (ap (λ (k : Planner). k.draft.segments) is_q) (ap (λ (k : Planner). k.draft.waits) is_q))
      plain (ap (λ (u : ScriptState). u.book.completed) is)

-- ---- `dispose` with `after`

-- used names are there
all_below : (kinds : List NameKind) (made most : ℕ) (names : List ℕ) → all_used (record { kinds = kinds; made = made }) names ≡ true
    → ((n : ℕ) → uses (record { kinds = kinds; made = made }) n (kind.Handle ∷ []) ≡ true → n < most) → All (λ n. n < most) names
all_below kinds made most [] h f k d lt = absurd (omega arith)
all_below kinds made most (n ∷ more) h f zero d lt = f n (and_parts (uses (record { kinds = kinds; made = made }) n (kind.Handle ∷ []))
    (all_used (record { kinds = kinds; made = made }) more) h).0
all_below kinds made most (n ∷ more) h f (suc k) d lt =
    all_below kinds made most more (and_parts (uses (record { kinds = kinds; made = made }) n (kind.Handle ∷ []))
    (all_used (record { kinds = kinds; made = made }) more) h).1 f k d (omega arith)

module _ (line name : ℕ) (after : Vec ℕ Global) (handle : ℕ) where
  abbrev x_after : Statement
  x_after = record { line = line; act = Dispose name after (Some handle) }

  module _ {script : Script} {table : Table} {p : Planner} (b : IsBefore script table p x_after) where
    open b use {n, step, stands as st}

    abbrev g' : Setting
    g' = setting script table

    abbrev s' : ScriptState
    s' = state_at script table n

    fits : FitsThere g' step.accepted.kinds x_after.act
    fits = fits_at step

    abbrev ns : Names
    ns = record { kinds = step.accepted.kinds; made = fits.made }

    abbrev Halves : Type 0
    Halves = ((uses ns name DISPOSABLE && nat_le 1 (length after.items)) ≡ true) × ((makes ns handle kind.Handle && all_used ns after.items) ≡ true)

    halves : Halves
    halves = and_parts (uses ns name DISPOSABLE && nat_le 1 (length after.items)) (makes ns handle kind.Handle && all_used ns after.items) fits.fits

    pub name_below : name < length g'.names
    name_below = used_below step fits.made name DISPOSABLE
        (and_parts (uses ns name DISPOSABLE) (nat_le 1 (length after.items)) halves.0).0

    pub handle_below : handle < length g'.names
    handle_below = made_below step fits.made handle kind.Handle
        (and_parts (makes ns handle kind.Handle) (all_used ns after.items) halves.1).0

    pub after_below : All (λ k. k < length p.world.values.items) after.items
    after_below = all_below step.accepted.kinds fits.made (length p.world.values.items) after.items
        (and_parts (makes ns handle kind.Handle) (all_used ns after.items) halves.1).1
        (λ k h. let lt = used_below step fits.made k (kind.Handle ∷ []) h in let e = st.knows.each in omega arith)

    module _ (jobs : Jobs) (are : (j : ℕ) → jobs j ≡ jobs_by p.world.handles.items p.world.values.items after.items j) where
      jobs_are : jobs ≡ jobs_named s' after.items
      jobs_are = λ i j. (are j ∙ all_named p.world.values.items p.world.handles.items
          (length p.world.containers.items) s' st.knows.names after.items after_below j) i

      pub jobs_known : AreUpTo (count_of p.world.jobs) jobs
      jobs_known = subst (AreUpTo (count_of p.world.jobs)) (sym jobs_are) (subst (λ k. AreUpTo k (jobs_named s' after.items)) (sym st.knows.jobs.count)
          (named_among s' st.knows.known after.items))

      refusal_is : refusal g' s' x_after.act ≡ disposal s' name jobs
      refusal_is = ap (disposal s' name) (sym jobs_are)

      pub after_refused : (m : Planner) (w : World) (cause : Refusal) → Answers p s' name jobs (Err cause)
          → IsPushed p m (record { line = line; name = name; act = Say cause })
          → HasHandle m.world w handle nobody → HasStepped b (record m { world = w })
      after_refused m w cause a i e =
          said_nobody b (record { cause = cause; name = name }) (refusal_is ∙ sym a.0) name_below m w handle refl refl refl (inr (λ c. refl)) i e

      module _ (c : ℕ) (a : Answers p s' name jobs (Ok c)) where
        unrefused : refusal g' s' x_after.act ≡ None
        unrefused = refusal_is ∙ sym a.0

        is_alive' : s'.alive (container_at s' name) ≡ true
        is_alive' = alive_container s' (s'.values name) (disposed_alive s' name jobs (sym a.0))

        pub after_can_hold : CanHold p.world (slice_get p.world.containers.items c)
        after_can_hold = can_hold st (let few = statements_few step in omega arith) c a.1.1
            (ap s'.alive (sym a.1.0) ∙ is_alive')

        pub after_held : (m w : World) → IsHeldBack p.world m c → HasHandle m w handle jobs
            → HasStepped b (record p { world = w })
        after_held m w i e =
            held_on b name handle jobs is_alive' m w (subst (IsHeldBack p.world m) (sym a.1.0) i) e
            (accepted_state g' s' x_after step.acts unrefused ∙ ap (λ js. with_name handle (states.Handle js) (dispose name s')) (sym jobs_are)) (refl, tt)

-- the same as the code asks and answers
module _ (p : Planner) (line name : ℕ) (after : Vec ℕ Global) (handle : ℕ) where
  abbrev statement : Statement
  statement = record { line = line; act = Dispose name after (Some handle) }

  pub record CanDispose : Type 0 where
    pub name_in : name < vec_len p.world.values
    pub handle_in : handle < vec_len p.world.values
    pub there : AreThere (vec_len p.world.containers) (vec_len p.world.handles) p.world.values.items
    pub few : vec_len p.world.handles < 2 ^ 32
    pub after_in : All (λ k. k < vec_len p.world.values) after.items
    pub jobs : (jobs : Jobs) → ((j : ℕ) → jobs j ≡ jobs_by p.world.handles.items p.world.values.items after.items j) → AreUpTo (count_of p.world.jobs) jobs
    pub holds : (jobs : Jobs) → ((j : ℕ) → jobs j ≡ jobs_by p.world.handles.items p.world.values.items after.items j) → (c : ℕ)
        → IsDisposable p.world name jobs (Ok c)
        → CanHold p.world (slice_get p.world.containers.items c)

  pub after_ready : IsReady p statement → CanDispose
  after_ready ready =
      let b = ready.2 in
      let g = setting ready.0 ready.1 in
      let s = state_at ready.0 ready.1 b.n in
      record {
        name_in = within b.stands name (name_below line name after handle b);
        handle_in = within b.stands handle (handle_below line name after handle b);
        there = are_there b.stands;
        few = (let few = b.stands.numbers.handles_few in let most = statements_few b.step in let len = p.world.handles.ok.0 in
            omega arith);
        after_in = subst (λ most. All (λ k. k < most) after.items) (sym p.world.values.ok.0)
            (after_below line name after handle b);
        jobs = jobs_known line name after handle b;
        holds = λ js are c answer. after_can_hold line name after handle b js are c
            (answer g s b.found b.stands.knows);
      }

  pub after_says : (m : Planner) (w : World) (jobs : Jobs) → ((j : ℕ) → jobs j ≡ jobs_by p.world.handles.items p.world.values.items after.items j)
      → (cause : Refusal)
      → IsDisposable p.world name jobs (Err cause) → IsPushed p m (record { line = line; name = name; act = Say cause }) → HasHandle m.world w handle nobody
      → GoesOn p (record m { world = w }) statement
  after_says m w jobs are cause answer i e script table b =
      after_refused line name after handle b jobs are m w cause (answer (setting script table) (state_at script table b.n) b.found b.stands.knows) i e

  pub after_goes : (m w : World) (jobs : Jobs) → ((j : ℕ) → jobs j ≡ jobs_by p.world.handles.items p.world.values.items after.items j) → (c : ℕ)
      → IsDisposable p.world name jobs (Ok c) → IsHeldBack p.world m c → HasHandle m w handle jobs → GoesOn p (record p { world = w }) statement
  after_goes m w jobs are c answer i e script table b =
      after_held line name after handle b jobs are c (answer (setting script table) (state_at script table b.n) b.found b.stands.knows) m w i e
