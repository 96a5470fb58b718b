-- Disposals go on: each is refused as it is in the script, or its container ends.
use Rattle.std.proofs.Common.{◌≡◌, ℕ, zero, suc, ◌+◌, ◌<◌, inr, Bool, true, false, cond, ◌&&◌, ◌||◌, List, [], ◌∷◌, length, Option, Some, None, Result, Ok, Err, refl, sym, ap, subst, ◌∙◌, arith}
use Rattle.std.specs.Prelude.{Vec, vec_len, slice_get, get_or, nat_eq, nat_lt}
use Rattle.std.specs.declared.alloc.Global.{Global}
use Rattle.std.specs.List.{All}
use Rattle.std.specs.Result.{IfOk, result_err}
use Rattle.std.proofs.lemmas.Bool.{and_parts, eqb-true}
use Rattle.job_base.specs.declared.Refusal.{Refusal}
use Rattle.frame_ast.specs.declared.script.Order.TheVariants.{Dispose}
use Rattle.frame_ast.specs.declared.script.Script.{Script}
use Rattle.frame_ast.specs.declared.script.Statement.{Statement}
use Rattle.frame_ast.specs.declared.name_kind.TheConstants.{DISPOSABLE}
use Rattle.frame_ast.specs.Accepted.{uses}
use Rattle.frame_ast.specs.Checks.{refusal}
use Rattle.frame_ast.specs.Conflicts.{has_pending}
use Rattle.frame_ast.specs.Effects.{dispose}
use Rattle.frame_ast.specs.Jobs.{Jobs, nobody}
use Rattle.frame_ast.specs.Laws.{AreUpTo, IsKnown}
use Rattle.frame_ast.specs.Orders.{Table, Setting, setting}
use Rattle.frame_ast.specs.Refusals.{jobs_named}
use Rattle.frame_ast.specs.Scripts.{act}
use Rattle.frame_ast.specs.States as states
use Rattle.frame_ast.specs.States.{ScriptState, with_at, is_live, container_at}
use Rattle.frame_ast.proofs.Blocking.{words_come_back}
use Rattle.frame_ast.proofs.Naming.{FitsThere}
use Rattle.job_handle.specs.declared.handle.Handle.{Handle}
use Rattle.job_handle.specs.Sets.{jobs_of}
use Rattle.job_handle.specs.Books.{StandsFor, count_of}
use Rattle.slot_store.specs.Places.{users_of}
use Rattle.slot_store.specs.declared.place.Place.{Place}
use Rattle.slot_store.specs.declared.store.SlotStore.{SlotStore}
use Rattle.slot_store.specs.Stores.{place_of, held}
use Rattle.safety_handle.specs.Entries.{state_of}
use Rattle.safety_handle.specs.Uses.{users_of as latest_users}
use Rattle.frame_core.specs.declared.plan.Act.TheVariants.{Say}
use Rattle.frame_core.specs.Ordered.{ops_count}
use Rattle.frame_core.proofs.Small.{not_both, get_below}
use Rattle.plan_laws.specs.Planned.{IsPlanned}
use Rattle.plan_laws.proofs.Statements.Disposing.{disposals_are_planned}
use Rattle.plan_state.specs.declared.state.Value.{Value}
use Rattle.plan_state.specs.declared.state.Value.TheVariants.{Dead, Whole, Slice, View, Jobs as Handles}
use Rattle.plan_state.specs.declared.state.Container.{Container}
use Rattle.plan_state.specs.declared.state.Planner.{Planner}
use Rattle.plan_state.specs.declared.state.World.{World}
use Rattle.plan_state.specs.Accesses.{refused_as, jobs_in, jobs_of_value, jobs_for, jobs_by, IsPushed, AreThere}
use Rattle.plan_statements.specs.Endings.{disposal, IsDisposable, CanEnd, CanHold, IsGiven}
use Rattle.plan_state.specs.Growth.{given_so_far}
use Rattle.plan_state.specs.Stands.{jobs_at, value_for, AreNames, AreContainers, AreTemps, AreTempJobs, Stands, draft_of}
use Rattle.plan_state.specs.Steps.{state_at, IsBefore, HasStepped, GoesOn, IsReady}
use Rattle.plan_state.proofs.Accessing.{are_there, read_some}
use Rattle.plan_statements.proofs.Endings.Continuing.{IsContinued, continued, quiet_continued, same_temps, same_tempjobs}
use Rattle.plan_statements.proofs.Disposals.{disposed_alive, alive_container}
use Rattle.plan_statements.proofs.Endings.Ending.{there}
use Rattle.plan_statements.proofs.Endings.Giving.{fallen, taken0, version0, given_stand}
use Rattle.plan_statements.proofs.Endings.Holding.{store_users}
use Rattle.plan_state.proofs.Naming.{same_names}
use Rattle.plan_state.proofs.Quiet.{plain_steps}
use Rattle.plan_state.proofs.Reaching.{known_after, fits_at, statements_few, used_below, within}
use Rattle.plan_state.proofs.Restating.{accepted_state, said}
use Rattle.plan_statements.proofs.Endings.Settling.{latest_are_users}

-- ---- the jobs of some names of handles

module _ (values : List Value) (handles : List Handle) (made : ℕ) (s : ScriptState) (are : AreNames values handles made s) where
  pub value_jobs : (v : Value) (j : ℕ) → jobs_of_value handles v j ≡ states.jobs_of (value_for handles v) j
  value_jobs Dead j = refl
  value_jobs (Whole c) j = refl
  value_jobs (Slice c start len) j = refl
  value_jobs (View c number) j = refl
  value_jobs (Handles k) j = by (slice_get handles k)
    where
      by : (o : Option Handle) → jobs_in o j ≡ states.jobs_of (jobs_at o) j
      by None = refl
      by (Some h) = refl

  value_there : (xs : List Value) (n : ℕ) → n < length xs → (v : Value) × (slice_get xs n ≡ Some v)
  value_there [] n lt = absurd (omega arith)
  value_there (x ∷ xs) zero lt = (x, refl)
  value_there (x ∷ xs) (suc n) lt = value_there xs n (omega arith)

  pub one_named : (n j : ℕ) → n < length values → jobs_for handles (slice_get values n) j ≡ states.jobs_of (s.values n) j
  one_named n j lt =
      let v = value_there values n lt in
      ap (λ o. jobs_for handles o j) v.1 ∙ value_jobs v.0 j ∙ ap (λ w. states.jobs_of w j) (are.are n v.0 v.1)

  pub all_named : (names : List ℕ) → All (λ n. n < length values) names → (j : ℕ) → jobs_by handles values names j ≡ jobs_named s names j
  all_named [] all j = refl
  all_named (n ∷ more) all j =
      let first = one_named n j (all 0 0 (omega arith)) in
      let rest = all_named more (λ k d lt. all (suc k) d (omega arith)) j in
      λ i. first i || rest i

-- ---- what a container that ends needs

module _ {p : Planner} {g : Setting} {begun : ScriptState} {n : ℕ} {s : ScriptState} {found : List ℕ} (st : Stands p g begun n s found) (few : n < 65536) where
  module _ (c : ℕ) (below : c < length p.world.containers.items) (alive : s.alive c ≡ true) where
    one : (it : Container) × (slice_get p.world.containers.items c ≡ Some it)
    one = there p.world.containers.items c below

    ends : CanEnd p.world (Some one.0)
    ends = (
      taken0 p.world p.world s found c one.0 st.knows.containers one.1 alive,
      (let v = version0 p.world p.world s found c one.0 st.knows.containers one.1 alive in
          let low = (st.knows.containers.each c one.0 one.1).low in
          let m = st.numbers.made_few in
          let made = st.knows.containers.made in omega arith),
    )

    pub can_end : CanEnd p.world (slice_get p.world.containers.items c)
    can_end = subst (CanEnd p.world) (sym one.1) ends

    count_is : s.book.count ≡ count_of p.world.jobs
    count_is = sym st.knows.jobs.count

    pub can_hold : CanHold p.world (slice_get p.world.containers.items c)
    can_hold = subst (CanHold p.world) (sym one.1) (
      ends,
      (subst (λ m. AreUpTo m (latest_users (state_of p.world.safety one.0.slot.0).latest)) count_is
          (λ j e. (st.knows.known.uses c).users j (latest_are_users s.book (state_of p.world.safety one.0.slot.0).latest (s.uses c) (st.knows.known.uses c)
          ((st.knows.containers.each c one.0 one.1).uses alive) j e))),
      (λ k. subst (λ m. AreUpTo m (users_of (place_of p.world.store k).state)) count_is
          (store_users p.world s found st.knows.containers st.knows.known.book st.knows.known.uses k)),
    )

-- ---- of the container at a number, as the code reads it

some_end : (w : World) (o : Option Container) → CanEnd w o → (it : Container) × (o ≡ Some it)
some_end w None e = absurd e
some_end w (Some it) e = (it, refl)

some_hold : (w : World) (o : Option Container) → CanHold w o → (it : Container) × (o ≡ Some it)
some_hold w None e = absurd e
some_hold w (Some it) e = (it, refl)

pub can_end_there : (w : World) (k : ℕ) → CanEnd w (slice_get w.containers.items k) → k < vec_len w.containers
can_end_there w k e = let one = some_end w (slice_get w.containers.items k) e in let lt = get_below w.containers.items k one.0 one.1 in
    let len = w.containers.ok.0 in omega arith

pub can_hold_there : (w : World) (k : ℕ) → CanHold w (slice_get w.containers.items k) → k < vec_len w.containers
can_hold_there w k e = let one = some_hold w (slice_get w.containers.items k) e in let lt = get_below w.containers.items k one.0 one.1 in
    let len = w.containers.ok.0 in omega arith

pub container_is : (v : Vec Container Global) (k : ℕ) (it : Container) → k < vec_len v → it ≡ get_or v.items k it → slice_get v.items k ≡ Some it
container_is v k it lt e = read_some v k it lt e

-- those for whom ranges are held are jobs of the book, with the users of one container more
pub users_after : (w : World) (k : ℕ) (it : Container) → slice_get w.containers.items k ≡ Some it
    → CanHold w (slice_get w.containers.items k)
    → (users : Handle) → jobs_of users ≡ latest_users (state_of w.safety it.slot.0).latest
    → (store : SlotStore)
    → ((j : ℕ) → place_of store j ≡ cond (nat_eq j it.slot.0) (held (place_of w.store it.slot.0) users) (place_of w.store j))
    → (j : ℕ) → AreUpTo (count_of w.jobs) (users_of (place_of store j).state)
users_after w k it has can users are store places j =
    let h = subst (CanHold w) has can in
    subst (λ (z : Place). AreUpTo (count_of w.jobs) (users_of z.state)) (sym (places j)) (by (nat_eq j it.slot.0) h)
  where
    by : (b : Bool) → CanHold w (Some it) → AreUpTo (count_of w.jobs)
        (users_of (cond b (held (place_of w.store it.slot.0) users) (place_of w.store j)).state)
    by true h = subst (AreUpTo (count_of w.jobs)) (sym are) h.1
    by false h = h.2 j

-- ---- at a statement

-- the fields that a statement of these may change
pub as_continued : (p q r : Planner) → q ≡ r
    → r ≡ record p {
      world = record p.world {
        values = r.world.values;
        handles = r.world.handles;
        temps = r.world.temps;
        overdue = r.world.overdue;
        frame = r.world.frame;
        jobs = r.world.jobs;
        safety = r.world.safety;
        store = r.world.store;
      };
      draft = record p.draft { segments = r.draft.segments; waits = r.draft.waits; ops = r.draft.ops };
    }
    → q ≡ record p {
      world = record p.world {
        values = q.world.values;
        handles = q.world.handles;
        temps = q.world.temps;
        overdue = q.world.overdue;
        frame = q.world.frame;
        jobs = q.world.jobs;
        safety = q.world.safety;
        store = q.world.store;
      };
      draft = record p.draft { segments = q.draft.segments; waits = q.draft.waits; ops = q.draft.ops };
    }
as_continued p q r e f =
    let change : Planner → Planner = λ k. record p {
      world = record p.world {
        values = k.world.values;
        handles = k.world.handles;
        temps = k.world.temps;
        overdue = k.world.overdue;
        frame = k.world.frame;
        jobs = k.world.jobs;
        safety = k.world.safety;
        store = k.world.store;
      };
      draft = record p.draft { segments = k.draft.segments; waits = k.draft.waits; ops = k.draft.ops };
    } in
    e ∙ f ∙ ap change (sym e)

-- An answer that some statement is given
abbrev pub Answers : Planner → ScriptState → ℕ → Jobs → Result ℕ Refusal → Type 0
Answers p s name after answer = (refused_as (result_err answer) name ≡ disposal s name after)
    × IfOk answer (λ c. (container_at s name ≡ c) × (c < length p.world.containers.items))

-- `dispose` without `after`
module _ (line name : ℕ) (after : Vec ℕ Global) where
  abbrev x : Statement
  x = record { line = line; act = Dispose name after None }

  module _ {script : Script} {table : Table} {p : Planner} (b : IsBefore script table p x) where
    open b use {begun, n, found, step, stands as st}

    abbrev g : Setting
    g = setting script table

    abbrev s : ScriptState
    s = state_at script table n

    fits : FitsThere g step.accepted.kinds x.act
    fits = fits_at step

    no_after : after.items ≡ []
    no_after = empty after.items (eqb-true (length after.items) 0 (and_parts (uses (record { kinds = step.accepted.kinds; made = fits.made }) name DISPOSABLE)
        (nat_eq (length after.items) 0) fits.fits).1)
      where
        empty : (xs : List ℕ) → length xs ≡ 0 → xs ≡ []
        empty [] e = refl
        empty (x ∷ xs) e = absurd (omega arith)

    pub plain_below : name < length g.names
    plain_below = used_below step fits.made name DISPOSABLE
        (and_parts (uses (record { kinds = step.accepted.kinds; made = fits.made }) name DISPOSABLE) (nat_eq (length after.items) 0) fits.fits).0

    named_nobody : jobs_named s after.items ≡ nobody
    named_nobody = ap (jobs_named s) no_after

    refusal_is : refusal g s x.act ≡ disposal s name nobody
    refusal_is = ap (disposal s name) named_nobody

    pub plain_refused : (q : Planner) (cause : Refusal) → Answers p s name nobody (Err cause)
        → IsPushed p q (record { line = line; name = name; act = Say cause })
        → HasStepped b q
    plain_refused q cause a i =
        said b (record { cause = cause; name = name }) (refusal_is ∙ sym a.0) plain_below q refl refl (inr (λ c. refl)) i

    module _ (c : ℕ) (a : Answers p s name nobody (Ok c)) where
      unrefused : refusal g s x.act ≡ None
      unrefused = refusal_is ∙ sym a.0

      alive : s.alive (container_at s name) ≡ true
      alive = alive_container s (s.values name) (disposed_alive s name nobody (sym a.0))

      pub plain_can_end : CanEnd p.world (slice_get p.world.containers.items c)
      plain_can_end = can_end st (let few = statements_few step in omega arith) c a.1.1 (ap s.alive (sym a.1.0) ∙ alive)

      module _ (after_it : World) (i : IsGiven p.world after_it c) where
        abbrev q : Planner
        q = record p { world = after_it }

        rest : q ≡ record p { world = record p.world { safety = after_it.safety; store = after_it.store } }
        rest = ap (λ (k : World). record p { world = k }) i.rest

        abbrev t : ScriptState
        t = dispose name s

        no_users : has_pending s.book (s.uses (container_at s name)) ≡ false
        no_users = by (nat_lt (container_at s name) s.made) (with_at s.alive (container_at s name) false (container_at s name))
            (has_pending s.book (s.uses (container_at s name))) below
            (words_come_back g line s name after no_after unrefused)
          where
            below : nat_lt (container_at s name) s.made ≡ true
            below = (let e = a.1.0 in let lt = a.1.1 in let m = st.knows.containers.made in let less : container_at s name < s.made = omega arith in grind
                arith)

            by : (b l h : Bool) → b ≡ true → (b && (l || h)) ≡ false → h ≡ false
            by true true h e f = absurd (not_both refl f)
            by true false h e f = f
            by false l h e f = absurd (not_both e refl)

        containers : AreContainers q.world t found
        containers = given_stand p.world after_it s found (container_at s name) st.knows.containers alive
            (subst (IsGiven p.world after_it) (sym a.1.0) i) no_users s.frame s.values s.lines

        is : act g s x ≡ t
        is = accepted_state g s x step.acts unrefused

        goes : IsContinued p q s t found
        goes = record {
          planner = as_continued p q _ rest refl;
          state = refl;
          frame = ap (λ (k : Planner). k.world.frame) rest ∙ st.numbers.frame;
          later = omega arith;
          next = omega arith;
          values = ap (λ (k : Planner). length k.world.values.items) rest;
          handles = (let e = ap (λ (k : Planner). length k.world.handles.items) rest in omega arith);
          peak = i.peak;
          slots = i.used;
          segments = (let e = ap (λ (k : Planner). length k.draft.segments.items) rest in omega arith);
          ops = (let e = ap (λ (k : Planner). ops_count k.draft.segments.items + length k.draft.ops.items) rest in
              let o = ap (λ (k : Planner). k.world.overdue) rest in omega arith);
          temps = subst (λ (k : Planner). AreTemps k.world.temps.items t) (sym rest)
              (same_temps p.world.temps.items s (with_at s.alive (container_at s name) false) s.book s.values s.lines
              (λ c a. (fallen s (container_at s name) c a).1) st.knows.temps);
          tempjobs = subst (λ (k : Planner). AreTempJobs p.world.tempjobs.items k.world.overdue t) (sym rest)
              (same_tempjobs p.world.tempjobs.items p.world.overdue s (with_at s.alive (container_at s name) false) s.book s.values s.lines st.knows.tempjobs);
          jobs = subst (λ (k : Planner). StandsFor k.world.jobs s.book) (sym rest) st.knows.jobs;
          containers = containers;
        }

        pub plain_ended : HasStepped b q
        plain_ended =
            plain_steps b q (subst (λ u. Stands q g begun (suc n) u found) (sym is) (continued st goes (subst IsKnown is (known_after step))
            (subst (λ (k : Planner). AreNames k.world.values.items k.world.handles.items (length p.world.containers.items) t) (sym rest)
            (same_names p.world.values.items p.world.handles.items (length p.world.containers.items) s t refl st.knows.names))
            (λ y agrees. subst (λ (k : Planner). IsPlanned y t (draft_of k)) (sym rest)
            (disposals_are_planned y s name (draft_of p) st.knows.known (st.planned y agrees)))))
            (quiet_continued p q s t found goes (ap given_so_far rest) (ap (λ (k : Planner). k.draft.segments) rest)
            (ap (λ (k : Planner). k.draft.waits) rest))
            (refl, tt) (ap (λ (u : ScriptState). u.book.completed) is)

-- the same as the code asks and answers
module _ (p : Planner) (line name : ℕ) where
  abbrev plain : Vec ℕ Global → Statement
  plain after = record { line = line; act = Dispose name after None }

  pub plain_ready : (after : Vec ℕ Global) → IsReady p (plain after) → (name < vec_len p.world.values)
      × AreThere (vec_len p.world.containers) (vec_len p.world.handles) p.world.values.items
  plain_ready after ready =
      let b = ready.2 in
      let s = state_at ready.0 ready.1 b.n in (
        within b.stands name (plain_below line name after b),
        are_there b.stands,
      )

  pub plain_ends : (after : Vec ℕ Global) → IsReady p (plain after) → (c : ℕ) → IsDisposable p.world name nobody (Ok c)
      → CanEnd p.world (slice_get p.world.containers.items c)
  plain_ends after ready c answer =
      let b = ready.2 in
      plain_can_end line name after b c (answer (setting ready.0 ready.1) (state_at ready.0 ready.1 b.n) b.found b.stands.knows)

  pub plain_says : (q : Planner) (cause : Refusal) → IsDisposable p.world name nobody (Err cause)
      → IsPushed p q (record { line = line; name = name; act = Say cause })
      → (after : Vec ℕ Global) → GoesOn p q (plain after)
  plain_says q cause answer i after script table b =
      plain_refused line name after b q cause (answer (setting script table) (state_at script table b.n) b.found b.stands.knows) i

  pub plain_goes : (w : World) (c : ℕ) → IsDisposable p.world name nobody (Ok c) → IsGiven p.world w c → (after : Vec ℕ Global)
      → GoesOn p (record p { world = w }) (plain after)
  plain_goes w c answer i after script table b =
      plain_ended line name after b c (answer (setting script table) (state_at script table b.n) b.found b.stands.knows) w i
