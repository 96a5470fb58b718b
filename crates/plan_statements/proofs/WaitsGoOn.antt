-- The statements with `auto` go on: they wait for the automatic set of a writing use.
use Rattle.std.proofs.Common.{◌≡◌, ℕ, zero, suc, ◌<◌, ◌≤◌, ◌^◌, inr, ⊎_elim, Bool, true, false, cond, ◌&&◌, ◌||◌, not, List, [], ◌∷◌, length, Option, Some, None, Ok, Err, refl, sym, ap, subst, ◌∙◌, arith}
use Rattle.std.specs.Prelude.{vec_len, slice_get, option_map, if◌then◌else◌}
use Rattle.std.proofs.lemmas.Bool.{and_parts}
use Rattle.job_base.specs.declared.Access.TheVariants.{Write}
use Rattle.job_base.specs.declared.Refusal.{Refusal}
use Rattle.job_base.specs.declared.Refusal.TheVariants.{Disposed, StaleView, Pending, NotParallel, Alias, StoreFull, Range, Full, MissingKey, PresentKey, TempInJob, Busy}
use Rattle.frame_ast.specs.declared.script.Order.TheVariants.{DisposeAuto, CompleteAuto}
use Rattle.frame_ast.specs.declared.script.Script.{Script}
use Rattle.frame_ast.specs.declared.script.Statement.{Statement}
use Rattle.frame_ast.specs.declared.name_kind.NameKind.TheVariants as kind
use Rattle.frame_ast.specs.declared.name_kind.TheConstants.{DISPOSABLE, CONTAINERS}
use Rattle.frame_ast.specs.Accepted.{uses, makes}
use Rattle.frame_ast.specs.Checks.{refusal}
use Rattle.frame_ast.specs.Conflicts.{Need, automatic, blocking, leads_to}
use Rattle.frame_ast.specs.Effects.{dispose}
use Rattle.frame_ast.specs.Jobs.{Jobs, nobody, any_job, greatest}
use Rattle.frame_ast.specs.Laws.{AreUpTo}
use Rattle.frame_ast.specs.Lists.{first_some}
use Rattle.frame_ast.specs.Orders.{Table, Setting, setting}
use Rattle.frame_ast.specs.Refusals.{Refused, refused, disposed, stale, pending, pending_on, access}
use Rattle.frame_ast.specs.Schedules.{need_of}
use Rattle.frame_ast.specs.States as states
use Rattle.frame_ast.specs.States.{ScriptState, with_name, is_alive, is_stale}
use Rattle.frame_ast.proofs.Blocking.{blocking_among}
use Rattle.frame_ast.proofs.Naming.{FitsThere}
use Rattle.auto_deps.specs.Needs.{conflicting_with, ForNeeds, IsAutomatic}
use Rattle.job_handle.specs.Books.{count_of}
use Rattle.safety_handle.specs.declared.tag.Tag.{Tag}
use Rattle.safety_handle.specs.Entries.{state_of}
use Rattle.safety_handle.specs.Uses.{StandForUses, users_of as latest_users}
use Rattle.slot_store.specs.Places.{users_of}
use Rattle.slot_store.specs.Stores.{place_of}
use Rattle.frame_core.specs.declared.plan.Act.TheVariants.{Say}
use Rattle.frame_core.proofs.Small.{not_both, some_is, none_some, either_bool, get_below}
use Rattle.plan_state.specs.declared.answer.Answer.{Answer}
use Rattle.plan_state.specs.declared.state.Value.{Value}
use Rattle.plan_state.specs.declared.state.Container.{Container}
use Rattle.plan_state.specs.declared.state.Draft.{Draft}
use Rattle.plan_state.specs.declared.state.Planner.{Planner}
use Rattle.plan_state.specs.declared.state.World.{World}
use Rattle.plan_state.specs.Accesses.{refused_as, tag_in, IsPushed, HasHandle, IsGone, MayUse, AreThere}
use Rattle.plan_state.specs.Answers.{HasTaken}
use Rattle.plan_statements.specs.Completions.{IsCompletion}
use Rattle.plan_statements.specs.Endings.{number_of, CanHold, IsHeldBack}
use Rattle.plan_state.specs.Stands.{tag_of, Stands, Knows}
use Rattle.plan_state.specs.Steps.{state_at, IsStep, GoesOn, IsReady}
use Rattle.plan_statements.specs.Waiting.{IsLiveAt, IsLive, IsBroken, says_broken, IsCompletable, KnowsUsers, AreWaitedFor}
use Rattle.plan_state.proofs.Accessing.{are_there}
use Rattle.plan_statements.proofs.CompletesGoOn.{section_low, users_known, completion_on}
use Rattle.plan_statements.proofs.Disposals.{tagged, number_below, number_at, no_number, alive_container}
use Rattle.plan_statements.proofs.DisposalsGoOn.{can_hold}
use Rattle.plan_statements.proofs.Endings.Ending.{there}
use Rattle.plan_statements.proofs.HoldsGoOn.{held_on}
use Rattle.plan_state.proofs.Reaching.{fits_at, statements_few, used_below, made_below, within}
use Rattle.plan_state.proofs.Restating.{accepted_state, said, said_nobody}
use Rattle.plan_statements.proofs.Endings.Settling.{latest_are_users}

flip : (a b : Bool) → a ≡ not b → b ≡ not a
flip true true e = e
flip true false e = refl
flip false true e = refl
flip false false e = e

-- ---- the container of a name, where it is alive

module _ (w : World) (name : ℕ) where
  pub live_gone : IsGone w name true → IsLive w name None
  live_gone gone g s found st = flip true (is_alive s (s.values name)) (gone g s found st)

  pub live_there : IsGone w name false → (v : Value) → slice_get w.values.items name ≡ Some v → (o : Option ℕ) → o ≡ number_of v → IsLive w name o
  live_there here v h None e g s found st = ap (is_alive s) (sym (st.names.are name v h)) ∙ no_number s w.handles.items v (sym e)
  live_there here v h (Some c) e g s found st = record {
    alive = flip false (is_alive s (s.values name)) (here g s found st);
    at = ap states.container_of (sym (st.names.are name v h)) ∙ number_at s w.handles.items v c (sym e);
    below = number_below (length w.containers.items) (length w.handles.items) v c (st.names.there name v h) (sym e);
  }

-- ---- why it may not be used

module _ (s : ScriptState) (name : ℕ) where
  abbrev causes : Option Refused
  causes = first_some (disposed s (name ∷ []) ∷ stale s (name ∷ []) ∷ [])

  abbrev shape : Bool → Bool → Option Refused
  shape alive old = if not alive then Some (record { cause = Disposed; name = name }) else (if old then Some
      (record { cause = StaleView; name = name }) else None)

  causes_are : causes ≡ shape (is_alive s (s.values name)) (is_stale s (s.values name))
  unfolding first_some
  causes_are = by (is_alive s (s.values name)) (is_stale s (s.values name))
    where
      by : (a o : Bool) → first_some (option_map (refused Disposed) (cond (not a) (Some name) None) ∷ option_map (refused StaleView) (cond o (Some name) None)
          ∷ []) ≡ shape a o
      by false o = refl
      by true true = refl
      by true false = refl

  pending_named : (n : ℕ) (needs : List Need) → pending_on s.uses needs n ≡ Some (record { cause = StaleView; name = name }) → ⊥
  pending_named zero needs e = none_some e
  pending_named (suc n) needs e = absurd (differ (ap (λ (r : Refused). r.cause) (some_is e)))
    where
      differ : Pending (record { 0 = suc n }) ≡ StaleView → ⊥
      differ e = cc

  -- that a view is stale is what an access is refused for
  access_stale : (a o : Bool) (p : Option Refused) → is_alive s (s.values name) ≡ a → is_stale s (s.values name) ≡ o
      → pending s nobody (need_of s name true ∷ []) ≡ p
      → (access s name (need_of s name true) [] ≡ Some (record { cause = StaleView; name = name }) → (a ≡ true) × (o ≡ true))
      × (a ≡ true → o ≡ true → access s name (need_of s name true) [] ≡ Some (record { cause = StaleView; name = name }))
  unfolding first_some
  access_stale a o p ea eo ep = by a o p ea eo ep (λ i. first_some (option_map (refused Disposed) (cond (not (ea i)) (Some name) None)
      ∷ option_map (refused StaleView) (cond (eo i) (Some name) None) ∷ ep i ∷ []))
    where
      differ : Disposed ≡ StaleView → ⊥
      differ e = cc

      Said : Option Refused
      Said = Some (record { cause = StaleView; name = name })

      by : (a o : Bool) (p : Option Refused) → is_alive s (s.values name) ≡ a → is_stale s (s.values name) ≡ o → pending s nobody (need_of s name true ∷ []) ≡ p
          → access s name (need_of s name true) [] ≡ first_some (option_map (refused Disposed) (cond (not a) (Some name) None)
          ∷ option_map (refused StaleView) (cond o (Some name) None) ∷ p ∷ [])
          → (access s name (need_of s name true) [] ≡ Some (record { cause = StaleView; name = name }) → (a ≡ true) × (o ≡ true))
          × (a ≡ true → o ≡ true → access s name (need_of s name true) [] ≡ Some (record { cause = StaleView; name = name }))
      by false o p ea eo ep is = (λ e. absurd (differ (ap (λ (r : Refused). r.cause) (some_is (sym is ∙ e)))), λ f. absurd (not_both f refl))
      by true true p ea eo ep is = (λ e. (refl, refl), λ f h. is)
      by true false None ea eo ep is = (λ e. absurd (none_some (sym is ∙ e)), λ f h. absurd (not_both h refl))
      by true false (Some r) ea eo ep is = (
        λ e. absurd (pending_named (greatest (blocking s.book s.uses nobody (need_of s name true ∷ [])) s.book.count) (need_of s name true ∷ [])
            (ep ∙ sym is ∙ e)),
        λ f h. absurd (not_both h refl),
      )

module _ (w : World) (name : ℕ) (answer : Option Refusal) (may : MayUse w name true answer) where
  module _ (g : Setting) (s : ScriptState) (found : List ℕ) (st : Knows w g s found) where
    both : (access s name (need_of s name true) [] ≡ Some (record { cause = StaleView; name = name })
        → (is_alive s (s.values name) ≡ true) × (is_stale s (s.values name) ≡ true))
        × (is_alive s (s.values name) ≡ true → is_stale s (s.values name) ≡ true
        → access s name (need_of s name true) [] ≡ Some (record { cause = StaleView; name = name }))
    both = access_stale s name (is_alive s (s.values name)) (is_stale s (s.values name)) (pending s nobody (need_of s name true ∷ [])) refl refl refl

  pub is_stale_now : answer ≡ Some StaleView → IsCompletable w name (Err StaleView)
  is_stale_now e g s found st =
      let h = (both g s found st).0 (sym (may g s found st) ∙ ap (λ o. refused_as o name) e) in
      (sym (causes_are s name ∙ (λ i. shape s name (h.0 i) (h.1 i))), tt)

  as_answer : (o : Option Refusal) → refused_as o name ≡ Some (record { cause = StaleView; name = name }) → o ≡ Some StaleView
  as_answer None e = absurd (none_some e)
  as_answer (Some c) e = ap Some (ap (λ (r : Refused). r.cause) (some_is e))

  pub completes_alive : (answer ≡ Some StaleView → ⊥) → (c : ℕ) → IsLive w name (Some c) → IsCompletable w name (Ok c)
  completes_alive not_stale c live g s found st =
      let h = live g s found st in
      let fresh : is_stale s (s.values name) ≡ false = ⊎_elim
      (λ old. absurd (not_stale (as_answer answer (may g s found st ∙ (both g s found st).1 h.alive old))))
      (λ f. f)
      (either_bool (is_stale s (s.values name))) in
      (sym (causes_are s name ∙ (λ i. shape s name (h.alive i) (fresh i))), h)

broken_is : (o : Option Refusal) → says_broken o ≡ true → o ≡ Some StaleView
broken_is None e = absurd (not_both e refl)
broken_is (Some StaleView) e = refl
broken_is (Some Disposed) e = absurd (not_both e refl)
broken_is (Some NotParallel) e = absurd (not_both e refl)
broken_is (Some Alias) e = absurd (not_both e refl)
broken_is (Some (Pending j)) e = absurd (not_both e refl)
broken_is (Some StoreFull) e = absurd (not_both e refl)
broken_is (Some Range) e = absurd (not_both e refl)
broken_is (Some Full) e = absurd (not_both e refl)
broken_is (Some MissingKey) e = absurd (not_both e refl)
broken_is (Some PresentKey) e = absurd (not_both e refl)
broken_is (Some TempInJob) e = absurd (not_both e refl)
broken_is (Some (Busy j)) e = absurd (not_both e refl)

pub stale_completes : (w : World) (name : ℕ) → IsBroken w name true → IsCompletable w name (Err StaleView)
stale_completes w name b = is_stale_now w name b.refusal b.may (broken_is b.refusal (sym b.says))

pub completes_live : (w : World) (name : ℕ) → IsBroken w name false → (c : ℕ) → IsLive w name (Some c) → IsCompletable w name (Ok c)
completes_live w name b c live = completes_alive w name b.refusal b.may (λ e. not_both (ap says_broken e) (sym b.says)) c live

pub completes_gone : (w : World) (name : ℕ) → IsLive w name None → IsCompletable w name (Err Disposed)
completes_gone w name gone g s found st =
    (sym (causes_are s name ∙ ap (λ a. shape s name a (is_stale s (s.values name))) (gone g s found st)), tt)

-- ---- the automatic set

some_known : (w : World) (o : Option Container) → KnowsUsers w o → (it : Container) × (o ≡ Some it)
some_known w None e = absurd e
some_known w (Some it) e = (it, refl)

pub known_there : (w : World) (k : ℕ) → KnowsUsers w (slice_get w.containers.items k) → k < vec_len w.containers
known_there w k e = let one = some_known w (slice_get w.containers.items k) e in let lt = get_below w.containers.items k one.0 one.1 in
    let len = w.containers.ok.0 in omega arith

module _ (w : World) (k : ℕ) (tag : Tag) (is : Some tag ≡ tag_in w.containers.items k None) where
  one : (it : Container) × (slice_get w.containers.items k ≡ Some it) × (tag ≡ tag_of it None)
  one = tagged (slice_get w.containers.items k) tag is

  pub noted : KnowsUsers w (slice_get w.containers.items k) → AreUpTo (count_of w.jobs) (conflicting_with w.safety ((tag, Write) ∷ []))
  noted known j e =
      let k0 : KnowsUsers w (Some one.0) = subst (KnowsUsers w) one.1 known in
      k0 j (subst (λ (z : Tag). latest_users (state_of w.safety z.slot.0).latest j ≡ true) one.2
      (or_none (latest_users (state_of w.safety tag.slot.0).latest j) e))
    where
      or_none : (b : Bool) → (b || false) ≡ true → b ≡ true
      or_none true e = refl
      or_none false e = e

  pub waited : (after answer : Jobs) → after ≡ nobody → ForNeeds w.jobs w.safety ((tag, Write) ∷ []) (IsAutomatic after answer)
      → AreWaitedFor w (slice_get w.containers.items k) answer
  waited after answer none set = subst (λ o. AreWaitedFor w o answer) (sym one.1) (λ b uses need stands all writes latest j.
      set b uses (need ∷ []) stands all (
        record { writes = writes; latest = subst (λ (z : Tag). StandForUses b (state_of w.safety z.slot.0).latest (uses need.container)) (sym one.2) latest },
        tt,
      ) j
      ∙ ap (λ f. automatic b uses f (need ∷ []) j) none)

module _ {p : Planner} {g : Setting} {begun : ScriptState} {n : ℕ} {s : ScriptState} {found : List ℕ} (st : Stands p g begun n s found) (name c : ℕ)
    (live : IsLiveAt p.world s name c) where
  it : (i : Container) × (slice_get p.world.containers.items c ≡ Some i)
  it = there p.world.containers.items c live.below

  alive_c : s.alive c ≡ true
  alive_c = ap s.alive (sym live.at) ∙ alive_container s (s.values name) live.alive

  stand_for : StandForUses s.book (state_of p.world.safety it.0.slot.0).latest (s.uses c)
  stand_for = (st.knows.containers.each c it.0 it.1).uses alive_c

  pub users_are_known : KnowsUsers p.world (slice_get p.world.containers.items c)
  users_are_known = subst (KnowsUsers p.world) (sym it.1)
      (subst (λ m. AreUpTo m (latest_users (state_of p.world.safety it.0.slot.0).latest)) (sym st.knows.jobs.count)
      (λ j e. (st.knows.known.uses c).users j (latest_are_users s.book (state_of p.world.safety it.0.slot.0).latest (s.uses c)
      (st.knows.known.uses c) stand_for j e)))

  pub set_is : (jobs : Jobs) → AreWaitedFor p.world (slice_get p.world.containers.items c) jobs
      → jobs ≡ automatic s.book s.uses nobody (need_of s name true ∷ [])
  set_is jobs w = λ i j. subst (λ o. AreWaitedFor p.world o jobs) it.1 w s.book s.uses (need_of s name true) st.knows.jobs st.knows.known.uses refl
      (subst (λ k. StandForUses s.book (state_of p.world.safety it.0.slot.0).latest (s.uses k)) (sym live.at) stand_for) j i

  pub set_known : AreUpTo s.book.count (automatic s.book s.uses nobody (need_of s name true ∷ []))
  set_known j h =
      blocking_among s.book s.uses st.knows.known.uses nobody (need_of s name true ∷ []) j
      (and_parts (blocking s.book s.uses nobody (need_of s name true ∷ []) j)
      (not (any_job (λ i. blocking s.book s.uses nobody (need_of s name true ∷ []) i && leads_to s.book i j) s.book.count)) h).0

-- ---- `dispose auto`
module _ (p : Planner) (line name handle : ℕ) where
  abbrev ending : Statement
  ending = record { line = line; act = DisposeAuto name handle }

  ending_fits : {script : Script} {table : Table} {n : ℕ} → IsStep script table n ending
      → (name < length (setting script table).names) × (handle < length (setting script table).names)
  ending_fits {script} {table} step =
      let fits : FitsThere (setting script table) step.accepted.kinds ending.act = fits_at step in
      let both = and_parts (uses (record { kinds = step.accepted.kinds; made = fits.made }) name DISPOSABLE)
      (makes (record { kinds = step.accepted.kinds; made = fits.made }) handle kind.Handle) fits.fits in
      (used_below step fits.made name DISPOSABLE both.0, made_below step fits.made handle kind.Handle both.1)

  pub record CanEndWaiting : Type 0 where
    pub name_in : name < vec_len p.world.values
    pub handle_in : handle < vec_len p.world.values
    pub there : AreThere (vec_len p.world.containers) (vec_len p.world.handles) p.world.values.items
    pub few : vec_len p.world.handles < 2 ^ 32
    pub known : (c : ℕ) → IsLive p.world name (Some c) → KnowsUsers p.world (slice_get p.world.containers.items c)
    pub holds : (c : ℕ) → IsLive p.world name (Some c) → CanHold p.world (slice_get p.world.containers.items c)

  pub ending_ready : IsReady p ending → CanEndWaiting
  ending_ready ready =
      let b = ready.2 in
      let g = setting ready.0 ready.1 in
      let s = state_at ready.0 ready.1 b.n in
      let fits = ending_fits b.step in
      record {
        name_in = within b.stands name fits.0;
        handle_in = within b.stands handle fits.1;
        there = are_there b.stands;
        few = (let few = b.stands.numbers.handles_few in let most = statements_few b.step in let len = p.world.handles.ok.0 in
            omega arith);
        known = λ c live. users_are_known b.stands name c (live g s b.found b.stands.knows);
        holds = λ c live. let l = live g s b.found b.stands.knows in
            can_hold b.stands (let few = statements_few b.step in omega arith) c l.below (alive_c b.stands name c l);
      }

  pub ending_says : (m : Planner) (w : World) → IsLive p.world name None → IsPushed p m (record { line = line; name = name; act = Say Disposed })
      → HasHandle m.world w handle nobody
      → GoesOn p (record m { world = w }) ending
  ending_says m w gone i e script table b =
      let s = state_at script table b.n in
      said_nobody b (record { cause = Disposed; name = name })
      (ap (λ a. option_map (refused Disposed) (cond (not a) (Some name) None)) (gone (setting script table) s b.found b.stands.knows))
      (ending_fits b.step).0 m w handle refl refl refl (inr (λ c. refl)) i e

  pub ending_goes : (m last : World) (jobs : Jobs) (c : ℕ) → IsLive p.world name (Some c) → AreWaitedFor p.world (slice_get p.world.containers.items c) jobs
      → IsHeldBack p.world m c
      → HasHandle m last handle jobs → GoesOn p (record p { world = last }) ending
  ending_goes m last jobs c live w i e script table b =
      let g = setting script table in
      let s = state_at script table b.n in
      let l = live g s b.found b.stands.knows in
      let none : refusal g s ending.act ≡ None = ap (λ a. option_map (refused Disposed) (cond (not a) (Some name) None)) l.alive in
      held_on b name handle jobs (alive_container s (s.values name) l.alive) m last (subst (IsHeldBack p.world m) (sym l.at) i) e
      (accepted_state g s ending b.step.acts none ∙ ap (λ js. with_name handle (states.Handle js) (dispose name s))
      (sym (set_is b.stands name c l jobs w))) (refl, tt)

-- ---- `complete auto`
module _ (p : Planner) (line name : ℕ) where
  abbrev completing : Statement
  completing = record { line = line; act = CompleteAuto name }

  completing_below : {script : Script} {table : Table} {n : ℕ} → IsStep script table n completing → name < length (setting script table).names
  completing_below {script} {table} step =
      let fits : FitsThere (setting script table) step.accepted.kinds completing.act = fits_at step in
      used_below step fits.made name CONTAINERS fits.fits

  pub record CanCompleteAuto : Type 0 where
    pub name_in : name < vec_len p.world.values
    pub there : AreThere (vec_len p.world.containers) (vec_len p.world.handles) p.world.values.items
    pub before : p.world.jobs_before ≤ count_of p.world.jobs
    pub users : (k : ℕ) → AreUpTo (count_of p.world.jobs) (users_of (place_of p.world.store k).state)
    pub known : (c : ℕ) → IsCompletable p.world name (Ok c) → KnowsUsers p.world (slice_get p.world.containers.items c)
    pub jobs : (c : ℕ) → IsCompletable p.world name (Ok c) → (jobs : Jobs) → AreWaitedFor p.world (slice_get p.world.containers.items c) jobs
        → AreUpTo (count_of p.world.jobs) jobs

  pub completing_ready : IsReady p completing → CanCompleteAuto
  completing_ready ready =
      let b = ready.2 in
      let g = setting ready.0 ready.1 in
      let s = state_at ready.0 ready.1 b.n in
      record {
        name_in = within b.stands name (completing_below b.step);
        there = are_there b.stands;
        before = section_low b;
        users = users_known b;
        known = λ c may. users_are_known b.stands name c (may g s b.found b.stands.knows).1;
        jobs = λ c may jobs w. let l = (may g s b.found b.stands.knows).1 in
            subst (AreUpTo (count_of p.world.jobs)) (sym (set_is b.stands name c l jobs w))
            (subst (λ m. AreUpTo m (automatic s.book s.uses nobody (need_of s name true ∷ []))) (sym b.stands.knows.jobs.count)
            (set_known b.stands name c l));
      }

  pub completing_says : (q : Planner) (cause : Refusal) → IsCompletable p.world name (Err cause)
      → IsPushed p q (record { line = line; name = name; act = Say cause })
      → GoesOn p q completing
  completing_says q cause may i script table b =
      said b (record { cause = cause; name = name })
      (sym (may (setting script table) (state_at script table b.n) b.found b.stands.knows).0) (completing_below b.step) q refl refl (inr (λ c. refl)) i

  pub completing_goes : (w : World) (draft : Draft) (answer : Answer) (jobs : Jobs) (c : ℕ) → IsCompletable p.world name (Ok c)
      → AreWaitedFor p.world (slice_get p.world.containers.items c) jobs
      → IsCompletion p.world w jobs answer → HasTaken p.draft draft line answer → GoesOn p (record p { world = w; draft = draft }) completing
  completing_goes w draft answer jobs c may wait done took script table b =
      let g = setting script table in
      let s = state_at script table b.n in
      let m = may g s b.found b.stands.knows in
      completion_on b (automatic s.book s.uses nobody (need_of s name true ∷ [])) (set_known b.stands name c m.1) w draft answer
      (subst (λ js. IsCompletion p.world w js answer) (set_is b.stands name c m.1 jobs wait) done) took
      (accepted_state g s completing b.step.acts (sym m.0)) (refl, tt)
