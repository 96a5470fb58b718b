-- What the uses of a schedule mean in the script's state: each is a value of the schedule, and is blocked as the script
-- says.
use Rattle.std.proofs.Common.{◌≡◌, ℕ, zero, suc, ◌<◌, Bool, true, false, not, List, [], ◌∷◌, length, Option, Some, None, Result, refl, sym, ap, subst, ◌∙◌, arith}
use Rattle.std.specs.Prelude.{slice_get, if◌then◌else◌}
use Rattle.std.specs.Result.{result_err}
use Rattle.frame_ast.specs.declared.kernel.Param.{Param}
use Rattle.frame_ast.specs.declared.script.Arg.{Arg}
use Rattle.frame_ast.specs.declared.script.Arg.TheVariants.{Name, Number}
use Rattle.frame_ast.specs.Conflicts.{Need, blocker}
use Rattle.frame_ast.specs.Jobs.{Jobs}
use Rattle.frame_ast.specs.Orders.{Setting}
use Rattle.frame_ast.specs.Refusals.{is_temp}
use Rattle.frame_ast.specs.Schedules.{Given, need_of, given_args, writes_to}
use Rattle.frame_ast.specs.States as states
use Rattle.frame_ast.specs.States.{ScriptState, is_alive, is_stale, container_of, container_at}
use Rattle.job_handle.specs.Sets.{jobs_of, job_numbered}
use Rattle.safety_handle.specs.declared.tag.Tag.{Tag}
use Rattle.safety_handle.specs.declared.tag.Blocked.{Blocked}
use Rattle.safety_handle.specs.declared.tag.Blocked.TheVariants.{Disposed as NotLive, StaleView as Broken}
use Rattle.safety_handle.specs.Checks as checks
use Rattle.safety_handle.specs.Checks.{pending_on, IsAnswer}
use Rattle.safety_handle.specs.Entries.{state_of}
use Rattle.frame_core.proofs.Small.{not_both, some_is, none_some}
use Rattle.plan_state.specs.declared.state.Value.{Value}
use Rattle.plan_state.specs.declared.state.Value.TheVariants.{Dead, Whole, Slice, View, Jobs as Handles}
use Rattle.plan_state.specs.declared.state.Container.{Container}
use Rattle.plan_state.specs.declared.state.Planner.{Planner}
use Rattle.plan_schedules.specs.declared.uses.NamedUse.{NamedUse}
use Rattle.plan_state.specs.Stands.{jobs_at, value_for, tag_of, IsThere, IsContainer, Stands}
use Rattle.plan_state.specs.Accesses.{tag_by, tag_in, tag_for}
use Rattle.plan_schedules.specs.Uses.{number_of_value, is_temp_by, is_temp_in, IsBlockedBy, IsUse, ForNames, given_of}

-- why the script refuses a need to what waits for some jobs
abbrev refused_need : ScriptState → Jobs → Need → Option Blocked
refused_need s after n =
    if not (is_alive s (s.values n.name))
    then Some NotLive
    else (if is_stale s (s.values n.name)
    then Some Broken
    else pending_on (job_numbered (blocker s.book (s.uses n.container) after n.writes)))

-- A use as the script has it: the value of the schedule that it is, why it is refused, and whether its container, where
-- it is alive, lives for one frame.
pub record IsMeant (p : Planner) (s : ScriptState) (after : Jobs) (u : NamedUse) (g : Given) : Type 0 where
  pub given : given_of u ≡ g
  pub container_is : g.need.container ≡ container_at s g.need.name
  pub blocked : u.blocked ≡ refused_need s after g.need
  pub temp : is_alive s (s.values g.need.name) ≡ true → u.is_temp ≡ is_temp (s.life g.need.container)
  -- how the safety book knows a container that is alive
  pub known_by : is_alive s (s.values g.need.name) ≡ true → (it : Container)
      × (slice_get p.world.containers.items g.need.container ≡ Some it)
      × ((tag : Tag) × (u.tag ≡ Some tag) × (tag.slot ≡ it.slot))
      × (s.alive g.need.container ≡ true)

abbrev pub AreMeant : Planner → ScriptState → Jobs → List NamedUse → List Given → Type 0
AreMeant p s after [] [] = Unit {0}
AreMeant p s after [] (g ∷ gs) = ⊥
AreMeant p s after (u ∷ us) [] = ⊥
AreMeant p s after (u ∷ us) (g ∷ gs) = IsMeant p s after u g × AreMeant p s after us gs

pub some_at : {A : Type 0} (xs : List A) (k : ℕ) → k < length xs → (x : A) × (slice_get xs k ≡ Some x)
some_at [] k lt = absurd (omega arith)
some_at (x ∷ xs) zero lt = (x, refl)
some_at (x ∷ xs) (suc k) lt = some_at xs k (omega arith)

module _ {p : Planner} {g : Setting} {begun : ScriptState} {m : ℕ} {s : ScriptState} {found : List ℕ} (st : Stands p g begun m s found) (after : Jobs) where
  -- why a use of what a value stands for is refused
  abbrev pub refused_value : states.Value → Bool → Option Blocked
  refused_value v writes =
      if not (is_alive s v)
      then Some NotLive
      else (if is_stale s v then Some Broken else pending_on (job_numbered (blocker s.book (s.uses (container_of v)) after writes)))

  -- ---- what the safety book answers is why

  module _ (c : ℕ) (it : Container) (has : slice_get p.world.containers.items c ≡ Some it) (view : Option ℕ) (writes : Bool) where
    abbrev reason : Bool → Bool → Option Blocked
    reason alive old =
        if not alive then Some NotLive else (if old then Some Broken else pending_on (job_numbered (blocker s.book (s.uses c) after writes)))

    kept : IsContainer p.world s found c it
    kept = st.knows.containers.each c it has

    answered : (r : Result (Unit {0}) Blocked) → IsAnswer (state_of p.world.safety it.slot.0) (tag_of it view) p.world.jobs after writes r
        → result_err r ≡ reason (s.alive c) (checks.is_stale view (s.view c))
    answered r a = by (s.alive c) refl
      where
        by : (b : Bool) → s.alive c ≡ b → result_err r ≡ reason (s.alive c) (checks.is_stale view (s.view c))
        by false dead =
            ap result_err (a.disposed.1 (kept.alive ∙ dead))
            ∙ ap (λ b. reason b (checks.is_stale view (s.view c))) (sym dead)
        by true alive =
            a.pending s.book (s.uses c) st.knows.jobs (st.knows.known.uses c) (kept.uses alive)
            ∙ ap (λ b. reason b (checks.is_stale view (state_of p.world.safety it.slot.0).view)) (kept.alive)
            ∙ ap (λ v. reason (s.alive c) (checks.is_stale view v)) (kept.view alive)

    blocked_for : (o : Option Container) → o ≡ Some it → (b : Option Blocked) → IsBlockedBy p.world after (tag_by view o) writes b
        → b ≡ reason (s.alive c) (checks.is_stale view (s.view c))
    blocked_for None e b h = absurd (none_some e)
    blocked_for (Some other) e b h =
        h.2 ∙ answered h.0 (subst (λ (x : Container). IsAnswer (state_of p.world.safety x.slot.0) (tag_of x view) p.world.jobs after writes h.0)
        (some_is e) h.1)

  -- ---- by what the name stands for

  pub record MeansValue (v : Value) : Type 0 where
    pub container : number_of_value v ≡ container_of (value_for p.world.handles.items v)
    pub temp : is_alive s (value_for p.world.handles.items v) ≡ true → is_temp_in p.world.containers.items v ≡ is_temp (s.life (number_of_value v))
    pub blocked : (writes : Bool) (b : Option Blocked) → IsBlockedBy p.world after (tag_for p.world.containers.items v) writes b
        → b ≡ refused_value (value_for p.world.handles.items v) writes
    pub known_by : is_alive s (value_for p.world.handles.items v) ≡ true → (it : Container)
        × (slice_get p.world.containers.items (number_of_value v) ≡ Some it)
        × ((tag : Tag) × (tag_for p.world.containers.items v ≡ Some tag) × (tag.slot ≡ it.slot))
        × (s.alive (number_of_value v) ≡ true)

  life_is : (c : ℕ) (it : Container) → slice_get p.world.containers.items c ≡ Some it → is_temp_by (slice_get p.world.containers.items c) ≡ is_temp (s.life c)
  life_is c it has = ap is_temp_by has ∙ ap is_temp (st.knows.containers.each c it has).life

  pub tag_is : (c : ℕ) (it : Container) (view : Option ℕ) → slice_get p.world.containers.items c ≡ Some it
      → (tag : Tag) × (tag_in p.world.containers.items c view ≡ Some tag) × (tag.slot ≡ it.slot)
  tag_is c it view has = (tag_of it view, ap (tag_by view) has, refl)

  pub means : (v : Value) → IsThere (length p.world.containers.items) (length p.world.handles.items) v → MeansValue v
  means Dead there = record { container = refl; temp = λ h. absurd (not_both h refl); blocked = λ writes b h. h; known_by = λ h. absurd (not_both h refl) }
  means (Whole c) there =
      let it = some_at p.world.containers.items c there in
      record {
        container = refl;
        temp = λ h. life_is c it.0 it.1;
        blocked = λ writes b h. blocked_for c it.0 it.1 None writes (slice_get p.world.containers.items c) it.1 b h;
        known_by = λ h. (it.0, it.1, tag_is c it.0 None it.1, h);
      }
  means (Slice c start len) there =
      let it = some_at p.world.containers.items c there.0 in
      record {
        container = refl;
        temp = λ h. life_is c it.0 it.1;
        blocked = λ writes b h. blocked_for c it.0 it.1 None writes (slice_get p.world.containers.items c) it.1 b h;
        known_by = λ h. (it.0, it.1, tag_is c it.0 None it.1, h);
      }
  means (View c number) there =
      let it = some_at p.world.containers.items c there in
      record {
        container = refl;
        temp = λ h. life_is c it.0 it.1;
        blocked = λ writes b h. blocked_for c it.0 it.1 (Some number) writes (slice_get p.world.containers.items c) it.1 b h;
        known_by = λ h. (it.0, it.1, tag_is c it.0 (Some number) it.1, h);
      }
  means (Handles k) there =
      let h = some_at p.world.handles.items k there in
      let e : value_for p.world.handles.items (Handles k) ≡ states.Handle (jobs_of h.0) = ap jobs_at h.1 in
      record {
        container = ap container_of (sym e);
        temp = λ a. absurd (not_both a (ap (is_alive s) e));
        blocked = λ writes b is. is ∙ ap (λ v. refused_value v writes) (sym e);
        known_by = λ a. absurd (not_both a (ap (is_alive s) e));
      }

  use_meant : (q : Param) (n : ℕ) (u : NamedUse) → IsUse p.world after q n u → IsMeant p s after u
      (record { need = need_of s n (writes_to q.access); kind = q.kind; is_length = false })
  use_meant q n u is =
      let v = st.knows.names.are n is.value is.has in
      let m = means is.value (st.knows.names.there n is.value is.has) in
      let at : number_of_value is.value ≡ container_at s n = m.container ∙ ap container_of v in
      record {
        given = λ i. record {
          need = record { name = is.named i; container = (is.container ∙ at) i; writes = writes_to (is.access i) };
          kind = is.kind i;
          is_length = false;
        };
        container_is = refl;
        blocked =
            m.blocked (writes_to u.access) u.blocked (subst (λ o. IsBlockedBy p.world after o (writes_to u.access) u.blocked) is.tag is.blocked)
            ∙ (λ i. refused_value (v i) (writes_to (is.access i)));
        temp = λ alive.
            is.temp ∙ m.temp (ap (is_alive s) v ∙ alive) ∙ ap (λ c. is_temp (s.life c)) at;
        known_by = λ alive.
            let k = m.known_by (ap (is_alive s) v ∙ alive) in (
              k.0,
              ap (slice_get p.world.containers.items) (sym at) ∙ k.1,
              (k.2.0, is.tag ∙ k.2.1, k.2.2),
              ap s.alive (sym at) ∙ k.3,
            );
      }

  pub uses_meant : (qs : List Param) (args : List Arg) (us : List NamedUse) → ForNames (IsUse p.world after) qs args us
      → AreMeant p s after us (given_args s qs args)
  uses_meant [] args us e = subst (λ us. AreMeant p s after us []) (sym e) tt
  uses_meant (q ∷ qs) [] us e = subst (λ us. AreMeant p s after us []) (sym e) tt
  uses_meant (q ∷ qs) (Number z ∷ args) us h = uses_meant qs args us h
  uses_meant (q ∷ qs) (Name n ∷ args) [] h = absurd h
  uses_meant (q ∷ qs) (Name n ∷ args) (u ∷ us) h = (use_meant q n u h.0, uses_meant qs args us h.1)
