-- What may be disposed, and what a disposal does.
use Rattle.std.proofs.Common.{◌≡◌, ℕ, zero, suc, ◌<◌, ⊎_elim, Bool, true, false, cond, ◌&&◌, ◌||◌, not, List, [], ◌∷◌, Option, Some, None, Result, Ok, Err, refl, sym, ap, subst, ◌∙◌, arith}
use Rattle.std.specs.Prelude.{slice_get, option_map, if◌then◌else◌}
use Rattle.std.specs.Result.{result_err}
use Rattle.job_base.specs.declared.Refusal.{Refusal}
use Rattle.job_base.specs.declared.Refusal.TheVariants.{Disposed, Pending}
use Rattle.frame_ast.specs.Jobs.{Jobs, greatest, happens_before}
use Rattle.frame_ast.specs.Conflicts.{conflicts, blockers, blocker}
use Rattle.frame_ast.specs.Lists.{first_some}
use Rattle.frame_ast.specs.Orders.{Setting}
use Rattle.frame_ast.specs.Refusals.{Refused, refused, disposed, pending_on, pending}
use Rattle.frame_ast.specs.Schedules.{need_of}
use Rattle.frame_ast.specs.States as states
use Rattle.frame_ast.specs.States.{ScriptState, is_alive, container_at}
use Rattle.frame_ast.proofs.Ancestry.{greatest_in}
use Rattle.job_handle.specs.declared.handle.Handle.{Handle}
use Rattle.job_handle.specs.Sets.{job_numbered}
use Rattle.safety_handle.specs.declared.tag.Tag.{Tag}
use Rattle.safety_handle.specs.declared.tag.Blocked.{Blocked}
use Rattle.safety_handle.specs.declared.tag.Blocked.TheVariants.{Disposed as NotLive}
use Rattle.safety_handle.specs.Entries.{state_of}
use Rattle.safety_handle.specs.Checks as checks
use Rattle.safety_handle.specs.Checks.{is_current, IsAnswer}
use Rattle.frame_core.proofs.Small.{not_both, some_is, none_some, either_bool, get_below}
use Rattle.plan_state.specs.declared.state.Value.{Value}
use Rattle.plan_state.specs.declared.state.Value.TheVariants.{Dead, Whole, Slice, View, Jobs as Handles}
use Rattle.plan_state.specs.declared.state.Container.{Container}
use Rattle.plan_state.specs.declared.state.World.{World}
use Rattle.plan_state.specs.Accesses.{refused_as, cause_of, tag_in, tag_by}
use Rattle.plan_statements.specs.Endings.{number_of, disposal, IsDisposable}
use Rattle.plan_state.specs.Stands.{jobs_at, value_for, IsThere, tag_of, IsContainer, Knows}

-- ---- the first cause is that there is no container

pub disposed_first : (s : ScriptState) (name : ℕ) (p : Option Refused)
    → first_some (disposed s (name ∷ []) ∷ p ∷ []) ≡ (if not (is_alive s (s.values name)) then Some (record { cause = Disposed; name = name }) else p)
unfolding first_some
disposed_first s name p = by (is_alive s (s.values name)) p
  where
    by : (a : Bool) (p : Option Refused) → first_some (option_map (refused Disposed) (cond (not a) (Some name) None) ∷ p ∷ []) ≡
        (if not a then Some (record { cause = Disposed; name = name }) else p)
    by false p = refl
    by true None = refl
    by true (Some r) = refl

-- ---- why a disposal is refused

module _ (s : ScriptState) (name : ℕ) (after : Jobs) where
  abbrev decide : Bool → Option Refused → Option Refused
  decide alive p = if not alive then Some (record { cause = Disposed; name = name }) else p

  disposal_is : disposal s name after ≡ decide (is_alive s (s.values name)) (pending s after (need_of s name true ∷ []))
  disposal_is = disposed_first s name (pending s after (need_of s name true ∷ []))

  or_none : (b : Bool) → (b || false) ≡ b
  or_none true = refl
  or_none false = refl

  and_first : (a b : Bool) → (a && b) ≡ true → a ≡ true
  and_first true b e = refl
  and_first false b e = absurd (not_both e refl)

  -- the job that blocks it
  abbrev job : ℕ
  job = blocker s.book (s.uses (container_at s name)) after true

  pending_is : pending s after (need_of s name true ∷ []) ≡ refused_as (cause_of (checks.pending_on (job_numbered job))) name
  pending_is =
      ap (pending_on s.uses (need_of s name true ∷ [])) (λ i. greatest (λ j. or_none (blockers s.book (s.uses (container_at s name)) after true j) i)
      s.book.count)
      ∙ by job refl
    where
      by : (n : ℕ) → job ≡ n → pending_on s.uses (need_of s name true ∷ []) n ≡ refused_as (cause_of (checks.pending_on (job_numbered n))) name
      by zero e = refl
      by (suc n) e =
          let in_set = greatest_in (blockers s.book (s.uses (container_at s name)) after true) s.book.count (omega arith) in
          let conflict : conflicts (s.uses (container_at s name)) true (suc n) ≡ true =
          subst (λ k. conflicts (s.uses (container_at s name)) true k ≡ true) e
          (and_first (conflicts (s.uses (container_at s name)) true job) (not (happens_before s.book after job)) in_set) in
          ap (λ b. Some (record { cause = Pending (record { 0 = suc n }); name = cond b name 0 })) conflict

  pub dead_disposal : is_alive s (s.values name) ≡ false → Some (record { cause = Disposed; name = name }) ≡ disposal s name after
  dead_disposal dead = sym (disposal_is ∙ ap (λ a. decide a (pending s after (need_of s name true ∷ []))) dead)

  -- one that isn't refused is of a container that is alive
  pub disposed_alive : disposal s name after ≡ None → is_alive s (s.values name) ≡ true
  disposed_alive e = ⊎_elim (λ a. a) (λ d. absurd (none_some (sym e ∙ sym (dead_disposal d)))) (either_bool (is_alive s (s.values name)))

  module _ (w : World) (g : Setting) (found : List ℕ) (st : Knows w g s found) (c : ℕ) (it : Container)
      (has : slice_get w.containers.items c ≡ Some it)
      (alive_is : is_alive s (s.values name) ≡ s.alive c) (at : container_at s name ≡ c)
      (r : Result (Unit {0}) Blocked) (a : IsAnswer (state_of w.safety it.slot.0) (tag_of it None) w.jobs after true r) where
    kept : IsContainer w s found c it
    kept = st.containers.each c it has

    pub answered : refused_as (cause_of (result_err r)) name ≡ disposal s name after
    answered = by (s.alive c) refl
      where
        by : (b : Bool) → s.alive c ≡ b → refused_as (cause_of (result_err r)) name ≡ disposal s name after
        by false dead = ap (λ q. refused_as (cause_of (result_err q)) name) (a.disposed.1 (kept.alive ∙ dead)) ∙ dead_disposal (alive_is ∙ dead)
        by true alive =
            let told = a.pending s.book (s.uses c) st.jobs (st.known.uses c) (kept.uses alive) in
            let p0 : Option Blocked = checks.pending_on (job_numbered (blocker s.book (s.uses c) after true)) in
            ap (λ o. refused_as (cause_of o) name) told
            ∙ ap (λ b. refused_as (cause_of (if not b then Some NotLive else p0)) name) (kept.alive ∙ alive)
            ∙ ap (λ k. refused_as (cause_of (checks.pending_on (job_numbered (blocker s.book (s.uses k) after true)))) name) (sym at)
            ∙ sym pending_is
            ∙ ap (λ b. decide b (pending s after (need_of s name true ∷ []))) (sym (alive_is ∙ alive))
            ∙ sym disposal_is

-- ---- the container of a name

pub number_below : (made handles : ℕ) (v : Value) (c : ℕ) → IsThere made handles v → number_of v ≡ Some c → c < made
number_below made handles Dead c h e = absurd (none_some e)
number_below made handles (Whole k) c h e = let same = some_is e in omega arith
number_below made handles (Slice k start len) c h e = let same = some_is e in let lt = h.0 in omega arith
number_below made handles (View k number) c h e = let same = some_is e in omega arith
number_below made handles (Handles k) c h e = absurd (none_some e)

module _ (s : ScriptState) (handles : List Handle) where
  pub number_alive : (v : Value) (c : ℕ) → number_of v ≡ Some c → is_alive s (value_for handles v) ≡ s.alive c
  number_alive Dead c e = absurd (none_some e)
  number_alive (Whole k) c e = ap s.alive (some_is e)
  number_alive (Slice k start len) c e = ap s.alive (some_is e)
  number_alive (View k number) c e = ap s.alive (some_is e)
  number_alive (Handles k) c e = absurd (none_some e)

  pub number_at : (v : Value) (c : ℕ) → number_of v ≡ Some c → states.container_of (value_for handles v) ≡ c
  number_at Dead c e = absurd (none_some e)
  number_at (Whole k) c e = some_is e
  number_at (Slice k start len) c e = some_is e
  number_at (View k number) c e = some_is e
  number_at (Handles k) c e = absurd (none_some e)

  jobs_dead : (o : Option Handle) → is_alive s (jobs_at o) ≡ false
  jobs_dead None = refl
  jobs_dead (Some h) = refl

  pub no_number : (v : Value) → number_of v ≡ None → is_alive s (value_for handles v) ≡ false
  no_number Dead e = refl
  no_number (Whole k) e = absurd (none_some (sym e))
  no_number (Slice k start len) e = absurd (none_some (sym e))
  no_number (View k number) e = absurd (none_some (sym e))
  no_number (Handles k) e = jobs_dead (slice_get handles k)

pub alive_container : (s : ScriptState) (v : states.Value) → is_alive s v ≡ true → s.alive (states.container_of v) ≡ true
alive_container s states.Dead e = absurd (not_both e refl)
alive_container s (states.Whole c) e = e
alive_container s (states.Slice c start len) e = e
alive_container s (states.View c number) e = e
alive_container s (states.Handle jobs) e = absurd (not_both e refl)

-- ---- the answers

pub tagged : (o : Option Container) (tag : Tag) → Some tag ≡ tag_by None o → (it : Container) × (o ≡ Some it) × (tag ≡ tag_of it None)
tagged None tag e = absurd (none_some (sym e))
tagged (Some it) tag e = (it, refl, some_is e)

pub no_container : (w : World) (name : ℕ) (after : Jobs) (v : Value) → slice_get w.values.items name ≡ Some v → number_of v ≡ None
    → IsDisposable w name after (Err Disposed)
no_container w name after v h none g s found st =
    (dead_disposal s name after (ap (is_alive s) (sym (st.names.are name v h)) ∙ no_number s w.handles.items v none), tt)

module _ (w : World) (name : ℕ) (after : Jobs) (v : Value) (c : ℕ) (h : slice_get w.values.items name ≡ Some v) (is : number_of v ≡ Some c)
    (tag : Tag) (tag_is : Some tag ≡ tag_in w.containers.items c None) (r : Result (Unit {0}) Blocked)
    (a : IsAnswer (state_of w.safety tag.slot.0) tag w.jobs after true r) where
  one : (it : Container) × (slice_get w.containers.items c ≡ Some it) × (tag ≡ tag_of it None)
  one = tagged (slice_get w.containers.items c) tag tag_is

  cause_is : (g : Setting) (s : ScriptState) (found : List ℕ) → Knows w g s found
      → refused_as (cause_of (result_err r)) name ≡ disposal s name after
  cause_is g s found st =
      let v_is = st.names.are name v h in
      answered s name after w g found st c one.0 one.1
      (ap (is_alive s) (sym v_is) ∙ number_alive s w.handles.items v c is)
      (ap states.container_of (sym v_is) ∙ number_at s w.handles.items v c is) r
      (subst (λ (k : Tag). IsAnswer (state_of w.safety k.slot.0) k w.jobs after true r) one.2 a)

  pub may_dispose : r ≡ Ok tt → IsDisposable w name after (Ok c)
  may_dispose ok g s found st = (
    ap (λ q. refused_as (cause_of (result_err q)) name) (sym ok) ∙ cause_is g s found st,
    (ap states.container_of (sym (st.names.are name v h)) ∙ number_at s w.handles.items v c is, get_below w.containers.items c one.0 one.1),
  )

  pub may_not : (b : Blocked) (cause : Refusal) → r ≡ Err b → Some cause ≡ cause_of (Some b) → IsDisposable w name after (Err cause)
  may_not b cause err reported g s found st =
      (ap (λ o. refused_as o name) reported ∙ ap (λ q. refused_as (cause_of (result_err q)) name) (sym err) ∙ cause_is g s found st, tt)
