-- Whether the script may use a container now: what the safety book answers is the cause that the script's meaning has.
use Rattle.std.proofs.Common.{◌≡◌, ℕ, zero, suc, ◌<◌, Bool, true, false, cond, ◌&&◌, ◌||◌, not, List, [], ◌∷◌, length, Option, Some, None, Result, refl, sym, ap, subst, ◌∙◌, arith}
use Rattle.std.specs.Prelude.{slice_get, get_or, option_map, if◌then◌else◌, Vec, vec_len}
use Rattle.std.specs.declared.alloc.Global.{Global}
use Rattle.std.specs.Result.{result_err}
use Rattle.job_base.specs.declared.Refusal.{Refusal}
use Rattle.job_base.specs.declared.Refusal.TheVariants.{Disposed, StaleView, Pending}
use Rattle.frame_ast.specs.Effects.{breaks_views}
use Rattle.frame_ast.specs.Jobs.{Jobs, nobody, greatest, happens_before}
use Rattle.frame_ast.specs.Conflicts.{conflicts, blockers, blocker}
use Rattle.frame_ast.specs.Laws.{AreUpTo}
use Rattle.frame_ast.specs.Lists.{first_some}
use Rattle.frame_ast.specs.Orders.{Setting}
use Rattle.frame_ast.specs.Refusals.{Refused, refused, pending_on, pending, access}
use Rattle.frame_ast.specs.Schedules.{need_of}
use Rattle.frame_ast.specs.States as states
use Rattle.frame_ast.specs.States.{ScriptState, is_alive, is_stale, container_at}
use Rattle.frame_ast.proofs.Ancestry.{greatest_in}
use Rattle.job_handle.specs.Sets.{job_numbered}
use Rattle.job_handle.specs.declared.handle.Handle.{Handle}
use Rattle.safety_handle.specs.declared.tag.Tag.{Tag}
use Rattle.safety_handle.specs.declared.tag.Blocked.{Blocked}
use Rattle.safety_handle.specs.declared.tag.Blocked.TheVariants.{Disposed as NotLive, StaleView as Broken}
use Rattle.safety_handle.specs.Entries.{state_of}
use Rattle.safety_handle.specs.Checks as checks
use Rattle.safety_handle.specs.Checks.{IsAnswer}
use Rattle.frame_core.proofs.Small.{not_both, some_is, none_some}
use Rattle.plan_state.specs.declared.state.Value.{Value}
use Rattle.plan_state.specs.declared.state.Value.TheVariants.{Dead, Whole, Slice, View, Jobs as Handles}
use Rattle.plan_state.specs.declared.state.Container.{Container}
use Rattle.plan_state.specs.declared.state.Planner.{Planner}
use Rattle.plan_state.specs.declared.state.World.{World}
use Rattle.plan_state.specs.Stands.{jobs_at, value_for, tag_of, IsThere, IsContainer, Knows, Stands}
use Rattle.plan_state.specs.Accesses.{tag_by, tag_in, tag_for, refused_as, cause_of, is_gone, AreThere}

pub none_up_to : (n : ℕ) (jobs : Jobs) → jobs ≡ nobody → AreUpTo n jobs
none_up_to n jobs e j h = absurd (not_both h (ap (λ f. f j) e))

read_within : {A : Type 0} (xs : List A) (n : ℕ) (d : A) → n < length xs → slice_get xs n ≡ Some (get_or xs n d)
read_within [] n d lt = absurd (omega arith)
read_within (x ∷ xs) zero d lt = refl
read_within (x ∷ xs) (suc n) d lt = read_within xs n d (omega arith)

-- what is read of a vector
pub read_some : {A : Type 0} (v : Vec A Global) (n : ℕ) (x : A) → n < vec_len v → x ≡ get_or v.items n x → slice_get v.items n ≡ Some x
read_some v n x lt e = let len = v.ok.0 in read_within v.items n x (omega arith) ∙ ap Some (sym e)

-- a place that there is
pub there : {A : Type 0} (xs : List A) (k : ℕ) → k < length xs → (it : A) × (slice_get xs k ≡ Some it)
there [] k lt = absurd (omega arith)
there (x ∷ xs) zero lt = (x, refl)
there (x ∷ xs) (suc k) lt = there xs k (omega arith)

-- what names stand for is there, as the code counts
pub are_there : {p : Planner} {g : Setting} {begun : ScriptState} {n : ℕ} {s : ScriptState} {found : List ℕ} → Stands p g begun n s found
    → AreThere (vec_len p.world.containers) (vec_len p.world.handles) p.world.values.items
are_there {p} st k v h =
    subst (λ made. IsThere made (vec_len p.world.handles) v) (sym p.world.containers.ok.0)
    (subst (λ handles. IsThere (length p.world.containers.items) handles v) (sym p.world.handles.ok.0) (st.knows.names.there k v h))

module _ (s : ScriptState) (name : ℕ) (writes : Bool) where
  abbrev decide : Bool → Bool → Option Refused → Option Refused
  decide alive old p =
      if not alive then Some (record { cause = Disposed; name = name })
      else (if old then Some (record { cause = StaleView; name = name }) else p)

  access_is : access s name (need_of s name writes) [] ≡ decide (is_alive s (s.values name)) (is_stale s (s.values name))
      (pending s nobody (need_of s name writes ∷ []))
  unfolding first_some
  access_is = by (is_alive s (s.values name)) (is_stale s (s.values name)) (pending s nobody (need_of s name writes ∷ []))
    where
      by : (a o : Bool) (p : Option Refused) → first_some (option_map (refused Disposed) (cond (not a) (Some name) None)
          ∷ option_map (refused StaleView) (cond o (Some name) None) ∷ p ∷ []) ≡ decide a o p
      by false o p = refl
      by true true p = refl
      by true false None = refl
      by true false (Some r) = refl

  or_none : (b : Bool) → (b || false) ≡ b
  or_none true = refl
  or_none false = refl

  and_first : (a b : Bool) → (a && b) ≡ true → a ≡ true
  and_first true b e = refl
  and_first false b e = absurd (not_both e refl)

  -- the job that blocks the one use
  abbrev job : ℕ
  job = blocker s.book (s.uses (container_at s name)) nobody writes

  pending_is : pending s nobody (need_of s name writes ∷ []) ≡ refused_as (cause_of (checks.pending_on (job_numbered job))) name
  pending_is =
      ap (pending_on s.uses (need_of s name writes ∷ [])) (λ i. greatest (λ j. or_none (blockers s.book (s.uses (container_at s name)) nobody writes j) i)
      s.book.count)
      ∙ by job refl
    where
      by : (n : ℕ) → job ≡ n → pending_on s.uses (need_of s name writes ∷ []) n ≡ refused_as (cause_of (checks.pending_on (job_numbered n))) name
      by zero e = refl
      by (suc n) e =
          let in_set = greatest_in (blockers s.book (s.uses (container_at s name)) nobody writes) s.book.count (omega arith) in
          let conflict : conflicts (s.uses (container_at s name)) writes (suc n) ≡ true =
          subst (λ k. conflicts (s.uses (container_at s name)) writes k ≡ true) e
          (and_first (conflicts (s.uses (container_at s name)) writes job) (not (happens_before s.book nobody job)) in_set) in
          ap (λ b. Some (record { cause = Pending (record { 0 = suc n }); name = cond b name 0 })) conflict

  pub is_disposed : is_alive s (s.values name) ≡ false → Some (record { cause = Disposed; name = name }) ≡ access s name (need_of s name writes) []
  is_disposed dead = sym (access_is ∙ ap (λ a. decide a (is_stale s (s.values name)) (pending s nobody (need_of s name writes ∷ []))) dead)

  -- the first cause is that there is no container, and no other answer says so
  abbrev pub says : Option Refusal → Bool
  says None = false
  says (Some r) = is_gone r

  pub gone_by : (answer : Option Refusal) → refused_as answer name ≡ access s name (need_of s name writes) [] → says answer ≡ not (is_alive s (s.values name))
  gone_by answer e =
      by answer (is_alive s (s.values name)) (is_stale s (s.values name)) job
      (e ∙ access_is ∙ ap (decide (is_alive s (s.values name)) (is_stale s (s.values name))) pending_is)
    where
      cause : {a b : Refused} → Some a ≡ Some b → a.cause ≡ b.cause
      cause e = ap (λ (r : Refused). r.cause) (some_is e)

      by : (answer : Option Refusal) (a o : Bool) (m : ℕ) → refused_as answer name ≡ decide a o
          (refused_as (cause_of (checks.pending_on (job_numbered m))) name) → says answer ≡ not a
      by None false o m e = absurd (none_some e)
      by None true o m e = refl
      by (Some c) false o m e = ap is_gone (cause e)
      by (Some c) true true m e = ap is_gone (cause e)
      by (Some c) true false zero e = absurd (none_some (sym e))
      by (Some c) true false (suc m) e = ap is_gone (cause e)

  -- an access breaks no views
  pub breaks_none : (r : Refused) → access s name (need_of s name writes) [] ≡ Some r → breaks_views r.cause ≡ false
  breaks_none r e =
      by (is_alive s (s.values name)) (is_stale s (s.values name)) job (sym (ap (decide (is_alive s (s.values name)) (is_stale s (s.values name))) pending_is)
      ∙ sym access_is ∙ e)
    where
      cause : {a b : Refused} → Some a ≡ Some b → a.cause ≡ b.cause
      cause e = ap (λ (r : Refused). r.cause) (some_is e)

      by : (a o : Bool) (m : ℕ) → decide a o (refused_as (cause_of (checks.pending_on (job_numbered m))) name) ≡ Some r → breaks_views r.cause ≡ false
      by false o m e = ap breaks_views (sym (cause e))
      by true true m e = ap breaks_views (sym (cause e))
      by true false zero e = absurd (none_some e)
      by true false (suc m) e = ap breaks_views (sym (cause e))

  module _ (w : World) (g : Setting) (found : List ℕ) (st : Knows w g s found) (c : ℕ) (it : Container)
      (has : slice_get w.containers.items c ≡ Some it) (view : Option ℕ)
      (alive_is : is_alive s (s.values name) ≡ s.alive c) (stale_is : is_stale s (s.values name) ≡ checks.is_stale view (s.view c))
      (at : container_at s name ≡ c)
      (r : Result (Unit {0}) Blocked) (a : IsAnswer (state_of w.safety it.slot.0) (tag_of it view) w.jobs nobody writes r) where
    answered : refused_as (cause_of (result_err r)) name ≡ access s name (need_of s name writes) []
    answered = by (s.alive c) refl
      where
        kept : IsContainer w s found c it
        kept = st.containers.each c it has

        shape : (o : Bool) → refused_as (cause_of (if o then Some Broken else checks.pending_on (job_numbered (blocker s.book (s.uses c) nobody writes)))) name
            ≡ decide true o (refused_as (cause_of (checks.pending_on (job_numbered (blocker s.book (s.uses c) nobody writes)))) name)
        shape true = refl
        shape false = refl

        ends : (o : Bool) → s.alive c ≡ true → o ≡ is_stale s (s.values name)
            → refused_as (cause_of (if o then Some Broken else checks.pending_on (job_numbered (blocker s.book (s.uses c) nobody writes)))) name ≡ access s name
            (need_of s name writes) []
        ends o alive e =
            shape o
            ∙ ap (λ k. decide true o (refused_as (cause_of (checks.pending_on (job_numbered (blocker s.book (s.uses k) nobody writes)))) name)) (sym at)
            ∙ ap (decide true o) (sym pending_is)
            ∙ ap (λ b. decide true b (pending s nobody (need_of s name writes ∷ []))) e
            ∙ ap (λ b. decide b (is_stale s (s.values name)) (pending s nobody (need_of s name writes ∷ []))) (sym (alive_is ∙ alive))
            ∙ sym access_is

        by : (b : Bool) → s.alive c ≡ b → refused_as (cause_of (result_err r)) name ≡ access s name (need_of s name writes) []
        by false dead =
            ap (λ q. refused_as (cause_of (result_err q)) name) (a.disposed.1 (kept.alive ∙ dead))
            ∙ is_disposed (alive_is ∙ dead)
        by true alive =
            let known = st.known.uses c in
            let told = a.pending s.book (s.uses c) st.jobs known (kept.uses alive) in
            let current = kept.alive ∙ alive in
            let p0 : Option Blocked = checks.pending_on (job_numbered (blocker s.book (s.uses c) nobody writes)) in
            ap (λ o. refused_as (cause_of o) name) told
            ∙ ap (λ b. refused_as (cause_of (if not b then Some NotLive else (if checks.is_stale view
            (state_of w.safety it.slot.0).view then Some Broken else p0))) name) current
            ∙ ap (λ v. refused_as (cause_of (if checks.is_stale view v then Some Broken else p0)) name) (kept.view alive)
            ∙ ends (checks.is_stale view (s.view c)) alive (sym stale_is)

-- by what the name stands for
module _ (w : World) (g : Setting) (s : ScriptState) (found : List ℕ) (st : Knows w g s found) (name : ℕ)
    (writes : Bool) where
  some_tag : (c : ℕ) (view : Option ℕ) (tag : Tag) → tag_in w.containers.items c view ≡ Some tag
      → (it : Container) × (slice_get w.containers.items c ≡ Some it) × (tag ≡ tag_of it view)
  some_tag c view tag e = by (slice_get w.containers.items c) refl e
    where
      by : (o : Option Container) → slice_get w.containers.items c ≡ o → tag_by view o ≡ Some tag
          → (it : Container) × (slice_get w.containers.items c ≡ Some it) × (tag ≡ tag_of it view)
      by None f e = absurd (none_some e)
      by (Some it) f e = (it, f, sym (some_is e))

  -- where the name stands for a container, the answer is the cause
  pub tag_answers : (v : Value) → slice_get w.values.items name ≡ Some v → (tag : Tag) → tag_for w.containers.items v ≡ Some tag
      → (r : Result (Unit {0}) Blocked)
      → IsAnswer (state_of w.safety tag.slot.0) tag w.jobs nobody writes r
      → refused_as (cause_of (result_err r)) name ≡ access s name (need_of s name writes) []
  tag_answers Dead h tag e r a = absurd (none_some e)
  tag_answers (Whole c) h tag e r a =
      let v = st.names.are name (Whole c) h in
      let t = some_tag c None tag e in
      answered s name writes w g found st c t.0 t.1 None (ap (is_alive s) (sym v)) (ap (is_stale s) (sym v)) (ap states.container_of (sym v)) r
      (subst (λ (k : Tag). IsAnswer (state_of w.safety k.slot.0) k w.jobs nobody writes r) t.2 a)
  tag_answers (Slice c start len) h tag e r a =
      let v = st.names.are name (Slice c start len) h in
      let t = some_tag c None tag e in
      answered s name writes w g found st c t.0 t.1 None (ap (is_alive s) (sym v)) (ap (is_stale s) (sym v)) (ap states.container_of (sym v)) r
      (subst (λ (k : Tag). IsAnswer (state_of w.safety k.slot.0) k w.jobs nobody writes r) t.2 a)
  tag_answers (View c number) h tag e r a =
      let v = st.names.are name (View c number) h in
      let t = some_tag c (Some number) tag e in
      answered s name writes w g found st c t.0 t.1 (Some number) (ap (is_alive s) (sym v)) (ap (is_stale s) (sym v)) (ap states.container_of (sym v)) r
      (subst (λ (k : Tag). IsAnswer (state_of w.safety k.slot.0) k w.jobs nobody writes r) t.2 a)
  tag_answers (Handles k) h tag e r a = absurd (none_some e)

  -- and where it stands for none, it is disposed
  pub no_tag : (v : Value) → slice_get w.values.items name ≡ Some v → tag_for w.containers.items v ≡ None
      → Some (record { cause = Disposed; name = name }) ≡ access s name (need_of s name writes) []
  no_tag v h e = is_disposed s name writes (ap (is_alive s) (sym (st.names.are name v h)) ∙ by v h e)
    where
      gone : (c : ℕ) (view : Option ℕ) → c < length w.containers.items → tag_in w.containers.items c view ≡ None → ⊥
      gone c view lt e = have (slice_get w.containers.items c) (there w.containers.items c lt) e
        where
          have : (o : Option Container) → (it : Container) × (o ≡ Some it) → tag_by view o ≡ None → ⊥
          have None i e = none_some i.1
          have (Some it) i e = cc

      by : (v : Value) → slice_get w.values.items name ≡ Some v → tag_for w.containers.items v ≡ None → is_alive s (value_for w.handles.items v) ≡ false
      by Dead h e = refl
      by (Whole c) h e = absurd (gone c None (st.names.there name (Whole c) h) e)
      by (Slice c start len) h e = absurd (gone c None (st.names.there name (Slice c start len) h).0 e)
      by (View c number) h e = absurd (gone c (Some number) (st.names.there name (View c number) h) e)
      by (Handles k) h e = jobs (slice_get w.handles.items k)
        where
          jobs : (o : Option Handle) → is_alive s (jobs_at o) ≡ false
          jobs None = refl
          jobs (Some h) = refl
