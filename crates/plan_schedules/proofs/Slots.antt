-- The slots of the safety book, as the values of a schedule use them.
use Rattle.std.proofs.Common.{◌≡◌, ◌≢◌, ℕ, ◌+◌, ◌<◌, Bool, true, false, ◌&&◌, ◌||◌, eq-eqb, ne_eqb, eqb-true, List, [], ◌∷◌, length, drop, get_or, Option, Some, None, refl, sym, ap, subst, ◌∙◌, arith, add-one, drop-cons}
use Rattle.std.specs.Prelude.{nat_eq, slice_get, if◌then◌else◌}
use Rattle.std.proofs.lemmas.Bool.{lt-ltb, or_left, or_right, and_parts}
use Rattle.job_base.specs.declared.limits.TheConstants.{MOST_STATEMENTS}
use Rattle.frame_ast.specs.Conflicts.{writes_it}
use Rattle.frame_ast.specs.Jobs.{Jobs}
use Rattle.frame_ast.specs.Schedules.{Given, is_list, writes_to}
use Rattle.frame_ast.specs.States.{ScriptState, is_live}
use Rattle.frame_ast.specs.Conflicts.{has_pending}
use Rattle.safety_handle.specs.declared.tag.Tag.{Tag}
use Rattle.safety_handle.specs.declared.book.SafetyBook.{SafetyBook}
use Rattle.safety_handle.specs.Entries.{SlotState, state_of}
use Rattle.frame_core.proofs.Small.{not_both, some_is, get_below}
use Rattle.plan_state.specs.declared.state.Container.{Container}
use Rattle.plan_state.specs.declared.state.Planner.{Planner}
use Rattle.plan_schedules.specs.declared.uses.NamedUse.{NamedUse}
use Rattle.plan_schedules.specs.Noting.{breaks_views, noted_state, noted_by, noted, noted_all, MayNoteBy, MayNoteAll}
use Rattle.plan_state.specs.Stands.{AreContainers}
use Rattle.plan_schedules.proofs.Choosing.{AreAlive}
use Rattle.plan_schedules.proofs.Meaning.{AreMeant}
use Rattle.plan_schedules.proofs.Notes.{needs, folded, AreApart}

-- what isn't live stays so, and no slot changes its version: of any slot, whoever has it
pub noted_live : (job : ℕ) (us : List NamedUse) (states : ℕ → SlotState) (k : ℕ) → (noted_all job us states k).live ≡ (states k).live
noted_live job [] states k = refl
noted_live job (u ∷ us) states k = noted_live job us (noted job u states) k ∙ by u.tag
  where
    by : (o : Option Tag) → (noted_by job u o states k).live ≡ (states k).live
    by None = refl
    by (Some tag) = elim (nat_eq k tag.slot.0) as (λ b. (if b then noted_state job u (states k) else states k).live ≡ (states k).live)
        [ true ↦ refl | false ↦ refl ]

pub noted_version : (job : ℕ) (us : List NamedUse) (states : ℕ → SlotState) (k : ℕ) → (noted_all job us states k).version ≡ (states k).version
noted_version job [] states k = refl
noted_version job (u ∷ us) states k = noted_version job us (noted job u states) k ∙ by u.tag
  where
    by : (o : Option Tag) → (noted_by job u o states k).version ≡ (states k).version
    by None = refl
    by (Some tag) = elim (nat_eq k tag.slot.0) as (λ b. (if b then noted_state job u (states k) else states k).version ≡ (states k).version)
        [ true ↦ refl | false ↦ refl ]

module _ (p : Planner) (s : ScriptState) (found : List ℕ) (after : Jobs) (are : AreContainers p.world s found) where
  abbrev Has : ℕ → Container → Type 0
  Has c it = slice_get p.world.containers.items c ≡ Some it

  lives : (c : ℕ) (it : Container) → Has c it → s.alive c ≡ true → is_live s c ≡ true
  lives c it has alive =
      let below = get_below p.world.containers.items c it has in
      let made = are.made in
      let lt : c < s.made = omega arith in
      let first = lt-ltb c s.made lt in
      λ i. first i && (alive i || has_pending s.book (s.uses c))

  -- two containers that are alive have one slot exactly where they are one
  same_slot : (c d : ℕ) (it other : Container) → Has c it → Has d other → s.alive c ≡ true → s.alive d ≡ true → nat_eq it.slot.0 other.slot.0 ≡ nat_eq c d
  same_slot c d it other has_c has_d alive_c alive_d = by (nat_eq c d) refl
    where
      by : (b : Bool) → nat_eq c d ≡ b → nat_eq it.slot.0 other.slot.0 ≡ nat_eq c d
      by true e =
          let at : c ≡ d = eqb-true c d e in
          let one : it ≡ other = some_is (sym has_c ∙ ap (slice_get p.world.containers.items) at ∙ has_d) in
          eq-eqb it.slot.0 other.slot.0 (λ i. (one i).slot.0) ∙ sym e
      by false e =
          let ne : it.slot.0 ≢ other.slot.0 = λ same.
          not_both (eq-eqb c d (are.once c d it other has_c has_d (lives c it has_c alive_c) (lives d other has_d alive_d) same)) e in
          ne_eqb it.slot.0 other.slot.0 ne ∙ sym e

  -- what is noted of the slot of a container that is alive is what the values of the schedule note
  pub noted_folded : (job : ℕ) (us : List NamedUse) (gs : List Given) → AreMeant p s after us gs → AreAlive s gs → (c : ℕ) (it : Container) → Has c it
      → s.alive c ≡ true → (states : ℕ → SlotState)
      → noted_all job us states it.slot.0 ≡ folded job c gs (states it.slot.0)
  noted_folded job [] [] m a c it has alive states = refl
  noted_folded job [] (g ∷ gs) m a c it has alive states = absurd m
  noted_folded job (u ∷ us) [] m a c it has alive states = absurd m
  noted_folded job (u ∷ us) (g ∷ gs) m a c it has alive states =
      noted_folded job us gs m.1 a.1 c it has alive (noted job u states)
      ∙ ap (folded job c gs) one
    where
      one : noted job u states it.slot.0 ≡ folded job c (g ∷ []) (states it.slot.0)
      one =
          let k = m.0.known_by a.0 in
          let same = same_slot c g.need.container it k.0 has k.1 alive k.3 in
          let slot = k.2.2 in
          ap (λ o. noted_by job u o states it.slot.0) k.2.1
          ∙ ap (λ n. if nat_eq it.slot.0 n then noted_state job u (states it.slot.0) else states it.slot.0) (λ i. (slot i).0)
          ∙ ap (λ b. if b then noted_state job u (states it.slot.0) else states it.slot.0) same
          ∙ ap (λ (h : Given). if nat_eq c g.need.container then record (states it.slot.0) {
            view = if is_list h.kind && h.need.writes then (states it.slot.0).view + 1 else (states it.slot.0).view;
            latest = if h.need.writes then Rattle.safety_handle.specs.Uses.noted_write
                (states it.slot.0).latest job else Rattle.safety_handle.specs.Uses.noted_read (states it.slot.0).latest job;
          } else states it.slot.0) m.0.given

  -- ---- they may be noted

  -- the slots of containers that are alive are live, and the views of those that are written were broken a few times
  abbrev AreReady : List Given → (ℕ → SlotState) → Type 0
  AreReady gs states = (c : ℕ) (it : Container) → Has c it → s.alive c ≡ true
      → ((states it.slot.0).live ≡ true) × (writes_it (needs gs) c ≡ true → (states it.slot.0).view < MOST_STATEMENTS)

  nat_eq-same : (n : ℕ) → nat_eq n n ≡ true
  nat_eq-same n = eq-eqb n n refl

  pub may_note : (us : List NamedUse) (gs : List Given) → AreMeant p s after us gs → AreAlive s gs → AreApart gs → (states : ℕ → SlotState) → AreReady gs states
      → MayNoteAll us states
  may_note [] [] m a apart states ready = tt
  may_note [] (g ∷ gs) m a apart states ready = absurd m
  may_note (u ∷ us) [] m a apart states ready = absurd m
  may_note (u ∷ us) (g ∷ gs) m a apart states ready =
      (subst (λ o. MayNoteBy u o states) (sym k.2.1) here, λ job. may_note us gs m.1 a.1 apart.2 (noted job u states) (next job))
    where
      k : (it : Container) × Has g.need.container it × ((tag : Tag) × (u.tag ≡ Some tag) × (tag.slot ≡ it.slot)) × (s.alive g.need.container ≡ true)
      k = m.0.known_by a.0

      at : k.2.0.slot.0 ≡ k.0.slot.0
      at = λ i. (k.2.2 i).0

      ready_here : ((states k.0.slot.0).live ≡ true) × (writes_it (needs (g ∷ gs)) g.need.container ≡ true → (states k.0.slot.0).view < MOST_STATEMENTS)
      ready_here = ready g.need.container k.0 k.1 k.3

      writes : breaks_views u ≡ true → writes_it (needs (g ∷ gs)) g.need.container ≡ true
      writes b =
          let given = m.0.given in
          let w : g.need.writes ≡ true = sym (λ i. (given i).need.writes) ∙ (and_parts (is_list u.kind) (writes_to u.access) b).1 in
          or_left (g.need.writes && nat_eq g.need.container g.need.container) (writes_it (needs gs) g.need.container)
          (λ i. w i && nat_eq-same g.need.container i)

      here : MayNoteBy u (Some k.2.0) states
      here = subst (λ n. ((states n).live ≡ true) × (breaks_views u ≡ true → (states n).view < MOST_STATEMENTS)) (sym at)
          (ready_here.0, λ b. ready_here.1 (writes b))

      next : (job : ℕ) → AreReady gs (noted job u states)
      next job c it has alive = subst (λ (x : SlotState). (x.live ≡ true) × (writes_it (needs gs) c ≡ true → x.view < MOST_STATEMENTS)) (sym one)
          (by (nat_eq c g.need.container) refl)
        where
          one : noted job u states it.slot.0 ≡ (if nat_eq c g.need.container then noted_state job u (states it.slot.0) else states it.slot.0)
          one =
              ap (λ o. noted_by job u o states it.slot.0) k.2.1
              ∙ ap (λ n. if nat_eq it.slot.0 n then noted_state job u (states it.slot.0) else states it.slot.0) at
              ∙ ap (λ b. if b then noted_state job u (states it.slot.0) else states it.slot.0) (same_slot c g.need.container it k.0 has k.1 alive k.3)

          by : (b : Bool) → nat_eq c g.need.container ≡ b → let x = if b then noted_state job u (states it.slot.0) else states it.slot.0 in
              (x.live ≡ true) × (writes_it (needs gs) c ≡ true → x.view < MOST_STATEMENTS)
          by true e = ((ready c it has alive).0, λ w. absurd (not_both w (apart.1 c e)))
          by false e = (
            (ready c it has alive).0,
            λ w. (ready c it has alive).1
                (or_right (g.need.writes && nat_eq c g.need.container) (writes_it (needs gs) c) w),
          )

-- the loop over the uses
pub note_step : (job : ℕ) (us : List NamedUse) (i : ℕ) (d : NamedUse) → i < length us → (book new : SafetyBook) → MayNoteAll (drop i us) (state_of book)
    → ((k : ℕ) → state_of new k ≡ noted job (get_or us i d) (state_of book) k)
    → MayNoteAll (drop (i + 1) us) (state_of new) × ((k : ℕ) → noted_all job (drop (i + 1) us) (state_of new) k ≡ noted_all job (drop i us) (state_of book) k)
note_step job us i d lt book new may is =
    let u = get_or us i d in
    let states : state_of new ≡ noted job u (state_of book) = λ j k. is k j in
    let split : drop i us ≡ u ∷ drop (i + 1) us = drop-cons us i d lt ∙ (λ j. u ∷ drop (sym (add-one i) j) us) in
    let here = subst (λ xs. MayNoteAll xs (state_of book)) split may in (
      subst (MayNoteAll (drop (i + 1) us)) (sym states) (here.1 job),
      λ k. ap (λ f. noted_all job (drop (i + 1) us) f k) states ∙ ap (λ xs. noted_all job xs (state_of book) k) (sym split),
    )
