-- Ranges that were held come back once their users are completed.
use Rattle.std.proofs.Common.{◌≡◌, ℕ, ◌<◌, ◌≤◌, ◌⊎◌, inl, inr, ⊎_elim, Bool, true, false, cond, ◌&&◌, ◌||◌, not, List, Some, None, refl, sym, ap, subst, ◌∙◌, arith}
use Rattle.std.specs.Prelude.{nat_eq, nat_lt, slice_get}
use Rattle.std.proofs.lemmas.Bool.{and_parts, eqb-true}
use Rattle.frame_ast.specs.Conflicts.{Uses, has_pending}
use Rattle.frame_ast.specs.Jobs.{Jobs, Book, greatest}
use Rattle.frame_ast.specs.Laws.{AreUpTo, IsBook, AreUses}
use Rattle.frame_ast.specs.States as states
use Rattle.frame_ast.specs.States.{ScriptState, is_live}
use Rattle.frame_ast.proofs.Ancestry.{greatest_in}
use Rattle.slot_store.specs.declared.place.Place.{Place}
use Rattle.slot_store.specs.declared.place.State.{State}
use Rattle.slot_store.specs.declared.place.State.TheVariants.{Free, Taken, Held}
use Rattle.slot_store.specs.Places.{in_use, is_held, is_taken, users_of}
use Rattle.slot_store.specs.Stores.{place_of, is_pending, freed, settled}
use Rattle.safety_handle.specs.Uses.{Latest, StandForUses, users_of as latest_users}
use Rattle.safety_handle.proofs.Latest.{users_suffice}
use Rattle.safety_handle.specs.declared.tag.Tag.{Tag}
use Rattle.safety_handle.specs.Entries.{state_of}
use Rattle.safety_handle.specs.Checks.{is_current}
use Rattle.frame_core.proofs.Small.{not_both, get_below, either_bool}
use Rattle.plan_laws.proofs.Statements.Completing.{any_true, none_any}
use Rattle.plan_state.specs.declared.state.Container.{Container}
use Rattle.plan_state.specs.declared.state.World.{World}
use Rattle.plan_state.specs.Stands.{tag_of, IsHeldFor, AreContainers}
use Rattle.plan_statements.proofs.Endings.Ending.{changed, AreEnded}

-- ---- jobs that aren't completed

pub none_pending : (b : Book) (users : Jobs) → AreUpTo b.count users → is_pending b users ≡ false → (j : ℕ) → users j ≡ true → b.completed j ≡ true
none_pending b users up e j u =
    let range = up j u in
    ends (users j) (b.completed j) u (none_any (λ j. users j && not (b.completed j)) b.count e j range.0 range.1)
  where
    ends : (a c : Bool) → a ≡ true → (a && not c) ≡ false → c ≡ true
    ends a true e f = refl
    ends true false e f = absurd (not_both refl f)
    ends false false e f = absurd (not_both e refl)

pub all_done : (b : Book) (users : Jobs) → ((j : ℕ) → users j ≡ true → b.completed j ≡ true) → is_pending b users ≡ false
all_done b users done = ⊎_elim
    (λ e.
    let set : Jobs = λ j. users j && not (b.completed j) in
    let at = greatest_in set b.count (any_true set b.count e) in
    absurd (not_done (users (greatest set b.count)) (b.completed (greatest set b.count)) (done (greatest set b.count)) at))
    (λ e. e)
    (either_bool (is_pending b users))
  where
    not_done : (a c : Bool) → (a ≡ true → c ≡ true) → (a && not c) ≡ true → ⊥
    not_done true true f e = not_both e refl
    not_done true false f e = not_both (f refl) refl
    not_done false c f e = not_both e refl

-- the last writer and the readers since are users
pub latest_are_users : (b : Book) (l : Latest) (u : Uses) → AreUses b u → StandForUses b l u → (j : ℕ) → latest_users l j ≡ true → u.users j ≡ true
latest_are_users b l u known stands j e =
    let both = and_parts (nat_lt 0 j) (nat_eq j l.writer || l.readers j) e in
    by (nat_eq j l.writer) refl both.1
  where
    by : (c : Bool) → nat_eq j l.writer ≡ c → (c || l.readers j) ≡ true → u.users j ≡ true
    by true is h =
        let at = eqb-true j l.writer is in
        let pos = (and_parts (nat_lt 0 j) (nat_eq j l.writer || l.readers j) e).0 in
        let some : 0 < j = grind arith in
        let writer = stands.writer in
        let in_set = greatest_in u.writers b.count (omega arith) in
        known.writers j (subst (λ k. u.writers k ≡ true) (sym (at ∙ writer)) in_set)
    by false is h = (and_parts (u.users j) (nat_lt l.writer j) (sym (stands.readers j) ∙ h)).0

-- A range that is held is pending exactly as long as some user is.
module _ (b : Book) (known : IsBook b) (state : State) (u : Uses) (uses : AreUses b u) (h : IsHeldFor b state u) where
  held_users : (j : ℕ) → users_of state j ≡ true → u.users j ≡ true
  held_users j e = latest_are_users b h.latest u uses h.stands j (sym (h.users j) ∙ e)

  pub held_up_to : AreUpTo b.count (users_of state)
  held_up_to j e = uses.users j (held_users j e)

  pub ends_pending : has_pending b u ≡ false → is_pending b (users_of state) ≡ false
  ends_pending e = all_done b (users_of state) (λ j at. none_pending b u.users uses.users e j (held_users j at))

  pub stays_pending : has_pending b u ≡ true → is_pending b (users_of state) ≡ true
  stays_pending e = ⊎_elim (λ p. p)
      (λ none. absurd (not_both e (all_done b u.users
      (users_suffice b h.latest u known uses h.stands (λ j at. none_pending b (users_of state) held_up_to none j (h.users j ∙ at))))))
      (either_bool (is_pending b (users_of state)))

-- ---- what becomes of a place

by_test : (b : Book) (p : Place) (c : Bool) → (is_held p.state && not (is_pending b (users_of p.state))) ≡ c → settled b p ≡ cond c (freed p) p
by_test b p c e = ap (λ c. cond c (freed p) p) e

pub not_held_stays : (b : Book) (p : Place) → is_held p.state ≡ false → settled b p ≡ p
not_held_stays b p e = by_test b p false (ap (λ c. c && not (is_pending b (users_of p.state))) e)

pub pending_stays : (b : Book) (p : Place) → is_pending b (users_of p.state) ≡ true → settled b p ≡ p
pending_stays b p e = by_test b p false (ap (λ c. is_held p.state && not c) e ∙ and_false (is_held p.state))
  where
    and_false : (b : Bool) → (b && false) ≡ false
    and_false true = refl
    and_false false = refl

pub done_goes : (b : Book) (p : Place) → is_held p.state ≡ true → is_pending b (users_of p.state) ≡ false → settled b p ≡ freed p
done_goes b p h e = by_test b p true (λ i. h i && not (e i))

either_place : (b : Book) (p : Place) → (settled b p ≡ p) ⊎ (settled b p ≡ freed p)
either_place b p = ⊎_elim (λ e. inr (by_test b p true e)) (λ e. inl (by_test b p false e))
    (either_bool (is_held p.state && not (is_pending b (users_of p.state))))

pub settled_version : (b : Book) (p : Place) → (settled b p).version ≡ p.version
settled_version b p = ⊎_elim (λ e. ap (λ (z : Place). z.version) e) (λ e. ap (λ (z : Place). z.version) e) (either_place b p)

pub settled_used : (b : Book) (p : Place) → in_use (settled b p).state ≡ true → in_use p.state ≡ true
settled_used b p u = ⊎_elim (λ e. ap (λ (z : Place). in_use z.state) (sym e) ∙ u) (λ e. absurd (not_both u (ap (λ (z : Place). in_use z.state) e)))
    (either_place b p)

pub taken_not_held : (state : State) → is_taken state ≡ true → is_held state ≡ false
taken_not_held Free e = absurd (not_both e refl)
taken_not_held Taken e = refl
taken_not_held (Held users) e = absurd (not_both e refl)

pub free_users : (state : State) → in_use state ≡ false → (j : ℕ) → users_of state j ≡ false
free_users Free e j = refl
free_users Taken e j = absurd (not_both refl e)
free_users (Held users) e j = absurd (not_both refl e)

pub taken_users : (state : State) → is_taken state ≡ true → (j : ℕ) → users_of state j ≡ false
taken_users Free e j = refl
taken_users Taken e j = refl
taken_users (Held users) e j = absurd (not_both e refl)

-- ---- A store in which ranges are held, and what is settled after it

pub record AreBetween (p q : World) (s t : ScriptState) (mid : ℕ → Place) : Type 0 where
  pub used : (k : ℕ) → in_use (mid k).state ≡ true → in_use (place_of p.store k).state ≡ true
  pub rising : (k : ℕ) → (place_of p.store k).version ≤ (mid k).version
  pub low : (k : ℕ) → (mid k).version ≤ s.made
  pub current : (k : ℕ) (tag : Tag) → is_current (state_of p.safety k) tag ≡ false → is_current (state_of q.safety k) tag ≡ false
  pub stays : (c : ℕ) (it : Container) → slice_get p.containers.items c ≡ Some it → t.alive c ≡ true
      → (mid it.slot.0 ≡ place_of p.store it.slot.0) × (state_of q.safety it.slot.0 ≡ state_of p.safety it.slot.0)
  pub ended : (c : ℕ) (it : Container) → slice_get p.containers.items c ≡ Some it → s.alive c ≡ true → t.alive c ≡ false
      → (is_current (state_of q.safety it.slot.0) (tag_of it None) ≡ false) × ((place_of p.store it.slot.0).version < (mid it.slot.0).version)
  pub held : (c : ℕ) (it : Container) → slice_get p.containers.items c ≡ Some it → t.alive c ≡ false → is_live s c ≡ true
      → IsHeldFor t.book (mid it.slot.0).state (s.uses c) × ((mid it.slot.0).span ≡ (place_of p.store it.slot.0).span)

module _ (p q : World) (s : ScriptState) (found : List ℕ) (alive : ℕ → Bool) (book : Book) (frame : ℕ) (values : ℕ → states.Value) (lines : List ℕ)
    (was : AreContainers p s found)
    (falls : (c : ℕ) → alive c ≡ true → s.alive c ≡ true)
    (settles : (c : ℕ) → has_pending book (s.uses c) ≡ true → has_pending s.book (s.uses c) ≡ true)
    (known : IsBook book) (uses : (c : ℕ) → AreUses book (s.uses c))
    (mid : ℕ → Place)
    (e : AreBetween p q s (changed s alive book frame values lines) mid) where
  abbrev t : ScriptState
  t = changed s alive book frame values lines

  module _ (c : ℕ) (it : Container) (has : slice_get p.containers.items c ≡ Some it) where
    taken_is : t.alive c ≡ true → is_taken (mid it.slot.0).state ≡ true
    taken_is a = ap (λ (z : Place). is_taken z.state) (e.stays c it has a).0
        ∙ (and_parts (is_taken (place_of p.store it.slot.0).state) (nat_eq (place_of p.store it.slot.0).version it.version.0)
        ((was.each c it has).taken ∙ falls c a)).0

    below : nat_lt c s.made ≡ true
    below = (let lt = get_below p.containers.items c it has in let m = was.made in let less : c < s.made = omega arith in grind arith)

    live_pending : t.alive c ≡ false → is_live t c ≡ has_pending book (s.uses c)
    live_pending d = (λ i. below i && (d i || has_pending book (s.uses c)))

  -- what the store's own premise asks
  pub mid_users : (k : ℕ) → AreUpTo book.count (users_of (mid k).state)
  mid_users k = ⊎_elim
      (λ u. let o = was.slots k (e.used k u) in
      ⊎_elim
      (λ a j h. absurd (not_both h (taken_users (mid k).state (subst (λ n. is_taken (mid n).state ≡ true) o.slot_is (taken_is o.container o.it o.has a)) j)))
      (λ d. subst (λ n. AreUpTo book.count (users_of (mid n).state)) o.slot_is
      (held_up_to book known (mid o.it.slot.0).state (s.uses o.container) (uses o.container) (e.held o.container o.it o.has d o.live).0))
      (either_bool (alive o.container)))
      (λ free j h. absurd (not_both h (free_users (mid k).state free j)))
      (either_bool (in_use (mid k).state))

  module _ (after : (k : ℕ) → place_of q.store k ≡ settled book (mid k)) where
    held_stays : (c : ℕ) (it : Container) → slice_get p.containers.items c ≡ Some it → t.alive c ≡ false → is_live s c ≡ true → is_live t c ≡ true
        → place_of q.store it.slot.0 ≡ mid it.slot.0
    held_stays c it has d live_s live =
        after it.slot.0 ∙ pending_stays book (mid it.slot.0)
        (stays_pending book known (mid it.slot.0).state (s.uses c) (uses c) (e.held c it has d live_s).0 (sym (live_pending c it has d) ∙ live))

    was_live : (c : ℕ) → is_live t c ≡ true → is_live s c ≡ true
    was_live c = by (nat_lt c s.made) (alive c) (s.alive c) (has_pending book (s.uses c)) (has_pending s.book (s.uses c)) (falls c) (settles c)
      where
        by : (b a a' h h' : Bool) → (a ≡ true → a' ≡ true) → (h ≡ true → h' ≡ true) → (b && (a || h)) ≡ true → (b && (a' || h')) ≡ true
        by false a a' h h' f g e = absurd (not_both e refl)
        by true true a' h h' f g e = (λ i. f refl i || h')
        by true false true h h' f g e = refl
        by true false false h h' f g e = g e

    pub are_ended : AreEnded p q s t
    are_ended = record {
      used = λ k u. e.used k (settled_used book (mid k) (ap (λ (z : Place). in_use z.state) (sym (after k)) ∙ u));
      rising = λ k. let v = ap (λ (z : Place). z.version) (after k) ∙ settled_version book (mid k) in let le = e.rising k in omega arith;
      low = λ k. let v = ap (λ (z : Place). z.version) (after k) ∙ settled_version book (mid k) in let le = e.low k in omega arith;
      current = e.current;
      stays = λ c it has a. let h = e.stays c it has a in
          (after it.slot.0 ∙ not_held_stays book (mid it.slot.0) (taken_not_held (mid it.slot.0).state (taken_is c it has a)) ∙ h.0, h.1);
      ended = λ c it has a d. let h = e.ended c it has a d in
          (h.0, (let v = ap (λ (z : Place). z.version) (after it.slot.0) ∙ settled_version book (mid it.slot.0) in let lt = h.1 in omega arith));
      held = λ c it has d live.
          let before = was_live c live in
          let same = sym (held_stays c it has d before live) in
          let h = e.held c it has d before in
          (subst (λ (z : Place). IsHeldFor book z.state (s.uses c)) same h.0, ap (λ (z : Place). z.span) (sym same) ∙ h.1);
      gone = λ c it has live dead.
          let d = not_alive c it has dead in
          let h = e.held c it has d live in
          ap (λ (z : Place). in_use z.state)
          (after it.slot.0 ∙ done_goes book (mid it.slot.0) h.0.held
          (ends_pending book known (mid it.slot.0).state (s.uses c) (uses c) h.0 (sym (live_pending c it has d) ∙ dead)));
    }
      where
        not_alive : (c : ℕ) (it : Container) → slice_get p.containers.items c ≡ Some it → is_live t c ≡ false → alive c ≡ false
        not_alive c it has dead = ⊎_elim
            (λ a. absurd (not_both (λ i. below c it has i && (a i || has_pending book (s.uses c))) dead))
            (λ d. d)
            (either_bool (alive c))
