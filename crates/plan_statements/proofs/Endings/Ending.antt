-- Containers that end, and ranges that come back: what the books know of the containers afterwards.
--
-- `AreEnded` says of each slot what becomes of it. Where containers stood and that is so, they stand afterwards.
use Rattle.std.proofs.Common.{◌≡◌, ℕ, zero, suc, ◌<◌, ◌≤◌, ⊎_elim, Bool, true, false, ne_eqb, ◌&&◌, ◌||◌, List, [], ◌∷◌, length, Option, Some, None, refl, sym, ap, subst, ◌∙◌, arith}
use Rattle.std.specs.Prelude.{nat_eq, nat_lt, slice_get, Vec}
use Rattle.std.specs.declared.alloc.Global.{Global}
use Rattle.std.proofs.lemmas.Bool.{and_parts, eqb-true}
use Rattle.job_base.specs.declared.Span.{Span}
use Rattle.frame_ast.specs.Conflicts.{Uses, has_pending}
use Rattle.frame_ast.specs.Jobs.{Book}
use Rattle.frame_ast.specs.States as states
use Rattle.frame_ast.specs.States.{ScriptState, is_live, live_words}
use Rattle.slot_store.specs.declared.place.Place.{Place}
use Rattle.slot_store.specs.declared.place.State.{State}
use Rattle.slot_store.specs.declared.place.State.TheVariants.{Free, Taken, Held}
use Rattle.slot_store.specs.declared.store.SlotStore.{SlotStore}
use Rattle.slot_store.specs.Places.{in_use, is_held, is_taken}
use Rattle.slot_store.specs.Stores.{place_of, places_of, live_words_of}
use Rattle.safety_handle.specs.declared.tag.Tag.{Tag}
use Rattle.safety_handle.specs.declared.book.SafetyBook.{SafetyBook}
use Rattle.safety_handle.specs.Entries.{SlotState, state_of}
use Rattle.safety_handle.specs.Checks.{is_current}
use Rattle.safety_handle.specs.Uses.{Latest, StandForUses}
use Rattle.frame_core.proofs.Small.{not_both, get_below, either_bool}
use Rattle.plan_state.specs.declared.state.Container.{Container}
use Rattle.plan_state.specs.declared.state.World.{World}
use Rattle.plan_state.specs.Stands.{tag_of, IsHeldFor, IsContainer, IsOwned, AreContainers}
use Rattle.plan_statements.proofs.Endings.Counting.{AreOwnedBy, words_are_counted_alike}

-- the state in which these containers are alive and these jobs completed, with other names, another frame and other lines
abbrev pub changed : ScriptState → (ℕ → Bool) → Book → ℕ → (ℕ → states.Value) → List ℕ → ScriptState
changed s alive book frame values lines = record s { alive = alive; book = book; frame = frame; values = values; lines = lines }

pub record AreEnded (p q : World) (s t : ScriptState) : Type 0 where
  -- no slot is used that wasn't, and versions rise
  pub used : (k : ℕ) → in_use (place_of q.store k).state ≡ true → in_use (place_of p.store k).state ≡ true
  pub rising : (k : ℕ) → (place_of p.store k).version ≤ (place_of q.store k).version
  pub low : (k : ℕ) → (place_of q.store k).version ≤ s.made
  pub current : (k : ℕ) (tag : Tag) → is_current (state_of p.safety k) tag ≡ false → is_current (state_of q.safety k) tag ≡ false
  -- of a container that stays
  pub stays : (c : ℕ) (it : Container) → slice_get p.containers.items c ≡ Some it → t.alive c ≡ true
      → (place_of q.store it.slot.0 ≡ place_of p.store it.slot.0) × (state_of q.safety it.slot.0 ≡ state_of p.safety it.slot.0)
  -- of one that ends now
  pub ended : (c : ℕ) (it : Container) → slice_get p.containers.items c ≡ Some it → s.alive c ≡ true → t.alive c ≡ false
      → (is_current (state_of q.safety it.slot.0) (tag_of it None) ≡ false)
      × ((place_of p.store it.slot.0).version < (place_of q.store it.slot.0).version)
  -- of one that ended, and whose range is held
  pub held : (c : ℕ) (it : Container) → slice_get p.containers.items c ≡ Some it → t.alive c ≡ false → is_live t c ≡ true
      → IsHeldFor t.book (place_of q.store it.slot.0).state (s.uses c)
      × ((place_of q.store it.slot.0).span ≡ (place_of p.store it.slot.0).span)
  -- of one whose range comes back now
  pub gone : (c : ℕ) (it : Container) → slice_get p.containers.items c ≡ Some it → is_live s c ≡ true → is_live t c ≡ false
      → in_use (place_of q.store it.slot.0).state ≡ false

held_used : (state : State) → is_held state ≡ true → in_use state ≡ true
held_used Free e = absurd (not_both e refl)
held_used Taken e = absurd (not_both e refl)
held_used (Held users) e = refl

pub alive_is_live : (s : ScriptState) (c : ℕ) → c < s.made → s.alive c ≡ true → is_live s c ≡ true
alive_is_live s c lt alive = (λ i. below i && (alive i || has_pending s.book (s.uses c)))
  where
    below : nat_lt c s.made ≡ true
    below = grind arith

pub live_below : (s : ScriptState) (c : ℕ) → is_live s c ≡ true → c < s.made
live_below s c e =
    let both = and_parts (nat_lt c s.made) (s.alive c || has_pending s.book (s.uses c)) e in
    let lt = both.0 in
    grind arith

module _ (p q : World) (s : ScriptState) (found : List ℕ) (alive : ℕ → Bool) (book : Book) (frame : ℕ) (values : ℕ → states.Value) (lines : List ℕ)
    (was : AreContainers p s found)
    (containers : q.containers ≡ p.containers)
    (names : length q.values.items ≡ length p.values.items)
    (falls : (c : ℕ) → c < s.made → alive c ≡ true → s.alive c ≡ true)
    (settles : (c : ℕ) → has_pending book (s.uses c) ≡ true → has_pending s.book (s.uses c) ≡ true)
    (keeps : (l : Latest) (u : Uses) → StandForUses s.book l u → StandForUses book l u)
    (e : AreEnded p q s (changed s alive book frame values lines)) where
  abbrev t : ScriptState
  t = changed s alive book frame values lines

  has_old : (c : ℕ) (it : Container) → slice_get q.containers.items c ≡ Some it → slice_get p.containers.items c ≡ Some it
  has_old c it h = ap (λ (v : Vec Container Global). slice_get v.items c) (sym containers) ∙ h

  below : (c : ℕ) (it : Container) → slice_get p.containers.items c ≡ Some it → c < s.made
  below c it h = let lt = get_below p.containers.items c it h in let m = was.made in omega arith

  live_falls : (c : ℕ) → is_live t c ≡ true → is_live s c ≡ true
  live_falls c e = live_in (live_below t c e) e
    where
      live_in : c < s.made → is_live t c ≡ true → is_live s c ≡ true
      live_in lt = by (nat_lt c s.made) (alive c) (s.alive c) (has_pending book (s.uses c)) (has_pending s.book (s.uses c)) (falls c lt) (settles c)
        where
          by : (b a a' h h' : Bool) → (a ≡ true → a' ≡ true) → (h ≡ true → h' ≡ true) → (b && (a || h)) ≡ true → (b && (a' || h')) ≡ true
          by false a a' h h' f g e = absurd (not_both e refl)
          by true true a' h h' f g e = (λ i. f refl i || h')
          by true false true h h' f g e = refl
          by true false false h h' f g e = g e

  module _ (c : ℕ) (it : Container) (has : slice_get p.containers.items c ≡ Some it) where
    k : IsContainer p s found c it
    k = was.each c it has

    was_alive : t.alive c ≡ true → s.alive c ≡ true
    was_alive a = falls c (below c it has) a

    -- the version of one that is alive
    version_is : s.alive c ≡ true → (place_of p.store it.slot.0).version ≡ it.version.0
    version_is a = eqb-true (place_of p.store it.slot.0).version it.version.0
        (and_parts (is_taken (place_of p.store it.slot.0).state) (nat_eq (place_of p.store it.slot.0).version it.version.0) (k.taken ∙ a)).1

    older : t.alive c ≡ false → it.version.0 < (place_of q.store it.slot.0).version
    older dead = ⊎_elim
        (λ a. let less = (e.ended c it has a dead).1 in let v = version_is a in omega arith)
        (λ d. let less = k.older d in let more = e.rising it.slot.0 in omega arith)
        (either_bool (s.alive c))

    by_alive : {A : Type 0} → (t.alive c ≡ true → A) → (t.alive c ≡ false → A) → A
    by_alive f g = ⊎_elim f g (either_bool (t.alive c))

    and_false : (b : Bool) → (b && false) ≡ false
    and_false true = refl
    and_false false = refl

    kept : IsContainer q t found c it
    kept = record {
      bind = k.bind;
      range = k.range;
      life = k.life;
      making = k.making;
      named = (let lt = k.named in let n = names in omega arith);
      alive = by_alive
          (λ a. ap (λ z. is_current z (tag_of it None)) (e.stays c it has a).1 ∙ k.alive ∙ was_alive a ∙ sym a)
          (λ d. ⊎_elim
          (λ a. (e.ended c it has a d).0 ∙ sym d)
          (λ was_dead. e.current it.slot.0 (tag_of it None) (k.alive ∙ was_dead) ∙ sym d)
          (either_bool (s.alive c)));
      uses = λ a. subst (λ (z : SlotState). StandForUses book z.latest (s.uses c)) (sym (e.stays c it has a).1)
          (keeps (state_of p.safety it.slot.0).latest (s.uses c) (k.uses (was_alive a)));
      view = λ a. ap (λ (z : SlotState). z.view) (e.stays c it has a).1 ∙ k.view (was_alive a);
      in_use = λ live. by_alive
          (λ a. ap (λ (z : Place). in_use z.state) (e.stays c it has a).0 ∙ k.in_use (live_falls c live))
          (λ d. held_used (place_of q.store it.slot.0).state (e.held c it has d live).0.held);
      span = λ live. by_alive
          (λ a. ap (λ (z : Place). z.span) (e.stays c it has a).0 ∙ k.span (live_falls c live))
          (λ d. (e.held c it has d live).1 ∙ k.span (live_falls c live));
      taken = by_alive
          (λ a. ap (λ (z : Place). is_taken z.state && nat_eq z.version it.version.0) (e.stays c it has a).0 ∙ k.taken ∙ was_alive a ∙ sym a)
          (λ d. (let less = older d in ap (λ b. is_taken (place_of q.store it.slot.0).state && b)
          (ne_eqb (place_of q.store it.slot.0).version it.version.0 (λ h. omega arith)))
          ∙ and_false (is_taken (place_of q.store it.slot.0).state) ∙ sym d);
      older = older;
      low = k.low;
      held = λ d live. (e.held c it has d live).0;
    }

  owned : (slot : ℕ) → in_use (place_of q.store slot).state ≡ true → IsOwned q t slot
  owned slot u =
      let o = was.slots slot (e.used slot u) in
      ⊎_elim
      (λ live. record {
        container = o.container;
        it = o.it;
        has = ap (λ (v : Vec Container Global). slice_get v.items o.container) containers ∙ o.has;
        slot_is = o.slot_is;
        live = live;
      })
      (λ dead. absurd (not_both u (ap (λ k. in_use (place_of q.store k).state) (sym o.slot_is) ∙ e.gone o.container o.it o.has o.live dead)))
      (either_bool (is_live t o.container))

  pub ended : AreContainers q t found
  ended = record {
    made = ap (λ (v : Vec Container Global). length v.items) containers ∙ was.made;
    each = λ c it h. kept c it (has_old c it h);
    slots = owned;
    once = λ c d i j hc hd lc ld same. was.once c d i j (has_old c i hc) (has_old d j hd) (live_falls c lc) (live_falls d ld) same;
    versions = e.low;
  }

-- ---- Nothing ended.
pub still : (p q : World) (s : ScriptState) (found : List ℕ) (alive : ℕ → Bool) (frame : ℕ) (values : ℕ → states.Value) (lines : List ℕ)
    → AreContainers p s found
    → q.containers ≡ p.containers
    → length q.values.items ≡ length p.values.items
    → q.store ≡ p.store
    → q.safety ≡ p.safety
    → ((c : ℕ) → c < s.made → alive c ≡ s.alive c)
    → AreContainers q (changed s alive s.book frame values lines) found
still p q s found alive frame values lines was containers names store safety same =
    ended p q s found alive s.book frame values lines was containers names (λ c lt a. sym (same c lt) ∙ a) (λ c h. h) (λ l u h. h) (record {
      used = λ k u. ap (λ (b : SlotStore). in_use (place_of b k).state) (sym store) ∙ u;
      rising = λ k. let v = ap (λ (b : SlotStore). (place_of b k).version) store in omega arith;
      low = λ k. let v = ap (λ (b : SlotStore). (place_of b k).version) store in let le = was.versions k in omega arith;
      current = λ k tag e. ap (λ (b : SafetyBook). is_current (state_of b k) tag) safety ∙ e;
      stays = λ c it has a. (ap (λ (b : SlotStore). place_of b it.slot.0) store, ap (λ (b : SafetyBook). state_of b it.slot.0) safety);
      ended = λ c it has a d. absurd (not_both a (sym (same c (below c it has)) ∙ d));
      held = λ c it has d live.
          let e = sym (same c (below c it has)) in
          let place = ap (λ (b : SlotStore). place_of b it.slot.0) (sym store) in (
            subst (λ (z : Place). IsHeldFor s.book z.state (s.uses c)) place
                ((was.each c it has).held (e ∙ d) (ap (λ a. nat_lt c s.made && (a || has_pending s.book (s.uses c))) e ∙ live)),
            ap (λ (z : Place). z.span) (sym place),
          );
      gone = λ c it has live dead.
          absurd (not_both live (ap (λ a. nat_lt c s.made && (a || has_pending s.book (s.uses c))) (sym (same c (below c it has))) ∙ dead));
    })
  where
    below : (c : ℕ) (it : Container) → slice_get p.containers.items c ≡ Some it → c < s.made
    below c it h = let lt = get_below p.containers.items c it h in let m = was.made in omega arith

-- ---- LIVE WORDS are counted alike by slots and by containers.

pub there : (xs : List Container) (c : ℕ) → c < length xs → (it : Container) × (slice_get xs c ≡ Some it)
there [] c lt = absurd (omega arith)
there (x ∷ xs) zero lt = (x, refl)
there (x ∷ xs) (suc c) lt = there xs c (omega arith)

abbrev slot_or : Option Container → ℕ
slot_or None = 0
slot_or (Some it) = it.slot.0

module _ (p : World) (s : ScriptState) (found : List ℕ) (is : AreContainers p s found) where
  abbrev slot : ℕ → ℕ
  slot c = slot_or (slice_get p.containers.items c)

  slot_is : (c : ℕ) (it : Container) → slice_get p.containers.items c ≡ Some it → slot c ≡ it.slot.0
  slot_is c it h = ap slot_or h

  pub one_of : (c : ℕ) → c < s.made → (it : Container) × (slice_get p.containers.items c ≡ Some it)
  one_of c lt = there p.containers.items c (let m = is.made in omega arith)

  owners : AreOwnedBy (places_of p.store) s slot
  owners = record {
    used = λ c lt live. let it = one_of c lt in ap (λ k. in_use (place_of p.store k).state) (slot_is c it.0 it.1) ∙ (is.each c it.0 it.1).in_use live;
    len = λ c lt live. let it = one_of c lt in ap (λ k. (place_of p.store k).span.len) (slot_is c it.0 it.1)
        ∙ ap (λ (z : Span). z.len) ((is.each c it.0 it.1).span live);
    once = λ c d lc ld live_c live_d same.
        let i = one_of c lc in
        let j = one_of d ld in
        is.once c d i.0 j.0 i.1 j.1 live_c live_d (sym (slot_is c i.0 i.1) ∙ same ∙ slot_is d j.0 j.1);
    owned = λ k used. let o = is.slots k used in (o.container, live_below s o.container o.live, o.live, slot_is o.container o.it o.has ∙ o.slot_is);
  }

  pub words_counted : live_words_of p.store ≡ live_words s
  words_counted = words_are_counted_alike (places_of p.store) s slot owners
