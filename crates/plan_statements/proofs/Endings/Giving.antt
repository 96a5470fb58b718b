-- A container ends whose users are all completed, and its words come back at once.
use Rattle.std.proofs.Common.{◌≡◌, ◌≢◌, ℕ, suc, ◌<◌, ◌≤◌, ⊎_elim, Bool, true, false, cond, eq-eqb, ne_eqb, ◌&&◌, ◌||◌, List, Some, None, refl, sym, ap, subst, ◌∙◌, arith}
use Rattle.std.specs.Prelude.{nat_eq, nat_lt, slice_get}
use Rattle.std.proofs.lemmas.Bool.{and_parts, cases_eq, eqb-true}
use Rattle.frame_ast.specs.Conflicts.{has_pending}
use Rattle.frame_ast.specs.States as states
use Rattle.frame_ast.specs.States.{ScriptState, with_at, is_live}
use Rattle.slot_store.specs.declared.place.Place.{Place}
use Rattle.slot_store.specs.Places.{in_use, is_taken}
use Rattle.slot_store.specs.Stores.{place_of, given}
use Rattle.safety_handle.specs.declared.tag.Tag.{Tag}
use Rattle.safety_handle.specs.Entries.{SlotState, state_of}
use Rattle.safety_handle.specs.Checks.{is_current}
use Rattle.frame_core.proofs.Small.{not_both, some_is, get_below}
use Rattle.plan_state.specs.declared.state.Container.{Container}
use Rattle.plan_state.specs.declared.state.World.{World}
use Rattle.plan_statements.specs.Endings.{IsReleased, IsGiven}
use Rattle.plan_state.specs.Stands.{tag_of, IsHeldFor, IsContainer, AreContainers}
use Rattle.plan_statements.proofs.Endings.Ending.{changed, alive_is_live, AreEnded, ended}

-- ---- a table by numbers, with one place changed

pub at_here : {A : Type 0} (table : ℕ → A) (n : ℕ) (x : A) → with_at table n x n ≡ x
at_here table n x = ap (λ b. cond b x (table n)) (eq-eqb n n refl)

pub at_other : {A : Type 0} (table : ℕ → A) (n : ℕ) (x : A) (k : ℕ) → k ≢ n → with_at table n x k ≡ table k
at_other table n x k ne = ap (λ b. cond b x (table k)) (ne_eqb k n ne)

-- ---- one container of those that there are ends

pub fallen : (s : ScriptState) (c0 c : ℕ) → with_at s.alive c0 false c ≡ true → (c ≢ c0) × (s.alive c ≡ true)
fallen s c0 c e = ⊎_elim
    (λ here. absurd (not_both e (ap (with_at s.alive c0 false) here ∙ at_here s.alive c0 false)))
    (λ ne. (ne, sym (at_other s.alive c0 false c ne) ∙ e))
    (cases_eq c c0)

module _ (p q : World) (s : ScriptState) (found : List ℕ) (c0 : ℕ) (it0 : Container)
    (was : AreContainers p s found) (has0 : slice_get p.containers.items c0 ≡ Some it0) (alive0 : s.alive c0 ≡ true) where
  below0 : c0 < s.made
  below0 = let lt = get_below p.containers.items c0 it0 has0 in let m = was.made in omega arith

  live0 : is_live s c0 ≡ true
  live0 = alive_is_live s c0 below0 alive0

  k0 : IsContainer p s found c0 it0
  k0 = was.each c0 it0 has0

  pub taken0 : is_taken (place_of p.store it0.slot.0).state ≡ true
  taken0 = (and_parts (is_taken (place_of p.store it0.slot.0).state) (nat_eq (place_of p.store it0.slot.0).version it0.version.0) (k0.taken
      ∙ alive0)).0

  pub version0 : (place_of p.store it0.slot.0).version ≡ it0.version.0
  version0 = eqb-true (place_of p.store it0.slot.0).version it0.version.0
      (and_parts (is_taken (place_of p.store it0.slot.0).state) (nat_eq (place_of p.store it0.slot.0).version it0.version.0) (k0.taken ∙ alive0)).1

  pub version_low : suc (place_of p.store it0.slot.0).version ≤ s.made
  version_low = let v = version0 in let le = k0.low in let lt = below0 in omega arith

  -- another live container has another slot
  pub other_slot : (c : ℕ) (it : Container) → slice_get p.containers.items c ≡ Some it → is_live s c ≡ true → c ≢ c0 → it.slot.0 ≢ it0.slot.0
  other_slot c it has live ne same = ne (was.once c c0 it it0 has has0 live live0 same)

  pub same_one : (c : ℕ) (it : Container) → slice_get p.containers.items c ≡ Some it → c ≡ c0 → it ≡ it0
  same_one c it has e = some_is (sym has ∙ ap (slice_get p.containers.items) e ∙ has0)

  module _ (r : IsReleased p q it0.slot.0) where
    not_live : (z : SlotState) (tag : Tag) → is_current (record z { live = false }) tag ≡ false
    not_live z tag = refl

    pub released : (tag : Tag) → is_current (state_of q.safety it0.slot.0) tag ≡ false
    released tag = ap (λ z. is_current z tag) r.here

    pub current : (k : ℕ) (tag : Tag) → is_current (state_of p.safety k) tag ≡ false → is_current (state_of q.safety k) tag ≡ false
    current k tag e = ⊎_elim
        (λ here. ap (λ n. is_current (state_of q.safety n) tag) here ∙ released tag)
        (λ ne. ap (λ z. is_current z tag) (r.others k ne) ∙ e)
        (cases_eq k it0.slot.0)

-- ---- its words come back at once

module _ (p q : World) (s : ScriptState) (found : List ℕ) (c0 : ℕ) (was : AreContainers p s found) (alive0 : s.alive c0 ≡ true)
    (i : IsGiven p q c0) (done : has_pending s.book (s.uses c0) ≡ false) (frame : ℕ) (values : ℕ → states.Value) (lines : List ℕ) where
  abbrev alive : ℕ → Bool
  alive = with_at s.alive c0 false

  abbrev t : ScriptState
  t = changed s alive s.book frame values lines

  abbrev slot0 : ℕ
  slot0 = i.it.slot.0

  dead0 : alive c0 ≡ false
  dead0 = at_here s.alive c0 false

  gone0 : is_live t c0 ≡ false
  gone0 = (λ j. nat_lt c0 s.made && (dead0 j || done j)) ∙ and_false (nat_lt c0 s.made)
    where
      and_false : (b : Bool) → (b && false) ≡ false
      and_false true = refl
      and_false false = refl

  live_same : (c : ℕ) → c ≢ c0 → is_live t c ≡ is_live s c
  live_same c ne = ap (λ a. nat_lt c s.made && (a || has_pending s.book (s.uses c))) (at_other s.alive c0 false c ne)

  place_here : place_of q.store slot0 ≡ given (place_of p.store slot0)
  place_here = i.places slot0 ∙ ap (λ b. cond b (given (place_of p.store slot0)) (place_of p.store slot0)) (eq-eqb slot0 slot0 refl)

  place_other : (k : ℕ) → k ≢ slot0 → place_of q.store k ≡ place_of p.store k
  place_other k ne = i.places k ∙ ap (λ b. cond b (given (place_of p.store slot0)) (place_of p.store k)) (ne_eqb k slot0 ne)

  by_slot : {A : Type 0} (k : ℕ) → (k ≡ slot0 → A) → (k ≢ slot0 → A) → A
  by_slot k f g = ⊎_elim f g (cases_eq k slot0)

  are_ended : AreEnded p q s t
  are_ended = record {
    used = λ k u. by_slot k
        (λ here. absurd (not_both u (ap (λ n. in_use (place_of q.store n).state) here ∙ ap (λ (z : Place). in_use z.state) place_here)))
        (λ ne. ap (λ (z : Place). in_use z.state) (sym (place_other k ne)) ∙ u);
    rising = λ k. by_slot k
        (λ here. let a = ap (λ n. (place_of q.store n).version) here ∙ ap (λ (z : Place). z.version) place_here in
        let b = ap (λ n. (place_of p.store n).version) here in omega arith)
        (λ ne. let a = ap (λ (z : Place). z.version) (place_other k ne) in omega arith);
    low = λ k. by_slot k
        (λ here. let a = ap (λ n. (place_of q.store n).version) here ∙ ap (λ (z : Place). z.version) place_here in
        let le = version_low p q s found c0 i.it was i.has alive0 in omega arith)
        (λ ne. let a = ap (λ (z : Place). z.version) (place_other k ne) in let le = was.versions k in omega arith);
    current = current p q s found c0 i.it was i.has alive0 i.released;
    stays = λ c it has a.
        let h = fallen s c0 c a in
        let ne = other_slot p q s found c0 i.it was i.has alive0 c it has (live_of c it has h.1) h.0 in
        (place_other it.slot.0 ne, i.released.others it.slot.0 ne);
    ended = λ c it has a d.
        let e = only_it c a d in
        let same = ap (λ (z : Container). z.slot.0) (same_one p q s found c0 i.it was i.has alive0 c it has e) in (
          ap (λ n. is_current (state_of q.safety n) (tag_of it None)) same ∙ released p q s found c0 i.it was i.has alive0 i.released (tag_of it None),
          (let v = ap (λ n. (place_of q.store n).version) same ∙ ap (λ (z : Place). z.version) place_here in
              let w = ap (λ n. (place_of p.store n).version) same in omega arith),
        );
    held = λ c it has d live.
        let ne_c = not_it c live in
        let before = sym (live_same c ne_c) ∙ live in
        let same = sym (place_other it.slot.0 (other_slot p q s found c0 i.it was i.has alive0 c it has before ne_c)) in
        let h = (was.each c it has).held (sym (at_other s.alive c0 false c ne_c) ∙ d) before in
        (subst (λ (z : Place). IsHeldFor s.book z.state (s.uses c)) same h, ap (λ (z : Place). z.span) (sym same));
    gone = λ c it has live dead.
        let e = ended_one c live dead in
        let same = ap (λ (z : Container). z.slot.0) (same_one p q s found c0 i.it was i.has alive0 c it has e) in
        ap (λ n. in_use (place_of q.store n).state) same ∙ ap (λ (z : Place). in_use z.state) place_here;
  }
    where
      live_of : (c : ℕ) (it : Container) → slice_get p.containers.items c ≡ Some it → s.alive c ≡ true → is_live s c ≡ true
      live_of c it has a = alive_is_live s c (let lt = get_below p.containers.items c it has in let m = was.made in omega arith) a

      only_it : (c : ℕ) → s.alive c ≡ true → alive c ≡ false → c ≡ c0
      only_it c a d = ⊎_elim (λ e. e) (λ ne. absurd (not_both a (sym (at_other s.alive c0 false c ne) ∙ d))) (cases_eq c c0)

      not_it : (c : ℕ) → is_live t c ≡ true → c ≢ c0
      not_it c live e = not_both live (ap (is_live t) e ∙ gone0)

      ended_one : (c : ℕ) → is_live s c ≡ true → is_live t c ≡ false → c ≡ c0
      ended_one c live dead = ⊎_elim (λ e. e) (λ ne. absurd (not_both live (sym (live_same c ne) ∙ dead))) (cases_eq c c0)

  pub given_stand : AreContainers q t found
  given_stand =
      ended p q s found alive s.book frame values lines was
      (ap (λ (k : World). k.containers) i.rest) (ap (λ (k : World). Rattle.std.specs.Prelude.length k.values.items) i.rest)
      (λ c lt a. (fallen s c0 c a).1) (λ c h. h) (λ l u h. h) are_ended
