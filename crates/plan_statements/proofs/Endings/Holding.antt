-- A container ends, and its range is held until its users are completed.
use Rattle.std.proofs.Common.{◌≡◌, ◌≢◌, ℕ, ⊎_elim, Bool, true, false, cond, eq-eqb, ne_eqb, List, length, Some, None, refl, sym, ap, subst, ◌∙◌, arith}
use Rattle.std.specs.Prelude.{nat_eq, slice_get}
use Rattle.std.proofs.lemmas.Bool.{cases_eq}
use Rattle.frame_ast.specs.Laws.{AreUpTo, IsBook, AreUses}
use Rattle.frame_ast.specs.States as states
use Rattle.frame_ast.specs.States.{ScriptState, with_at, is_live}
use Rattle.job_handle.specs.Books.{StandsFor}
use Rattle.slot_store.specs.declared.place.Place.{Place}
use Rattle.slot_store.specs.declared.place.State.{State}
use Rattle.slot_store.specs.declared.place.State.TheVariants.{Free, Taken, Held}
use Rattle.slot_store.specs.Places.{in_use, is_taken, users_of}
use Rattle.slot_store.specs.Stores.{place_of, held}
use Rattle.safety_handle.specs.Entries.{state_of}
use Rattle.safety_handle.specs.Checks.{is_current}
use Rattle.frame_core.proofs.Small.{not_both, get_below}
use Rattle.plan_state.specs.declared.state.Container.{Container}
use Rattle.plan_state.specs.declared.state.World.{World}
use Rattle.plan_statements.specs.Endings.{IsHeldBack}
use Rattle.plan_state.specs.Stands.{tag_of, IsHeldFor, AreContainers}
use Rattle.plan_statements.proofs.Endings.Ending.{changed, alive_is_live, ended}
use Rattle.plan_statements.proofs.Endings.Giving.{at_other, fallen, taken0, version_low, other_slot, same_one, released, current}
use Rattle.plan_statements.proofs.Endings.Settling.{AreBetween, mid_users, are_ended}

taken_used : (state : State) → is_taken state ≡ true → in_use state ≡ true
taken_used Free e = absurd (not_both e refl)
taken_used Taken e = refl
taken_used (Held users) e = refl

-- ---- those for whom ranges are held are jobs of the book
module _ (p : World) (s : ScriptState) (found : List ℕ) (was : AreContainers p s found) (known : IsBook s.book)
    (uses : (c : ℕ) → AreUses s.book (s.uses c)) where
  as_it_is : AreBetween p p s (changed s s.alive s.book s.frame s.values s.lines) (place_of p.store)
  as_it_is = record {
    used = λ k u. u;
    rising = λ k. omega arith;
    low = was.versions;
    current = λ k tag e. e;
    stays = λ c it has a. (refl, refl);
    ended = λ c it has a d. absurd (not_both a d);
    held = λ c it has d live. ((was.each c it has).held d live, refl);
  }

  pub store_users : (k : ℕ) → AreUpTo s.book.count (users_of (place_of p.store k).state)
  store_users = mid_users p p s found s.alive s.book s.frame s.values s.lines was (λ c a. a) (λ c h. h) known uses (place_of p.store) as_it_is

-- ---- a container ends
module _ (p q : World) (s : ScriptState) (found : List ℕ) (c0 : ℕ) (was : AreContainers p s found) (alive0 : s.alive c0 ≡ true)
    (i : IsHeldBack p q c0) (jobs : StandsFor p.jobs s.book) (known : IsBook s.book) (uses : (c : ℕ) → AreUses s.book (s.uses c))
    (frame : ℕ) (values : ℕ → states.Value) (lines : List ℕ) where
  abbrev alive : ℕ → Bool
  alive = with_at s.alive c0 false

  abbrev t : ScriptState
  t = changed s alive s.book frame values lines

  abbrev slot0 : ℕ
  slot0 = i.it.slot.0

  abbrev mid : ℕ → Place
  mid k = cond (nat_eq k slot0) (held (place_of p.store slot0) i.users) (place_of p.store k)

  mid_here : mid slot0 ≡ held (place_of p.store slot0) i.users
  mid_here = ap (λ b. cond b (held (place_of p.store slot0) i.users) (place_of p.store slot0)) (eq-eqb slot0 slot0 refl)

  mid_other : (k : ℕ) → k ≢ slot0 → mid k ≡ place_of p.store k
  mid_other k ne = ap (λ b. cond b (held (place_of p.store slot0) i.users) (place_of p.store k)) (ne_eqb k slot0 ne)

  by_slot : {A : Type 0} (k : ℕ) → (k ≡ slot0 → A) → (k ≢ slot0 → A) → A
  by_slot k f g = ⊎_elim f g (cases_eq k slot0)

  for_users : IsHeldFor s.book (mid slot0).state (s.uses c0)
  for_users = subst (λ (z : Place). IsHeldFor s.book z.state (s.uses c0)) (sym mid_here) (record {
    held = refl;
    latest = (state_of p.safety slot0).latest;
    stands = (was.each c0 i.it i.has).uses alive0;
    users = λ j. ap (λ f. f j) i.users_are;
  })

  between : AreBetween p q s t mid
  between = record {
    used = λ k u. by_slot k
        (λ here. ap (λ n. in_use (place_of p.store n).state) here
        ∙ taken_used (place_of p.store slot0).state (taken0 p q s found c0 i.it was i.has alive0))
        (λ ne. ap (λ (z : Place). in_use z.state) (sym (mid_other k ne)) ∙ u);
    rising = λ k. by_slot k
        (λ here. let a = ap (λ n. (mid n).version) here ∙ ap (λ (z : Place). z.version) mid_here in let b = ap (λ n. (place_of p.store n).version) here in
        omega arith)
        (λ ne. let a = ap (λ (z : Place). z.version) (mid_other k ne) in omega arith);
    low = λ k. by_slot k
        (λ here. let a = ap (λ n. (mid n).version) here ∙ ap (λ (z : Place). z.version) mid_here in let le = version_low p q s found c0 i.it was i.has alive0 in
        omega arith)
        (λ ne. let a = ap (λ (z : Place). z.version) (mid_other k ne) in let le = was.versions k in omega arith);
    current = current p q s found c0 i.it was i.has alive0 i.released;
    stays = λ c it has a.
        let h = fallen s c0 c a in
        let ne = other_slot p q s found c0 i.it was i.has alive0 c it has (live_of c it has h.1) h.0 in
        (mid_other it.slot.0 ne, i.released.others it.slot.0 ne);
    ended = λ c it has a d.
        let same = ap (λ (z : Container). z.slot.0) (same_one p q s found c0 i.it was i.has alive0 c it has (only_it c a d)) in (
          ap (λ n. is_current (state_of q.safety n) (tag_of it None)) same ∙ released p q s found c0 i.it was i.has alive0 i.released (tag_of it None),
          (let v = ap (λ n. (mid n).version) same ∙ ap (λ (z : Place). z.version) mid_here in let w = ap (λ n. (place_of p.store n).version) same in
              omega arith),
        );
    held = λ c it has d live. ⊎_elim
        (λ e. let same = ap (λ (z : Container). z.slot.0) (same_one p q s found c0 i.it was i.has alive0 c it has e) in (
          subst (λ n. IsHeldFor s.book (mid n).state (s.uses c)) (sym same) (subst (λ k. IsHeldFor s.book (mid slot0).state (s.uses k)) (sym e) for_users),
          ap (λ n. (mid n).span) same ∙ ap (λ (z : Place). z.span) mid_here ∙ ap (λ n. (place_of p.store n).span) (sym same),
        ))
        (λ ne.
        let same = sym (mid_other it.slot.0 (other_slot p q s found c0 i.it was i.has alive0 c it has live ne)) in
        let h = (was.each c it has).held (sym (at_other s.alive c0 false c ne) ∙ d) live in
        (subst (λ (z : Place). IsHeldFor s.book z.state (s.uses c)) same h, ap (λ (z : Place). z.span) (sym same)))
        (cases_eq c c0);
  }
    where
      live_of : (c : ℕ) (it : Container) → slice_get p.containers.items c ≡ Some it → s.alive c ≡ true → is_live s c ≡ true
      live_of c it has a = alive_is_live s c (let lt = get_below p.containers.items c it has in let m = was.made in omega arith) a

      only_it : (c : ℕ) → s.alive c ≡ true → alive c ≡ false → c ≡ c0
      only_it c a d = ⊎_elim (λ e. e) (λ ne. absurd (not_both a (sym (at_other s.alive c0 false c ne) ∙ d))) (cases_eq c c0)

  pub held_stand : AreContainers q t found
  held_stand =
      ended p q s found alive s.book frame values lines was
      (ap (λ (k : World). k.containers) i.rest) (ap (λ (k : World). length k.values.items) i.rest)
      (λ c lt a. (fallen s c0 c a).1) (λ c h. h) (λ l u h. h)
      (are_ended p q s found alive s.book frame values lines was (λ c a. (fallen s c0 c a).1) (λ c h. h) known uses mid between (i.places s.book jobs))
