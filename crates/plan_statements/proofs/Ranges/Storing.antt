-- The words that are live in the store are those of the script's containers, wherever later ranges start.
use Rattle.std.proofs.Common.{◌≡◌, ℕ, zero, suc, ◌+◌, Bool, true, false, ◌&&◌, ◌||◌, List, Some, refl, sym, ap, ◌∙◌, arith}
use Rattle.std.specs.Prelude.{nat_le, nat_lt, slice_get}
use Rattle.job_base.specs.declared.Span.{Span}
use Rattle.frame_ast.specs.Contents.{words_of}
use Rattle.frame_ast.specs.Orders.{Setting}
use Rattle.frame_ast.specs.Ranges as ranges
use Rattle.frame_ast.specs.Ranges.{Starts, live_word_below}
use Rattle.frame_ast.specs.States.{ScriptState, is_live}
use Rattle.slot_store.specs.Places.{in_use}
use Rattle.slot_store.specs.Spaces as spaces
use Rattle.slot_store.specs.Stores.{place_of, places_of, is_live_word}
use Rattle.slot_store.proofs.Placing.{live_at, at_live}
use Rattle.frame_core.proofs.Small.{not_both}
use Rattle.plan_state.specs.declared.state.Container.{Container}
use Rattle.plan_state.specs.declared.state.Planner.{Planner}
use Rattle.plan_state.specs.Growth.{StartAs}
use Rattle.plan_state.specs.Stands.{Stands}
use Rattle.plan_laws.proofs.Statements.Making.{word_is_live, live_below}
use Rattle.plan_state.proofs.Accessing.{there}

same_bool : (a b : Bool) → (a ≡ true → b ≡ true) → (b ≡ true → a ≡ true) → a ≡ b
same_bool true b f g = sym (f refl)
same_bool false true f g = g refl
same_bool false false f g = refl

and_both : (a b : Bool) → (a && b) ≡ true → (a ≡ true) × (b ≡ true)
and_both true b e = (refl, e)
and_both false b e = absurd (not_both e refl)

-- who has a live word
below_word : (starts : Starts) (s : ScriptState) (n w : ℕ) → live_word_below starts s n w ≡ true
    → (c : ℕ) × (is_live s c ≡ true) × (ranges.has_word starts s c w ≡ true)
below_word starts s zero w e = absurd (not_both e refl)
below_word starts s (suc n) w e = by (is_live s n && ranges.has_word starts s n w) refl (below_word starts s n w) e
  where
    by : (b : Bool) → (is_live s n && ranges.has_word starts s n w) ≡ b →
        (live_word_below starts s n w ≡ true → (c : ℕ) × (is_live s c ≡ true) × (ranges.has_word starts s c w ≡ true))
        → (b || live_word_below starts s n w) ≡ true
        → (c : ℕ) × (is_live s c ≡ true) × (ranges.has_word starts s c w ≡ true)
    by true h more e = let b = and_both (is_live s n) (ranges.has_word starts s n w) h in (n, b.0, b.1)
    by false h more e = more e

module _ (p : Planner) (g : Setting) (begun : ScriptState) (n : ℕ) (s : ScriptState) (found : List ℕ) (starts : Starts)
    (st : Stands p g begun n s found) (same : StartAs starts found) where
  -- the words of a live container, by its slot
  words_alike : (c : ℕ) (it : Container) → slice_get p.world.containers.items c ≡ Some it → is_live s c ≡ true → (w : ℕ)
      → spaces.has_word (place_of p.world.store it.slot.0).span w ≡ ranges.has_word starts s c w
  words_alike c it has live w =
      let k = st.knows.containers.each c it has in
      ap (λ (span : Span). spaces.has_word span w) (k.span live)
      ∙ ap (λ n. nat_le n w && nat_lt w (n + words_of (s.contents c))) (sym (same (s.range c) (let lt = k.range in let t = st.knows.takes in omega arith)))

  alike : (w : ℕ) → is_live_word p.world.store w ≡ ranges.is_live_word starts s w
  alike w = same_bool (is_live_word p.world.store w) (ranges.is_live_word starts s w) forth back
    where
      forth : is_live_word p.world.store w ≡ true → ranges.is_live_word starts s w ≡ true
      forth e =
          let at = at_live (places_of p.world.store) w e in
          let b = and_both (in_use (place_of p.world.store at.0).state) (spaces.has_word (place_of p.world.store at.0).span w) at.1 in
          let o = st.knows.containers.slots at.0 b.0 in
          word_is_live starts s s.made o.container w (live_below s o.container o.live) o.live
          (sym (words_alike o.container o.it o.has o.live w) ∙ ap (λ k. spaces.has_word (place_of p.world.store k).span w) o.slot_is ∙ b.1)

      back : ranges.is_live_word starts s w ≡ true → is_live_word p.world.store w ≡ true
      back e =
          let c = below_word starts s s.made w e in
          let it = there p.world.containers.items c.0 (let lt = live_below s c.0 c.1 in let m = st.knows.containers.made in omega arith) in
          let used = (st.knows.containers.each c.0 it.0 it.1).in_use c.1 in
          live_at (places_of p.world.store) it.0.slot.0 w (λ i. used i && (words_alike c.0 it.0 it.1 c.1 w ∙ c.2) i)

pub live_words_are_alike : (p : Planner) (g : Setting) (begun : ScriptState) (n : ℕ) (s : ScriptState) (found : List ℕ) (starts : Starts)
    → Stands p g begun n s found → StartAs starts found → (w : ℕ) → is_live_word p.world.store w ≡ ranges.is_live_word starts s w
live_words_are_alike p g begun n s found starts st same w = alike p g begun n s found starts st same w
