-- The words of a map as a table: from cells to tables and back, and what a search finds.
use Rattle.std.proofs.Common.{◌≡◌, ℕ, ℤ, pos, ◌^◌, ◌<◌, ◌≤◌, ◌≢◌, true, false, cond, not, ◌||◌, Option, Some, None, is_some, List, length, refl, sym, ap, ◌∙◌, arith, inl, inr, ◌⊎◌, int_lt, nat_lt}
use Rattle.std.specs.Prelude.{IsTrue}
use Rattle.std.specs.Ordering.{int_eq, int_cmp}
use Rattle.std.specs.FinMap.Entries.{is_sorted}
use Rattle.std.proofs.lemmas.Bool.{cases_Bool, true≢false}
use Rattle.std.proofs.lemmas.Bool.Decides.{Decides-int_eq}
use Rattle.frame_ast.specs.Contents.{value_of_key, has_key, present_value}
use Rattle.native_map.specs.declared.MapAt.{MapAt}
use Rattle.native_map.specs.declared.search.Spot.TheVariants.{Held, Free}
use Rattle.native_map.specs.Table.{places, flag_word, distance, home, holds, key_at, value_at, stops, place_of, spot_in, value_in, value_of, held_count, end_of}
use Rattle.native_map.specs.Words.{is_full, get_words, has_words}
use Rattle.native_map.specs.Layout.{HoldsPairs}
use Rattle.native_map.proofs.Ints.{same_int, other_int}
use Rattle.native_map.proofs.Probing.{Ends, probe_ends, probe_to, probe_some, distance_below, and_below}
use Rattle.native_map.proofs.Tables.{some_free, IsTable, Gives}
use Rattle.native_map.proofs.Sizes.{places_two, map_room}
use Rattle.native_map.proofs.Loops.{goes_by, stops_at, stops_free}

-- ---- what words stand for, in places

pub home_below : (cap : ℕ) (k : ℤ) → home (places cap) k < places cap
unfolding home
home_below cap k = and_below (places cap) _ (omega (arith, places_two cap))

abbrev pub Table : MapAt → (ℕ → ℤ) → ℕ → Type 0
Table at cells hole = IsTable (places at.cap) (home (places at.cap)) (home_below at.cap) (holds cells at.start) (key_at cells at.start) hole

abbrev pub Given : MapAt → (ℕ → ℤ) → (ℤ → Option ℤ) → ℕ → Type 0
Given at cells find hole = Gives (places at.cap) (home (places at.cap)) (home_below at.cap) (holds cells at.start) (key_at cells at.start)
    (value_at cells at.start) find hole

module _ (at : MapAt) (cells : ℕ → ℤ) where
  -- the search that ended at a place
  pub ended : (k : ℤ) (p : ℕ) → place_of at cells k ≡ Some p → Ends (stops cells at.start k) (places at.cap) (home (places at.cap) k) p
  unfolding place_of
  ended k p e = probe_ends (stops cells at.start k) (places at.cap) (places at.cap) (home (places at.cap) k) p (home_below at.cap k) e

  pub ends_at : (k : ℤ) (p : ℕ) → Ends (stops cells at.start k) (places at.cap) (home (places at.cap) k) p → place_of at cells k ≡ Some p
  unfolding place_of
  ends_at k p is = probe_to (stops cells at.start k) (places at.cap) (places at.cap) (home (places at.cap) k) p (home_below at.cap k)
      (distance_below (places at.cap) (home (places at.cap) k) p (home_below at.cap k) is.below) is

  pub goes_past : (k : ℤ) (x : ℕ) → stops cells at.start k x ≡ false → (holds cells at.start x ≡ true) × (int_eq (key_at cells at.start x) k ≡ false)
  goes_past k x e = elim (holds cells at.start x) as (λ b. (not b || int_eq (key_at cells at.start x) k) ≡ false
      → (b ≡ true) × (int_eq (key_at cells at.start x) k ≡ false)) [ true ↦ λ f. (refl, f) | false ↦ λ f. absurd (true≢false f) ] e

  -- the places of words that stand for pairs are a table
  pub table_of : ((p : ℕ) → p < places at.cap → holds cells at.start p ≡ true → place_of at cells (key_at cells at.start p) ≡ Some p)
      → Table at cells (places at.cap)
  table_of searched = record {
    once = λ p q hp hq _ _ sp sq same. let e = sym (searched p hp sp) ∙ ap (place_of at cells) same ∙ searched q hq sq in (cc);
    reached = λ q x hq hx _ sq lt. (goes_past _ x ((ended _ q (searched q hq sq)).before x hx lt)).0;
  }

  -- in a table each search ends at its key's place
  pub searched_of : Table at cells (places at.cap) → (p : ℕ) → p < places at.cap → holds cells at.start p ≡ true
      → place_of at cells (key_at cells at.start p) ≡ Some p
  searched_of is p hp sp =
      let k = key_at cells at.start p in
      let no_hole : (x : ℕ) → x < places at.cap → x ≢ places at.cap = λ x hx e. omega arith in
      ends_at k p (record {
        below = hp;
        stopped = stops_at cells at.start p k (same_int k k refl);
        before = λ x hx lt.
            let held = is.reached p x hp hx (no_hole p hp) sp lt in
            let ne : x ≢ p = λ e. omega (arith, ap (distance (places at.cap) (home (places at.cap) k)) e) in
            goes_by cells at.start x k held (other_int _ _ (λ same. ne (is.once x p hx hp (no_hole x hx) (no_hole p hp) held sp same)));
      })

  pub value_held : (k : ℤ) (p : ℕ) → place_of at cells k ≡ Some p → holds cells at.start p ≡ true → value_of at cells k ≡ Some (value_at cells at.start p)
  value_held k p e h = ap (λ o. value_in at cells (spot_in at cells o)) e ∙ ap (λ b. value_in at cells (cond b (Held p) (Free p))) h

  pub value_free : (k : ℤ) (p : ℕ) → place_of at cells k ≡ Some p → holds cells at.start p ≡ false → value_of at cells k ≡ None
  value_free k p e h = ap (λ o. value_in at cells (spot_in at cells o)) e ∙ ap (λ b. value_in at cells (cond b (Held p) (Free p))) h

  value_nowhere : (k : ℤ) → place_of at cells k ≡ None → value_of at cells k ≡ None
  value_nowhere k e = ap (λ o. value_in at cells (spot_in at cells o)) e

  -- where a search ended at a place that holds a pair, its key is the one that was looked for
  pub key_there : (k : ℤ) (p : ℕ) → place_of at cells k ≡ Some p → holds cells at.start p ≡ true → key_at cells at.start p ≡ k
  key_there k p e h =
      let s = (ended k p e).stopped in
      let f = ap (λ b. not b || int_eq (key_at cells at.start p) k) h in
      (Decides-int_eq (key_at cells at.start p) k).0 (sym f ∙ s)

  -- the ways in which a search can end
  pub data Ending (k : ℤ) : Type 0 where
    in_place : (p : ℕ) → place_of at cells k ≡ Some p → holds cells at.start p ≡ true → Ending k
    in_gap : (p : ℕ) → place_of at cells k ≡ Some p → holds cells at.start p ≡ false → Ending k
    nowhere : place_of at cells k ≡ None → Ending k

  pub ending : (k : ℤ) → Ending k
  ending k = elim (place_of at cells k) as (λ o. place_of at cells k ≡ o → Ending k) [
    | None ↦ λ e. nowhere e
    | Some p ↦ λ e. elim (cases_Bool (holds cells at.start p)) [ inl h ↦ in_place p e h | inr h ↦ in_gap p e h ]
  ] refl

  gives_of : (find : ℤ → Option ℤ) → ((p : ℕ) → p < places at.cap → holds cells at.start p ≡ true → place_of at cells (key_at cells at.start p) ≡ Some p)
      → ((k : ℤ) → find k ≡ value_of at cells k) → Given at cells find (places at.cap)
  gives_of find searched pairs = record {
    given = λ q hq _ sq. pairs _ ∙ value_held _ q (searched q hq sq) sq;
    stands = λ k v g.
        let f = sym g ∙ pairs k in
        elim (ending k) [
          | in_place p e h ↦ (p, (ended k p e).below, (λ same. omega (arith, (ended k p e).below)), h, key_there k p e h)
          | in_gap p e h ↦ let z = f ∙ value_free k p e h in absurd (cc)
          | nowhere e ↦ let z = f ∙ value_nowhere k e in absurd (cc)
        ];
  }

  pairs_of : (find : ℤ → Option ℤ) → Table at cells (places at.cap) → Given at cells find (places at.cap) → (k : ℤ) → find k ≡ value_of at cells k
  pairs_of find is gives k =
      let none : ((q : ℕ) → holds cells at.start q ≡ true → place_of at cells k ≢ Some q) → find k ≡ None = λ no.
      elim (find k) as (λ o. find k ≡ o → o ≡ None) [
        | None ↦ λ _. refl
        | Some v ↦ λ g. let s = gives.stands k v g in absurd (no s.0 s.3 (sym (ap (place_of at cells) s.4) ∙ searched_of is s.0 s.1 s.3))
      ] refl in
      elim (ending k) [
        | in_place p e h ↦ let b = (ended k p e).below in
            sym (ap find (key_there k p e h)) ∙ gives.given p b (λ same. omega arith) h ∙ sym (value_held k p e h)
        | in_gap p e h ↦ none (λ q hq e'. let same = sym e ∙ e' in let pq : p ≡ q = cc in true≢false (sym hq ∙ ap (holds cells at.start) (sym pq) ∙ h))
            ∙ sym (value_free k p e h)
        | nowhere e ↦ none (λ q hq e'. let same = sym e ∙ e' in absurd (cc)) ∙ sym (value_nowhere k e)
      ]

  abbrev pub Flags : Type 0
  Flags = (p : ℕ) → p < places at.cap → (cells (flag_word at.start p) ≡ pos 0) ⊎ (cells (flag_word at.start p) ≡ pos 1)

  pub built : (ps : List (ℤ × ℤ)) → IsTrue (is_sorted int_cmp ps) → Flags → Table at cells (places at.cap) → Given at cells (value_of_key ps) (places at.cap)
      → held_count (holds cells at.start) (places at.cap) ≡ length ps → cells at.start ≡ pos (length ps) → length ps ≤ at.cap → HoldsPairs at cells ps
  built ps rising flags is gives number count within = record {
    rising = rising;
    flags = flags;
    searched = searched_of is;
    pairs = pairs_of (value_of_key ps) is gives;
    number = number;
    count = count;
    within = within;
  }

module _ (at : MapAt) (cells : ℕ → ℤ) (ps : List (ℤ × ℤ)) (s : HoldsPairs at cells ps) where
  pub the_table : Table at cells (places at.cap)
  the_table = table_of at cells s.searched

  pub the_gives : Given at cells (value_of_key ps) (places at.cap)
  the_gives = gives_of at cells (value_of_key ps) s.searched s.pairs

  -- some place is free
  pub a_gap : end_of at < 2 ^ 32 → (e : ℕ) × (e < places at.cap) × (holds cells at.start e ≡ false)
  a_gap fits = some_free (holds cells at.start) (places at.cap) (omega (arith, s.number, s.within, places_two at.cap, map_room at fits))

  pub not_nowhere : end_of at < 2 ^ 32 → (k : ℤ) → place_of at cells k ≢ None
  unfolding place_of
  not_nowhere fits k = let e = a_gap fits in
      probe_some (stops cells at.start k) (places at.cap) (places at.cap) (home (places at.cap) k) e.0 (home_below at.cap k) e.1
      (stops_free cells at.start e.0 k e.2) (distance_below (places at.cap) _ e.0 (home_below at.cap k) e.1)

  pub found : (k : ℤ) (p : ℕ) → place_of at cells k ≡ Some p → holds cells at.start p ≡ true → has_key ps k ≡ true
  found k p e h = ap is_some (s.pairs k ∙ value_held at cells k p e h)

  pub missed : (k : ℤ) (p : ℕ) → place_of at cells k ≡ Some p → holds cells at.start p ≡ false → has_key ps k ≡ false
  missed k p e h = ap is_some (s.pairs k ∙ value_free at cells k p e h)

  pub get_law : (k : ℤ) → get_words at cells k ≡ present_value (value_of_key ps k)
  get_law k = sym (ap present_value (s.pairs k))

  pub has_law : (k : ℤ) → has_words at cells k ≡ has_key ps k
  has_law k = sym (ap is_some (s.pairs k))

  pub full_law : is_full at cells ≡ not (nat_lt (length ps) at.cap)
  full_law = ap (λ c. not (int_lt c (pos at.cap))) s.count
