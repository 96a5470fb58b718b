-- Each word form stands for its call's effect on contents, and changes no word outside of the map.
use Rattle.std.proofs.Common.{◌≡◌, ℕ, ℤ, pos, zero, suc, ◌^◌, ◌<◌, ◌≤◌, Bool, true, false, cond, not, Some, None, Result, Ok, Err, List, [], length, refl, sym, ap, subst, ◌∙◌, arith, inl, inr, ◌⊎◌, w64, nat_lt}
use Rattle.std.specs.Ordering.{int_eq}
use Rattle.std.specs.Int.{int_wrapping_sub}
use Rattle.std.proofs.lemmas.Bool.{cases_eq, true≢false, ltb-true, cond_both}
use Rattle.job_base.specs.declared.Trap.{Trap}
use Rattle.job_base.specs.declared.Trap.TheVariants.{Full, PresentKey}
use Rattle.job_base.specs.Cells.{with_cell}
use Rattle.job_base.proofs.Windows.{with_cell-same, with_cell-other}
use Rattle.frame_ast.specs.Contents.{Contents, Pairs, then_value, with_key, without_key, has_key}
use Rattle.native_map.specs.declared.MapAt.{MapAt}
use Rattle.native_map.specs.declared.search.Spot.TheVariants.{Held, Free}
use Rattle.native_map.specs.Table.{places, flag_word, key_word, value_word, end_of, next_place, holds, place_of, spot_in, spot_of}
use Rattle.native_map.specs.Words.{filled, shifted, emptied, is_full, put_words, put_words_in, add_words, add_words_in, add_words_at, try_add_words, try_add_words_in, try_add_words_at, remove_words, remove_words_in, counted, count_words, clear_words}
use Rattle.native_map.specs.Layout.{HoldsPairs, StandsFor}
use Rattle.native_array.specs.Effects.{done}
use Rattle.native_map.specs.Effects.{put_effect, add_effect, try_add_effect, remove_effect}
use Rattle.native_map.proofs.Claims.{Becomes, SameOutside}
use Rattle.native_map.proofs.Probing.{next_below}
use Rattle.native_map.proofs.Tables.{count_none}
use Rattle.native_map.proofs.Rising.{without_key-absent}
use Rattle.native_map.proofs.Searches.{in_place, in_gap, nowhere, ending, ended, built, not_nowhere, found, missed, full_law}
use Rattle.native_map.proofs.Changes.{put_held, put_gap}
use Rattle.native_map.proofs.Removal.{remove_held, shift_outside}

spot_at : (at : MapAt) (cells : ℕ → ℤ) (k : ℤ) (p : ℕ) (b : Bool) → place_of at cells k ≡ Some p → holds cells at.start p ≡ b
    → spot_of at cells k ≡ cond b (Held p) (Free p)
spot_at at cells k p b e h = ap (spot_in at cells) e ∙ ap (λ b. cond b (Held p) (Free p)) h

module _ (at : MapAt) (cells : ℕ → ℤ) (ps : List (ℤ × ℤ)) (s : HoldsPairs at cells ps) (fits : end_of at < 2 ^ 32) (k v : ℤ) where
  -- an operation on the pairs, as one on the contents
  abbrev finished : {A : Type 0} → A → Result (List (ℤ × ℤ)) Trap → Result A Trap × Contents
  finished answer r = done answer (Pairs at.cap ps) (then_value r (λ qs. Ok (Pairs at.cap qs)))

  -- a new key, where there is room
  abbrev entered : Bool → Result (List (ℤ × ℤ)) Trap
  entered room = cond room (Ok (with_key ps k v)) (Err Full)

  enter_law : {A : Type 0} (answer : A) (p : ℕ) → place_of at cells k ≡ Some p → holds cells at.start p ≡ false
      → Becomes {A = Result A Trap} at (cond (is_full at cells) (Err Full, cells) (Ok answer, filled at cells p k v))
      (finished answer (entered (nat_lt (length ps) at.cap)))
  enter_law {A} answer p e h =
      subst (λ b. Becomes {A = Result A Trap} at (cond b (Err Full, cells) (Ok answer, filled at cells p k v))
      (finished answer (entered (nat_lt (length ps) at.cap)))) (sym (full_law at cells ps s))
      (elim (nat_lt (length ps) at.cap) as (λ b. nat_lt (length ps) at.cap ≡ b
      → Becomes {A = Result A Trap} at (cond (not b) (Err Full, cells) (Ok answer, filled at cells p k v)) (finished answer (entered b))) [
        | true ↦ λ room. (refl, (with_key ps k v, refl, put_gap at cells ps s k v p e h (ltb-true _ _ room)))
        | false ↦ λ _. (refl, (ps, refl, s))
      ] refl)

  pub put_law : Becomes at (put_words at cells k v) (put_effect k v (Pairs at.cap ps))
  put_law =
      let effect = λ (b : Bool). finished tt (cond b (Ok (with_key ps k v)) (entered (nat_lt (length ps) at.cap))) in
      elim (ending at cells k) [
        | nowhere e ↦ absurd (not_nowhere at cells ps s fits k e)
        | in_place p e h ↦
            subst (λ sp. Becomes at (put_words_in at cells sp k v) (effect (has_key ps k))) (sym (spot_at at cells k p true e h))
            (subst (λ b. Becomes {A = Result (Unit {0}) Trap} at (Ok tt, with_cell cells (value_word at.start p) v) (effect b))
            (sym (found at cells ps s k p e h))
            (refl, (with_key ps k v, refl, put_held at cells ps s k v p e h)))
        | in_gap p e h ↦
            subst (λ sp. Becomes at (put_words_in at cells sp k v) (effect (has_key ps k))) (sym (spot_at at cells k p false e h))
            (subst (λ b. Becomes at (add_words_at at cells p k v) (effect b)) (sym (missed at cells ps s k p e h)) (enter_law tt p e h))
      ]

  abbrev adding : Bool → Result (List (ℤ × ℤ)) Trap
  adding present = cond present (Err PresentKey) (cond present (Ok (with_key ps k v)) (entered (nat_lt (length ps) at.cap)))

  pub add_law : Becomes at (add_words at cells k v) (add_effect k v (Pairs at.cap ps))
  add_law =
      let effect = λ (b : Bool). finished tt (adding b) in
      elim (ending at cells k) [
        | nowhere e ↦ absurd (not_nowhere at cells ps s fits k e)
        | in_place p e h ↦
            subst (λ sp. Becomes at (add_words_in at cells sp k v) (effect (has_key ps k))) (sym (spot_at at cells k p true e h))
            (subst (λ b. Becomes {A = Result (Unit {0}) Trap} at (Err PresentKey, cells) (effect b)) (sym (found at cells ps s k p e h)) (refl, (ps, refl, s)))
        | in_gap p e h ↦
            subst (λ sp. Becomes at (add_words_in at cells sp k v) (effect (has_key ps k))) (sym (spot_at at cells k p false e h))
            (subst (λ b. Becomes at (add_words_at at cells p k v) (effect b)) (sym (missed at cells ps s k p e h)) (enter_law tt p e h))
      ]

  pub try_add_law : Becomes at (try_add_words at cells k v) (try_add_effect k v (Pairs at.cap ps))
  try_add_law =
      let effect = λ (b : Bool). cond b (Ok false, Pairs at.cap ps) (finished true (adding b)) in
      elim (ending at cells k) [
        | nowhere e ↦ absurd (not_nowhere at cells ps s fits k e)
        | in_place p e h ↦
            subst (λ sp. Becomes at (try_add_words_in at cells sp k v) (effect (has_key ps k))) (sym (spot_at at cells k p true e h))
            (subst (λ b. Becomes {A = Result Bool Trap} at (Ok false, cells) (effect b)) (sym (found at cells ps s k p e h)) (refl, (ps, refl, s)))
        | in_gap p e h ↦
            subst (λ sp. Becomes at (try_add_words_in at cells sp k v) (effect (has_key ps k))) (sym (spot_at at cells k p false e h))
            (subst (λ b. Becomes at (try_add_words_at at cells p k v) (effect b)) (sym (missed at cells ps s k p e h)) (enter_law true p e h))
      ]

  pub remove_law : Becomes at (remove_words at cells k) (remove_effect k (Pairs at.cap ps))
  remove_law = elim (ending at cells k) [
    | nowhere e ↦ absurd (not_nowhere at cells ps s fits k e)
    | in_place p e h ↦
        subst (λ sp. Becomes at (remove_words_in at cells sp) (remove_effect k (Pairs at.cap ps))) (sym (spot_at at cells k p true e h))
        (sym (found at cells ps s k p e h), (without_key ps k, refl, remove_held at cells ps s fits k p e h))
    | in_gap p e h ↦
        let absent = missed at cells ps s k p e h in
        subst (λ sp. Becomes at (remove_words_in at cells sp) (remove_effect k (Pairs at.cap ps))) (sym (spot_at at cells k p false e h))
        (sym absent, (without_key ps k, refl, subst (HoldsPairs at cells) (sym (without_key-absent ps k s.rising absent)) s))
  ]

-- ---- clear and count

emptied_here : (at : MapAt) (cells : ℕ → ℤ) (n x : ℕ) → x < n → emptied at cells n (flag_word at.start x) ≡ pos 0
emptied_here at cells zero x lt = absurd (omega arith)
emptied_here at cells (suc n) x lt = elim (cases_eq x n) [
  | inl e ↦ ap (λ y. emptied at cells (suc n) (flag_word at.start y)) e ∙ with_cell-same (emptied at cells n) (flag_word at.start n) (pos 0)
  | inr ne ↦ with_cell-other (emptied at cells n) (flag_word at.start n) (pos 0) (flag_word at.start x) (omega arith) ∙ emptied_here at cells n x (omega arith)
]

emptied_outside : (at : MapAt) (cells : ℕ → ℤ) (n w : ℕ) → n ≤ places at.cap → (w ≤ at.start) ⊎ (end_of at ≤ w) → emptied at cells n w ≡ cells w
emptied_outside at cells zero w le out = refl
emptied_outside at cells (suc n) w le out = with_cell-other (emptied at cells n) (flag_word at.start n) (pos 0) w (omega arith)
    ∙ emptied_outside at cells n w (omega arith) out

-- words with no flag and no count hold no pairs
none_law : (at : MapAt) (cells : ℕ → ℤ) → ((x : ℕ) → x < places at.cap → cells (flag_word at.start x) ≡ pos 0) → cells at.start ≡ pos 0 → HoldsPairs at cells []
none_law at cells flag count =
    let free : (x : ℕ) → x < places at.cap → holds cells at.start x ≡ false = λ x hx. ap (λ c. not (int_eq c (pos 0))) (flag x hx) in
    built at cells [] refl (λ x hx. inl (flag x hx))
    (record {
      once = λ p q hp hq _ _ sp sq same. absurd (true≢false (sym sp ∙ free p hp));
      reached = λ q x hq hx _ sq lt. absurd (true≢false (sym sq ∙ free q hq));
    })
    (record { given = λ q hq _ sq. absurd (true≢false (sym sq ∙ free q hq)); stands = λ k v g. absurd (cc) })
    (count_none (holds cells at.start) (places at.cap) free)
    count
    (omega arith)

-- words of 0 stand for the empty map
pub zeros_law : (at : MapAt) (cells : ℕ → ℤ) → ((w : ℕ) → at.start ≤ w → w < end_of at → cells w ≡ pos 0) → StandsFor at cells (Pairs at.cap [])
zeros_law at cells zeros = (
  [],
  refl,
  none_law at cells (λ x hx. zeros (flag_word at.start x) (omega arith) (omega arith))
      (zeros at.start (omega arith) (omega arith)),
)

pub clear_law : (at : MapAt) (cells : ℕ → ℤ) → HoldsPairs at (clear_words at cells) []
clear_law at cells =
    let before = emptied at cells (places at.cap) in
    none_law at (clear_words at cells) (λ x hx. with_cell-other before at.start (pos 0) (flag_word at.start x) (omega arith)
    ∙ emptied_here at cells (places at.cap) x hx) (with_cell-same before at.start (pos 0))

pub count_law : (at : MapAt) (cells : ℕ → ℤ) (ps : List (ℤ × ℤ)) → HoldsPairs at cells ps → count_words at cells ≡ length ps
count_law at cells ps s = ap (counted at.cap) s.count ∙ (let w = s.within in omega arith)

-- ---- each cell outside the container stays

module _ (at : MapAt) (cells : ℕ → ℤ) (k v : ℤ) where
  within_place : (p : ℕ) → place_of at cells k ≡ Some p → p < places at.cap
  within_place p e = (ended at cells k p e).below

  filled_outside : (p : ℕ) → p < places at.cap → SameOutside at cells (filled at cells p k v)
  filled_outside p hp w out =
      let one = with_cell cells (key_word at.start p) k in
      let two = with_cell one (value_word at.start p) v in
      let three = with_cell two (flag_word at.start p) (pos 1) in
      with_cell-other three at.start _ w (omega arith) ∙ with_cell-other two (flag_word at.start p) (pos 1) w (omega arith)
      ∙ with_cell-other one (value_word at.start p) v w (omega arith) ∙ with_cell-other cells (key_word at.start p) k w (omega arith)

  added_outside : (p : ℕ) → p < places at.cap → SameOutside at cells (add_words_at at cells p k v).1
  added_outside p hp w out = cond_both (is_full at cells) (Err Full, cells) (Ok tt, filled at cells p k v)
      (λ (a : Result (Unit {0}) Trap × (ℕ → ℤ)). a.1 w ≡ cells w) (λ _. refl) (λ _. filled_outside p hp w out)

  try_added_outside : (p : ℕ) → p < places at.cap → SameOutside at cells (try_add_words_at at cells p k v).1
  try_added_outside p hp w out = cond_both (is_full at cells) (Err Full, cells) (Ok true, filled at cells p k v)
      (λ (a : Result Bool Trap × (ℕ → ℤ)). a.1 w ≡ cells w) (λ _. refl) (λ _. filled_outside p hp w out)

  pub put_outside : SameOutside at cells (put_words at cells k v).1
  put_outside w out = elim (ending at cells k) [
    | nowhere e ↦ ap (λ sp. (put_words_in at cells sp k v).1 w) (ap (spot_in at cells) e)
    | in_place p e h ↦ let hp = within_place p e in ap (λ sp. (put_words_in at cells sp k v).1 w) (spot_at at cells k p true e h)
        ∙ with_cell-other cells (value_word at.start p) v w (omega arith)
    | in_gap p e h ↦ ap (λ sp. (put_words_in at cells sp k v).1 w) (spot_at at cells k p false e h) ∙ added_outside p (within_place p e) w out
  ]

  pub add_outside : SameOutside at cells (add_words at cells k v).1
  add_outside w out = elim (ending at cells k) [
    | nowhere e ↦ ap (λ sp. (add_words_in at cells sp k v).1 w) (ap (spot_in at cells) e)
    | in_place p e h ↦ ap (λ sp. (add_words_in at cells sp k v).1 w) (spot_at at cells k p true e h)
    | in_gap p e h ↦ ap (λ sp. (add_words_in at cells sp k v).1 w) (spot_at at cells k p false e h) ∙ added_outside p (within_place p e) w out
  ]

  pub try_add_outside : SameOutside at cells (try_add_words at cells k v).1
  try_add_outside w out = elim (ending at cells k) [
    | nowhere e ↦ ap (λ sp. (try_add_words_in at cells sp k v).1 w) (ap (spot_in at cells) e)
    | in_place p e h ↦ ap (λ sp. (try_add_words_in at cells sp k v).1 w) (spot_at at cells k p true e h)
    | in_gap p e h ↦ ap (λ sp. (try_add_words_in at cells sp k v).1 w) (spot_at at cells k p false e h) ∙ try_added_outside p (within_place p e) w out
  ]

pub remove_outside : (at : MapAt) (cells : ℕ → ℤ) (k : ℤ) → SameOutside at cells (remove_words at cells k).1
remove_outside at cells k w out = elim (ending at cells k) [
  | nowhere e ↦ ap (λ sp. (remove_words_in at cells sp).1 w) (ap (spot_in at cells) e)
  | in_gap p e h ↦ ap (λ sp. (remove_words_in at cells sp).1 w) (spot_at at cells k p false e h)
  | in_place p e h ↦
      let hp = (ended at cells k p e).below in
      let before = shifted at (places at.cap) cells p (next_place (places at.cap) p) in
      ap (λ sp. (remove_words_in at cells sp).1 w) (spot_at at cells k p true e h)
      ∙ with_cell-other before at.start (int_wrapping_sub w64 (cells at.start) (pos 1)) w (omega arith)
      ∙ shift_outside at (λ _. None) (places at.cap) cells p (next_place (places at.cap) p) w hp (next_below (places at.cap) p hp)
      (elim out [ inl a ↦ inl (omega arith) | inr a ↦ inr a ])
]

pub clear_outside : (at : MapAt) (cells : ℕ → ℤ) → SameOutside at cells (clear_words at cells)
clear_outside at cells w out =
    with_cell-other (emptied at cells (places at.cap)) at.start (pos 0) w (omega arith)
    ∙ emptied_outside at cells (places at.cap) w (omega arith) (elim out [ inl a ↦ inl (omega arith) | inr a ↦ inr a ])

pub try_from_ok : (at : MapAt) (old : ℕ → ℤ) (p : ℕ) (k v : ℤ) (new : ℕ → ℤ) (u : Unit {0}) → (Ok u, new) ≡ add_words_at at old p k v
    → (Ok true, new) ≡ try_add_words_at at old p k v
try_from_ok at old p k v new u e = elim (is_full at old) as (λ b. ◌≡◌ {A = Result (Unit {0}) Trap × (ℕ → ℤ)} (Ok u, new)
    (cond b (Err Full, old) (Ok tt, filled at old p k v)) → ◌≡◌ {A = Result Bool Trap × (ℕ → ℤ)} (Ok true, new)
    (cond b (Err Full, old) (Ok true, filled at old p k v))) [
      | true ↦ λ e. let first = ap (λ a. a.0) e in absurd (cc)
      | false ↦ λ e. (λ i. (Ok true, (e i).1))
    ] e

pub try_from_err : (at : MapAt) (old : ℕ → ℤ) (p : ℕ) (k v : ℤ) (new : ℕ → ℤ) (trap : Trap) → (Err trap, new) ≡ add_words_at at old p k v
    → (Err trap, new) ≡ try_add_words_at at old p k v
try_from_err at old p k v new trap e = elim (is_full at old) as (λ b. ◌≡◌ {A = Result (Unit {0}) Trap × (ℕ → ℤ)} (Err trap, new)
    (cond b (Err Full, old) (Ok tt, filled at old p k v)) → ◌≡◌ {A = Result Bool Trap × (ℕ → ℤ)} (Err trap, new)
    (cond b (Err Full, old) (Ok true, filled at old p k v))) [
      | true ↦ λ e.
          let first = ap (λ a. a.0) e in
          let same : trap ≡ Full = cc in
          λ i. (Err (same i), (e i).1)
      | false ↦ λ e. let first = ap (λ a. a.0) e in absurd (cc)
    ] e
