-- A removal leaves no gap that hides a key.
use Rattle.std.proofs.Common.{◌≡◌, ℕ, ℤ, pos, zero, suc, ◌+◌, ◌-◌, ◌<◌, ◌≤◌, ◌≢◌, true, false, cond, not, Option, Some, refl, sym, ap, subst, ◌∙◌, arith, inl, inr, ◌⊎◌, w64, List, length}
use Rattle.std.specs.Ordering.{int_eq}
use Rattle.std.specs.Int.{int_wrapping_sub}
use Rattle.std.proofs.lemmas.Bool.{cases_eq, true≢false, ltb-true, ltb-false, cond_both}
use Rattle.std.specs.Int.RustNames.{FitsSigned}
use Rattle.std.specs.Int.{int_wrap}
use Rattle.std.proofs.Common.{◌-ℤ◌, lit<, ◌^◌}
use Rattle.std.proofs.lemmas.Int.{ints, wrapping_sub_is, int_wrap_fits}
use Rattle.job_base.specs.Cells.{with_cell}
use Rattle.job_base.proofs.Windows.{with_cell-same, with_cell-other}
use Rattle.frame_ast.specs.Contents.{value_of_key, without_key}
use Rattle.native_map.specs.declared.MapAt.{MapAt}
use Rattle.native_map.specs.Table.{places, flag_word, key_word, value_word, end_of, next_place, distance, home, holds, key_at, value_at, place_of, held_count}
use Rattle.native_map.specs.Words.{copied, passes, shifted}
use Rattle.native_map.specs.Layout.{HoldsPairs}
use Rattle.native_map.proofs.Sizes.{map_room}
use Rattle.native_map.proofs.Rising.{without_key-here, without_key-there, rising-without_key, length-without_key}
use Rattle.native_map.proofs.Probing.{distance_below, distance_next, next_below}
use Rattle.native_map.proofs.Tables.{count_more, opened, opened_gives, opened_on, IsTable, Gives, Shifts, freed, skipped, moved, moved_gives, moved_on, freed_gives}
use Rattle.native_map.proofs.Searches.{home_below, Table, Given, ended, key_there, Flags, built, the_table, the_gives, a_gap, found}

-- what is left where the hole of a table became free
pub record Closed (at : MapAt) (cells after : ℕ → ℤ) (find : ℤ → Option ℤ) : Type 0 where
  pub table : Table at after (places at.cap)
  pub gives : Given at after find (places at.cap)
  pub flags : Flags at after
  pub number : held_count (holds after at.start) (places at.cap) + 1 ≡ held_count (holds cells at.start) (places at.cap)

module _ (at : MapAt) (find : ℤ → Option ℤ) where
  freed_cells : (cells : ℕ → ℤ) (i j e : ℕ) → Shifts (places at.cap) (home (places at.cap)) (home_below at.cap) (holds cells at.start)
      (key_at cells at.start) i j e
      → Table at cells i → Given at cells find i → Flags at cells → holds cells at.start j ≡ false
      → Closed at cells (with_cell cells (flag_word at.start i) (pos 0)) find
  freed_cells cells i j e sh is gives flags free =
      let after = with_cell cells (flag_word at.start i) (pos 0) in
      let here : holds after at.start i ≡ false = ap (λ c. not (int_eq c (pos 0))) (with_cell-same cells (flag_word at.start i) (pos 0)) in
      let flag_there : (x : ℕ) → x ≢ i → after (flag_word at.start x) ≡ cells (flag_word at.start x) =
      λ x ne. with_cell-other cells (flag_word at.start i) (pos 0) (flag_word at.start x) (omega arith) in
      let there : (x : ℕ) → x ≢ i → holds after at.start x ≡ holds cells at.start x = λ x ne. ap (λ c. not (int_eq c (pos 0))) (flag_there x ne) in
      let same_key : key_at cells at.start ≡ key_at after at.start = λ i' x. sym
      (with_cell-other cells (flag_word at.start i) (pos 0) (key_word at.start x) (omega arith)) i' in
      let same_value : value_at cells at.start ≡ value_at after at.start =
      λ i' x. sym (with_cell-other cells (flag_word at.start i) (pos 0) (value_word at.start x) (omega arith)) i' in
      record {
        table = subst (λ f. IsTable (places at.cap) (home (places at.cap)) (home_below at.cap) (holds after at.start) f (places at.cap)) same_key
            (freed (places at.cap) (home (places at.cap)) (home_below at.cap) (holds cells at.start) (key_at cells at.start) i j e is sh free
            (holds after at.start) here there);
        gives = subst (λ f. Gives (places at.cap) (home (places at.cap)) (home_below at.cap) (holds after at.start) (key_at after at.start) f find
            (places at.cap)) same_value
            (subst (λ f. Gives (places at.cap) (home (places at.cap)) (home_below at.cap) (holds after at.start) f (value_at cells at.start) find
            (places at.cap)) same_key
            (freed_gives (places at.cap) (home (places at.cap)) (home_below at.cap) (holds cells at.start) (key_at cells at.start)
            (value_at cells at.start) find i gives (holds after at.start) here there));
        flags = λ x hx. elim (cases_eq x i) [
          | inl x_i ↦ inl (ap (λ y. after (flag_word at.start y)) x_i ∙ with_cell-same cells (flag_word at.start i) (pos 0))
          | inr x_o ↦ subst (λ c. (c ≡ pos 0) ⊎ (c ≡ pos 1)) (sym (flag_there x x_o)) (flags x hx)
        ];
        number = sym (count_more (holds after at.start) (holds cells at.start) (places at.cap) i sh.i_below here sh.i_held (λ x ne. sym (there x ne)));
      }

  pub shift_law : (n : ℕ) (cells : ℕ → ℤ) (i j e : ℕ) → Shifts (places at.cap) (home (places at.cap)) (home_below at.cap) (holds cells at.start)
      (key_at cells at.start) i j e
      → Table at cells i → Given at cells find i → Flags at cells → distance (places at.cap) j e < n → Closed at cells (shifted at n cells i j) find
  shift_law zero cells i j e sh is gives flags lt = absurd (omega arith)
  shift_law (suc n) cells i j e sh is gives flags lt =
      let t = places at.cap in
      let after = copied at cells i j in
      elim (holds cells at.start j) as (λ b. holds cells at.start j ≡ b → Closed at cells
      (cond b (cond (passes at cells i j) (shifted at n after j (next_place (places at.cap) j)) (shifted at n cells i (next_place (places at.cap) j)))
      (with_cell cells (flag_word at.start i) (pos 0))) find) [
        | false ↦ λ free. freed_cells cells i j e sh is gives flags free
        | true ↦ λ held.
            let ne : j ≢ e = λ same. true≢false (sym held ∙ ap (holds cells at.start) same ∙ sh.e_free) in
            let nearer : distance (places at.cap) (next_place (places at.cap) j) e < n =
            omega (arith, distance_next (places at.cap) j e sh.j_below sh.e_below ne, lt) in
            elim (passes at cells i j) as (λ b. passes at cells i j ≡ b → Closed at cells
            (cond b (shifted at n after j (next_place (places at.cap) j)) (shifted at n cells i (next_place (places at.cap) j))) find) [
              | false ↦ λ stays.
                  let far = ltb-false _ _ stays in
                  shift_law n cells i (next_place (places at.cap) j) e (skipped (places at.cap) (home (places at.cap)) (home_below at.cap)
                  (holds cells at.start) (key_at cells at.start) i j e sh held far) is gives flags nearer
              | true ↦ λ over.
                  let over' : distance (places at.cap) (home (places at.cap) (key_at cells at.start j)) i < distance (places at.cap)
                  (home (places at.cap) (key_at cells at.start j)) j = ltb-true _ _ over in
                  let one = with_cell cells (key_word at.start i) (key_at cells at.start j) in
                  let v = value_at cells at.start j in
                  let flag_same : (x : ℕ) → after (flag_word at.start x) ≡ cells (flag_word at.start x) =
                  λ x. with_cell-other one (value_word at.start i) v (flag_word at.start x) (omega arith)
                  ∙ with_cell-other cells (key_word at.start i) _ (flag_word at.start x) (omega arith) in
                  let same_held : holds cells at.start ≡ holds after at.start = λ i' x. not (int_eq (sym (flag_same x) i') (pos 0)) in
                  let key_here : key_at after at.start i ≡ key_at cells at.start j =
                  with_cell-other one (value_word at.start i) v (key_word at.start i) (omega arith) ∙ with_cell-same cells (key_word at.start i) _ in
                  let key_else : (x : ℕ) → x ≢ i → key_at after at.start x ≡ key_at cells at.start x =
                  λ x ne. with_cell-other one (value_word at.start i) v (key_word at.start x) (omega arith)
                  ∙ with_cell-other cells (key_word at.start i) _ (key_word at.start x) (omega arith) in
                  let value_here : value_at after at.start i ≡ value_at cells at.start j = with_cell-same one (value_word at.start i) v in
                  let value_else : (x : ℕ) → x ≢ i → value_at after at.start x ≡ value_at cells at.start x =
                  λ x ne. with_cell-other one (value_word at.start i) v (value_word at.start x) (omega arith)
                  ∙ with_cell-other cells (key_word at.start i) _ (value_word at.start x) (omega arith) in
                  let rest = shift_law n after j (next_place (places at.cap) j) e
                  (subst (λ f. Shifts (places at.cap) (home (places at.cap)) (home_below at.cap) f (key_at after at.start) j (next_place (places at.cap) j) e)
                  same_held
                  (moved_on (places at.cap) (home (places at.cap)) (home_below at.cap) (holds cells at.start) (key_at cells at.start)
                  (value_at cells at.start) i j e sh held over' (key_at after at.start) (value_at after at.start) key_here value_here key_else value_else))
                  (subst (λ f. IsTable (places at.cap) (home (places at.cap)) (home_below at.cap) f (key_at after at.start) j) same_held
                  (moved (places at.cap) (home (places at.cap)) (home_below at.cap) (holds cells at.start) (key_at cells at.start)
                  (value_at cells at.start) i j e sh held over' (key_at after at.start)
                  (value_at after at.start) key_here value_here key_else value_else is))
                  (subst (λ f. Gives (places at.cap) (home (places at.cap)) (home_below at.cap) f (key_at after at.start) (value_at after at.start) find j)
                  same_held
                  (moved_gives (places at.cap) (home (places at.cap)) (home_below at.cap) (holds cells at.start) (key_at cells at.start)
                  (value_at cells at.start) i j e sh held over' (key_at after at.start)
                  (value_at after at.start) key_here value_here key_else value_else find gives))
                  (λ x hx. subst (λ c. (c ≡ pos 0) ⊎ (c ≡ pos 1)) (sym (flag_same x)) (flags x hx))
                  nearer in
                  record {
                    table = rest.table;
                    gives = rest.gives;
                    flags = rest.flags;
                    number = rest.number ∙ sym (ap (λ f. held_count f (places at.cap)) same_held);
                  }
            ] refl
      ] refl

  -- the count word and what lies outside stay
  pub shift_outside : (n : ℕ) (cells : ℕ → ℤ) (i j w : ℕ) → i < places at.cap → j < places at.cap → (w ≤ at.start) ⊎ (end_of at ≤ w)
      → shifted at n cells i j w ≡ cells w
  shift_outside zero cells i j w hi hj out = with_cell-other cells (flag_word at.start i) (pos 0) w (omega arith)
  shift_outside (suc n) cells i j w hi hj out =
      let after = copied at cells i j in
      let one = with_cell cells (key_word at.start i) (key_at cells at.start j) in
      let on = next_below (places at.cap) j hj in
      cond_both (holds cells at.start j) (cond (passes at cells i j) (shifted at n after j (next_place (places at.cap) j))
      (shifted at n cells i (next_place (places at.cap) j))) (with_cell cells (flag_word at.start i) (pos 0)) (λ f. f w ≡ cells w)
      (λ _. cond_both (passes at cells i j) (shifted at n after j (next_place (places at.cap) j)) (shifted at n cells i (next_place (places at.cap) j))
      (λ f. f w ≡ cells w)
      (λ _. shift_outside n after j (next_place (places at.cap) j) w hj on out ∙ with_cell-other one (value_word at.start i) _ w (omega arith)
      ∙ with_cell-other cells (key_word at.start i) _ w (omega arith))
      (λ _. shift_outside n cells i (next_place (places at.cap) j) w hi on out))
      (λ _. with_cell-other cells (flag_word at.start i) (pos 0) w (omega arith))

-- one less
fewer : (n : ℕ) → 1 ≤ n → n < 2 ^ 32 → int_wrapping_sub w64 (pos n) (pos 1) ≡ pos (n - 1)
fewer n some small =
    let a : FitsSigned w64 (pos n) = record { sfits = omega arith } in
    let b : FitsSigned w64 (pos 1) = record { sfits = lit< tt } in
    let d : pos n -ℤ pos 1 ≡ pos (n - 1) = omega (arith, ints) in
    let c : FitsSigned w64 (pos (n - 1)) = record { sfits = omega arith } in
    wrapping_sub_is w64 (pos n) (pos 1) a b ∙ ap (int_wrap w64) d ∙ int_wrap_fits w64 (pos (n - 1)) c

module _ (at : MapAt) (cells : ℕ → ℤ) (ps : List (ℤ × ℤ)) (s : HoldsPairs at cells ps) (fits : end_of at < 2 ^ 32) (k : ℤ) where
  pub remove_held : (p : ℕ) → place_of at cells k ≡ Some p → holds cells at.start p ≡ true
      → HoldsPairs at (with_cell (shifted at (places at.cap) cells p (next_place (places at.cap) p)) at.start (int_wrapping_sub w64 (cells at.start) (pos 1)))
      (without_key ps k)
  remove_held p e h =
      let hp = (ended at cells k p e).below in
      let key_p = key_there at cells k p e h in
      let gap = a_gap at cells ps s fits in
      let is = the_table at cells ps s in
      let closed = shift_law at (value_of_key (without_key ps k)) (places at.cap) cells p (next_place (places at.cap) p) gap.0
      (opened_on (places at.cap) (home (places at.cap)) (home_below at.cap) (holds cells at.start) (key_at cells at.start)
      (value_at cells at.start) p hp h k key_p is gap.0 gap.1 gap.2)
      (opened (places at.cap) (home (places at.cap)) (home_below at.cap) (holds cells at.start) (key_at cells at.start)
      (value_at cells at.start) p hp h k key_p is)
      (opened_gives (places at.cap) (home (places at.cap)) (home_below at.cap) (holds cells at.start) (key_at cells at.start)
      (value_at cells at.start) p hp h k key_p is (value_of_key ps) (value_of_key (without_key ps k)) (without_key-here ps k) (without_key-there ps k)
      (the_gives at cells ps s))
      s.flags
      (distance_below (places at.cap) (next_place (places at.cap) p) gap.0 (next_below (places at.cap) p hp) gap.1) in
      let before = shifted at (places at.cap) cells p (next_place (places at.cap) p) in
      let n = int_wrapping_sub w64 (cells at.start) (pos 1) in
      let after = with_cell before at.start n in
      let same_held : holds before at.start ≡ holds after at.start = λ i x. not
      (int_eq (sym (with_cell-other before at.start n (flag_word at.start x) (omega arith)) i) (pos 0)) in
      let same_key : key_at before at.start ≡ key_at after at.start = λ i x. sym (with_cell-other before at.start n (key_word at.start x) (omega arith)) i in
      let same_value : value_at before at.start ≡ value_at after at.start =
      λ i x. sym (with_cell-other before at.start n (value_word at.start x) (omega arith)) i in
      let less = length-without_key ps k s.rising (found at cells ps s k p e h) in
      let number : length (without_key ps k) ≡ length ps - 1 = omega arith in
      let fell = closed.number in
      let was = s.number in
      let some : 1 ≤ length ps = omega arith in
      let left : held_count (holds before at.start) (places at.cap) ≡ length (without_key ps k) = omega arith in
      built at after (without_key ps k) (rising-without_key ps k s.rising)
      (λ x hx. subst (λ c. (c ≡ pos 0) ⊎ (c ≡ pos 1)) (sym (with_cell-other before at.start n (flag_word at.start x) (omega arith))) (closed.flags x hx))
      (subst (λ f. IsTable (places at.cap) (home (places at.cap)) (home_below at.cap) f (key_at after at.start) (places at.cap)) same_held
      (subst (λ f. IsTable (places at.cap) (home (places at.cap)) (home_below at.cap) (holds before at.start) f (places at.cap)) same_key closed.table))
      (subst (λ f. Gives (places at.cap) (home (places at.cap)) (home_below at.cap) f (key_at after at.start) (value_at after at.start)
      (value_of_key (without_key ps k)) (places at.cap)) same_held
      (subst (λ f. Gives (places at.cap) (home (places at.cap)) (home_below at.cap) (holds before at.start) f (value_at after at.start)
      (value_of_key (without_key ps k)) (places at.cap)) same_key
      (subst (λ f. Gives (places at.cap) (home (places at.cap)) (home_below at.cap) (holds before at.start) (key_at before at.start) f
      (value_of_key (without_key ps k)) (places at.cap)) same_value closed.gives)))
      (sym (ap (λ f. held_count f (places at.cap)) same_held) ∙ left)
      (with_cell-same before at.start n ∙ ap (λ c. int_wrapping_sub w64 c (pos 1)) s.count ∙ fewer (length ps) some (omega (arith, s.within, map_room at fits))
      ∙ ap pos (sym number))
      (omega (arith, number, s.within))
