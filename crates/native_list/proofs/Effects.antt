-- Each word form stands for its call's effect on contents.
use Rattle.std.proofs.Common.{◌≡◌, ◌∙◌, ℕ, ◌+◌, ◌-◌, ℤ, pos, Bool, true, false, cond, nat_lt, List, [], ◌∷◌, ◌++◌, length, get_or, set, take, Result, Ok, Err, refl, sym, ap, subst}
use Rattle.std.proofs.lemmas.Bool.{ltb-true}
use Rattle.job_base.specs.declared.Trap.{Trap}
use Rattle.job_base.specs.declared.Trap.TheVariants.{Full}
use Rattle.job_base.specs.Forms.{Reaches}
use Rattle.frame_ast.specs.Contents.{Contents, Items, then_value, place_in, item_at}
use Rattle.native_array.specs.Words.{stored}
use Rattle.native_array.specs.Effects.{done, set_effect}
use Rattle.native_array.proofs.Places.{in_place, item_at-cell_list}
use Rattle.native_list.specs.declared.ListAt.{ListAt}
use Rattle.native_list.specs.Layout.{HoldsItems, StandsFor}
use Rattle.native_list.specs.Words.{array_words, get_words, set_words, add_words, add_words_at, added, remove_words, remove_words_at}
use Rattle.native_list.specs.Effects.{add_effect, remove_effect}
use Rattle.native_list.proofs.Standing.{length_is, set_holds, add_holds, remove_holds}

module _ (at : ListAt) (cells : ℕ → ℤ) (xs : List ℤ) (s : HoldsItems at cells xs) where
  -- an operation on the items, as one on the contents
  abbrev finished : Result (List ℤ) Trap → Result (Unit {0}) Trap × Contents
  finished r = done tt (Items at.cap xs) (then_value r (λ ys. Ok (Items at.cap ys)))

  abbrev Becomes : Result (Unit {0}) Trap × (ℕ → ℤ) → Result (List ℤ) Trap → Type 0
  Becomes after r = Reaches (StandsFor at) after (finished r)

  pub get_law : (i : ℤ) → get_words at cells i ≡ item_at xs i
  get_law i =
      ap (λ n. then_value (place_in n i) (λ k. Ok (cells (at.start + 1 + k)))) (length_is at cells xs s)
      ∙ sym (item_at-cell_list cells (at.start + 1) (length xs) i)
      ∙ ap (λ l. item_at l i) s.elements

  set_law_at : (i v : ℤ) (p : Result ℕ Trap) → place_in (length xs) i ≡ p
      → Becomes (stored (array_words at cells) cells v p) (then_value p (λ k. Ok (set xs k v)))
  set_law_at i v (Ok k) e = (refl, (set xs k v, refl, set_holds at cells xs s k v (in_place (length xs) k i e)))
  set_law_at i v (Err trap) e = (refl, (xs, refl, s))

  pub set_law : (i v : ℤ) → Reaches (StandsFor at) (set_words at cells i v) (set_effect i v (Items at.cap xs))
  set_law i v =
      subst (λ n. Becomes (stored (array_words at cells) cells v (place_in n i)) (then_value (place_in (length xs) i) (λ k. Ok (set xs k v))))
      (sym (length_is at cells xs s))
      (set_law_at i v (place_in (length xs) i) refl)

  add_law_at : (v : ℤ) (room : Bool) → nat_lt (length xs) at.cap ≡ room
      → Becomes (cond room (Ok tt, added at cells (length xs) v) (Err Full, cells)) (cond room (Ok (xs ++ (v ∷ []))) (Err Full))
  add_law_at v true e = (refl, (xs ++ (v ∷ []), refl, add_holds at cells xs s v (ltb-true _ _ e)))
  add_law_at v false e = (refl, (xs, refl, s))

  pub add_law : (v : ℤ) → Reaches (StandsFor at) (add_words at cells v) (add_effect v (Items at.cap xs))
  add_law v =
      subst (λ n. Becomes (add_words_at at cells n v) (cond (nat_lt (length xs) at.cap) (Ok (xs ++ (v ∷ []))) (Err Full))) (sym (length_is at cells xs s))
      (add_law_at v (nat_lt (length xs) at.cap) refl)

  abbrev without : ℕ → List ℤ
  without k = take (length xs - 1) (set xs k (get_or xs (length xs - 1) (pos 0)))

  remove_law_at : (i : ℤ) (p : Result ℕ Trap) → place_in (length xs) i ≡ p
      → Becomes (remove_words_at at cells (length xs) p) (then_value p (λ k. Ok (without k)))
  remove_law_at i (Ok k) e = (refl, (without k, refl, remove_holds at cells xs s k (in_place (length xs) k i e)))
  remove_law_at i (Err trap) e = (refl, (xs, refl, s))

  pub remove_law : (i : ℤ) → Reaches (StandsFor at) (remove_words at cells i) (remove_effect i (Items at.cap xs))
  remove_law i =
      subst (λ n. Becomes (remove_words_at at cells n (place_in n i)) (then_value (place_in (length xs) i) (λ k. Ok (without k))))
      (sym (length_is at cells xs s))
      (remove_law_at i (place_in (length xs) i) refl)
