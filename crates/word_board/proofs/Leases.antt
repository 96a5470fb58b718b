-- Which pieces are leased, and the states that follow from it.
use Rattle.std.proofs.Common.{◌≡◌, ◌≢◌, ℕ, zero, suc, Bool, true, false, cond, ◌||◌, ◌&&◌, not, ne_eqb, List, [], ◌∷◌, ◌++◌, set, refl, sym, ap, ◌∙◌, arith, None}
use mathlib.Core.Logic.{dite}
use mathlib.Core.Option.{some, some-injective, some-ne-none}
use native.Mathlib.Decide.{ℕ_discrete}
use lib.ListN.{get_elem?}
use Rattle.atomic_table.specs.Table.{State}
use Rattle.merge_laws.specs.CountSteps.{ChangesWord}
use Rattle.frame_core.specs.declared.plan.Plan.{Plan}
use Rattle.word_board.specs.declared.view.View.{View}
use Rattle.word_board.specs.Words.{states_in}
use Rattle.word_board.specs.Views.{lease_in}
use Rattle.word_board.specs.Rule.{is_lease_on, is_leased, state_with, states_at}

module _ (plan : Plan) (q : ℕ) where
  abbrev on : View → Bool
  on v = is_lease_on (lease_in plan v.lease) q

  or_true : (b : Bool) → (b || true) ≡ true
  or_true true = refl
  or_true false = refl

  pub leased_same : (views : List View) (id : ℕ) (v w : View) → get_elem? views id ≡ some v → on w ≡ on v
      → is_leased plan (set views id w) q ≡ is_leased plan views q
  leased_same [] id v w at same = refl
  leased_same (x ∷ xs) zero v w at same =
      ap (λ (b : Bool). b || is_leased plan xs q) (same ∙ sym (ap (λ (u : View). on u) (some-injective x v at)))
  leased_same (x ∷ xs) (suc i) v w at same = ap (λ (b : Bool). on x || b) (leased_same xs i v w at same)

  pub leased_here : (views : List View) (id : ℕ) (v w : View) → get_elem? views id ≡ some v → on w ≡ true
      → is_leased plan (set views id w) q ≡ true
  leased_here [] id v w at here = absurd (some-ne-none v (sym at))
  leased_here (x ∷ xs) zero v w at here = ap (λ (b : Bool). b || is_leased plan xs q) here
  leased_here (x ∷ xs) (suc i) v w at here = ap (λ (b : Bool). on x || b) (leased_here xs i v w at here) ∙ or_true (on x)

  none_leased : (views : List View) → ((k : ℕ) (u : View) → get_elem? views k ≡ some u → on u ≡ false) → is_leased plan views q ≡ false
  none_leased [] none = refl
  none_leased (x ∷ xs) none = ap (λ (b : Bool). b || is_leased plan xs q) (none 0 x refl) ∙ none_leased xs (λ k u e. none (suc k) u e)

  pub leased_gone : (views : List View) (id : ℕ) (w : View) → on w ≡ false
      → ((k : ℕ) (u : View) → get_elem? views k ≡ some u → k ≢ id → on u ≡ false) → is_leased plan (set views id w) q ≡ false
  leased_gone [] id w gone others = refl
  leased_gone (x ∷ xs) zero w gone others =
      ap (λ (b : Bool). b || is_leased plan xs q) gone ∙ none_leased xs (λ k u e. others (suc k) u e (λ z. absurd (omega (arith, z))))
  leased_gone (x ∷ xs) (suc i) w gone others =
      ap (λ (b : Bool). b || is_leased plan (set xs i w) q) (others 0 x refl (λ z. absurd (omega (arith, z))))
      ∙ leased_gone xs i w gone (λ k u e ne. others (suc k) u e (λ z. ne (omega (arith, z))))

  pub leased_longer : (views : List View) (u : View) → u.lease ≡ None → is_leased plan (views ++ u ∷ []) q ≡ is_leased plan views q
  leased_longer [] u none = ap (λ o. is_lease_on (lease_in plan o) q || false) none
  leased_longer (x ∷ xs) u none = ap (λ (b : Bool). on x || b) (leased_longer xs u none)

-- WHAT A STATE SAYS OF ITS WORD

pub word_begun : (word : ℕ) (leased : Bool) → state_with word leased ≡ 2 → word ≡ 2
word_begun word leased e = dite (ℕ_discrete word 2) (λ two. two)
    (λ ne. sym (ap (λ (b : Bool). cond (b && not leased) 3 word) (ne_eqb word 2 ne)) ∙ e)

pub word_closed : (word : ℕ) (leased : Bool) → state_with word leased ≡ 0 → word ≡ 0
word_closed word leased e = dite (ℕ_discrete word 2) (λ two. absurd (not_two leased (sym (ap (λ n. state_with n leased) two) ∙ e)))
    (λ ne. sym (ap (λ (b : Bool). cond (b && not leased) 3 word) (ne_eqb word 2 ne)) ∙ e)
  where
    not_two : (b : Bool) → state_with 2 b ≡ 0 → ⊥
    not_two true h = omega (arith, h)
    not_two false h = omega (arith, h)

-- THE STATES AFTER A STEP

module _ (plan : Plan) (s : State ℕ View) (id : ℕ) (v w : View) (at : get_elem? s.views id ≡ some v) (words : List ℕ) where
  abbrev after : State ℕ View
  after = record { words = words; homes = s.homes; views = set s.views id w }

  abbrev SameLeases : Type 0
  SameLeases = (q : ℕ) → is_lease_on (lease_in plan w.lease) q ≡ is_lease_on (lease_in plan v.lease) q

  pub states_stay : states_in plan words ≡ states_in plan s.words → SameLeases → states_at plan after ≡ states_at plan s
  states_stay same leases = λ y q. state_with (same y q) (leased_same plan q s.views id v w at (leases q) y)

  pub states_change : (p x : ℕ) → ChangesWord (states_in plan s.words) (states_in plan words) p x → ((b : Bool) → state_with x b ≡ x) → SameLeases
      → ChangesWord (states_at plan s) (states_at plan after) p x
  states_change p x put plain leases = record {
    here = ap (λ n. state_with n (is_leased plan (set s.views id w) p)) put.here ∙ plain (is_leased plan (set s.views id w) p);
    there = λ q ne. ap (λ n. state_with n (is_leased plan (set s.views id w) q)) (put.there q ne)
        ∙ ap (state_with (states_in plan s.words q)) (leased_same plan q s.views id v w at (leases q));
  }
