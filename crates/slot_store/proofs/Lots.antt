-- What lots say once one of them is changed.
use Rattle.std.proofs.Common.{◌≡◌, ℕ, zero, suc, ◌+◌, ◌<◌, ◌≤◌, ⊎_elim, true, if◌then◌else◌, nat_eq, List, [], ◌∷◌, ◌++◌, length, get_or, set, sum_by, refl, ap, sym, ◌∙◌, arith}
use Rattle.std.proofs.lemmas.Bool.{cond-true, cond-false, cases_eq, ne_eqb}
use Rattle.std.proofs.lemmas.List.Sums.{sum_by-set}
use Rattle.job_handle.specs.declared.handle.Handle.{Handle}
use Rattle.slot_store.specs.declared.lot.Lot.{Lot}
use Rattle.slot_store.specs.declared.place.Place.{Place}
use Rattle.slot_store.specs.Places.{placed, places_in, place_at, in_use, live_len, unused}
use Rattle.slot_store.proofs.Placing.{at}
use Rattle.slot_store.proofs.Rooms.{in_list}

pub lots_long : (xs : List Lot) (sets : ℕ → Handle) → length (places_in xs sets) ≡ length xs
lots_long [] sets = refl
lots_long (x ∷ xs) sets = ap suc (lots_long xs (λ s. sets (suc s)))

pub lots_set : (xs : List Lot) (sets : ℕ → Handle) (s : ℕ) (y : Lot) → places_in (set xs s y) sets ≡ set (places_in xs sets) s (placed y (sets s))
lots_set [] sets s y = refl
lots_set (x ∷ xs) sets zero y = refl
lots_set (x ∷ xs) sets (suc s) y = ap (λ l. placed x (sets 0) ∷ l) (lots_set xs (λ t. sets (suc t)) s y)

pub lots_push : (xs : List Lot) (sets : ℕ → Handle) (y : Lot)
    → places_in (xs ++ y ∷ []) sets ≡ places_in xs sets ++ placed y (sets (length xs)) ∷ []
lots_push [] sets y = refl
lots_push (x ∷ xs) sets y = ap (λ l. placed x (sets 0) ∷ l) (lots_push xs (λ s. sets (suc s)) y)

-- the lot that was read is that of the place
pub lot_is : (xs : List Lot) (sets : ℕ → Handle) (s : ℕ) (x : Lot) → s < length xs → x ≡ get_or xs s x
    → placed x (sets s) ≡ place_at (places_in xs sets) s
lot_is [] sets s x lt e = absurd (omega arith)
lot_is (y ∷ xs) sets zero x lt e = ap (λ z. placed z (sets 0)) e
lot_is (y ∷ xs) sets (suc s) x lt e = lot_is xs (λ t. sets (suc t)) s x (omega arith) e

-- the places where a lot that was read is changed to one that says another place
pub lot_changed : (xs : List Lot) (sets : ℕ → Handle) (s : ℕ) (x y : Lot) (f : Place → Place) → s < length xs → x ≡ get_or xs s x
    → placed y (sets s) ≡ f (placed x (sets s)) → places_in (set xs s y) sets ≡ set (places_in xs sets) s (f (place_at (places_in xs sets) s))
lot_changed xs sets s x y f lt e is = lots_set xs sets s y ∙ ap (λ p. set (places_in xs sets) s p) (is ∙ ap f (lot_is xs sets s x lt e))

pub in_lots : (xs : List Lot) (sets : ℕ → Handle) (s : ℕ) → in_use (place_at (places_in xs sets) s).state ≡ true → s < length xs
in_lots xs sets s used = let long = lots_long xs sets in let known = in_list (places_in xs sets) s used in omega arith

pub past_lots : (xs : List Lot) (sets : ℕ → Handle) (s : ℕ) → length xs ≤ s → place_at (places_in xs sets) s ≡ unused
past_lots [] sets s le = refl
past_lots (x ∷ xs) sets zero le = absurd (omega arith)
past_lots (x ∷ xs) sets (suc s) le = past_lots xs (λ t. sets (suc t)) s (omega arith)

-- the words of a slot in use are among all that are live
pub live_below : (ps : List Place) (s : ℕ) → s < length ps → live_len (place_at ps s) ≤ sum_by live_len ps
live_below ps s lt = let q = sum_by-set live_len ps s unused unused lt in omega arith

pub lot_len : (xs : List Lot) (sets : ℕ → Handle) (s : ℕ) (x : Lot) → s < length xs → x ≡ get_or xs s x
    → in_use (place_at (places_in xs sets) s).state ≡ true → live_len (place_at (places_in xs sets) s) ≡ x.span.len
lot_len xs sets s x lt e used = cond-true (in_use (place_at (places_in xs sets) s).state) (place_at (places_in xs sets) s).span.len 0 used
    ∙ sym (ap (λ (p : Place). p.span.len) (lot_is xs sets s x lt e))

-- each place, and a sum over all, where one place is another
pub changed_at : (ps qs : List Place) (s : ℕ) (p : Place) → s < length ps → qs ≡ set ps s p → (t : ℕ)
    → place_at qs t ≡ (if nat_eq t s then p else place_at ps t)
changed_at ps qs s p lt e t = ap (λ l. place_at l t) e ∙ at ps s p lt t

pub changed_by : (f : Place → Place) (ps qs : List Place) (s : ℕ) → s < length ps → qs ≡ set ps s (f (place_at ps s)) → (t : ℕ)
    → place_at qs t ≡ (if nat_eq t s then f (place_at ps t) else place_at ps t)
changed_by f ps qs s lt e t = changed_at ps qs s (f (place_at ps s)) lt e t ∙ ⊎_elim
    (λ q. ap (λ m. if nat_eq t s then f (place_at ps m) else place_at ps t) (sym q))
    (λ n. cond-false (nat_eq t s) (f (place_at ps s)) (place_at ps t) (ne_eqb t s n)
    ∙ sym (cond-false (nat_eq t s) (f (place_at ps t)) (place_at ps t) (ne_eqb t s n)))
    (cases_eq t s)

pub changed_sum : (f : Place → ℕ) (ps qs : List Place) (s : ℕ) (p : Place) → s < length ps → qs ≡ set ps s p
    → sum_by f qs + f (place_at ps s) ≡ sum_by f ps + f p
changed_sum f ps qs s p lt e = ap (λ l. sum_by f l + f (place_at ps s)) e ∙ sum_by-set f ps s p unused lt
