-- The sets of slots, and what their places say once a set is written or sets are added.
use Rattle.std.proofs.Common.{◌≡◌, ◌≢◌, ℕ, zero, suc, ◌<◌, List, [], ◌∷◌, length, get_or, set, refl, ap, ◌∙◌, arith, get_or-set_same, get_or-set_other}
use Rattle.job_handle.specs.declared.handle.Handle.{Handle}
use Rattle.slot_store.specs.declared.lot.Lot.{Lot}
use Rattle.slot_store.specs.Places.{placed, places_in, place_at, set_at}
use Rattle.slot_store.specs.Stores.{held}
use Rattle.slot_store.proofs.Lots.{lot_is}

-- the same sets
pub sets_alike : (xs : List Lot) (old new : ℕ → Handle) → ((s : ℕ) → new s ≡ old s) → places_in xs new ≡ places_in xs old
sets_alike [] old new same = refl
sets_alike (x ∷ xs) old new same = ap (λ h. placed x h ∷ places_in xs (λ s. new (suc s))) (same 0)
    ∙ ap (λ l. placed x (old 0) ∷ l) (sets_alike xs (λ s. old (suc s)) (λ s. new (suc s)) (λ s. same (suc s)))

-- a slot has another lot, and another set
pub lot_and_set : (xs : List Lot) (old new : ℕ → Handle) (s : ℕ) (y : Lot) → ((t : ℕ) → t ≢ s → new t ≡ old t)
    → places_in (set xs s y) new ≡ set (places_in xs old) s (placed y (new s))
lot_and_set [] old new s y others = refl
lot_and_set (x ∷ xs) old new zero y others = ap (λ l. placed y (new 0) ∷ l)
    (sets_alike xs (λ t. old (suc t)) (λ t. new (suc t)) (λ t. others (suc t) (λ q. omega arith)))
lot_and_set (x ∷ xs) old new (suc s) y others = ap (λ h. placed x h ∷ places_in (set xs s y) (λ t. new (suc t))) (others 0 (λ q. omega arith))
    ∙ ap (λ l. placed x (old 0) ∷ l) (lot_and_set xs (λ t. old (suc t)) (λ t. new (suc t)) s y (λ t n. others (suc t) (λ q. n (omega arith))))

-- the range of a slot that has a set is held for the sake of other jobs
pub lot_held : (xs : List Lot) (users : List Handle) (none : Handle) (s : ℕ) (x y : Lot) (them : Handle) → s < length xs → s < length users
    → x ≡ get_or xs s x → ((before now : Handle) → placed y now ≡ held (placed x before) now)
    → places_in (set xs s y) (set_at (set users s them) none)
    ≡ set (places_in xs (set_at users none)) s (held (place_at (places_in xs (set_at users none)) s) them)
lot_held xs users none s x y them lt there e is =
    lot_and_set xs (set_at users none) (set_at (set users s them) none) s y (λ t n. get_or-set_other users s t them none n)
    ∙ ap (λ p. set (places_in xs (set_at users none)) s p)
    (ap (λ h. placed y h) (get_or-set_same users s them none there) ∙ (is (set_at users none s) them
    ∙ ap (λ p. held p them) (lot_is xs (set_at users none) s x lt e)))
