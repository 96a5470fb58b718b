-- What a seat sees that looks at jobs one after another.
use Rattle.std.proofs.Common.{◌≡◌, ⊎_elim, refl, sym, ap, ◌∙◌, subst, ℕ, suc, ◌+◌, ◌<◌, Bool, true, false, ◌||◌, ◌&&◌, arith}
use Rattle.std.specs.Prelude.{nat_eq}
use Rattle.std.proofs.lemmas.Bool.{cases_lt, eq-eqb}
use Rattle.frame_core.specs.Know.{Know, found}
use Rattle.steal_pool.specs.Seats.{IsIdle}

-- a look at a job takes nothing up
pub idle_on : (k k' : Know) (j : ℕ) (b : Bool) → k' ≡ found k j b → IsIdle k → IsIdle k'
idle_on k k' j b is idle = subst IsIdle (sym is) (record { lease = idle.lease; owed = idle.owed; dues = idle.dues; rights = idle.rights })

or_true : (b : Bool) → (b || true) ≡ true
or_true true = refl
or_true false = refl

-- the first ones, or the next one
more : (s : ℕ → Bool) (n : ℕ) → ((j : ℕ) → j < n → s (suc j) ≡ true) → (j : ℕ) → j < n + 1 → (s (suc j) || (nat_eq (suc j) (n + 1) && true)) ≡ true
more s n seen j below =
    ⊎_elim (λ lt. ap (λ b. b || (nat_eq (suc j) (n + 1) && true)) (seen j lt))
    (λ ge. ap (λ b. s (suc j) || (b && true)) (eq-eqb (suc j) (n + 1) (omega (arith, ge, below))) ∙ or_true (s (suc j))) (cases_lt j n)

-- It saw the first ones finished, and then the next one.
pub seen_more : (k k' : Know) (n : ℕ) → k' ≡ found k (n + 1) true → ((j : ℕ) → j < n → k.seen (suc j) ≡ true) → (j : ℕ) → j < n + 1
    → k'.seen (suc j) ≡ true
seen_more k k' n is seen j below = ap (λ (x : Know). x.seen (suc j)) is ∙ more k.seen n seen j below
