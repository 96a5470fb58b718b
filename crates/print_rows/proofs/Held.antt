-- What the tests' containers stand for, from words of 0 on.
use Rattle.std.proofs.Common.{◌≡◌, ℕ, ◌≤◌, Bool, ℤ, List, length, nat_lt, sym, ap, subst, ◌∙◌, arith}
use Rattle.std.proofs.lemmas.Bool.{lt-ltb}
use Rattle.job_base.specs.Forms.{IsForm, AreAllowed}

-- the words below the end are those of a memory that has so many
pub within : (m : List ℤ) (allowed : ℕ → Bool) (start end : ℕ) → allowed ≡ (λ w. nat_lt w (length m)) → end ≤ length m → AreAllowed start end allowed
within m allowed start end e h w lo hi = ap (λ f. f w) e ∙ lt-ltb w (length m) (omega arith)

-- words that stand for some contents do so after a call
pub kept : {A C : Type 0} (start end : ℕ) (standing : (ℕ → ℤ) → C → Type 0) (form : (ℕ → ℤ) → A × (ℕ → ℤ)) (effect : C → A × C) (cells after : ℕ → ℤ) (r : A)
    → IsForm start end standing form effect → (r, after) ≡ form cells → (c : C) × standing cells c → (c : C) × standing after c
kept start end standing form effect cells after r f e s =
    ((effect s.0).1, subst (λ x. standing x (effect s.0).1) (sym (ap (λ p. p.1) e)) (f.stands cells s.0 s.1).1)
