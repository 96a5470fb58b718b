-- The pieces of a cut, one after another, are all its indexes.
use Rattle.std.proofs.Common.{◌≡◌, ℕ, zero, suc, ◌+◌, ◌-◌, ◌*◌, ◌<◌, ◌≤◌, min, ◌∷◌, ◌++◌, sym, ap, subst, ◌∙◌, ne_eqb, ⊎_elim, append-nil, arith}
use Rattle.std.proofs.lemmas.Bool.{cases_eq, cond-false}
use Rattle.std.specs.Prelude.{nat_eq}
use Rattle.std.specs.Int.{div_ceil}
use Rattle.std.proofs.lemmas.Grind.{div_ceil_times}
use Rattle.batch_cut.specs.Cuts.{count_of, numbers_from, indexes_of, IsCovered}

joined : (a m l b : ℕ) → b ≡ a + m → numbers_from a m ++ numbers_from b l ≡ numbers_from a (m + l)
joined a zero l b e = ap (λ x. numbers_from x l) (let h : b ≡ a = omega arith in h) ∙ ap (λ x. numbers_from a x) (let h : l ≡ zero + l = omega arith in h)
joined a (suc m) l b e = ap (λ xs. a ∷ xs) (joined (suc a) m l b (omega arith))
    ∙ ap (λ x. numbers_from a x) (let h : suc (m + l) ≡ suc m + l = omega arith in h)

so_far : (n step k : ℕ) → indexes_of n step k ≡ numbers_from 0 (min (k * step) n)
so_far n step zero = ap (λ x. numbers_from 0 x) (let h : 0 ≡ min (zero * step) n = grind arith in h)
so_far n step (suc k) =
    let here : ℕ = k * step in
    let next : ℕ = (k + 1) * step in
    let grows : next ≡ k * step + step = grind arith in
    let same : suc k * step ≡ next = grind arith in
    ap (λ xs. xs ++ numbers_from here (min next n - here)) (so_far n step k)
    ∙ pieces here next n grows
    ∙ ap (λ x. numbers_from 0 (min x n)) (sym same)
  where
    pieces : (here next n : ℕ) → next ≡ here + step → numbers_from 0 (min here n) ++ numbers_from here (min next n - here) ≡ numbers_from 0 (min next n)
    pieces here next n e = ⊎_elim
        (λ z. joined 0 (min here n) (min next n - here) here (omega arith)
        ∙ ap (λ x. numbers_from 0 x) (let h : min here n + (min next n - here) ≡ min next n = omega arith in h))
        (λ ne. ap (λ l. numbers_from 0 (min here n) ++ numbers_from here l) (let h : min next n - here ≡ 0 = omega arith in h)
        ∙ append-nil (numbers_from 0 (min here n)) ∙ ap (λ x. numbers_from 0 x) (let h : min here n ≡ min next n = omega arith in h))
        (cases_eq (here - n) 0)

pub covered : (n step count : ℕ) → n ≤ count * step → IsCovered n step count
covered n step count h = so_far n step count ∙ ap (λ x. numbers_from 0 x) (let e : min (count * step) n ≡ n = omega arith in e)

pub enough : (n step : ℕ) → 0 < step → n ≤ count_of n step * step
enough n step h = ⊎_elim
    (λ z. omega arith)
    (λ ne. subst (λ x. n ≤ x * step) (sym (cond-false (nat_eq n 0) 1 (div_ceil n step) (ne_eqb n 0 ne))) (div_ceil_times n step h).0)
    (cases_eq n 0)
