-- The greatest of a set, where it has none of the upper jobs.
use Rattle.std.proofs.Common.{◌≡◌, ℕ, zero, suc, ◌-◌, ◌<◌, ◌≤◌, ⊎_elim, true, false, ◌&&◌, Option, Some, None, refl, sym, ap, subst, ◌∙◌, arith}
use Rattle.std.specs.Prelude.{not, nat_lt}
use Rattle.std.proofs.lemmas.Bool.{cases_eq, cases_lt, cond-true, cond-false, and_parts, and_from, and_left, and_right, le-ltb, not_from_false, not-true}
use Rattle.job_base.specs.declared.JobId.{JobId}
use Rattle.frame_ast.specs.Jobs.{Jobs, greatest}
use Rattle.frame_ast.specs.Laws.{AreUpTo}
use Rattle.job_handle.specs.declared.handle.Handle.{Handle}
use Rattle.job_handle.specs.Sets.{bit_of, jobs_of, outside, job_numbered, IsLast}

none_above : (set : Jobs) (n m : ℕ) → m ≤ n → ((k : ℕ) → m < k → set k ≡ false) → greatest set n ≡ greatest set m
none_above set zero m le none = let z : 0 ≡ m = omega arith in subst (λ x. greatest set 0 ≡ greatest set x) z refl
none_above set (suc n) m le none = ⊎_elim
    (λ q. subst (λ x. greatest set (suc n) ≡ greatest set x) (sym q) refl)
    (λ ne. cond-false (set (suc n)) (suc n) (greatest set n) (none (suc n) (omega arith)) ∙ none_above set n m (omega arith) none)
    (cases_eq m (suc n))

the_last : (set : Jobs) (n : ℕ) → 0 < n → set n ≡ true → greatest set n ≡ n
the_last set zero low t = absurd (omega arith)
the_last set (suc n) low t = cond-true (set (suc n)) (suc n) (greatest set n) t

numbered : (j : ℕ) → 0 < j → Some (record { 0 = j }) ≡ job_numbered j
numbered zero low = absurd (omega arith)
numbered (suc j) low = refl

module _ (a b : Handle) where
  pub none_high : (k : ℕ) → 4096 < k → outside (jobs_of a) (jobs_of b) k ≡ false
  none_high k high = and_left (jobs_of a k) (not (jobs_of b k))
      (and_left (nat_lt 0 k && nat_lt k 4097) (bit_of a.words (k - 1)) (and_right (nat_lt 0 k) (nat_lt k 4097) (le-ltb k 4097 (omega arith))))

  pub found_last : (j : ℕ) → 0 < j → jobs_of a j ≡ true → jobs_of b j ≡ false → ((k : ℕ) → j < k → outside (jobs_of a) (jobs_of b) k ≡ false)
      → (n : ℕ) → AreUpTo n (jobs_of a) → Some (record { 0 = j }) ≡ job_numbered (greatest (outside (jobs_of a) (jobs_of b)) n)
  found_last j low t f none n known =
      let set : Jobs = outside (jobs_of a) (jobs_of b) in
      numbered j low ∙ ap (λ n. job_numbered n) (sym (none_above set n j (known j t).1 none
      ∙ the_last set j low (and_from (jobs_of a j) (not (jobs_of b j)) t (not_from_false (jobs_of b j) f))))

  pub found_none : ((k : ℕ) → 0 < k → outside (jobs_of a) (jobs_of b) k ≡ false) → (n : ℕ) → None ≡ job_numbered (greatest (outside (jobs_of a) (jobs_of b)) n)
  found_none none n = ap (λ n. job_numbered n) (sym (none_above (outside (jobs_of a) (jobs_of b)) n 0 (omega arith) none))

  up_to : (k from : ℕ) → ((k : ℕ) → from < k → k ≤ 4096 → outside (jobs_of a) (jobs_of b) k ≡ false) → from < k → outside (jobs_of a) (jobs_of b) k ≡ false
  up_to k from none low = ⊎_elim (λ high. none_high k high) (λ le. none k low le) (cases_lt 4096 k)

  pub is_greatest : (last : Option JobId) → IsLast (outside (jobs_of a) (jobs_of b)) 4096 last → (n : ℕ) → AreUpTo n (jobs_of a)
      → last ≡ job_numbered (greatest (outside (jobs_of a) (jobs_of b)) n)
  is_greatest None none n known = found_none (λ k low. up_to k 0 none low) n
  is_greatest (Some j) found n known =
      let p = and_parts (jobs_of a j.0) (not (jobs_of b j.0)) found.2 in
      found_last j.0 found.0 p.0 (not-true (jobs_of b j.0) p.1) (λ k low. up_to k j.0 found.3 low) n known
