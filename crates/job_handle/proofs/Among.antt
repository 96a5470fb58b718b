-- Handles whose jobs are among the first n.
use Rattle.std.proofs.Common.{◌≡◌, ℕ, ◌<◌, ◌≤◌, ⊎_elim, sym, ◌∙◌, arith}
use Rattle.std.proofs.lemmas.Bool.{or_cases, eqb-true}
use Rattle.frame_ast.specs.Jobs.{nobody, only, both}
use Rattle.frame_ast.specs.Laws.{AreUpTo}
use Rattle.job_handle.specs.declared.handle.Handle.{Handle}
use Rattle.job_handle.specs.Sets.{jobs_of}
use Rattle.job_handle.proofs.Booleans.{not_both}

pub empty_among : (n : ℕ) (h : Handle) → jobs_of h ≡ nobody → AreUpTo n (jobs_of h)
empty_among n h e j t = absurd (not_both t (λ i. e i j))

pub one_among : (n j : ℕ) (h : Handle) → jobs_of h ≡ only j → 0 < j → j ≤ n → AreUpTo n (jobs_of h)
one_among n j h e low high k t = let same : k ≡ j = eqb-true k j (sym (λ i. e i k) ∙ t) in (omega arith, omega arith)

pub union_among : (n : ℕ) (a b h : Handle) → jobs_of h ≡ both (jobs_of a) (jobs_of b) → AreUpTo n (jobs_of a) → AreUpTo n (jobs_of b) → AreUpTo n (jobs_of h)
union_among n a b h e p q k t = ⊎_elim (λ l. p k l) (λ r. q k r) (or_cases (jobs_of a k) (jobs_of b k) (sym (λ i. e i k) ∙ t))

pub still_among : (n m : ℕ) (h : Handle) → n ≤ m → AreUpTo n (jobs_of h) → AreUpTo m (jobs_of h)
still_among n m h le p k t = let range = p k t in let high = range.1 in (range.0, omega arith)
