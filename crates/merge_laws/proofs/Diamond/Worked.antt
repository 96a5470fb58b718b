-- The diamond meets the premises of the laws.
use Rattle.std.proofs.Common.{◌≡◌, ℕ, zero, suc, ◌<◌, ◌⊎◌, inl, inr, ⊎_elim, true, false, cond, ◌&&◌, ◌||◌, eqb, ltb, eqb-true, refl, sym, ap, subst, ◌∙◌, arith, ◌+ℤ◌, pos}
use Rattle.std.proofs.lemmas.Bool.{or_cases, and_parts, or_left, cond-true, cond-false, eq-eqb}
use Rattle.merge_laws.specs.Graph.{Cells, cells_before, Conflicts, LeadsTo, directly, further, IsWellOrdered}
use Rattle.merge_laws.specs.Jobs.{IsPredecessor, starts, comes_before, is_awaited}
use Rattle.merge_laws.specs.Diamond.{diamond_reads, diamond_writes, diamond_precedes, diamond_value, diamond, diamond_jobs}
use Rattle.merge_laws.specs.Examples.{DiamondIsAPlan}
use Rattle.merge_laws.proofs.Tests.{not_both}

pub writes_own : (p w : ℕ) → diamond_writes p w ≡ true → w ≡ p
writes_own p w t = eqb-true w p (and_parts (eqb w p) (ltb p 4) t).0

reads_own : (p w : ℕ) → p < 4 → diamond_writes p w ≡ true → diamond_reads p w ≡ true
reads_own zero w lt t = (and_parts (eqb w 0) (ltb 0 4) t).0
reads_own (suc zero) w lt t = or_left (eqb w 1) (eqb w 0) (and_parts (eqb w 1) (ltb 1 4) t).0
reads_own (suc (suc zero)) w lt t = or_left (eqb w 2) (eqb w 0) (and_parts (eqb w 2) (ltb 2 4) t).0
reads_own (suc (suc (suc zero))) w lt t = or_left (eqb w 3) (eqb w 1 || eqb w 2) (and_parts (eqb w 3) (ltb 3 4) t).0
reads_own (suc (suc (suc (suc p)))) w lt t = absurd (omega arith)

-- what the pieces of the job read
pub reads_first : (w : ℕ) → diamond_reads 1 w ≡ true → (w ≡ 1) ⊎ (w ≡ 0)
reads_first w t = ⊎_elim (λ e. inl (eqb-true w 1 e)) (λ e. inr (eqb-true w 0 e)) (or_cases (eqb w 1) (eqb w 0) t)

pub reads_second : (w : ℕ) → diamond_reads 2 w ≡ true → (w ≡ 2) ⊎ (w ≡ 0)
reads_second w t = ⊎_elim (λ e. inl (eqb-true w 2 e)) (λ e. inr (eqb-true w 0 e)) (or_cases (eqb w 2) (eqb w 0) t)

-- they don't conflict
no_conflict : (w : ℕ) → Conflicts diamond 1 2 w → ⊥
no_conflict w c = ⊎_elim
    (λ t. let e = writes_own 1 w t.0 in ⊎_elim (λ f. omega arith) (λ f. omega arith) (reads_second w t.1))
    (λ t. let e = writes_own 2 w t.1 in ⊎_elim (λ f. omega arith) (λ f. omega arith) (reads_first w t.0)) c

earlier : (p q : ℕ) → diamond_precedes p q ≡ true → p < q
earlier zero zero b = absurd (not_both b refl)
earlier zero (suc q) b = omega arith
earlier (suc zero) zero b = absurd (not_both b refl)
earlier (suc zero) (suc zero) b = absurd (not_both b refl)
earlier (suc zero) (suc (suc zero)) b = omega arith
earlier (suc zero) (suc (suc (suc q))) b = omega arith
earlier (suc (suc zero)) zero b = absurd (not_both b refl)
earlier (suc (suc zero)) (suc zero) b = absurd (not_both b refl)
earlier (suc (suc zero)) (suc (suc zero)) b = absurd (not_both b refl)
earlier (suc (suc zero)) (suc (suc (suc q))) b = omega arith
earlier (suc (suc (suc p))) q b = absurd (not_both b refl)

leads : (p q w : ℕ) → p < q → q < 4 → Conflicts diamond p q w → LeadsTo diamond p q
leads zero (suc zero) w lt le c = directly refl
leads zero (suc (suc zero)) w lt le c = directly refl
leads zero (suc (suc (suc zero))) w lt le c = directly refl
leads (suc zero) (suc (suc zero)) w lt le c = absurd (no_conflict w c)
leads (suc zero) (suc (suc (suc zero))) w lt le c = directly refl
leads (suc (suc zero)) (suc (suc (suc zero))) w lt le c = directly refl
leads p q w lt le c = absurd (omega arith)

-- a piece makes its value of what it reads alone
same_value : (p : ℕ) (c d : Cells) → p < 4 → ((w : ℕ) → diamond_reads p w ≡ true → c w ≡ d w) → diamond_value p c ≡ diamond_value p d
same_value zero c d lt same = refl
same_value (suc zero) c d lt same = ap (λ x. x +ℤ pos 1) (same 0 refl)
same_value (suc (suc zero)) c d lt same = ap (λ x. x +ℤ pos 2) (same 0 refl)
same_value (suc (suc (suc zero))) c d lt same = ap (λ x. x +ℤ c 2) (same 1 refl) ∙ ap (λ x. d 1 +ℤ x) (same 2 refl)
same_value (suc (suc (suc (suc p)))) c d lt same = absurd (omega arith)

pub diamond_well_ordered : IsWellOrdered diamond
diamond_well_ordered = record {
  reads_written = reads_own;
  earlier = λ p q lt b. earlier p q b;
  conflicts_lead = leads;
  writes_only = λ p w lt f. cond-false (diamond_writes p w) (diamond_value p (cells_before diamond p)) (cells_before diamond p w) f;
  reads_only = λ p c lt same w t. cond-true (diamond_writes p w) (diamond_value p c) (c w) t
      ∙ (same_value p c (cells_before diamond p) lt same ∙ sym (cond-true (diamond_writes p w) (diamond_value p (cells_before diamond p))
      (cells_before diamond p w) t));
}

-- ITS JOB

pub part_is : (p j : ℕ) → ((eqb p 1 || eqb p 2) && eqb j 0) ≡ true → ((p ≡ 1) ⊎ (p ≡ 2)) × (j ≡ 0)
part_is p j t = let a = and_parts (eqb p 1 || eqb p 2) (eqb j 0) t in (
  ⊎_elim (λ e. inl (eqb-true p 1 e)) (λ e. inr (eqb-true p 2 e))
      (or_cases (eqb p 1) (eqb p 2) a.0),
  eqb-true j 0 a.1,
)

no_part : (k j : ℕ) → k < 2 → ((eqb (cond (eqb k 0) 0 3) 1 || eqb (cond (eqb k 0) 0 3) 2) && eqb j 0) ≡ false
no_part zero j lt = refl
no_part (suc zero) j lt = refl
no_part (suc (suc k)) j lt = absurd (omega arith)

one_segment : (i k : ℕ) → i < 2 → k < 2 → ◌≡◌ {A = ℕ} (cond (eqb i 0) 0 3) (cond (eqb k 0) 0 3) → i ≡ k
one_segment zero zero li lk e = refl
one_segment zero (suc zero) li lk e = absurd (omega arith)
one_segment (suc zero) zero li lk e = absurd (omega arith)
one_segment (suc zero) (suc zero) li lk e = refl
one_segment zero (suc (suc k)) li lk e = absurd (omega arith)
one_segment (suc zero) (suc (suc k)) li lk e = absurd (omega arith)
one_segment (suc (suc i)) k li lk e = absurd (omega arith)

predecessor : (q p : ℕ) → diamond_precedes q p ≡ true → IsPredecessor diamond_jobs q p
predecessor zero (suc zero) b = starts 0 (omega arith) refl refl
predecessor zero (suc (suc zero)) b = starts 0 (omega arith) refl refl
predecessor zero (suc (suc (suc zero))) b = comes_before 0 (omega arith) refl refl
predecessor (suc zero) (suc (suc (suc zero))) b = is_awaited 0 1 (omega arith) (omega arith) refl refl (omega arith) refl
predecessor (suc (suc zero)) (suc (suc (suc zero))) b = is_awaited 0 1 (omega arith) (omega arith) refl refl (omega arith) refl
predecessor q p b = absurd (not_both b refl)

each : (p : ℕ) → p < 4 → ((k : ℕ) × (k < 2) × (p ≡ cond (eqb k 0) 0 3)) ⊎ ((j : ℕ) × (j < 1) × (((eqb p 1 || eqb p 2) && eqb j 0) ≡ true))
each zero lt = inl (0, omega arith, refl)
each (suc zero) lt = inr (0, omega arith, refl)
each (suc (suc zero)) lt = inr (0, omega arith, refl)
each (suc (suc (suc zero))) lt = inl (1, omega arith, refl)
each (suc (suc (suc (suc p)))) lt = absurd (omega arith)

pub below_one : (P : ℕ → Type 0) (j : ℕ) → j < 1 → P 0 → P j
below_one P j lt x = let z : 0 ≡ j = omega arith in subst P z x

-- who leads is earlier, and no piece is between the two of the job
leads_earlier : {p q : ℕ} → LeadsTo diamond p q → p < q
leads_earlier (directly {p = p} {q = q} b) = earlier p q b
leads_earlier (further {q = q} {r = r} l b) = let up = leads_earlier l in let on = earlier q r b in omega arith

none_between : {p q : ℕ} → LeadsTo diamond p q → p ≡ 1 → q ≡ 2 → ⊥
none_between (directly {q = q} b) e f = not_both b (ap (λ x. diamond_precedes x q) e ∙ ap (diamond_precedes 1) f)
none_between (further {q = q} {r = r} l b) e f = let up = leads_earlier l in let on = earlier q r b in omega arith

pub diamond_is_a_plan : DiamondIsAPlan
diamond_is_a_plan = record {
  well_ordered = diamond_well_ordered;
  jobs = record {
    one_job = λ p i j a b. (part_is p i a).1 ∙ sym (part_is p j b).1;
    no_job = no_part;
    one_segment = one_segment;
    starter_below = λ j lt. omega arith;
    dependency_below = λ i j d. absurd (not_both d refl);
  };
  parts = λ j lt. (1, omega arith, eq-eqb j 0 (omega arith));
  of = record {
    count = refl;
    predecessor = predecessor;
    each = each;
    last = 1;
    last_is = refl;
    last_waits = λ j lt. eq-eqb j 0 (omega arith);
  };
  opening = record {
    states = λ p. refl;
    rests = λ j lt. below_one (λ i. 2 ≡ Rattle.merge_laws.specs.Numbers.tally (λ p. (eqb p 1 || eqb p 2) && eqb i 0) 4) j lt refl;
    waits = λ j lt. refl;
    cells = λ w. refl;
    leases = λ k. refl;
    claims = refl;
  };
  commutes = λ l. none_between l refl refl;
}
