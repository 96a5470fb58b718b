-- The steps on counts keep the rule.
use Rattle.std.proofs.Common.{◌≡◌, ◌≢◌, ◌⊎◌, inl, inr, ℕ, zero, suc, ◌+◌, ◌-◌, ◌<◌, ◌≤◌, ⊎_elim, Bool, cond, eqb, eq-eqb, ne_eqb, List, [], ◌∷◌, ◌++◌, length, get_or, set, length-set, get_or-set_other, get_or-set_same, refl, sym, ap, subst, ◌∙◌, arith}
use Rattle.std.proofs.lemmas.List.{set-get_or}
use mathlib.Core.Logic.{dite}
use mathlib.Core.Option.{some, none, some-injective, some-ne-none}
use native.Mathlib.Decide.{ℕ_discrete}
use lib.ListN.{get_elem?}
use prog.Atomic.{either}
use Rattle.atomic_table.specs.Table.{State, Me, step, keeps, Allows, Enters}
use Rattle.atomic_table.proofs.Lists.{at_set, set_here, set_else, at_longer, at_snoc}
use Rattle.piece_claims.specs.declared.view.View.{View}
use Rattle.piece_claims.specs.declared.view.View.TheVariants.{Saw, Given}
use Rattle.piece_claims.specs.Given.{AreGiven, IsGivenTo, Looks, Takes}

abbrev job_of : View → ℕ
job_of (Saw j n) = j
job_of (Given j i n) = j

abbrev place_of : View → ℕ
place_of (Saw j n) = n
place_of (Given j i n) = i

abbrev many_of : View → ℕ
many_of (Saw j n) = 0
many_of (Given j i n) = n

differ : (A : Type 0) (j n k i m : ℕ) → Saw j n ≡ Given k i m → A
differ A j n k i m e = absurd (cc e)

-- what a token has it has in other views too, if it is the same there
carried : (old new : List View) (a j k : ℕ) → ((i n : ℕ) → get_elem? old a ≡ some (Given j i n) → get_elem? new a ≡ some (Given j i n))
    → IsGivenTo old a j k → IsGivenTo new a j k
carried old new a j k same g = record { first = g.first; count = g.count; has = same g.first g.count g.has; from = g.from; below = g.below }

side : (k n : ℕ) → (k < n) ⊎ (n ≤ k)
side k n = grind arith

inside : {A : Type 0} (l : List A) (i : ℕ) (a : A) → get_elem? l i ≡ some a → i < length l
inside [] i a e = absurd (some-ne-none a (sym e))
inside (x ∷ xs) zero a e = omega arith
inside (x ∷ xs) (suc i) a e = let h = inside xs i a e in omega arith

module _ (jobs : ℕ) (s : State ℕ View) (H : AreGiven jobs s) where
  abbrev count : ℕ → ℕ
  count j = get_or s.words j 0

  -- a new token
  pub looked : (i n : ℕ) → n ≤ count i → AreGiven jobs record { words = s.words; homes = s.homes; views = s.views ++ Saw i n ∷ [] }
  looked i n le = record {
    size = H.size;
    once = λ a b j k p q. H.once a b j k (given a j k p) (given b j k q);
    below = λ a j k p. H.below a j k (given a j k p);
    all = λ j k lt.
        let t = H.all j k lt in
        (t.0, carried s.views (s.views ++ Saw i n ∷ []) t.0 j k (λ f m. at_longer s.views (Saw i n ∷ []) t.0 (Given j f m)) t.1);
    seen = λ a j c p. ⊎_elim
        (λ q. H.seen a j c q)
        (λ e. let at : count i ≡ count j = ap (λ v. count (job_of v)) e in let is : n ≡ c = ap place_of e in omega (arith, at, is, le))
        (at_snoc s.views (Saw i n) (Saw j c) a p);
  }
    where
      given : (a j k : ℕ) → IsGivenTo (s.views ++ Saw i n ∷ []) a j k → IsGivenTo s.views a j k
      given a j k = carried (s.views ++ Saw i n ∷ []) s.views a j k
          (λ f m p. ⊎_elim (λ q. q) (differ _ i n j f m) (at_snoc s.views (Saw i n) (Given j f m) a p))

  module _ (id i c : ℕ) (at : get_elem? s.views id ≡ some (Saw i c)) where
    -- what was given stays with who has it
    stays : (v : View) (a j k : ℕ) → IsGivenTo s.views a j k → IsGivenTo (set s.views id v) a j k
    stays v a j k = carried s.views (set s.views id v) a j k (λ f m p.
        set_else s.views id a v (λ e. differ _ i c j f m (some-injective (Saw i c) (Given j f m) (sym at ∙ (ap (get_elem? s.views) (sym e) ∙ p)))) ∙ p)

    -- a token that looks again
    pub missed : AreGiven jobs record { words = s.words; homes = s.homes; views = set s.views id (Saw i (count i)) }
    missed = record {
      size = H.size;
      once = λ a b j k p q. H.once a b j k (given a j k p) (given b j k q);
      below = λ a j k p. H.below a j k (given a j k p);
      all = λ j k lt. let t = H.all j k lt in (t.0, stays (Saw i (count i)) t.0 j k t.1);
      seen = λ a j n p. ⊎_elim
          (λ t. let same : count i ≡ count j = ap (λ v. count (job_of v)) t.1 in let is : count i ≡ n = ap place_of t.1 in omega (arith, same, is))
          (λ t. H.seen a j n t.1)
          (at_set s.views id a (Saw i (count i)) (Saw j n) p);
    }
      where
        given : (a j k : ℕ) → IsGivenTo (set s.views id (Saw i (count i))) a j k → IsGivenTo s.views a j k
        given a j k = carried (set s.views id (Saw i (count i))) s.views a j k
            (λ f m p. ⊎_elim (λ t. differ _ i (count i) j f m t.1) (λ t. t.1) (at_set s.views id a (Saw i (count i)) (Given j f m) p))

    module _ (low : i < jobs) (total : ℕ) (up : count i ≤ total) where
      abbrev new : View
      new = Given i (count i) (total - count i)

      abbrev words : List ℕ
      words = set s.words i total

      here : get_or words i 0 ≡ total
      here = let z = H.size in get_or-set_same s.words i total 0 (omega (arith, z, low))

      there : (j : ℕ) → j ≢ i → get_or words j 0 ≡ count j
      there j ne = get_or-set_other s.words i j total 0 ne

      grows : (j : ℕ) → count j ≤ get_or words j 0
      grows j = dite (ℕ_discrete j i)
          (λ e. let h = here in let a : count j ≡ count i = ap count e in let b : get_or words j 0 ≡ get_or words i 0 = ap (λ x. get_or words x 0) e in
          omega (arith, h, a, b, up))
          (λ ne. let t = there j ne in omega (arith, t))

      -- What a token has after the step is new, or it had it before.
      either_has : (a j k : ℕ) → IsGivenTo (set s.views id new) a j k
          → ((a ≡ id) × (j ≡ i) × (count i ≤ k) × (k < total)) ⊎ IsGivenTo s.views a j k
      either_has a j k g = ⊎_elim
          (λ t.
          let job : i ≡ j = ap job_of t.1 in
          let first : count i ≡ g.first = ap place_of t.1 in
          let many : total - count i ≡ g.count = ap many_of t.1 in
          let from = g.from in
          let below = g.below in
          inl (t.0, sym job, omega (arith, first, from), omega (arith, first, many, below, up)))
          (λ t. inr record { first = g.first; count = g.count; has = t.1; from = g.from; below = g.below })
          (at_set s.views id a new (Given j g.first g.count) g.has)

      -- who has a place after the step
      once_more : (a b j k : ℕ) → IsGivenTo (set s.views id new) a j k → IsGivenTo (set s.views id new) b j k → a ≡ b
      once_more a b j k p q = ⊎_elim
          (λ t. ⊎_elim (λ u. t.0 ∙ sym u.0) (λ u. twice b u t.1 t.2) (either_has b j k q))
          (λ t. ⊎_elim (λ u. twice a t u.1 u.2) (λ u. H.once a b j k t u) (either_has b j k q))
          (either_has a j k p)
        where
          -- the new places are nobody's
          twice : (d : ℕ) → IsGivenTo s.views d j k → j ≡ i → count i ≤ k → a ≡ b
          twice d p e high =
              let under = H.below d j k p in
              let same : count j ≡ count i = ap count e in
              absurd (omega (arith, under, same, high))

      below_more : (a j k : ℕ) → IsGivenTo (set s.views id new) a j k → k < get_or words j 0
      below_more a j k p = ⊎_elim
          (λ t.
          let h = here in
          let same : get_or words j 0 ≡ get_or words i 0 = ap (λ x. get_or words x 0) t.1 in
          let under = t.3 in
          omega (arith, h, same, under))
          (λ t. let under = H.below a j k t in let g = grows j in omega (arith, under, g))
          (either_has a j k p)

      all_more : (j k : ℕ) → k < get_or words j 0 → (a : ℕ) × IsGivenTo (set s.views id new) a j k
      all_more j k lt = dite (ℕ_discrete j i)
          (λ e.
          let h = here in
          let b : get_or words j 0 ≡ get_or words i 0 = ap (λ x. get_or words x 0) e in
          let d : count j ≡ count i = ap count e in
          ⊎_elim
          (λ under. old (omega (arith, d, under)))
          (λ high. (
            id,
            record {
              first = count i;
              count = total - count i;
              has = set_here s.views id new (inside s.views id (Saw i c) at) ∙ ap (λ x. some (Given x (count i) (total - count i))) (sym e);
              from = high;
              below = omega (arith, high, lt, h, b, up);
            },
          ))
          (side k (count i)))
          (λ ne. let t = there j ne in old (omega (arith, lt, t)))
        where
          old : k < count j → (a : ℕ) × IsGivenTo (set s.views id new) a j k
          old lt = let t = H.all j k lt in (t.0, stays new t.0 j k t.1)

      seen_more : (a j n : ℕ) → get_elem? (set s.views id new) a ≡ some (Saw j n) → n ≤ get_or words j 0
      seen_more a j n p = ⊎_elim
          (λ t. differ _ j n i (count i) (total - count i) (sym t.1))
          (λ t. let under = H.seen a j n t.1 in let g = grows j in omega (arith, under, g))
          (at_set s.views id a new (Saw j n) p)

      -- a token that is given places
      pub claimed : AreGiven jobs record { words = words; homes = s.homes; views = set s.views id new }
      claimed = record { size = length-set s.words i total ∙ H.size; once = once_more; below = below_more; all = all_more; seen = seen_more }

pub allows_look : (jobs slots i : ℕ) (first : Me ℕ View) → Enters (AreGiven jobs) slots i (λ n w. Looks (step slots i 0 0 none) first n (w, []))
allows_look jobs slots i first s H len fits = (Saw i (get_or s.words i 0), looked jobs s H i (get_or s.words i 0) (omega arith), refl)

-- after an exchange at the word i for a new total, where it was or wasn't the expected c
abbrev after : State ℕ View → ℕ → ℕ → ℕ → Bool → State ℕ View
after s id i total b = record {
  words = set s.words i (either b total (get_or s.words i 0));
  homes = s.homes;
  views = set s.views id (cond b (Given i (get_or s.words i 0) (total - get_or s.words i 0)) (Saw i (get_or s.words i 0)));
}

pub allows_claim : (jobs slots id i c k : ℕ) (me : Me ℕ View) → me.0 ≡ Saw i c → i < jobs
    → Allows (AreGiven jobs) slots id me i (λ n. either (eqb n c) (c + k) n) (Takes (step slots i c (c + k) none) me)
allows_claim jobs slots id i c k me was low s H len at fits =
    let n : ℕ = get_or s.words i 0 in
    let saw : get_elem? s.views id ≡ some (Saw i c) = at ∙ ap some was in
    (cond (eqb n c) (Given i n (c + k - n)) (Saw i n), keeps, tt, held n saw, (refl, λ k e. H.seen id i k (at ∙ ap some e)))
  where
    held : (n : ℕ) → get_elem? s.views id ≡ some (Saw i c) → AreGiven jobs (after s id i (c + k) (eqb (get_or s.words i 0) c))
    held n saw =
        let x : ℕ = get_or s.words i 0 in
        dite (ℕ_discrete x c)
        (λ e. subst (λ b. AreGiven jobs (after s id i (c + k) b)) (sym (eq-eqb x c e))
        (claimed jobs s H id i c saw low (c + k) (omega (arith, e))))
        (λ ne. subst (λ b. AreGiven jobs (after s id i (c + k) b)) (sym (ne_eqb x c ne))
        (subst (λ ws. AreGiven jobs record { words = ws; homes = s.homes; views = set s.views id (Saw i x) }) (sym (set-get_or s.words i 0))
        (missed jobs s H id i c saw)))
