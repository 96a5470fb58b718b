-- What the order of a plan gives. Pieces that are ready and not ended share no word that one of them writes, and where of the pieces that
-- write a word exactly the earlier ones are ended, the merged value is that of script order.
use Rattle.std.proofs.Common.{◌≡◌, ◌≢◌, ℕ, zero, suc, ◌<◌, ◌≤◌, inl, inr, ⊎_elim, Bool, true, false, ◌&&◌, refl, sym, ap, subst, ◌∙◌, arith}
use Rattle.std.proofs.lemmas.Bool.{cases_Bool, cases_eq, cond-true, cond-false}
use Rattle.merge_laws.specs.Graph.{PieceGraph, cells_before, LeadsTo, directly, further, IsWellOrdered}
use Rattle.merge_laws.specs.Core.{IsReady}
use Rattle.merge_laws.specs.Merge.{after_latest, merged_cells}
use Rattle.merge_laws.proofs.Tests.{not_both, either_side, and_of, and_none}

module _ (g : PieceGraph) (ended : ℕ → Bool) (closed : (p : ℕ) → ended p ≡ true → IsReady g ended p) where
  -- what leads to a ready piece is ended
  pub leads_ended : {p q : ℕ} → LeadsTo g p q → IsReady g ended q → ended p ≡ true
  leads_ended {p = p} (directly b) r = r p b
  leads_ended (further {q = q} l b) r = leads_ended l (closed q (r q b))

  -- Of two pieces that are ready and not ended, none reads what the other writes.
  pub apart : IsWellOrdered g → (p q w : ℕ) → p < g.count → q < g.count → p ≢ q → IsReady g ended p → IsReady g ended q → ended p ≡ false → ended q ≡ false
      → g.writes p w ≡ true → g.reads q w ≡ false
  apart o p q w hp hq n rp rq ep eq t = ⊎_elim (λ r. ⊎_elim
      (λ lt. absurd (not_both (leads_ended (o.conflicts_lead p q w lt hq (inl (t, r))) rq) ep))
      (λ lt. absurd (not_both (leads_ended (o.conflicts_lead q p w lt hp (inr (r, t))) rp) eq)) (either_side p q n)) (λ f. f) (cases_Bool (g.reads q w))

module _ (g : PieceGraph) (w : ℕ) where
  -- the last of n + 1 pieces writes the word and is ended, or isn't, or doesn't write it
  counts : (ended : ℕ → Bool) (n : ℕ) → g.writes n w ≡ true → ended n ≡ true → after_latest g ended w (suc n) ≡ suc n
  counts ended n t e = cond-true (g.writes n w && ended n) (suc n) (after_latest g ended w n) (and_of (g.writes n w) (ended n) t ∙ e)

  passes : (ended : ℕ → Bool) (n : ℕ) → g.writes n w ≡ true → ended n ≡ false → after_latest g ended w (suc n) ≡ after_latest g ended w n
  passes ended n t e = cond-false (g.writes n w && ended n) (suc n) (after_latest g ended w n) (and_of (g.writes n w) (ended n) t ∙ e)

  skips : (ended : ℕ → Bool) (n : ℕ) → g.writes n w ≡ false → after_latest g ended w (suc n) ≡ after_latest g ended w n
  skips ended n t = cond-false (g.writes n w && ended n) (suc n) (after_latest g ended w n) (and_none (g.writes n w) (ended n) t)

  -- pieces that don't write the word don't count for it
  pub latest_same : (f h : ℕ → Bool) → ((q : ℕ) → g.writes q w ≡ true → f q ≡ h q) → (n : ℕ) → after_latest g f w n ≡ after_latest g h w n
  latest_same f h same zero = refl
  latest_same f h same (suc n) = let r = latest_same f h same n in ⊎_elim
      (λ t. let e = same n t in ⊎_elim (λ y. counts f n t y ∙ sym (counts h n t (sym e ∙ y))) (λ y. passes f n t y ∙ (r ∙ sym (passes h n t (sym e ∙ y))))
      (cases_Bool (f n)))
      (λ t. skips f n t ∙ (r ∙ sym (skips h n t))) (cases_Bool (g.writes n w))

  pub latest_none : (n : ℕ) → after_latest g (λ p. false) w n ≡ 0
  latest_none zero = refl
  latest_none (suc n) = ⊎_elim (λ t. passes (λ p. false) n t refl ∙ latest_none n) (λ t. skips (λ p. false) n t ∙ latest_none n) (cases_Bool (g.writes n w))

  -- Where of the pieces that write the word exactly those before p are ended, the merged value is that before p.
  pub merged_up_to : IsWellOrdered g → (ended : ℕ → Bool) (n p : ℕ) → p ≤ n → n ≤ g.count
      → ((q : ℕ) → q < p → g.writes q w ≡ true → ended q ≡ true)
      → ((q : ℕ) → p ≤ q → q < g.count → g.writes q w ≡ true → ended q ≡ false)
      → cells_before g (after_latest g ended w n) w ≡ cells_before g p w
  merged_up_to o ended zero p le top below above = let e : p ≡ 0 = omega arith in ap (λ k. cells_before g k w) (sym e)
  merged_up_to o ended (suc n) p le top below above = ⊎_elim
      (λ t. ⊎_elim
      (λ e. ap (λ k. cells_before g k w) (counts ended n t (below n (omega arith) t) ∙ sym e))
      (λ ne. ap (λ k. cells_before g k w) (passes ended n t (above n (omega arith) (omega arith) t))
      ∙ merged_up_to o ended n p (omega arith) (omega arith) below above) (cases_eq p (suc n)))
      (λ t. ap (λ k. cells_before g k w) (skips ended n t) ∙ ⊎_elim
      (λ e. merged_up_to o ended n n (omega arith) (omega arith) (λ q h. below q (omega arith))
      (λ q h lt u. ⊎_elim (λ i. absurd (not_both (subst (λ k. g.writes k w ≡ true) i u) t)) (λ i. above q (omega arith) lt u) (cases_eq q n))
      ∙ (sym (o.writes_only n w (omega arith) t) ∙ ap (λ k. cells_before g k w) (sym e)))
      (λ ne. merged_up_to o ended n p (omega arith) (omega arith) below above) (cases_eq p (suc n))) (cases_Bool (g.writes n w))

pub merged_same : (g : PieceGraph) (f h : ℕ → Bool) (w : ℕ) → ((q : ℕ) → g.writes q w ≡ true → f q ≡ h q) → merged_cells g f w ≡ merged_cells g h w
merged_same g f h w same = ap (λ k. cells_before g k w) (latest_same g w f h same g.count)
