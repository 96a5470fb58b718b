-- A piece of the newest job is listed, and the pieces stay in order; and so for all its pieces.
use Rattle.std.proofs.Common.{◌≡◌, ◌≢◌, ℕ, suc, ◌<◌, ◌≤◌, ◌⊎◌, inl, inr, ⊎_elim, true, eqb, eqb-true, List, [], ◌∷◌, ◌++◌, length, refl, sym, ap, subst, ◌∙◌, arith}
use Rattle.std.proofs.lemmas.Bool.{or_cases}
use Rattle.merge_laws.specs.Graph.{LeadsTo, directly}
use Rattle.merge_laws.specs.Pieces.{Piece, piece_at, latest_segment, graph_of}
use Rattle.merge_laws.specs.Ledger.{Ledger, IsLedger, Ancestor, own, older, IsFree, is_done, IsUsedBy, IsWrittenBy, AreInOrder, HasOlderParts}
use Rattle.merge_laws.specs.Planning.{IsPartOfNewest, AreApart, IsApartFromJob, IsApartFrom}
use Rattle.merge_laws.specs.PlanLaws.{PartsKeepOrder, JobsKeepOrder}
use Rattle.merge_laws.proofs.Tests.{not_both, either_side, by_equal}
use Rattle.merge_laws.proofs.Places.{leads_along, leads_on, at_new, at_old, latest_old, precedes_old, precedes_by_job, precedes_at, done_segment, done_completed, arrives}

module _ (l : Ledger) (e : List Piece) (y : Piece) (L : IsLedger l) (D : AreInOrder l e) (H : HasOlderParts l e) (S : IsPartOfNewest l y)
    (A : IsApartFromJob l e y) where
  old_at : (p : ℕ) → p < length e → piece_at e p ≡ piece_at (y ∷ e) p
  old_at p lt = sym (at_old y e p (λ q. absurd (omega arith)))

  no_segment : y.job ≢ 0
  no_segment q = let c = S.is_job in let j = S.job in absurd (omega arith)

  -- A piece of a job leads to the new one where a piece of a job that depends on it does.
  leads_over : (p q : ℕ) → p < length e → q < length e → (piece_at e p).job < (piece_at e q).job → (piece_at e p).job ≢ 0
      → (piece_at e q).after (piece_at e p).job ≡ true
      → LeadsTo (graph_of (y ∷ e)) q (length e) → LeadsTo (graph_of (y ∷ e)) p (length e)
  leads_over p q lt le less n a r =
      let earlier : p < q = by_equal p q (λ s. let same : (piece_at e p).job ≡ (piece_at e q).job = ap (λ m. (piece_at e m).job) s in absurd (omega arith))
      (λ ne. ⊎_elim (λ t. t) (λ t. ⊎_elim (λ z. absurd (n z)) (λ s. absurd (omega arith)) (D.rising q p t lt)) (either_side p q ne)) in
      leads_on (directly (precedes_old y e p q (precedes_at e p q earlier le n a))) r

  -- All pieces of an ancestor of what the new piece comes after lead to it. An ancestor is older than the newest job.
  ancestor_leads : (j : ℕ) → Ancestor l.depends y.after j → (j < l.jobs) ×
      ((p : ℕ) → p < length e → (piece_at e p).job ≡ j → LeadsTo (graph_of (y ∷ e)) p (length e))
  ancestor_leads j (own a) = (
    S.after_older j a,
    λ p lt q. by_equal (piece_at e p).job 0
        (λ z. arrives l y e D p lt (done_segment l (piece_at e p).job z))
        (λ n. directly (precedes_by_job y e p lt n (subst (λ k. y.after k ≡ true) (sym q) a))),
  )
  ancestor_leads k (older {j = j} a d) = let before = ancestor_leads j a in let less : k < j = (L.older j k d).1 in let below : j < l.jobs = before.0 in (
    omega arith,
    λ p lt q.
        let part = H j (omega arith) below in
        let job : (piece_at e part.0).job ≡ j = part.2 in
        let after : (piece_at e part.0).after (piece_at e p).job ≡ true =
        D.waits part.0 (piece_at e p).job part.1 (subst (λ i. l.depends i (piece_at e p).job ≡ true) (sym job)
        (subst (λ i. l.depends j i ≡ true) (sym q) d)) in
        by_equal (piece_at e p).job 0
        (λ z. arrives l y e D p lt (done_segment l (piece_at e p).job z))
        (λ n. leads_over p part.0 lt part.1 (let same : (piece_at e p).job ≡ k = q in omega arith) n after (before.1 part.0 part.1 job)),
  )

  -- a piece whose job is free leads to the new one
  free_leads : (p : ℕ) → p < length e → IsFree l y.after (piece_at e p).job → LeadsTo (graph_of (y ∷ e)) p (length e)
  free_leads p lt f = ⊎_elim
      (λ c. arrives l y e D p lt (done_completed l (piece_at e p).job c))
      (λ a. (ancestor_leads (piece_at e p).job a).1 p lt refl) f

  y_latest : latest_segment (y ∷ e) ≡ latest_segment e
  y_latest = latest_old y e no_segment

  keeps : {p q : ℕ} → LeadsTo (graph_of e) p q → LeadsTo (graph_of (y ∷ e)) p q
  keeps r = leads_along (precedes_old y e) r

  of_new : (P : Piece → Type 0) (k : ℕ) → k ≡ length e → P (piece_at (y ∷ e) k) → P y
  of_new P k q t = subst P (ap (λ m. piece_at (y ∷ e) m) q ∙ at_new y e) t

  to_new : (P : Piece → Type 0) (k : ℕ) → k ≡ length e → P y → P (piece_at (y ∷ e) k)
  to_new P k q t = subst P (sym (ap (λ m. piece_at (y ∷ e) m) q ∙ at_new y e)) t

  -- An earlier piece that writes what the new one reads: it is done; or it writes the container that the new one's job uses, since no other
  -- live one has the word. Then it is of this job and apart, or its job is free.
  writer_leads : (p w : ℕ) → p < length e → (piece_at e p).writes w ≡ true → y.reads w ≡ true → LeadsTo (graph_of (y ∷ e)) p (length e)
  writer_leads p w lt a r =
      let u = S.reads w r in
      let known = D.known p lt in
      ⊎_elim (λ d. arrives l y e D p lt d)
      (λ v. by_equal (piece_at e p).job l.jobs
      (λ q. absurd (not_both r ((A p lt q).first w a)))
      (λ n. free_leads p lt (S.writers_free u.container (piece_at e p).job u.live u.user
      (subst (λ k. l.writers k (piece_at e p).job ≡ true) (L.apart v.container u.container w v.live u.live v.word u.word) v.writer) (omega arith))))
      (D.writes_held p w lt a)

  reader_leads : (p w : ℕ) → p < length e → (piece_at e p).reads w ≡ true → y.writes w ≡ true → LeadsTo (graph_of (y ∷ e)) p (length e)
  reader_leads p w lt a r =
      let u = S.writes w r in
      let known = D.known p lt in
      ⊎_elim (λ d. arrives l y e D p lt d)
      (λ v. by_equal (piece_at e p).job l.jobs
      (λ q. absurd (not_both a ((A p lt q).second w r)))
      (λ n. free_leads p lt (S.users_free u.container (piece_at e p).job u.live u.writer
      (subst (λ k. l.users k (piece_at e p).job ≡ true) (L.apart v.container u.container w v.live u.live v.word u.word) v.user) (omega arith))))
      (D.reads_held p w lt a)

  started_leads : (p q w : ℕ) → p < q → q < suc (length e)
      → (((piece_at (y ∷ e) p).writes w ≡ true) × ((piece_at (y ∷ e) q).reads w ≡ true))
      ⊎ (((piece_at (y ∷ e) p).reads w ≡ true) × ((piece_at (y ∷ e) q).writes w ≡ true)) → LeadsTo (graph_of (y ∷ e)) p q
  started_leads p q w lt le c = let p_old = sym (old_at p (omega arith)) in by_equal q (length e)
      (λ s. subst (λ m. LeadsTo (graph_of (y ∷ e)) p m) (sym s) (⊎_elim
      (λ t. writer_leads p w (omega arith) (subst (λ (z : Piece). z.writes w ≡ true) p_old t.0) (of_new (λ z. z.reads w ≡ true) q s t.1))
      (λ t. reader_leads p w (omega arith) (subst (λ (z : Piece). z.reads w ≡ true) p_old t.0) (of_new (λ z. z.writes w ≡ true) q s t.1)) c))
      (λ n. let q_old = sym (old_at q (omega arith)) in keeps (D.conflicts_lead p q w lt (omega arith) (⊎_elim
      (λ t. inl (subst (λ (z : Piece). z.writes w ≡ true) p_old t.0, subst (λ (z : Piece). z.reads w ≡ true) q_old t.1))
      (λ t. inr (subst (λ (z : Piece). z.reads w ≡ true) p_old t.0, subst (λ (z : Piece). z.writes w ≡ true) q_old t.1)) c)))

  started_arrived : (p : ℕ) → p < suc (length e) → is_done l (piece_at (y ∷ e) p).job ≡ true
      → p ≡ latest_segment (y ∷ e) ⊎ LeadsTo (graph_of (y ∷ e)) p (latest_segment (y ∷ e))
  started_arrived p lt d = by_equal p (length e)
      (λ q. absurd (let j : (piece_at (y ∷ e) p).job ≡ l.jobs = to_new (λ z. z.job ≡ l.jobs) p q S.job in let c = S.is_job in
      ⊎_elim (λ z. let none = eqb-true (piece_at (y ∷ e) p).job 0 z in omega arith) (λ t. not_both (subst (λ i. l.completed i ≡ true) j t) S.uncompleted)
      (or_cases (eqb (piece_at (y ∷ e) p).job 0) (l.completed (piece_at (y ∷ e) p).job) d)))
      (λ n. ⊎_elim (λ q. inl (q ∙ sym y_latest)) (λ r. inr (subst (λ k. LeadsTo (graph_of (y ∷ e)) p k) (sym y_latest) (keeps r)))
      (D.arrived p (omega arith) (subst (λ (z : Piece). is_done l z.job ≡ true) (sym (old_at p (omega arith))) d)))

  started : AreInOrder l (y ∷ e)
  started = record {
    known = λ p lt. by_equal p (length e)
        (λ q. to_new (λ z. z.job ≤ l.jobs) p q (let j = S.job in omega arith))
        (λ n. subst (λ (z : Piece). z.job ≤ l.jobs) (old_at p (omega arith)) (D.known p (omega arith)));
    rising = λ p q lt le. by_equal q (length e)
        (λ s. inr (let a : (piece_at (y ∷ e) p).job ≤ l.jobs = subst (λ (z : Piece). z.job ≤ l.jobs) (old_at p (omega arith)) (D.known p (omega arith)) in
        let b : (piece_at (y ∷ e) q).job ≡ l.jobs = to_new (λ z. z.job ≡ l.jobs) q s S.job in omega arith))
        (λ n. subst (λ (z : Piece). (piece_at (y ∷ e) q).job ≡ 0 ⊎ z.job ≤ (piece_at (y ∷ e) q).job) (old_at p (omega arith))
        (subst (λ (z : Piece). z.job ≡ 0 ⊎ (piece_at e p).job ≤ z.job) (old_at q (omega arith)) (D.rising p q lt (omega arith))));
    waits = λ p k lt. by_equal p (length e)
        (λ q. to_new (λ z. l.depends z.job k ≡ true → z.after k ≡ true) p q (λ d. S.after k (subst (λ j. l.depends j k ≡ true) S.job d)))
        (λ n. subst (λ (z : Piece). l.depends z.job k ≡ true → z.after k ≡ true) (old_at p (omega arith)) (D.waits p k (omega arith)));
    segment_below = subst (λ k. k < suc (length e)) (sym y_latest) (let t = D.segment_below in omega arith);
    segment = subst (λ k. (piece_at (y ∷ e) k).job ≡ 0) (sym y_latest) (subst (λ (z : Piece). z.job ≡ 0) (old_at (latest_segment e) D.segment_below) D.segment);
    arrived = started_arrived;
    reads_held = λ p w lt. by_equal p (length e)
        (λ q. to_new (λ z. z.reads w ≡ true → is_done l z.job ≡ true ⊎ IsUsedBy l z.job w) p q
        (λ r. inr (subst (λ j. IsUsedBy l j w) (sym S.job) (S.reads w r))))
        (λ n. subst (λ (z : Piece). z.reads w ≡ true → is_done l z.job ≡ true ⊎ IsUsedBy l z.job w) (old_at p (omega arith)) (D.reads_held p w (omega arith)));
    writes_held = λ p w lt. by_equal p (length e)
        (λ q. to_new (λ z. z.writes w ≡ true → is_done l z.job ≡ true ⊎ IsWrittenBy l z.job w) p q
        (λ r. inr (subst (λ j. IsWrittenBy l j w) (sym S.job) (S.writes w r))))
        (λ n. subst (λ (z : Piece). z.writes w ≡ true → is_done l z.job ≡ true ⊎ IsWrittenBy l z.job w) (old_at p (omega arith))
        (D.writes_held p w (omega arith)));
    reads_written = λ p w. by_equal p (length e)
        (λ q. to_new (λ z. z.writes w ≡ true → z.reads w ≡ true) p q (S.reads_written w))
        (λ n. subst (λ (z : Piece). z.writes w ≡ true → z.reads w ≡ true) (sym (at_old y e p n)) (D.reads_written p w));
    conflicts_lead = started_leads;
  }

pub parts_keep_order : PartsKeepOrder
parts_keep_order l e y L D H S A = started l e y L D H S A

-- ALL PIECES OF A JOB

pub parts_old : (l : Ledger) (x : Piece) (e : List Piece) → HasOlderParts l e → HasOlderParts l (x ∷ e)
parts_old l x e H j low lt = let h = H j low lt in let below = h.1 in (
  h.0,
  omega arith,
  ap (λ (z : Piece). z.job) (at_old x e h.0 (λ q. absurd (omega arith)))
      ∙ h.2,
)

parts_on : (l : Ledger) (ys e : List Piece) → HasOlderParts l e → HasOlderParts l (ys ++ e)
parts_on l [] e H = H
parts_on l (y ∷ ys) e H = parts_old l y (ys ++ e) (parts_on l ys e H)

-- a listed piece of the newest job is one of those before
apart_at : (l : Ledger) (e ys : List Piece) (y : Piece) → ((p : ℕ) → p < length e → (piece_at e p).job < l.jobs) → IsApartFrom y ys
    → IsApartFromJob l (ys ++ e) y
apart_at l e [] y low A p lt q = let h = low p lt in absurd (omega arith)
apart_at l e (x ∷ xs) y low A p lt q = by_equal p (length (xs ++ e))
    (λ s. subst (λ z. AreApart z y) (sym (ap (λ k. piece_at (x ∷ (xs ++ e)) k) s ∙ at_new x (xs ++ e))) A.0)
    (λ n. subst (λ z. AreApart z y) (sym (at_old x (xs ++ e) p n)) (apart_at l e xs y low A.1 p (omega arith)
    (subst (λ (z : Piece). z.job ≡ l.jobs) (at_old x (xs ++ e) p n) q)))

pub jobs_keep_order : JobsKeepOrder
jobs_keep_order l e [] L D H low A = D
jobs_keep_order l e (y ∷ ys) L D H low A = parts_keep_order l (ys ++ e) y L (jobs_keep_order l e ys L D H low A.2) (parts_on l ys e H) A.0
    (apart_at l e ys y low A.1)
