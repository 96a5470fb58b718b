-- The segment at hand does more, and the pieces stay in order.
use Rattle.std.proofs.Common.{◌≡◌, ◌≢◌, ℕ, suc, ◌<◌, ◌≤◌, ◌⊎◌, inl, inr, ⊎_elim, Bool, true, cond, ◌&&◌, ◌||◌, not, eqb, ltb, List, ◌∷◌, length, sym, ap, subst, ◌∙◌, arith}
use Rattle.merge_laws.specs.Graph.{LeadsTo}
use Rattle.merge_laws.specs.Pieces.{Piece, piece_at, latest_segment, precedes_in, graph_of}
use Rattle.merge_laws.specs.Ledger.{Ledger, IsLedger, is_done, IsUsedBy, IsWrittenBy, AreInOrder}
use Rattle.merge_laws.specs.Planning.{DoesMore}
use Rattle.merge_laws.specs.PlanLaws.{SegmentsKeepOrder}
use Rattle.merge_laws.proofs.Tests.{by_equal}
use Rattle.merge_laws.proofs.Places.{leads_along, at_new, at_old, latest_new, done_segment, done_completed}

module _ (l : Ledger) (x y : Piece) (e : List Piece) (L : IsLedger l) (D : AreInOrder l (x ∷ e)) (T : DoesMore l x y) where
  -- x and y stand at one place, with one job, and come after the same jobs
  same_at : (p : ℕ) → p ≢ length e → piece_at (x ∷ e) p ≡ piece_at (y ∷ e) p
  same_at p n = at_old x e p n ∙ sym (at_old y e p n)

  same_job : (p : ℕ) → (piece_at (x ∷ e) p).job ≡ (piece_at (y ∷ e) p).job
  same_job p = by_equal p (length e)
      (λ q. subst (λ k. (piece_at (x ∷ e) k).job ≡ (piece_at (y ∷ e) k).job) (sym q)
      (ap (λ (z : Piece). z.job) (at_new x e) ∙ (sym T.job ∙ ap (λ (z : Piece). z.job) (sym (at_new y e)))))
      (λ n. ap (λ (z : Piece). z.job) (same_at p n))

  same_after : (p k : ℕ) → (piece_at (x ∷ e) p).after k ≡ (piece_at (y ∷ e) p).after k
  same_after p k = by_equal p (length e)
      (λ q. subst (λ m. (piece_at (x ∷ e) m).after k ≡ (piece_at (y ∷ e) m).after k) (sym q)
      (ap (λ (z : Piece). z.after k) (at_new x e) ∙ (sym (T.after k) ∙ ap (λ (z : Piece). z.after k) (sym (at_new y e)))))
      (λ n. ap (λ (z : Piece). z.after k) (same_at p n))

  same_precedes : (q p : ℕ) → precedes_in (x ∷ e) q p ≡ true → precedes_in (y ∷ e) q p ≡ true
  same_precedes q p b = ap (λ (a : Bool). cond (eqb p (length e)) (ltb q (length e) && (eqb q (latest_segment e) || (not (eqb (piece_at e q).job 0) && a)))
      (precedes_in e q p)) (T.after (piece_at e q).job) ∙ b

  x_latest : latest_segment (x ∷ e) ≡ length e
  x_latest = latest_new x e T.segment

  y_segment : y.job ≡ 0
  y_segment = T.job ∙ T.segment

  y_latest : latest_segment (y ∷ e) ≡ length e
  y_latest = latest_new y e y_segment

  y_segment_at : (p : ℕ) → p ≡ length e → (piece_at (y ∷ e) p).job ≡ 0
  y_segment_at p q = subst (λ k. (piece_at (y ∷ e) k).job ≡ 0) (sym q) (ap (λ (z : Piece). z.job) (at_new y e) ∙ y_segment)

  keeps_leads : {p k : ℕ} → LeadsTo (graph_of (x ∷ e)) p k → LeadsTo (graph_of (y ∷ e)) p k
  keeps_leads r = leads_along same_precedes r

  -- an earlier piece that is done leads to the segment at hand
  arrives_here : (p : ℕ) → p < length e → is_done l (piece_at (x ∷ e) p).job ≡ true → LeadsTo (graph_of (y ∷ e)) p (length e)
  arrives_here p lt d = ⊎_elim (λ q. let r : p ≡ length e = q ∙ x_latest in absurd (omega arith))
      (λ r. keeps_leads (subst (λ k. LeadsTo (graph_of (x ∷ e)) p k) x_latest r)) (D.arrived p (omega arith) d)

  x_here : (P : Piece → Type 0) → P x → P (piece_at (x ∷ e) (length e))
  x_here P t = subst P (sym (at_new x e)) t

  y_here : (P : Piece → Type 0) → P (piece_at (y ∷ e) (length e)) → P y
  y_here P t = subst P (at_new y e) t

  -- An earlier piece that writes what the segment reads: x read it already, or it is done, or it writes a live container that has the word.
  -- That is the one that the segment may read, so all its writers are completed.
  writer_leads : (p w : ℕ) → p < length e → (piece_at (y ∷ e) p).writes w ≡ true → y.reads w ≡ true → LeadsTo (graph_of (y ∷ e)) p (length e)
  writer_leads p w lt a r =
      let a' : (piece_at (x ∷ e) p).writes w ≡ true = subst (λ (z : Piece). z.writes w ≡ true) (sym (same_at p (λ q. absurd (omega arith)))) a in
      ⊎_elim
      (λ old. keeps_leads (D.conflicts_lead p (length e) w lt (omega arith) (inl (a', x_here (λ z. z.reads w ≡ true) old))))
      (λ c. ⊎_elim (λ d. arrives_here p lt d)
      (λ u. arrives_here p lt (done_completed l (piece_at (x ∷ e) p).job
      (c.completed (piece_at (x ∷ e) p).job (subst (λ k. l.writers k (piece_at (x ∷ e) p).job ≡ true)
      (L.apart u.container c.container w u.live c.live u.word c.word) u.writer))))
      (D.writes_held p w (omega arith) a')) (T.reads w r)

  reader_leads : (p w : ℕ) → p < length e → (piece_at (y ∷ e) p).reads w ≡ true → y.writes w ≡ true → LeadsTo (graph_of (y ∷ e)) p (length e)
  reader_leads p w lt a r =
      let a' : (piece_at (x ∷ e) p).reads w ≡ true = subst (λ (z : Piece). z.reads w ≡ true) (sym (same_at p (λ q. absurd (omega arith)))) a in
      ⊎_elim
      (λ old. keeps_leads (D.conflicts_lead p (length e) w lt (omega arith) (inr (a', x_here (λ z. z.writes w ≡ true) old))))
      (λ c. ⊎_elim (λ d. arrives_here p lt d)
      (λ u. arrives_here p lt (done_completed l (piece_at (x ∷ e) p).job
      (c.completed (piece_at (x ∷ e) p).job (subst (λ k. l.users k (piece_at (x ∷ e) p).job ≡ true)
      (L.apart u.container c.container w u.live c.live u.word c.word) u.user))))
      (D.reads_held p w (omega arith) a')) (T.writes w r)

  touched_leads : (p q w : ℕ) → p < q → q < suc (length e)
      → (((piece_at (y ∷ e) p).writes w ≡ true) × ((piece_at (y ∷ e) q).reads w ≡ true))
      ⊎ (((piece_at (y ∷ e) p).reads w ≡ true) × ((piece_at (y ∷ e) q).writes w ≡ true)) → LeadsTo (graph_of (y ∷ e)) p q
  touched_leads p q w lt le c = by_equal q (length e)
      (λ s. subst (λ m. LeadsTo (graph_of (y ∷ e)) p m) (sym s) (⊎_elim
      (λ t. writer_leads p w (omega arith) t.0 (y_here (λ z. z.reads w ≡ true) (subst (λ m. (piece_at (y ∷ e) m).reads w ≡ true) s t.1)))
      (λ t. reader_leads p w (omega arith) t.0 (y_here (λ z. z.writes w ≡ true) (subst (λ m. (piece_at (y ∷ e) m).writes w ≡ true) s t.1))) c))
      (λ n. let p_old = sym (same_at p (λ s. absurd (omega arith))) in let q_old = sym (same_at q n) in keeps_leads (D.conflicts_lead p q w lt le (⊎_elim
      (λ t. inl (subst (λ (z : Piece). z.writes w ≡ true) p_old t.0, subst (λ (z : Piece). z.reads w ≡ true) q_old t.1))
      (λ t. inr (subst (λ (z : Piece). z.reads w ≡ true) p_old t.0, subst (λ (z : Piece). z.writes w ≡ true) q_old t.1)) c)))

  touched : AreInOrder l (y ∷ e)
  touched = record {
    known = λ p lt. subst (λ j. j ≤ l.jobs) (same_job p) (D.known p lt);
    rising = λ p q lt le. subst (λ j. j ≡ 0 ⊎ (piece_at (y ∷ e) p).job ≤ j) (same_job q)
        (subst (λ j. (piece_at (x ∷ e) q).job ≡ 0 ⊎ j ≤ (piece_at (x ∷ e) q).job) (same_job p) (D.rising p q lt le));
    waits = λ p k lt d. sym (same_after p k) ∙ D.waits p k lt (subst (λ j. l.depends j k ≡ true) (sym (same_job p)) d);
    segment_below = subst (λ k. k < suc (length e)) (sym y_latest) (omega arith);
    segment = y_segment_at (latest_segment (y ∷ e)) y_latest;
    arrived = λ p lt d. ⊎_elim (λ q. inl (q ∙ (x_latest ∙ sym y_latest)))
        (λ r. inr (subst (λ k. LeadsTo (graph_of (y ∷ e)) p k) (x_latest ∙ sym y_latest) (keeps_leads r)))
        (D.arrived p lt (subst (λ j. is_done l j ≡ true) (sym (same_job p)) d));
    reads_held = λ p w lt r. by_equal p (length e)
        (λ q. inl (done_segment l (piece_at (y ∷ e) p).job (y_segment_at p q)))
        (λ n. (subst (λ (z : Piece). z.reads w ≡ true → is_done l z.job ≡ true ⊎ IsUsedBy l z.job w) (same_at p n) (D.reads_held p w lt)) r);
    writes_held = λ p w lt r. by_equal p (length e)
        (λ q. inl (done_segment l (piece_at (y ∷ e) p).job (y_segment_at p q)))
        (λ n. (subst (λ (z : Piece). z.writes w ≡ true → is_done l z.job ≡ true ⊎ IsWrittenBy l z.job w) (same_at p n) (D.writes_held p w lt)) r);
    reads_written = λ p w. by_equal p (length e)
        (λ q. subst (λ (z : Piece). z.writes w ≡ true → z.reads w ≡ true) (sym (ap (λ k. piece_at (y ∷ e) k) q ∙ at_new y e)) (T.reads_written w))
        (λ n. subst (λ (z : Piece). z.writes w ≡ true → z.reads w ≡ true) (same_at p n) (D.reads_written p w));
    conflicts_lead = touched_leads;
  }

pub segments_keep_order : SegmentsKeepOrder
segments_keep_order l x y e L D T = touched l x y e L D T
