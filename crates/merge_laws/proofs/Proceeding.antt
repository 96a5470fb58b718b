-- A new segment begins, or the ledger alone goes on, or a container moves to other words, and the pieces stay in order.
use Rattle.std.proofs.Common.{◌≡◌, ℕ, suc, ◌<◌, ◌≤◌, ◌⊎◌, inl, inr, ⊎_elim, true, cond, ◌&&◌, ◌||◌, eqb, List, [], ◌∷◌, length, refl, sym, ap, subst, ◌∙◌, arith}
use Rattle.std.proofs.lemmas.Bool.{or_left, or_right, or_cases, and_parts, and_from, eqb-true, eq-eqb}
use Rattle.merge_laws.specs.Graph.{LeadsTo, directly}
use Rattle.merge_laws.specs.Pieces.{Words, Piece, piece_at, latest_segment, graph_of}
use Rattle.merge_laws.specs.Ledger.{Ledger, IsLedger, is_done, IsUsedBy, IsWrittenBy, AreInOrder}
use Rattle.merge_laws.specs.Planning.{DoesMore, BeginsSegment, GoesOn, with_words, MovesContainer}
use Rattle.merge_laws.specs.PlanLaws.{FirstSegmentsAreInOrder, NewSegmentsKeepOrder, LedgersKeepOrder, MovesKeepOrder}
use Rattle.merge_laws.proofs.Tests.{not_both, by_equal, chosen, not_chosen}
use Rattle.merge_laws.proofs.Places.{leads_along, at_new, at_old, latest_new, precedes_old, precedes_by_job, done_segment, done_completed, arrives}
use Rattle.merge_laws.proofs.Touching.{segments_keep_order}

-- THE FIRST SEGMENT

pub first_segments_are_in_order : FirstSegmentsAreInOrder
first_segments_are_in_order l z L segment reads writes =
    let at : (p : ℕ) → p < 1 → piece_at (z ∷ []) p ≡ z = λ p lt. chosen p 0 z (piece_at [] p) (omega arith) in
    let latest : latest_segment (z ∷ []) ≡ 0 = latest_new z [] segment in
    let no_read : (p w : ℕ) → p < 1 → (piece_at (z ∷ []) p).reads w ≡ true
    → ⊥ = λ p w lt r. not_both (subst (λ (x : Piece). x.reads w ≡ true) (at p lt) r) (reads w) in
    let no_write : (p w : ℕ) → p < 1 → (piece_at (z ∷ []) p).writes w ≡ true
    → ⊥ = λ p w lt r. not_both (subst (λ (x : Piece). x.writes w ≡ true) (at p lt) r) (writes w) in
    let job : (p : ℕ) → p < 1 → (piece_at (z ∷ []) p).job ≡ 0 = λ p lt. ap (λ (x : Piece). x.job) (at p lt) ∙ segment in
    record {
      known = λ p lt. let j = job p lt in omega arith;
      rising = λ p q lt le. inl (job q le);
      waits = λ p j lt d. let less = (L.older 0 j (subst (λ i. l.depends i j ≡ true) (job p lt) d)).1 in absurd (omega arith);
      segment_below = omega arith;
      segment = job (latest_segment (z ∷ [])) (omega arith);
      arrived = λ p lt d. inl (omega arith);
      reads_held = λ p w lt r. absurd (no_read p w lt r);
      writes_held = λ p w lt r. absurd (no_write p w lt r);
      reads_written = λ p w r. by_equal p 0 (λ q. absurd (no_write p w (omega arith) r))
          (λ n. absurd (not_both r (ap (λ (x : Piece). x.writes w) (not_chosen p 0 z (piece_at [] p) n))));
      conflicts_lead = λ p q w lt le c. absurd (⊎_elim (λ t. no_read q w le t.1) (λ t. no_write q w le t.1) c);
    }

-- A NEW SEGMENT

module _ (l m : Ledger) (e : List Piece) (z : Piece) (D : AreInOrder l e) (B : BeginsSegment l m z) where
  z_latest : latest_segment (z ∷ e) ≡ length e
  z_latest = latest_new z e B.segment

  z_old : (p : ℕ) → p < length e → piece_at e p ≡ piece_at (z ∷ e) p
  z_old p lt = sym (at_old z e p (λ q. absurd (omega arith)))

  to_z : (P : Piece → Type 0) (k : ℕ) → k ≡ length e → P z → P (piece_at (z ∷ e) k)
  to_z P k q t = subst P (sym (ap (λ m. piece_at (z ∷ e) m) q ∙ at_new z e)) t

  of_z : (P : Piece → Type 0) (k : ℕ) → k ≡ length e → P (piece_at (z ∷ e) k) → P z
  of_z P k q t = subst P (ap (λ m. piece_at (z ∷ e) m) q ∙ at_new z e) t

  z_keeps : {p q : ℕ} → LeadsTo (graph_of e) p q → LeadsTo (graph_of (z ∷ e)) p q
  z_keeps r = leads_along (precedes_old z e) r

  still_done : (j : ℕ) → is_done l j ≡ true → is_done m j ≡ true
  still_done j d = ⊎_elim (λ s. or_left (eqb j 0) (m.completed j) s) (λ c. or_right (eqb j 0) (m.completed j) (B.still_completed j c))
      (or_cases (eqb j 0) (l.completed j) d)

  still_used : (j w : ℕ) → IsUsedBy l j w → IsUsedBy m j w
  still_used j w u = record {
    container = u.container;
    live = B.live u.container ∙ u.live;
    word = B.words u.container w ∙ u.word;
    user = B.users u.container j ∙ u.user;
  }

  still_written : (j w : ℕ) → IsWrittenBy l j w → IsWrittenBy m j w
  still_written j w u = record {
    container = u.container;
    live = B.live u.container ∙ u.live;
    word = B.words u.container w ∙ u.word;
    writer = B.writers u.container j ∙ u.writer;
  }

  -- what is done now leads to the new segment: what was done before, and what was just completed, since the segment comes after it
  done_leads : (p : ℕ) → p < length e → is_done m (piece_at e p).job ≡ true → LeadsTo (graph_of (z ∷ e)) p (length e)
  done_leads p lt d = by_equal (piece_at e p).job 0
      (λ s. arrives l z e D p lt (done_segment l (piece_at e p).job s))
      (λ n. ⊎_elim (λ s. absurd (n (eqb-true (piece_at e p).job 0 s)))
      (λ c. ⊎_elim
      (λ o. arrives l z e D p lt (done_completed l (piece_at e p).job o))
      (λ a. directly (precedes_by_job z e p lt n a))
      (B.completed (piece_at e p).job c)) (or_cases (eqb (piece_at e p).job 0) (m.completed (piece_at e p).job) d))

  begun_leads : (p q w : ℕ) → p < q → q < suc (length e)
      → (((piece_at (z ∷ e) p).writes w ≡ true) × ((piece_at (z ∷ e) q).reads w ≡ true))
      ⊎ (((piece_at (z ∷ e) p).reads w ≡ true) × ((piece_at (z ∷ e) q).writes w ≡ true)) → LeadsTo (graph_of (z ∷ e)) p q
  begun_leads p q w lt le c = by_equal q (length e)
      (λ s. absurd (⊎_elim (λ t. not_both (of_z (λ x. x.reads w ≡ true) q s t.1) (B.reads w))
      (λ t. not_both (of_z (λ x. x.writes w ≡ true) q s t.1) (B.writes w)) c))
      (λ n. let p_old = sym (z_old p (omega arith)) in let q_old = sym (z_old q (omega arith)) in z_keeps (D.conflicts_lead p q w lt (omega arith) (⊎_elim
      (λ t. inl (subst (λ (x : Piece). x.writes w ≡ true) p_old t.0, subst (λ (x : Piece). x.reads w ≡ true) q_old t.1))
      (λ t. inr (subst (λ (x : Piece). x.reads w ≡ true) p_old t.0, subst (λ (x : Piece). x.writes w ≡ true) q_old t.1)) c)))

  begun : AreInOrder m (z ∷ e)
  begun = record {
    known = λ p lt. subst (λ c. (piece_at (z ∷ e) p).job ≤ c) (sym B.jobs) (by_equal p (length e)
        (λ q. to_z (λ x. x.job ≤ l.jobs) p q (let j = B.segment in omega arith))
        (λ n. subst (λ (x : Piece). x.job ≤ l.jobs) (z_old p (omega arith)) (D.known p (omega arith))));
    rising = λ p q lt le. by_equal q (length e)
        (λ s. inl (to_z (λ x. x.job ≡ 0) q s B.segment))
        (λ n. subst (λ (x : Piece). (piece_at (z ∷ e) q).job ≡ 0 ⊎ x.job ≤ (piece_at (z ∷ e) q).job) (z_old p (omega arith))
        (subst (λ (x : Piece). x.job ≡ 0 ⊎ (piece_at e p).job ≤ x.job) (z_old q (omega arith)) (D.rising p q lt (omega arith))));
    waits = λ p k lt. by_equal p (length e)
        (λ q. to_z (λ x. m.depends x.job k ≡ true → x.after k ≡ true) p q
        (λ d. absurd (not_both (subst (λ j. m.depends j k ≡ true) B.segment d) (B.no_depends k))))
        (λ n d. (subst (λ (x : Piece). l.depends x.job k ≡ true → x.after k ≡ true) (z_old p (omega arith)) (D.waits p k (omega arith)))
        (B.depends (piece_at (z ∷ e) p).job k d));
    segment_below = subst (λ k. k < suc (length e)) (sym z_latest) (omega arith);
    segment = to_z (λ x. x.job ≡ 0) (latest_segment (z ∷ e)) z_latest B.segment;
    arrived = λ p lt d. by_equal p (length e)
        (λ q. inl (q ∙ sym z_latest))
        (λ n. inr (subst (λ k. LeadsTo (graph_of (z ∷ e)) p k) (sym z_latest)
        (done_leads p (omega arith) (subst (λ (x : Piece). is_done m x.job ≡ true) (sym (z_old p (omega arith))) d))));
    reads_held = λ p w lt r. by_equal p (length e)
        (λ q. absurd (not_both (of_z (λ x. x.reads w ≡ true) p q r) (B.reads w)))
        (λ n. ⊎_elim (λ d. inl (still_done (piece_at (z ∷ e) p).job d)) (λ u. inr (still_used (piece_at (z ∷ e) p).job w u))
        ((subst (λ (x : Piece). x.reads w ≡ true → is_done l x.job ≡ true ⊎ IsUsedBy l x.job w) (z_old p (omega arith)) (D.reads_held p w (omega arith))) r));
    writes_held = λ p w lt r. by_equal p (length e)
        (λ q. absurd (not_both (of_z (λ x. x.writes w ≡ true) p q r) (B.writes w)))
        (λ n. ⊎_elim (λ d. inl (still_done (piece_at (z ∷ e) p).job d)) (λ u. inr (still_written (piece_at (z ∷ e) p).job w u))
        ((subst (λ (x : Piece). x.writes w ≡ true → is_done l x.job ≡ true ⊎ IsWrittenBy l x.job w) (z_old p (omega arith)) (D.writes_held p w (omega arith)))
        r));
    reads_written = λ p w. by_equal p (length e)
        (λ q. to_z (λ x. x.writes w ≡ true → x.reads w ≡ true) p q (λ r. absurd (not_both r (B.writes w))))
        (λ n. subst (λ (x : Piece). x.writes w ≡ true → x.reads w ≡ true) (sym (at_old z e p n)) (D.reads_written p w));
    conflicts_lead = begun_leads;
  }

pub new_segments_keep_order : NewSegmentsKeepOrder
new_segments_keep_order l m e z D B = begun l m e z D B

-- THE LEDGER GOES ON

module _ (l m : Ledger) (e : List Piece) (L : IsLedger l) (D : AreInOrder l e) (G : GoesOn l m) where
  same_done : (j : ℕ) → is_done l j ≡ is_done m j
  same_done j = ap (λ b. eqb j 0 || b) (sym (G.completed j))

  -- a user of a container that is live is done, or uses it still
  used_on : (j w : ℕ) → is_done l j ≡ true ⊎ IsUsedBy l j w → is_done m j ≡ true ⊎ IsUsedBy m j w
  used_on j w t = ⊎_elim (λ d. inl (sym (same_done j) ∙ d))
      (λ u. ⊎_elim (λ all. inl (sym (same_done j) ∙ done_completed l j (all j u.user)))
      (λ k. inr (record { container = u.container; live = k.live; word = k.words w u.word; user = k.users j u.user })) (G.containers u.container u.live)) t

  written_on : (j w : ℕ) → is_done l j ≡ true ⊎ IsWrittenBy l j w → is_done m j ≡ true ⊎ IsWrittenBy m j w
  written_on j w t = ⊎_elim (λ d. inl (sym (same_done j) ∙ d))
      (λ u. ⊎_elim (λ all. inl (sym (same_done j) ∙ done_completed l j (all j (L.written u.container j u.writer))))
      (λ k. inr (record { container = u.container; live = k.live; word = k.words w u.word; writer = k.writers j u.writer })) (G.containers u.container u.live))
      t

  went_on : AreInOrder m e
  went_on = record {
    known = λ p lt. let k = D.known p lt in let c = G.jobs in omega arith;
    rising = D.rising;
    waits = λ p k lt d. D.waits p k lt (G.depends (piece_at e p).job k (D.known p lt) d);
    segment_below = D.segment_below;
    segment = D.segment;
    arrived = λ p lt d. D.arrived p lt (same_done (piece_at e p).job ∙ d);
    reads_held = λ p w lt r. used_on (piece_at e p).job w (D.reads_held p w lt r);
    writes_held = λ p w lt r. written_on (piece_at e p).job w (D.writes_held p w lt r);
    reads_written = D.reads_written;
    conflicts_lead = D.conflicts_lead;
  }

pub ledgers_keep_order : LedgersKeepOrder
ledgers_keep_order l m e L D G = went_on l m e L D G

-- A CONTAINER MOVES: the ledger goes on to one where it has its old words and the new ones, the segment does more, and the ledger goes on to
-- the new words alone.

abbrev both_words : Ledger → ℕ → Words → Ledger
both_words l c new = record l { words = λ d w. l.words d w || (eqb d c && new w) }

module _ (l : Ledger) (x y : Piece) (e : List Piece) (c : ℕ) (new : Words) (L : IsLedger l) (D : AreInOrder l (x ∷ e)) (M : MovesContainer l x y c new) where
  both_ledger : IsLedger (both_words l c new)
  both_ledger = record {
    older = L.older;
    written = L.written;
    apart = λ b d w lb ld wb wd. ⊎_elim
        (λ p. ⊎_elim (λ q. L.apart b d w lb ld p q) (λ q. absurd (M.unused b w lb p (and_parts (eqb d c) (new w) q).1))
        (or_cases (l.words d w) (eqb d c && new w) wd))
        (λ p. ⊎_elim (λ q. absurd (M.unused d w ld q (and_parts (eqb b c) (new w) p).1))
        (λ q. eqb-true b c (and_parts (eqb b c) (new w) p).0 ∙ sym (eqb-true d c (and_parts (eqb d c) (new w) q).0))
        (or_cases (l.words d w) (eqb d c && new w) wd))
        (or_cases (l.words b w) (eqb b c && new w) wb);
  }

  gains_words : GoesOn l (both_words l c new)
  gains_words = record {
    jobs = omega arith;
    depends = λ j k le d. d;
    completed = λ j. refl;
    containers = λ d ld. inr (record { live = ld; words = λ w t. or_left (l.words d w) (eqb d c && new w) t; users = λ j u. u; writers = λ j u. u });
  }

  word_of : (w : ℕ) → (l.words c w ≡ true ⊎ new w ≡ true) → (l.words c w || (eqb c c && new w)) ≡ true
  word_of w t = ⊎_elim (λ a. or_left (l.words c w) (eqb c c && new w) a) (λ a. or_right (l.words c w) (eqb c c && new w)
      (and_from (eqb c c) (new w) (eq-eqb c c refl) a)) t

  moves_more : DoesMore (both_words l c new) x y
  moves_more = record {
    segment = M.segment;
    job = M.job;
    after = M.after;
    reads = λ w r. ⊎_elim (λ a. inl a) (λ a. inr (record {
      container = c;
      live = M.live;
      word = word_of w a;
      completed = λ j u. M.completed j (L.written c j u);
    })) (M.reads w r);
    writes = λ w r. ⊎_elim (λ a. inl a) (λ a. inr (record { container = c; live = M.live; word = word_of w a; completed = M.completed })) (M.writes w r);
    reads_written = M.reads_written;
  }

  loses_words : GoesOn (both_words l c new) (with_words l c new)
  loses_words = record {
    jobs = omega arith;
    depends = λ j k le d. d;
    completed = λ j. refl;
    containers = λ d ld. by_equal d c
        (λ q. inl (λ j u. M.completed j (subst (λ b. l.users b j ≡ true) q u)))
        (λ n. inr (record {
          live = ld;
          words = λ w t. ⊎_elim (λ a. not_chosen d c (new w) (l.words d w) n ∙ a)
              (λ a. absurd (n (eqb-true d c (and_parts (eqb d c) (new w) a).0))) (or_cases (l.words d w) (eqb d c && new w) t);
          users = λ j u. u;
          writers = λ j u. u;
        }));
  }

  moved_ledger : IsLedger (with_words l c new)
  moved_ledger = let B : IsLedger (both_words l c new) = both_ledger in record {
    older = L.older;
    written = L.written;
    apart = λ b d w lb ld wb wd. B.apart b d w lb ld (within b w wb) (within d w wd);
  }
    where
      within : (b w : ℕ) → cond (eqb b c) (new w) (l.words b w) ≡ true → (l.words b w || (eqb b c && new w)) ≡ true
      within b w t = by_equal b c
          (λ q. or_right (l.words b w) (eqb b c && new w) (and_from (eqb b c) (new w) (eq-eqb b c q) (sym (chosen b c (new w) (l.words b w) q) ∙ t)))
          (λ n. or_left (l.words b w) (eqb b c && new w) (sym (not_chosen b c (new w) (l.words b w) n) ∙ t))

  moved : AreInOrder (with_words l c new) (y ∷ e)
  moved = ledgers_keep_order (both_words l c new) (with_words l c new) (y ∷ e) both_ledger
      (segments_keep_order (both_words l c new) x y e both_ledger (ledgers_keep_order l (both_words l c new) (x ∷ e) L D gains_words) moves_more) loses_words

pub moves_keep_order : MovesKeepOrder
moves_keep_order l x y e c new L D M = (moved_ledger l x y e c new L D M, moved l x y e c new L D M)
