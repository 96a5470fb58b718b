-- A list of pieces and one piece more: what stays of the places, and who precedes whom.
use Rattle.std.proofs.Common.{◌≡◌, ◌≢◌, ℕ, ◌<◌, ⊎_elim, true, ◌&&◌, ◌||◌, not, eqb, ltb, List, [], ◌∷◌, length, ne_eqb, refl, sym, ap, subst, ◌∙◌, arith}
use Rattle.std.proofs.lemmas.Bool.{or_left, or_right, and_parts, and_from, not_from_false, eq-eqb, ltb-true, lt-ltb}
use Rattle.merge_laws.specs.Graph.{PieceGraph, LeadsTo, directly, further}
use Rattle.merge_laws.specs.Pieces.{Piece, piece_at, latest_segment, is_before, precedes_in, graph_of}
use Rattle.merge_laws.specs.Ledger.{Ledger, is_done, AreInOrder}
use Rattle.merge_laws.proofs.Tests.{not_both, by_equal, chosen, not_chosen}

-- LEADING

pub leads_along : {g h : PieceGraph} → ((p q : ℕ) → g.precedes p q ≡ true → h.precedes p q ≡ true) → {p q : ℕ} → LeadsTo g p q → LeadsTo h p q
leads_along more (directly {p = p} {q = q} b) = directly (more p q b)
leads_along more (further {q = q} {r = r} l b) = further (leads_along more l) (more q r b)

pub leads_on : {g : PieceGraph} {p q r : ℕ} → LeadsTo g p q → LeadsTo g q r → LeadsTo g p r
leads_on l (directly b) = further l b
leads_on l (further k b) = further (leads_on l k) b

-- PLACES

pub at_new : (x : Piece) (e : List Piece) → piece_at (x ∷ e) (length e) ≡ x
at_new x e = chosen (length e) (length e) x (piece_at e (length e)) refl

pub at_old : (x : Piece) (e : List Piece) (p : ℕ) → p ≢ length e → piece_at (x ∷ e) p ≡ piece_at e p
at_old x e p n = not_chosen p (length e) x (piece_at e p) n

pub latest_new : (x : Piece) (e : List Piece) → x.job ≡ 0 → latest_segment (x ∷ e) ≡ length e
latest_new x e j = chosen x.job 0 (length e) (latest_segment e) j

pub latest_old : (x : Piece) (e : List Piece) → x.job ≢ 0 → latest_segment (x ∷ e) ≡ latest_segment e
latest_old x e j = not_chosen x.job 0 (length e) (latest_segment e) j

-- PREDECESSORS

-- a predecessor is earlier, and both are pieces
pub precedes_below : (e : List Piece) (q p : ℕ) → precedes_in e q p ≡ true → (q < p) × (p < length e)
precedes_below [] q p b = absurd (not_both b refl)
precedes_below (x ∷ e) q p b = by_equal p (length e)
    (λ s. let t = sym (chosen p (length e) (is_before e x q) (precedes_in e q p) s) ∙ b in
    let lt = ltb-true q (length e) (and_parts (ltb q (length e)) (eqb q (latest_segment e)
    || (not (eqb (piece_at e q).job 0) && x.after (piece_at e q).job)) t).0 in (omega arith, omega arith))
    (λ s. let r = precedes_below e q p (sym (not_chosen p (length e) (is_before e x q) (precedes_in e q p) s) ∙ b) in let lt = r.1 in (r.0, omega arith))

pub precedes_old : (x : Piece) (e : List Piece) (q p : ℕ) → precedes_in e q p ≡ true → precedes_in (x ∷ e) q p ≡ true
precedes_old x e q p b = let lt = (precedes_below e q p b).1 in not_chosen p (length e) (is_before e x q) (precedes_in e q p) (λ s. absurd (omega arith)) ∙ b

precedes_new : (x : Piece) (e : List Piece) (q : ℕ) → q < length e → (eqb q (latest_segment e)
    || (not (eqb (piece_at e q).job 0) && x.after (piece_at e q).job)) ≡ true → precedes_in (x ∷ e) q (length e) ≡ true
precedes_new x e q lt t = chosen (length e) (length e) (is_before e x q) (precedes_in e q (length e)) refl
    ∙ and_from (ltb q (length e)) (eqb q (latest_segment e) || (not (eqb (piece_at e q).job 0) && x.after (piece_at e q).job)) (lt-ltb q (length e) lt) t

-- the latest segment precedes the new piece
pub precedes_by_segment : (x : Piece) (e : List Piece) → latest_segment e < length e → precedes_in (x ∷ e) (latest_segment e) (length e) ≡ true
precedes_by_segment x e lt = precedes_new x e (latest_segment e) lt (or_left (eqb (latest_segment e) (latest_segment e))
    (not (eqb (piece_at e (latest_segment e)).job 0) && x.after (piece_at e (latest_segment e)).job) (eq-eqb (latest_segment e) (latest_segment e) refl))

-- a piece of a job that it comes after precedes the new piece
pub precedes_by_job : (x : Piece) (e : List Piece) (q : ℕ) → q < length e → (piece_at e q).job ≢ 0 → x.after (piece_at e q).job ≡ true
    → precedes_in (x ∷ e) q (length e) ≡ true
precedes_by_job x e q lt n a = precedes_new x e q lt (or_right (eqb q (latest_segment e)) (not (eqb (piece_at e q).job 0) && x.after (piece_at e q).job)
    (and_from (not (eqb (piece_at e q).job 0)) (x.after (piece_at e q).job) (not_from_false (eqb (piece_at e q).job 0) (ne_eqb (piece_at e q).job 0 n)) a))

-- the same of a piece that isn't the latest
pub precedes_at : (e : List Piece) (p q : ℕ) → p < q → q < length e → (piece_at e p).job ≢ 0 → (piece_at e q).after (piece_at e p).job ≡ true
    → precedes_in e p q ≡ true
precedes_at [] p q lt le n a = absurd (omega arith)
precedes_at (x ∷ e) p q lt le n a =
    let old : piece_at (x ∷ e) p ≡ piece_at e p = at_old x e p (λ s. absurd (omega arith)) in
    let n' : (piece_at e p).job ≢ 0 = subst (λ (y : Piece). y.job ≢ 0) old n in
    let a' : (piece_at (x ∷ e) q).after (piece_at e p).job ≡ true = subst (λ (y : Piece). (piece_at (x ∷ e) q).after y.job ≡ true) old a in
    by_equal q (length e)
    (λ s. subst (λ k. precedes_in (x ∷ e) p k ≡ true) (sym s) (precedes_by_job x e p (omega arith) n'
    (subst (λ (y : Piece). y.after (piece_at e p).job ≡ true) (ap (λ k. piece_at (x ∷ e) k) s ∙ at_new x e) a')))
    (λ ne. precedes_old x e p q (precedes_at e p q lt (omega arith) n' (subst (λ (y : Piece). y.after (piece_at e p).job ≡ true) (at_old x e q ne) a')))

-- DONE

pub done_segment : (l : Ledger) (j : ℕ) → j ≡ 0 → is_done l j ≡ true
done_segment l j e = or_left (eqb j 0) (l.completed j) (eq-eqb j 0 e)

pub done_completed : (l : Ledger) (j : ℕ) → l.completed j ≡ true → is_done l j ≡ true
done_completed l j c = or_right (eqb j 0) (l.completed j) c

-- a piece that is done leads to the next piece, through the latest segment
pub arrives : (l : Ledger) (x : Piece) (e : List Piece) → AreInOrder l e → (p : ℕ) → p < length e → is_done l (piece_at e p).job ≡ true
    → LeadsTo (graph_of (x ∷ e)) p (length e)
arrives l x e D p lt d =
    let last : precedes_in (x ∷ e) (latest_segment e) (length e) ≡ true = precedes_by_segment x e D.segment_below in
    ⊎_elim (λ q. subst (λ k. LeadsTo (graph_of (x ∷ e)) k (length e)) (sym q) (directly last)) (λ r. further (leads_along (precedes_old x e) r) last)
    (D.arrived p lt d)
