-- Pieces in order are a well ordered plan, and what that says of words that are used again.
use Rattle.std.proofs.Common.{◌≡◌, ℕ, zero, suc, ◌<◌, ◌≤◌, inl, inr, true, List, [], ◌∷◌, length, refl, sym, subst, ◌∙◌, arith}
use Rattle.merge_laws.specs.Graph.{Cells, cells_before, LeadsTo}
use Rattle.merge_laws.specs.Pieces.{Piece, piece_at, graph_from, cells_after, IsFramed, AreFramed}
use Rattle.merge_laws.specs.PlanLaws.{PlansAreWellOrdered, ReclaimedWordsAreOrdered, ReclaimedWordsAreHeldOnce}
use Rattle.merge_laws.proofs.Tests.{not_both, by_equal}
use Rattle.merge_laws.proofs.Order.{leads_ended}
use Rattle.merge_laws.proofs.Places.{leads_along, leads_on, at_new, at_old, precedes_below}

-- a piece more changes no cells before the earlier ones
cells_old : (c : Cells) (x : Piece) (e : List Piece) (p : ℕ) → p ≤ length e
    → cells_before (graph_from c (x ∷ e)) p ≡ cells_before (graph_from c e) p
cells_old c x e zero le = refl
cells_old c x e (suc p) le = λ k w. (at_old x e p (λ q. absurd (omega arith)) k).effect (cells_old c x e p (omega arith) k) w

-- the run in script order over places is that over the list
pub cells_before_all : (c : Cells) (e : List Piece) → cells_before (graph_from c e) (length e) ≡ cells_after c e
cells_before_all c [] = refl
cells_before_all c (x ∷ e) = λ k w. (at_new x e k).effect ((cells_old c x e (length e) (omega arith) ∙ cells_before_all c e) k) w

framed_at : (c : Cells) (e : List Piece) → AreFramed c e → (p : ℕ) → p < length e
    → IsFramed (piece_at e p) (cells_before (graph_from c e) p)
framed_at c [] F p lt = absurd (omega arith)
framed_at c (x ∷ e) F p lt = by_equal p (length e)
    (λ q. subst (λ k. IsFramed (piece_at (x ∷ e) k) (cells_before (graph_from c (x ∷ e)) k)) (sym q)
    (subst (λ y. IsFramed y (cells_before (graph_from c (x ∷ e)) (length e))) (sym (at_new x e))
    (subst (λ d. IsFramed x d) (sym (cells_old c x e (length e) (omega arith) ∙ cells_before_all c e)) F.0)))
    (λ n. subst (λ y. IsFramed y (cells_before (graph_from c (x ∷ e)) p)) (sym (at_old x e p n))
    (subst (λ d. IsFramed (piece_at e p) d) (sym (cells_old c x e p (omega arith))) (framed_at c e F.1 p (omega arith))))

pub plans_are_well_ordered : PlansAreWellOrdered
plans_are_well_ordered l c e D F = record {
  reads_written = λ p w lt t. D.reads_written p w t;
  earlier = λ p q lt b. (precedes_below e p q b).0;
  conflicts_lead = λ p q w lt below x. leads_along (λ i k b. b) (D.conflicts_lead p q w lt below x);
  writes_only = λ p w lt f. (framed_at c e F p lt).kept (cells_before (graph_from c e) p) (λ u r. refl) w f;
  reads_only = λ p d lt h w t. (framed_at c e F p lt).written d h w t;
}

-- RECLAMATION

pub reclaimed_words_are_ordered : ReclaimedWordsAreOrdered
reclaimed_words_are_ordered g o p m q w le ge lt below a b c = by_equal p m
    (λ e. o.conflicts_lead p q w lt below (inl (subst (λ k. g.writes k w ≡ true) (sym e) b, c)))
    (λ n. let first : LeadsTo g p m = o.conflicts_lead p m w (omega arith) (omega arith) (inr (a, b)) in by_equal m q
    (λ e. subst (λ k. LeadsTo g p k) e first)
    (λ ne. leads_on first (o.conflicts_lead m q w (omega arith) below (inl (b, c)))))

-- what leads to a leased piece is ended, so it isn't leased
pub reclaimed_words_are_held_once : ReclaimedWordsAreHeldOnce
reclaimed_words_are_held_once g c o S j k m w l n e f le ge lt a b r =
    not_both (leads_ended g c.ended S.ended_ready (reclaimed_words_are_ordered g o l.piece m n.piece w le ge lt (S.lease_below k n f) a b r)
    (S.lease_ready k n f)) (S.lease_unended j l e)
