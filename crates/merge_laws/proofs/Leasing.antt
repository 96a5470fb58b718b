-- States, leases and cells agree after each step that changes one of them.
use Rattle.std.proofs.Common.{◌≡◌, ◌≢◌, ℕ, suc, ◌<◌, ⊎_elim, true, eqb, sym, ap, subst, ◌∙◌, arith, Option, Some}
use Rattle.merge_laws.specs.Graph.{PieceGraph, cells_before, IsWellOrdered}
use Rattle.merge_laws.specs.Core.{Lease, Core, IsReady}
use Rattle.merge_laws.specs.Merge.{IsMerged, IsInPlace, IsConsistent}
use Rattle.merge_laws.specs.Steps.{HandsOver, MayBegin, Begins, Stores, Ends}
use Rattle.merge_laws.specs.Jobs.{JobGraph}
use Rattle.merge_laws.specs.Countdowns.{closed_state, open_state, ended_state}
use Rattle.merge_laws.specs.CountSteps.{ChangesWord}
use Rattle.merge_laws.specs.Rule.{Moment, core_at, AreHeld}
use Rattle.merge_laws.specs.BoardSteps.{IsStore, IsBegin, GivesUp}
use Rattle.merge_laws.proofs.Tests.{not_both, none_some, by_equal}
use Rattle.merge_laws.proofs.Handing.{handed_to, handed_key, hands_keep_the_merge}
use Rattle.merge_laws.proofs.Merging.{changed, same_piece, begins_keep_the_merge, stores_keep_the_merge, ends_keep_the_merge}

-- the premise of the laws of the merge
pub held_consistent : (g : PieceGraph) (m : Moment) → AreHeld g m → IsConsistent g (core_at m)
held_consistent g m H = record {
  sound = record {
    ended_ready = λ p e. H.ready p (λ z. not_both e (ap (λ (n : ℕ). eqb n 3) z));
    lease_ready = λ k l e. H.ready l.piece (λ z. let two = (H.begun k l e).0 in absurd (omega arith));
    lease_below = λ k l e. (H.begun k l e).1;
    lease_unended = λ k l e. ap (λ (n : ℕ). eqb n 3) (H.begun k l e).0;
    lease_once = H.once;
  };
  merged = H.merged;
}

module _ (g : PieceGraph) (m n : Moment) (H : AreHeld g m) (ready : (p : ℕ) → n.state p ≢ closed_state → IsReady g (core_at n).ended p) where
  -- nothing that is looked at changes
  pub held_same : n.state ≡ m.state → n.cells ≡ m.cells → n.lease ≡ m.lease → AreHeld g n
  held_same s c l =
      let cores : core_at m ≡ core_at n = λ i. record { ended = λ p. eqb (sym s i p) 3; lease = sym l i; cells = sym c i } in record {
        begun = subst (λ (f : ℕ → Option Lease). (k : ℕ) (x : Lease) → f k ≡ Some x → (n.state x.piece ≡ 2) × (x.piece < g.count)) (sym l)
            (subst (λ (f : ℕ → ℕ). (k : ℕ) (x : Lease) → m.lease k ≡ Some x → (f x.piece ≡ 2) × (x.piece < g.count)) (sym s) H.begun);
        leased = λ p e. let old = H.leased p (sym (ap (λ (f : ℕ → ℕ). f p) s) ∙ e) in (old.0, old.1, ap (λ (f : ℕ → Option Lease). f old.0) l ∙ old.2, old.3);
        once = λ j k x y e f. H.once j k x y (sym (ap (λ (f : ℕ → Option Lease). f j) l) ∙ e) (sym (ap (λ (f : ℕ → Option Lease). f k) l) ∙ f);
        ready = ready;
        merged = subst (λ (c : Core). IsMerged g c) cores H.merged;
        in_place = subst (λ (c : Core). IsInPlace g c) cores H.in_place;
      }

  -- a closed piece is opened
  pub held_opened : (p : ℕ) → m.state p ≡ closed_state → ChangesWord m.state n.state p open_state → n.cells ≡ m.cells → n.lease ≡ m.lease → AreHeld g n
  held_opened p was S c l =
      let now = S.here in
      let same : (q : ℕ) → eqb (n.state q) 3 ≡ eqb (m.state q) 3 = λ q. by_equal q p
      (λ e. ap (λ (x : ℕ). eqb (n.state x) 3) e ∙ (ap (λ (x : ℕ). eqb x 3) now
      ∙ (sym (ap (λ (x : ℕ). eqb x 3) was) ∙ ap (λ (x : ℕ). eqb (m.state x) 3) (sym e))))
      (λ ne. ap (λ (x : ℕ). eqb x 3) (S.there q ne)) in
      let cores : core_at m ≡ core_at n = λ i. record { ended = λ q. sym (same q) i; lease = sym l i; cells = sym c i } in
      let old_lease : (k : ℕ) (x : Lease) → n.lease k ≡ Some x → m.lease k ≡ Some x = λ k x e. sym (ap (λ (f : ℕ → Option Lease). f k) l) ∙ e in
      record {
        begun = λ k x e. let old = H.begun k x (old_lease k x e) in (
          S.there x.piece
              (λ q. let z : m.state x.piece ≡ 0 = ap m.state q ∙ was in let two = old.0 in omega arith) ∙ old.0,
          old.1,
        );
        leased = λ q e. let old = H.leased q (sym (S.there q (λ i. let x : n.state q ≡ 1 = ap n.state i ∙ now in omega arith)) ∙ e) in
            (old.0, old.1, ap (λ (f : ℕ → Option Lease). f old.0) l ∙ old.2, old.3);
        once = λ j k x y e f. H.once j k x y (old_lease j x e) (old_lease k y f);
        ready = ready;
        merged = subst (λ (c : Core). IsMerged g c) cores H.merged;
        in_place = subst (λ (c : Core). IsInPlace g c) cores H.in_place;
      }

  -- a lease is handed over
  pub held_handed : (k j : ℕ) → j ≢ k → HandsOver m.lease n.lease k j → n.state ≡ m.state → n.cells ≡ m.cells → AreHeld g n
  held_handed k j apart X s c =
      let state : (q : ℕ) → n.state q ≡ m.state q = λ q. ap (λ (f : ℕ → ℕ). f q) s in
      let law = hands_keep_the_merge g (core_at m) (core_at n) (held_consistent g m H) k j apart X (λ q. ap (λ (x : ℕ). eqb x 3) (state q))
      (λ w. ap (λ (f : ℕ → _). f w) c) in
      let L = law.0 in let S = L.sound in
      record {
        begun = λ i l e. let old = handed_key m.lease n.lease k j X i l e in let was = H.begun old.0 l old.1 in (state l.piece ∙ was.0, was.1);
        leased = λ p e. let old = H.leased p (sym (state p) ∙ e) in let now = handed_to m.lease n.lease k j X old.0 old.1 old.2 in (now.0, old.1, now.1, old.3);
        once = S.lease_once;
        ready = ready;
        merged = L.merged;
        in_place = law.1 H.in_place;
      }

  -- a value is stored
  pub held_stored : IsWellOrdered g → (k : ℕ) → IsStore g m n k → AreHeld g n
  held_stored o k X =
      let W : Stores g (core_at m) (core_at n) k X.word X.value = X.stores in
      let law = stores_keep_the_merge g (core_at m) (core_at n) o (held_consistent g m H) H.in_place k X.word X.value W in
      let mine = H.begun k W.was W.lease in
      let state : (q : ℕ) → n.state q ≡ m.state q = λ q. ap (λ (f : ℕ → ℕ). f q) X.state in
      let L = law.0 in let S = L.sound in
      record {
        begun = λ j l e. ⊎_elim
            (λ y. let q : l.piece ≡ W.was.piece = sym (same_piece y.1) ∙ W.piece in
            (state l.piece ∙ (ap m.state q ∙ mine.0), subst (λ x. x < g.count) (sym q) mine.1))
            (λ y. let old = H.begun j l y.1 in (state l.piece ∙ old.0, old.1)) (changed W.leases j l e);
        leased = λ p e. let old = H.leased p (sym (state p) ∙ e) in by_equal old.0 k
            (λ q. (k, W.now, W.leases.here, W.piece ∙ (same_piece (sym W.lease ∙ (ap m.lease (sym q) ∙ old.2)) ∙ old.3)))
            (λ ne. (old.0, old.1, W.leases.there old.0 ne ∙ old.2, old.3));
        once = S.lease_once;
        ready = ready;
        merged = L.merged;
        in_place = law.1;
      }

-- A board's begin is a begin of the core, of a piece that may begin.
module _ (g : PieceGraph) (h : JobGraph) (m n : Moment) (H : AreHeld g m) (k : ℕ) (B : IsBegin g h m n k) where
  begin_ended : (q : ℕ) → eqb (n.state q) 3 ≡ eqb (m.state q) 3
  begin_ended q = by_equal q B.piece
      (λ e. ap (λ (x : ℕ). eqb (n.state x) 3) e ∙ (ap (λ (x : ℕ). eqb x 3) B.states.here
      ∙ (sym (ap (λ (x : ℕ). eqb x 3) B.found) ∙ ap (λ (x : ℕ). eqb (m.state x) 3) (sym e))))
      (λ ne. ap (λ (x : ℕ). eqb x 3) (B.states.there q ne))

  begin_other : (j : ℕ) (l : Lease) → m.lease j ≡ Some l → l.piece ≢ B.piece
  begin_other j l e q = let two : m.state B.piece ≡ 2 = ap m.state (sym q) ∙ (H.begun j l e).0 in let one = B.found in omega arith

  pub begin_may : MayBegin g (core_at m) B.piece
  begin_may = record {
    below = B.below;
    unended = ap (λ (x : ℕ). eqb x 3) B.found;
    unleased = begin_other;
    ready = H.ready B.piece (λ z. let one = B.found in omega arith);
  }

  pub begin_core : Begins g (core_at m) (core_at n) k B.piece
  begin_core = record {
    free = B.free;
    local = B.local;
    local_is = B.local_is;
    leases = B.leases;
    ended = begin_ended;
    cells = λ w. ap (λ (f : ℕ → _). f w) B.cells;
  }

  pub held_begun : IsWellOrdered g → ((p : ℕ) → n.state p ≢ closed_state → IsReady g (core_at n).ended p) → AreHeld g n
  held_begun o ready =
      let law = begins_keep_the_merge g (core_at m) (core_at n) o (held_consistent g m H) k B.piece begin_may begin_core in
      let L = law.0 in let S = L.sound in
      record {
        begun = λ j l e. ⊎_elim
            (λ y. let q = same_piece y.1 in (ap n.state (sym q) ∙ B.states.here, subst (λ x. x < g.count) q B.below))
            (λ y. let old = H.begun j l y.1 in (B.states.there l.piece (begin_other j l y.1) ∙ old.0, old.1)) (changed B.leases j l e);
        leased = λ q e. by_equal q B.piece
            (λ i. (k, record { piece = B.piece; local = B.local }, B.leases.here, sym i))
            (λ ne. let old = H.leased q (sym (B.states.there q ne) ∙ e) in by_equal old.0 k
            (λ i. absurd (none_some (sym B.free ∙ (ap m.lease (sym i) ∙ old.2))))
            (λ ni. (old.0, old.1, B.leases.there old.0 ni ∙ old.2, old.3)));
        once = S.lease_once;
        ready = ready;
        merged = L.merged;
        in_place = law.1 H.in_place;
      }

-- A board's end is an end of the core. The cells already hold the local ones.
module _ (g : PieceGraph) (m n : Moment) (o : IsWellOrdered g) (H : AreHeld g m) (k p : ℕ) (E : GivesUp g m n k p)
    (S : ChangesWord m.state n.state p ended_state) where
  pub end_core : Ends g (core_at m) (core_at n) k
  end_core =
      let q : E.lease.piece ≡ p = E.piece in
      let below : E.lease.piece < g.count = (H.begun k E.lease E.held).1 in record {
        was = E.lease;
        lease = E.held;
        local = E.lease.local;
        local_is = λ w t. E.is_done w (subst (λ x. g.writes x w ≡ true) q t) ∙ ap (λ x. cells_before g (suc x) w) (sym q);
        leases = E.leases;
        ended_here = ap (λ x. eqb (n.state x) 3) q ∙ ap (λ (x : ℕ). eqb x 3) S.here;
        ended_there = λ r ne. ap (λ (x : ℕ). eqb x 3) (S.there r (λ e. ne (e ∙ sym q)));
        written = λ w t. ap (λ (f : ℕ → _). f w) E.cells ∙ H.in_place k E.lease w E.held (o.reads_written E.lease.piece w below t);
        others = λ w t. ap (λ (f : ℕ → _). f w) E.cells;
      }

  -- a lease after the end is one of before, of another piece
  end_left : (j : ℕ) (l : Lease) → n.lease j ≡ Some l → (m.lease j ≡ Some l) × (l.piece ≢ p)
  end_left j l e = ⊎_elim (λ y. absurd (none_some y.1)) (λ y. (y.1, λ q. y.0 (H.once j k l E.lease y.1 E.held (q ∙ sym E.piece)))) (changed E.leases j l e)

  pub held_ended : ((q : ℕ) → n.state q ≢ closed_state → IsReady g (core_at n).ended q) → AreHeld g n
  held_ended ready =
      let law = ends_keep_the_merge g (core_at m) (core_at n) o (held_consistent g m H) k end_core in
      let L = law.0 in let D = L.sound in
      record {
        begun = λ j l e. let old = end_left j l e in let was = H.begun j l old.0 in (S.there l.piece old.1 ∙ was.0, was.1);
        leased = λ q e. by_equal q p (λ i. let three : n.state q ≡ 3 = ap n.state i ∙ S.here in absurd (omega arith))
            (λ ne. let old = H.leased q (sym (S.there q ne) ∙ e) in
            (old.0, old.1, E.leases.there old.0 (λ i. ne (sym old.3 ∙ (same_piece (sym old.2 ∙ (ap m.lease i ∙ E.held)) ∙ E.piece))) ∙ old.2, old.3));
        once = D.lease_once;
        ready = ready;
        merged = L.merged;
        in_place = law.1 H.in_place;
      }
