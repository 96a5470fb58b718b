-- The laws of the merge.
use Rattle.std.proofs.Common.{◌≡◌, ◌≢◌, ℕ, suc, ◌<◌, ◌⊎◌, inl, inr, ⊎_elim, true, false, sym, ap, subst, ◌∙◌, arith, Option, Some}
use Rattle.std.proofs.lemmas.Bool.{cases_Bool, cases_eq}
use Rattle.merge_laws.specs.Graph.{PieceGraph, cells_before, IsWellOrdered}
use Rattle.merge_laws.specs.Core.{Lease, Core, IsReady, IsSound}
use Rattle.merge_laws.specs.Merge.{merged_cells, IsMerged, IsInPlace, IsConsistent}
use Rattle.merge_laws.specs.Steps.{ChangesLease, Stores, Ends}
use Rattle.merge_laws.specs.MergeLaws.{LeasesAreApart, WhatMayBeginIsClear, BeginsKeepTheMerge, StoresKeepTheMerge, EndsKeepTheMerge}
use Rattle.merge_laws.proofs.Tests.{not_both, some_is, none_some}
use Rattle.merge_laws.proofs.Order.{leads_ended, apart, merged_up_to, merged_same}

-- a lease after a change is the changed one or one of before
pub changed : {f h : ℕ → Option Lease} {k : ℕ} {x : Option Lease} → ChangesLease f h k x → (j : ℕ) (m : Lease) → h j ≡ Some m
    → ((j ≡ k) × (x ≡ Some m)) ⊎ ((j ≢ k) × (f j ≡ Some m))
changed {h = h} {k = k} ch j m e = ⊎_elim (λ q. inl (q, sym ch.here ∙ (ap h (sym q) ∙ e))) (λ n. inr (n, sym (ch.there j n) ∙ e)) (cases_eq j k)

pub same_piece : {l m : Lease} → Some l ≡ Some m → l.piece ≡ m.piece
same_piece e = ap (λ (x : Lease). x.piece) (some_is e)

pub leases_are_apart : LeasesAreApart
leases_are_apart g c o S j k w l m e f n t = apart g c.ended S.ended_ready o l.piece m.piece w (S.lease_below j l e) (S.lease_below k m f)
    (λ q. n (S.lease_once j k l m e f q)) (S.lease_ready j l e) (S.lease_ready k m f) (S.lease_unended j l e) (S.lease_unended k m f) t

pub what_may_begin_is_clear : WhatMayBeginIsClear
what_may_begin_is_clear g c o C p B =
    let S : IsSound g c = C.sound in
    let below = B.below in
    let unwritten : (k : ℕ) (l : Lease) (w : ℕ) → c.lease k ≡ Some l → g.reads p w ≡ true → g.writes l.piece w ≡ false = λ k l w e r. ⊎_elim
    (λ t. absurd (not_both r (apart g c.ended S.ended_ready o l.piece p w (S.lease_below k l e) B.below (B.unleased k l e) (S.lease_ready k l e) B.ready
    (S.lease_unended k l e) B.unended t)))
    (λ f. f) (cases_Bool (g.writes l.piece w)) in
    record {
      unwritten = unwritten;
      unread = λ k l w e t. apart g c.ended S.ended_ready o p l.piece w B.below (S.lease_below k l e) (λ q. B.unleased k l e (sym q)) B.ready
          (S.lease_ready k l e) B.unended (S.lease_unended k l e) t;
      cells = λ w r. C.merged w (λ k l e. unwritten k l w e r) ∙ merged_up_to g w o c.ended g.count p (omega arith) (omega arith)
          (λ q lt t. leads_ended g c.ended S.ended_ready (o.conflicts_lead q p w lt B.below (inl (t, r))) B.ready)
          (λ q le lt t. ⊎_elim (λ e. ⊎_elim
          (λ i. absurd (not_both (subst (λ k. c.ended k ≡ true) i e) B.unended))
          (λ n. absurd (not_both (leads_ended g c.ended S.ended_ready (o.conflicts_lead p q w (omega arith) lt (inr (r, t))) (S.ended_ready q e)) B.unended))
          (cases_eq q p))
          (λ f. f) (cases_Bool (c.ended q)));
    }

-- The premise on pieces stays where the key k gets a lease of a piece that no other key has.
sound_with : (g : PieceGraph) (c d : Core) (k : ℕ) (now : Lease) → IsSound g c → ((q : ℕ) → d.ended q ≡ c.ended q) → ChangesLease c.lease d.lease k (Some now)
    → now.piece < g.count → c.ended now.piece ≡ false → IsReady g c.ended now.piece → ((j : ℕ) (m : Lease) → j ≢ k → c.lease j ≡ Some m → m.piece ≢ now.piece)
    → IsSound g d
sound_with g c d k now S en ch hp ep rp un = record {
  ended_ready = λ q e r b. en r ∙ S.ended_ready q (sym (en q) ∙ e) r b;
  lease_ready = λ j m e r b. en r ∙ ⊎_elim (λ h. rp r (subst (λ x. g.precedes r x ≡ true) (sym (same_piece h.1)) b)) (λ h. S.lease_ready j m h.1 r b)
      (changed ch j m e);
  lease_below = λ j m e. ⊎_elim (λ h. subst (λ x. x < g.count) (same_piece h.1) hp) (λ h. S.lease_below j m h.1) (changed ch j m e);
  lease_unended = λ j m e. en m.piece ∙ ⊎_elim (λ h. subst (λ x. c.ended x ≡ false) (same_piece h.1) ep) (λ h. S.lease_unended j m h.1) (changed ch j m e);
  lease_once = λ i j l m e f q. ⊎_elim
      (λ h. ⊎_elim (λ y. h.0 ∙ sym y.0) (λ y. absurd (un j m y.0 y.1 (sym q ∙ sym (same_piece h.1)))) (changed ch j m f))
      (λ h. ⊎_elim (λ y. absurd (un i l h.0 h.1 (q ∙ sym (same_piece y.1)))) (λ y. S.lease_once i j l m h.1 y.1 q) (changed ch j m f)) (changed ch i l e);
}

pub begins_keep_the_merge : BeginsKeepTheMerge
begins_keep_the_merge g c d o C k p M B = let clear = what_may_begin_is_clear g c o C p M in (
  record {
    sound = sound_with g c d k (record { piece = p; local = B.local }) C.sound B.ended B.leases M.below M.unended M.ready (λ j m n e. M.unleased j m e);
    merged = λ w none. B.cells w ∙ (C.merged w (λ j l e. ⊎_elim
        (λ q. absurd (none_some (sym B.free ∙ (ap c.lease (sym q) ∙ e))))
        (λ n. none j l (B.leases.there j n ∙ e)) (cases_eq j k)) ∙ merged_same g c.ended d.ended w (λ q t. sym (B.ended q)));
  },
  (λ I j m w e r. ⊎_elim
      (λ h. let t : g.reads p w ≡ true = subst (λ x. g.reads x w ≡ true) (sym (same_piece h.1)) r in
      B.cells w ∙ (clear.cells w t ∙ (sym (B.local_is w t) ∙ ap (λ (x : Lease). x.local w) (some_is h.1))))
      (λ h. B.cells w ∙ I j m w h.1 r) (changed B.leases j m e)),
)

-- What a store leaves: the lease of before and of now are of one piece.
module _ (g : PieceGraph) (c d : Core) (o : IsWellOrdered g) (C : IsConsistent g c) (I : IsInPlace g c) (k w : ℕ) {v : _} (W : Stores g c d k w v) where
  stored_sound : IsSound g d
  stored_sound = let S : IsSound g c = C.sound in sound_with g c d k W.now S W.ended W.leases
      (subst (λ x. x < g.count) (sym W.piece) (S.lease_below k W.was W.lease))
      (subst (λ x. c.ended x ≡ false) (sym W.piece) (S.lease_unended k W.was W.lease))
      (λ r b. S.lease_ready k W.was W.lease r (subst (λ x. g.precedes r x ≡ true) W.piece b))
      (λ j m n e q. n (S.lease_once j k m W.was e W.lease (q ∙ W.piece)))

  -- a word that no lease writes isn't the one that was stored
  stored_merged : (u : ℕ) → ((j : ℕ) (l : Lease) → d.lease j ≡ Some l → g.writes l.piece u ≡ false) → d.cells u ≡ merged_cells g d.ended u
  stored_merged u none = let mine : g.writes W.was.piece u ≡ false = subst (λ x. g.writes x u ≡ false) W.piece (none k W.now W.leases.here) in
      W.there u (λ q. not_both W.written (subst (λ x. g.writes W.was.piece x ≡ false) q mine))
      ∙ (C.merged u (λ j l e. ⊎_elim
      (λ q. subst (λ x. g.writes x u ≡ false) (same_piece (sym W.lease ∙ (ap c.lease (sym q) ∙ e))) mine)
      (λ n. none j l (W.leases.there j n ∙ e)) (cases_eq j k)) ∙ merged_same g c.ended d.ended u (λ q t. sym (W.ended q)))

  -- of the leases the holder's alone sees the word that was stored
  stored_in_place : IsInPlace g d
  stored_in_place j m u e r = ⊎_elim
      (λ h. let local : W.now.local u ≡ m.local u = ap (λ (x : Lease). x.local u) (some_is h.1) in ⊎_elim
      (λ q. ap d.cells q ∙ (W.here ∙ (sym W.local_here ∙ (ap W.now.local (sym q) ∙ local))))
      (λ n. W.there u n ∙ (I k W.was u W.lease (subst (λ x. g.reads x u ≡ true) (sym (same_piece h.1) ∙ W.piece) r) ∙ (sym (W.local_there u n) ∙ local)))
      (cases_eq u w))
      (λ h. W.there u (λ q. not_both (subst (λ x. g.reads m.piece x ≡ true) q r)
      (leases_are_apart g c o C.sound k j w W.was m W.lease h.1 (λ i. h.0 (sym i)) W.written)) ∙ I j m u h.1 r) (changed W.leases j m e)

pub stores_keep_the_merge : StoresKeepTheMerge
stores_keep_the_merge g c d o C I k w v W = (
  record { sound = stored_sound g c d o C I k w W; merged = stored_merged g c d o C I k w W },
  stored_in_place g c d o C I k w W,
)

module _ (g : PieceGraph) (c d : Core) (o : IsWellOrdered g) (k : ℕ) (S : IsSound g c) (E : Ends g c d k) where
  -- a lease after the end is one of before, of another piece
  left_over : (j : ℕ) (m : Lease) → d.lease j ≡ Some m → (c.lease j ≡ Some m) × (m.piece ≢ E.was.piece)
  left_over j m e = ⊎_elim (λ h. absurd (none_some h.1)) (λ h. (h.1, λ q. h.0 (S.lease_once j k m E.was h.1 E.lease q))) (changed E.leases j m e)

  more_ended : (q : ℕ) → c.ended q ≡ true → d.ended q ≡ true
  more_ended q e = ⊎_elim (λ i. ap d.ended i ∙ E.ended_here) (λ n. E.ended_there q n ∙ e) (cases_eq q E.was.piece)

  ended_sound : IsSound g d
  ended_sound = record {
    ended_ready = λ q e r b. more_ended r (⊎_elim
        (λ i. S.lease_ready k E.was E.lease r (subst (λ x. g.precedes r x ≡ true) i b))
        (λ n. S.ended_ready q (sym (E.ended_there q n) ∙ e) r b) (cases_eq q E.was.piece));
    lease_ready = λ j m e r b. more_ended r (S.lease_ready j m (left_over j m e).0 r b);
    lease_below = λ j m e. S.lease_below j m (left_over j m e).0;
    lease_unended = λ j m e. E.ended_there m.piece (left_over j m e).1 ∙ S.lease_unended j m (left_over j m e).0;
    lease_once = λ i j l m e f q. S.lease_once i j l m (left_over i l e).0 (left_over j m f).0 q;
  }

  -- where the ended piece writes the word, the merged value is that after it
  ended_value : (w : ℕ) → g.writes E.was.piece w ≡ true → cells_before g (suc E.was.piece) w ≡ merged_cells g d.ended w
  ended_value w t = let p : ℕ = E.was.piece in let hp : p < g.count = S.lease_below k E.was E.lease in
      sym (merged_up_to g w o d.ended g.count (suc p) hp (omega arith)
      (λ q lt u. ⊎_elim (λ i. ap d.ended i ∙ E.ended_here)
      (λ n. more_ended q (leads_ended g c.ended S.ended_ready (o.conflicts_lead q p w (omega arith) hp (inl (u, o.reads_written p w hp t)))
      (S.lease_ready k E.was E.lease))) (cases_eq q p))
      (λ q le lt u. ⊎_elim
      (λ e. absurd (not_both (leads_ended g c.ended S.ended_ready (o.conflicts_lead p q w le lt (inl (t, o.reads_written q w lt u))) (S.ended_ready q e))
      (S.lease_unended k E.was E.lease)))
      (λ e. E.ended_there q (λ i. let ne : q ≡ p = i in absurd (omega arith)) ∙ e) (cases_Bool (c.ended q))))

  ended_merged : IsMerged g c → IsMerged g d
  ended_merged M w none = ⊎_elim
      (λ t. E.written w t ∙ (E.local_is w t ∙ ended_value w t))
      (λ t. E.others w t ∙ (M w (λ j l e. ⊎_elim
      (λ q. subst (λ x. g.writes x w ≡ false) (same_piece (sym E.lease ∙ (ap c.lease (sym q) ∙ e))) t)
      (λ n. none j l (E.leases.there j n ∙ e)) (cases_eq j k))
      ∙ merged_same g c.ended d.ended w (λ q u. sym (E.ended_there q (λ i. not_both (subst (λ x. g.writes x w ≡ true) i u) t)))))
      (cases_Bool (g.writes E.was.piece w))

  ended_in_place : IsInPlace g c → IsInPlace g d
  ended_in_place I j m w e r = let was = left_over j m e in ⊎_elim
      (λ t. absurd (not_both r (leases_are_apart g c o S k j w E.was m E.lease was.0 (λ i. was.1 (same_piece (sym was.0 ∙ (ap c.lease (sym i) ∙ E.lease)))) t)))
      (λ t. E.others w t ∙ I j m w was.0 r) (cases_Bool (g.writes E.was.piece w))

pub ends_keep_the_merge : EndsKeepTheMerge
ends_keep_the_merge g c d o C k E = (
  record { sound = ended_sound g c d o k C.sound E; merged = ended_merged g c d o k C.sound E C.merged },
  ended_in_place g c d o k C.sound E,
)
