-- A board keeps its rule from the opening to the end.
use Rattle.std.proofs.Common.{◌≡◌, ◌≢◌, ℕ, ◌<◌, ⊎_elim, true, eq-eqb, List, [], ◌∷◌, ◌++◌, refl, sym, ap, subst, ◌∙◌, arith, Some, None}
use Rattle.std.specs.Prelude.{slice_get, slice_set}
use Rattle.merge_laws.specs.Graph.{PieceGraph, IsWellOrdered}
use Rattle.merge_laws.specs.Core.{Lease, IsReady}
use Rattle.merge_laws.specs.Jobs.{JobGraph, IsJobGraph, IsPredecessor, starts, feeds, comes_before, is_awaited, IsOf}
use Rattle.merge_laws.specs.Claims.{Claims, IsFirst}
use Rattle.merge_laws.specs.Countdowns.{closed_state, ended_state, IsUnblocked, IsLed, AreExact}
use Rattle.merge_laws.specs.Rule.{Moment, core_at, IsRuled}
use Rattle.merge_laws.specs.BoardSteps.{ChangesClaims, IsStore, IsBegin, IsPartEnd, IsSegmentEnd, IsCount, IsRelease, IsPartOpening, IsSegmentOpening, IsLook, IsSplit, IsJoin, stores, begins, ends_part, ends_segment, counts, releases, opens_part, opens_segment, sees, splits, joins}
use Rattle.merge_laws.specs.BoardLaws.{UnblockedPiecesAreReady, StepsKeepTheRule, LeasedWordsHoldLocalCells, ClosedBoardsAreInScriptOrder}
use Rattle.merge_laws.proofs.Tests.{by_equal, none_some, some_is}
use Rattle.merge_laws.proofs.Order.{merged_up_to}
use Rattle.merge_laws.proofs.Merging.{changed, same_piece}
use Rattle.merge_laws.proofs.Holding.{set_at, set_off, one_at, longer_at, still_first, is_leader}
use Rattle.merge_laws.proofs.Counting.{counts_stay_exact, releases_stay_exact}
use Rattle.merge_laws.proofs.Ending.{part_ends_stay_exact, segment_ends_stay_exact}
use Rattle.merge_laws.proofs.Opening.{counted_ended, part_openings_stay_exact, segment_openings_stay_exact, segment_open_closed}
use Rattle.merge_laws.proofs.Beginning.{begins_stay_exact, looks_stay_exact, splits_stay_exact}
use Rattle.merge_laws.proofs.Handing.{handed_from}
use Rattle.merge_laws.proofs.Joining.{joined_i, joined_off, first_u, first_v, joins_stay_exact}
use Rattle.merge_laws.proofs.Leasing.{held_same, held_opened, held_handed, held_stored, held_begun, held_ended}

-- READY

-- an unblocked piece has only ended predecessors: of each kind the countdowns say so
pub unblocked_ready : (g : PieceGraph) (h : JobGraph) (state rest wait : ℕ → ℕ) (claims : List Claims) → IsOf h g → AreExact h state rest wait claims
    → (p : ℕ) → IsUnblocked h state rest p → (q : ℕ) → g.precedes q p ≡ true → state q ≡ ended_state
unblocked_ready g h state rest wait claims T C p U q b = of_kind (T.predecessor q p b)
  where
    of_kind : IsPredecessor h q p → state q ≡ ended_state
    of_kind (starts j lt part e) = ap state e ∙ U.starter j lt part
    of_kind (feeds i j il jl part d ql qpart) = counted_ended h state rest wait claims C i q il ql qpart (U.dependencies i j jl part d)
    of_kind (comes_before k lt e f) = ap state f ∙ U.before k lt e
    of_kind (is_awaited i k il kl e a ql qpart) = counted_ended h state rest wait claims C i q il ql qpart (U.waits i k kl e a)

pub unblocked_pieces_are_ready : UnblockedPiecesAreReady
unblocked_pieces_are_ready g h m T R p U q b = eq-eqb (m.state q) 3 (unblocked_ready g h m.state m.rest m.wait m.claims T R.exact p U q b)

ready_all : (g : PieceGraph) (h : JobGraph) (n : Moment) → IsOf h g → AreExact h n.state n.rest n.wait n.claims → (p : ℕ) → n.state p ≢ closed_state
    → IsReady g (core_at n).ended p
ready_all g h n T C p z q b = eq-eqb (n.state q) 3 (unblocked_ready g h n.state n.rest n.wait n.claims T C p (C.unblocked p z) q b)

-- EXACT

-- countdowns are exact of equal words and claims
exact_moved : (h : JobGraph) (state rest wait : ℕ → ℕ) (claims : List Claims) (n : Moment) → n.state ≡ state → n.rest ≡ rest → n.wait ≡ wait → n.claims ≡ claims
    → AreExact h state rest wait claims → AreExact h n.state n.rest n.wait n.claims
exact_moved h state rest wait claims n s r w c C = subst (λ (x : Moment). AreExact h x.state x.rest x.wait x.claims)
    (λ i. record { state = sym s i; rest = sym r i; wait = sym w i; cells = n.cells; lease = n.lease; claims = sym c i }) C

-- FIRST

-- who was first is still at its place, and first
first_kept : (m n : Moment) (k : ℕ) (v w : Claims) → ChangesClaims m n k v w → (IsFirst v → IsFirst w) → (j : ℕ) (u : Claims) → slice_get m.claims j ≡ Some u
    → IsFirst u
    → (x : Claims) × (slice_get n.claims j ≡ Some x) × IsFirst x
first_kept m n k v w Ch keep j u e f = by_equal j k
    (λ q. (
      w,
      ap (λ l. slice_get l j) Ch.now ∙ (ap (slice_get (slice_set m.claims k w)) q ∙ set_at m.claims k v w Ch.was),
      keep
          (subst (λ x. IsFirst x) (sym (one_at m.claims k j u v q Ch.was e)) f),
    ))
    (λ ne. (u, ap (λ l. slice_get l j) Ch.now ∙ (set_off m.claims k j w ne ∙ e), f))

-- THE STEPS

module _ (g : PieceGraph) (h : JobGraph) (o : IsWellOrdered g) (G : IsJobGraph h) (T : IsOf h g) (m n : Moment) (R : IsRuled g h m) where
  -- leases of segments, where the leases stay or fewer are left
  leases_kept : ((k : ℕ) (l : Lease) → n.lease k ≡ Some l → (was : Lease) × (m.lease k ≡ Some was) × (l.piece ≡ was.piece))
      → ((j : ℕ) (u : Claims) → slice_get m.claims j ≡ Some u → IsFirst u → (x : Claims) × (slice_get n.claims j ≡ Some x) × IsFirst x)
      → (k i : ℕ) (l : Lease) → n.lease k ≡ Some l → i < h.segments → l.piece ≡ h.segment_at i → (v : Claims) × (slice_get n.claims k ≡ Some v) × IsFirst v
  leases_kept old first k i l e lt q = let was = old k l e in let v = R.segment_leases k i was.0 was.1 lt (sym was.2 ∙ q) in first k v.0 v.1 v.2

  same_lease : n.lease ≡ m.lease → (k : ℕ) (l : Lease) → n.lease k ≡ Some l → (was : Lease) × (m.lease k ≡ Some was) × (l.piece ≡ was.piece)
  same_lease s k l e = (l, sym (ap (λ f. f k) s) ∙ e, refl)

  same_claims : n.claims ≡ m.claims → (j : ℕ) (u : Claims) → slice_get m.claims j ≡ Some u → IsFirst u
      → (x : Claims) × (slice_get n.claims j ≡ Some x) × IsFirst x
  same_claims s j u e f = (u, ap (λ l. slice_get l j) s ∙ e, f)

  stored_ruled : (k : ℕ) → IsStore g m n k → IsRuled g h n
  stored_ruled k X =
      let C : AreExact h n.state n.rest n.wait n.claims = exact_moved h m.state m.rest m.wait m.claims n X.state X.counts.rest X.counts.wait X.claims R.exact in
      let W = X.stores in record {
        held = held_stored g m n R.held (ready_all g h n T C) o k X;
        exact = C;
        segment_leases = leases_kept (λ j l e. ⊎_elim (λ y. (W.was, ap m.lease y.0 ∙ W.lease, sym (same_piece y.1) ∙ W.piece)) (λ y. (l, y.1, refl))
            (changed W.leases j l e)) (same_claims X.claims);
      }

  begun_ruled : (k : ℕ) → IsBegin g h m n k → IsRuled g h n
  begun_ruled k B =
      let C : AreExact h n.state n.rest n.wait n.claims = exact_moved h n.state m.rest m.wait m.claims n refl B.counts.rest B.counts.wait B.claims
      (begins_stay_exact h m.state m.rest m.wait n.state m.claims R.exact B.piece (B.found, B.states)) in record {
        held = held_begun g h m n R.held k B o (ready_all g h n T C);
        exact = C;
        segment_leases = λ j i l e lt q. ⊎_elim
            (λ y. let v = B.first i lt (same_piece y.1 ∙ q) in (v.0, ap (λ c. slice_get c j) B.claims ∙ (ap (slice_get m.claims) y.0 ∙ v.1), v.2))
            (λ y. let v = R.segment_leases j i l y.1 lt q in (v.0, ap (λ c. slice_get c j) B.claims ∙ v.1, v.2)) (changed B.leases j l e);
      }

  part_ended_ruled : (k : ℕ) → IsPartEnd g h m n k → IsRuled g h n
  part_ended_ruled k E =
      let U = E.gives_up in let W = E.ends in
      let C : AreExact h n.state n.rest n.wait n.claims = exact_moved h n.state m.rest m.wait
      (slice_set m.claims k E.now) n refl U.counts.rest U.counts.wait E.claims.now
      (part_ends_stay_exact h m.state m.rest m.wait n.state m.claims G R.exact k E.piece E.job E.was E.now E.claims.was W) in record {
        held = held_ended g m n o R.held k E.piece U W.states (ready_all g h n T C);
        exact = C;
        segment_leases = leases_kept (λ j l e. ⊎_elim (λ y. absurd (none_some y.1)) (λ y. (l, y.1, refl)) (changed U.leases j l e))
            (first_kept m n k E.was E.now E.claims (still_first W.segments));
      }

  segment_ended_ruled : (k : ℕ) → IsSegmentEnd g h m n k → IsRuled g h n
  segment_ended_ruled k E =
      let U = E.gives_up in let W = E.ends in
      let C : AreExact h n.state n.rest n.wait n.claims = exact_moved h n.state m.rest m.wait
      (slice_set m.claims k E.now) n refl U.counts.rest U.counts.wait E.claims.now
      (segment_ends_stay_exact h m.state m.rest m.wait n.state m.claims G R.exact k E.segment E.was E.now E.claims.was W) in record {
        held = held_ended g m n o R.held k (h.segment_at E.segment) U W.states (ready_all g h n T C);
        exact = C;
        segment_leases = leases_kept (λ j l e. ⊎_elim (λ y. absurd (none_some y.1)) (λ y. (l, y.1, refl)) (changed U.leases j l e))
            (first_kept m n k E.was E.now E.claims (λ f. (W.number ∙ f.0, W.spent ∙ f.1)));
      }

  counted_ruled : (k : ℕ) → IsCount h m n k → IsRuled g h n
  counted_ruled k X =
      let W = X.falls in let S = X.core in
      let C : AreExact h n.state n.rest n.wait n.claims = exact_moved h m.state n.rest m.wait (slice_set m.claims k X.now) n S.state refl X.wait X.claims.now
      (counts_stay_exact h m.state m.rest m.wait n.rest m.claims G R.exact k X.job X.was X.now X.claims.was W) in record {
        held = held_same g m n R.held (ready_all g h n T C) S.state S.cells S.lease;
        exact = C;
        segment_leases = leases_kept (same_lease S.lease) (first_kept m n k X.was X.now X.claims (still_first W.segments));
      }

  released_ruled : (k : ℕ) → IsRelease h m n k → IsRuled g h n
  released_ruled k X =
      let W = X.falls in let S = X.core in
      let C : AreExact h n.state n.rest n.wait n.claims = exact_moved h m.state m.rest n.wait (slice_set m.claims k X.now) n S.state X.rest refl X.claims.now
      (releases_stay_exact h m.state m.rest m.wait n.wait m.claims G R.exact k X.job X.was X.now X.claims.was W) in record {
        held = held_same g m n R.held (ready_all g h n T C) S.state S.cells S.lease;
        exact = C;
        segment_leases = leases_kept (same_lease S.lease) (first_kept m n k X.was X.now X.claims (still_first W.segments));
      }

  part_opened_ruled : (k : ℕ) → IsPartOpening m n k → IsRuled g h n
  part_opened_ruled k X =
      let W = X.opens in let E = R.exact in
      let C : AreExact h n.state n.rest n.wait n.claims = exact_moved h n.state m.rest m.wait
      (slice_set m.claims k X.now) n refl X.counts.rest X.counts.wait X.claims.now
      (part_openings_stay_exact h m.state m.rest m.wait n.state m.claims G R.exact k X.piece X.was X.now X.claims.was W) in record {
        held = held_opened g m n R.held (ready_all g h n T C) X.piece (E.rights_are k X.piece X.was X.claims.was W.right).0 W.states X.cells X.lease;
        exact = C;
        segment_leases = leases_kept (same_lease X.lease) (first_kept m n k X.was X.now X.claims (still_first W.segments));
      }

  segment_opened_ruled : (k : ℕ) → IsSegmentOpening h m n k → IsRuled g h n
  segment_opened_ruled k X =
      let W = X.opens in
      let C : AreExact h n.state n.rest n.wait n.claims = exact_moved h n.state m.rest m.wait
      (slice_set m.claims k X.now) n refl X.counts.rest X.counts.wait X.claims.now
      (segment_openings_stay_exact h m.state m.rest m.wait n.state m.claims G R.exact k X.was X.now X.claims.was W) in record {
        held = held_opened g m n R.held (ready_all g h n T C) (h.segment_at X.was.ended)
            (segment_open_closed h m.state m.rest m.wait n.state m.claims G R.exact k X.was X.now X.claims.was W) W.states X.cells X.lease;
        exact = C;
        segment_leases = leases_kept (same_lease X.lease) (first_kept m n k X.was X.now X.claims (λ f. (W.number ∙ f.0, W.spent ∙ f.1)));
      }

  seen_ruled : (k : ℕ) → IsLook h m n k → IsRuled g h n
  seen_ruled k X =
      let W = X.sees in let S = X.core in
      let C : AreExact h n.state n.rest n.wait n.claims = exact_moved h m.state m.rest m.wait
      (slice_set m.claims k X.now) n S.state X.counts.rest X.counts.wait X.claims.now
      (looks_stay_exact h m.state m.rest m.wait m.claims R.exact k X.job X.was X.now X.claims.was W) in record {
        held = held_same g m n R.held (ready_all g h n T C) S.state S.cells S.lease;
        exact = C;
        segment_leases = leases_kept (same_lease S.lease) (first_kept m n k X.was X.now X.claims (still_first W.segments));
      }

  split_ruled : IsSplit m n → IsRuled g h n
  split_ruled X =
      let S = X.core in
      let C : AreExact h n.state n.rest n.wait n.claims = exact_moved h m.state m.rest m.wait
      (m.claims ++ X.new ∷ []) n S.state X.counts.rest X.counts.wait X.claims
      (splits_stay_exact h m.state m.rest m.wait m.claims R.exact X.new X.fresh) in record {
        held = held_same g m n R.held (ready_all g h n T C) S.state S.cells S.lease;
        exact = C;
        segment_leases = leases_kept (same_lease S.lease) (λ j u e f. (u, ap (λ l. slice_get l j) X.claims ∙ longer_at m.claims (X.new ∷ []) j u e, f));
      }

  -- after a join who was first is first, at the same place or at the one that it was joined to
  joined_at : (k j : ℕ) (X : IsJoin m n k j) → slice_get n.claims j ≡ Some X.w
  joined_at k j X = ap (λ l. slice_get l j) X.claims ∙ joined_i m.claims j k X.u X.v X.w X.x X.apart X.at_j X.at_k

  joined_stays : (k j : ℕ) (X : IsJoin m n k j) (a : ℕ) (t : Claims) → a ≢ k → slice_get m.claims a ≡ Some t → IsFirst t
      → (x : Claims) × (slice_get n.claims a ≡ Some x) × IsFirst x
  joined_stays k j X a t ne e f = by_equal a j
      (λ s. let same : X.u ≡ t = one_at m.claims j a t X.u s X.at_j e in (
        X.w,
        ap (slice_get n.claims) s ∙ joined_at k j X,
        first_u h m.state m.rest m.wait m.claims R.exact j k X.u X.v X.w X.x X.apart X.at_j X.at_k X.joins
            (subst (λ c. IsFirst c) (sym same) f),
      ))
      (λ ns. (t, ap (λ l. slice_get l a) X.claims ∙ (joined_off m.claims j k X.u X.v X.w X.x X.apart X.at_j X.at_k a ns ne ∙ e), f))

  joined_comes : (k j : ℕ) (X : IsJoin m n k j) (t : Claims) → slice_get m.claims k ≡ Some t → IsFirst t → (a : ℕ) → a ≡ j
      → (x : Claims) × (slice_get n.claims a ≡ Some x) × IsFirst x
  joined_comes k j X t e f a s = let same : t ≡ X.v = some_is (sym e ∙ X.at_k) in (
    X.w,
    ap (slice_get n.claims) s ∙ joined_at k j X,
    first_v h m.state m.rest m.wait m.claims R.exact j k X.u X.v X.w X.x X.apart X.at_j X.at_k X.joins
        (subst (λ c. IsFirst c) same f),
  )

  -- so a lease of a segment, under its old key or handed over, is the first participant's
  joined_segments : (k j : ℕ) (X : IsJoin m n k j) (a i : ℕ) (l : Lease) → n.lease a ≡ Some l → i < h.segments → l.piece ≡ h.segment_at i
      → (x : Claims) × (slice_get n.claims a ≡ Some x) × IsFirst x
  joined_segments k j X a i l e lt q = ⊎_elim
      (λ t. let leases : n.lease a ≡ m.lease a = ap (λ f. f a) t.1 in
      let old : m.lease a ≡ Some l = sym leases ∙ e in
      let v = R.segment_leases a i l old lt q in
      joined_stays k j X a v.0 (λ s. let gone : m.lease a ≡ None = ap m.lease s ∙ t.0 in none_some (sym gone ∙ old)) v.1 v.2)
      (λ t. ⊎_elim
      (λ y. let v = R.segment_leases k i l y.1 lt q in joined_comes k j X v.0 v.1 v.2 a y.0)
      (λ y. let v = R.segment_leases a i l y.2 lt q in joined_stays k j X a v.0 y.1 v.1 v.2) (handed_from m.lease n.lease k j t a l e)) X.leases

  joined_ruled : (k j : ℕ) → IsJoin m n k j → IsRuled g h n
  joined_ruled k j X =
      let C : AreExact h n.state n.rest n.wait n.claims = exact_moved h m.state m.rest m.wait
      (slice_set (slice_set m.claims j X.w) k X.x) n X.state X.counts.rest X.counts.wait X.claims
      (joins_stay_exact h m.state m.rest m.wait m.claims R.exact j k X.u X.v X.w X.x X.apart X.at_j X.at_k X.joins) in record {
        held = ⊎_elim (λ t. held_same g m n R.held (ready_all g h n T C) X.state X.cells t.1)
            (λ t. held_handed g m n R.held (ready_all g h n T C) k j X.apart t X.state X.cells) X.leases;
        exact = C;
        segment_leases = joined_segments k j X;
      }

pub steps_keep_the_rule : StepsKeepTheRule
steps_keep_the_rule g h o G T m n R (stores k X) = stored_ruled g h o G T m n R k X
steps_keep_the_rule g h o G T m n R (begins k X) = begun_ruled g h o G T m n R k X
steps_keep_the_rule g h o G T m n R (ends_part k X) = part_ended_ruled g h o G T m n R k X
steps_keep_the_rule g h o G T m n R (ends_segment k X) = segment_ended_ruled g h o G T m n R k X
steps_keep_the_rule g h o G T m n R (counts k X) = counted_ruled g h o G T m n R k X
steps_keep_the_rule g h o G T m n R (releases k X) = released_ruled g h o G T m n R k X
steps_keep_the_rule g h o G T m n R (opens_part k X) = part_opened_ruled g h o G T m n R k X
steps_keep_the_rule g h o G T m n R (opens_segment k X) = segment_opened_ruled g h o G T m n R k X
steps_keep_the_rule g h o G T m n R (sees k X) = seen_ruled g h o G T m n R k X
steps_keep_the_rule g h o G T m n R (splits X) = split_ruled g h o G T m n R X
steps_keep_the_rule g h o G T m n R (joins k j X) = joined_ruled g h o G T m n R k j X

pub leased_words_hold_local_cells : LeasedWordsHoldLocalCells
leased_words_hold_local_cells g h m R k w l e r = let H = R.held in H.in_place k l w e r

-- THE END

-- Where the first participant has ended all segments, the last one is unblocked, so all jobs are counted and all pieces ended.
pub closed_boards_are_in_script_order : ClosedBoardsAreInScriptOrder
closed_boards_are_in_script_order g h o T m R D w =
    let H = R.held in let C = R.exact in let L : IsLed h m.state m.claims = C.led in
    let mine = is_leader h m.state m.claims D.place D.first L D.there D.is_first in
    let count : L.first.ended ≡ h.segments = ap (λ (x : Claims). x.ended) (sym mine.1) ∙ D.all in
    let segments : (k : ℕ) → k < h.segments → m.state (h.segment_at k) ≡ 3 = λ k lt. L.below k lt (subst (λ i. k < i) (sym count) lt) in
    let last_is = T.last_is in
    let last_below : T.last < h.segments = omega arith in
    let begun : m.state (h.segment_at T.last) ≢ 0 = λ z. let three = segments T.last last_below in omega arith in
    let U : IsUnblocked h m.state m.rest (h.segment_at T.last) = C.unblocked (h.segment_at T.last) begun in
    let all : (p : ℕ) → p < h.pieces → m.state p ≡ 3 = λ p lt. ⊎_elim
    (λ t. ap m.state t.2 ∙ segments t.0 t.1)
    (λ t. counted_ended h m.state m.rest m.wait m.claims C t.0 p t.1 lt t.2 (U.waits t.0 T.last last_below refl (T.last_waits t.0 t.1))) (T.each p lt) in
    H.merged w (λ k l e. let b = H.begun k l e in let three = all l.piece (subst (λ i. l.piece < i) T.count b.1) in let two = b.0 in absurd (omega arith))
    ∙ merged_up_to g w o (core_at m).ended g.count g.count (omega arith) (omega arith)
    (λ p lt t. eq-eqb (m.state p) 3 (all p (subst (λ i. p < i) T.count lt))) (λ p le lt t. absurd (omega arith))
