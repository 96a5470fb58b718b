-- Worked merges and countdowns of the diamond.
use Rattle.std.proofs.Common.{◌≡◌, ℕ, zero, suc, ◌⊎◌, inl, inr, ⊎_elim, true, false, cond, eqb, eqb-true, ne_eqb, [], ◌∷◌, refl, sym, ap, subst, ◌∙◌, arith, ℤ, pos, Option, Some, None}
use Rattle.std.specs.Prelude.{nat_abs, slice_get}
use Rattle.merge_laws.specs.Numbers.{has}
use Rattle.merge_laws.specs.Graph.{Cells}
use Rattle.merge_laws.specs.Claims.{Claims}
use Rattle.merge_laws.specs.Core.{Lease, IsSound}
use Rattle.merge_laws.specs.Diamond.{diamond_precedes, diamond}
use Rattle.merge_laws.specs.Examples.{both_leased, DiamondMerges, one_segment, releasing, rightful, DiamondCounts}
use Rattle.merge_laws.proofs.Tests.{not_both, none_some, by_equal, chosen, not_chosen}
use Rattle.merge_laws.proofs.Merging.{same_piece}
use Rattle.merge_laws.proofs.Reaching.{one_at_first}

-- LEASES

-- the two leases are of the pieces 1 and 2
lease_of : (local cells : Cells) (k : ℕ) (l : Lease) → (both_leased local cells).lease k ≡ Some l → ((k ≡ 1) × (l.piece ≡ 1)) ⊎ ((k ≡ 2) × (l.piece ≡ 2))
lease_of local cells k l e =
    let first : Option Lease = Some record { piece = 1; local = local } in
    let second : Option Lease = Some record { piece = 2; local = local } in
    by_equal k 1
    (λ q. inl (q, sym (same_piece (sym (chosen k 1 first (cond (eqb k 2) second None) q) ∙ e))))
    (λ n. let rest : cond (eqb k 2) second None ≡ Some l = sym (not_chosen k 1 first (cond (eqb k 2) second None) n) ∙ e in by_equal k 2
    (λ q. inr (q, sym (same_piece (sym (chosen k 2 second None q) ∙ rest))))
    (λ m. absurd (none_some (sym (not_chosen k 2 second None m) ∙ rest))))

ready_parts : (p : ℕ) → (p ≡ 1) ⊎ (p ≡ 2) → (q : ℕ) → diamond_precedes q p ≡ true → eqb q 0 ≡ true
ready_parts p c zero b = refl
ready_parts p c (suc zero) b = absurd (⊎_elim (λ e. not_both (ap (diamond_precedes 1) (sym e) ∙ b) refl)
    (λ e. not_both (ap (diamond_precedes 1) (sym e) ∙ b) refl) c)
ready_parts p c (suc (suc zero)) b = absurd (⊎_elim (λ e. not_both (ap (diamond_precedes 2) (sym e) ∙ b) refl)
    (λ e. not_both (ap (diamond_precedes 2) (sym e) ∙ b) refl) c)
ready_parts p c (suc (suc (suc q))) b = absurd (not_both b refl)

no_predecessor : (q : ℕ) → diamond_precedes q 0 ≡ true → ⊥
no_predecessor zero b = not_both b refl
no_predecessor (suc zero) b = not_both b refl
no_predecessor (suc (suc zero)) b = not_both b refl
no_predecessor (suc (suc (suc q))) b = not_both b refl

part_of : (local cells : Cells) (k : ℕ) (l : Lease) → (both_leased local cells).lease k ≡ Some l → (l.piece ≡ 1) ⊎ (l.piece ≡ 2)
part_of local cells k l e = ⊎_elim (λ t. inl t.1) (λ t. inr t.1) (lease_of local cells k l e)

both_sound : (local cells : Cells) → IsSound diamond (both_leased local cells)
both_sound local cells = record {
  ended_ready = λ p e q b. absurd (no_predecessor q (subst (λ x. diamond_precedes q x ≡ true) (eqb-true p 0 e) b));
  lease_ready = λ k l e. ready_parts l.piece (part_of local cells k l e);
  lease_below = λ k l e. ⊎_elim (λ t. omega arith) (λ t. omega arith) (part_of local cells k l e);
  lease_unended = λ k l e. ne_eqb l.piece 0 (λ z. ⊎_elim (λ t. omega arith) (λ t. omega arith) (part_of local cells k l e));
  lease_once = λ j k l m e f q. ⊎_elim
      (λ a. ⊎_elim (λ b. a.0 ∙ sym b.0) (λ b. let x = a.1 in let y = b.1 in absurd (omega arith)) (lease_of local cells k m f))
      (λ a. ⊎_elim (λ b. let x = a.1 in let y = b.1 in absurd (omega arith)) (λ b. a.0 ∙ sym b.0) (lease_of local cells k m f)) (lease_of local cells j l e);
}

five_and_seven : ◌≡◌ {A = ℤ} (pos 5) (pos 7) → ⊥
five_and_seven e = let n : ◌≡◌ {A = ℕ} 5 7 = ap nat_abs e in omega arith

-- no piece of the job writes word 0
unwritten_word : (l : Lease) → (l.piece ≡ 1) ⊎ (l.piece ≡ 2) → diamond.writes l.piece 0 ≡ false
unwritten_word l c = ⊎_elim (λ e. ap (λ p. diamond.writes p 0) e) (λ e. ap (λ p. diamond.writes p 0) e) c

pub diamond_merges : DiamondMerges
diamond_merges = record {
  written = refl;
  unwritten = refl;
  nothing_ended = refl;
  all_ended = refl;
  both_sound = both_sound (λ w. pos 7) (λ w. pos 7);
  reads_a_written_word = λ c l m e p f q S. not_both
      (S.lease_ready 3 m f 1 (ap (diamond_precedes 1) q))
      (subst (λ x. c.ended x ≡ false) p (S.lease_unended 1 l e));
  reads_a_wrong_cell = λ M. five_and_seven (M 0 (λ k l e. unwritten_word l (part_of (λ w. pos 7) (λ w. pos 5) k l e)));
  not_in_place = λ I. five_and_seven (I 1 (record { piece = 1; local = λ w. pos 7 }) 0 refl refl);
}

-- COUNTDOWNS

nobody : (k : ℕ) (v : Claims) → slice_get (one_segment ∷ []) k ≡ Some v → has 1 v.rights ≡ true → ⊥
nobody k v e a = not_both (ap (λ (x : Claims). has 1 x.rights) (one_at_first one_segment v k e).1 ∙ a) refl

pub diamond_counts : DiamondCounts
diamond_counts = record {
  owed = λ rest C. C.rest_is 0 (omega arith);
  counted = λ rest C. C.rest_is 0 (omega arith);
  falls_twice = λ C. let e : 0 ≡ 1 = C.rest_is 0 (omega arith) in omega arith;
  counted_and_owed = λ C. let e : 1 ≡ 2 = C.rest_is 0 (omega arith) in omega arith;
  waiting = λ wait C. C.wait_is 0 (omega arith);
  due = λ wait C. C.wait_is 0 (omega arith);
  released = λ wait C. C.wait_is 0 (omega arith);
  duty_elsewhere = λ state rest wait C. let e : 1 ≡ 0 = (C.segment_duties 1 (releasing 1) refl refl).0 in omega arith;
  seen_too_early = λ state wait C. let e : 1 ≡ 0 = (C.seen 0 0 (record one_segment { seen = 0 ∷ [] }) refl refl).1 in omega arith;
  runs_too_early = λ C. let e : 1 ≡ 0 = C.started 2 0 (omega arith) (omega arith) refl (λ z. let two : 2 ≡ 0 = z in omega arith) in omega arith;
  right_twice = λ state rest wait C. let e : 1 ≡ 2 = C.rights_once 1 2 1 (rightful 1) (rightful 2) refl refl refl refl in omega arith;
  right_to_open = λ state rest wait opened C. let closed = (C.rights_are 1 1 (rightful 1) refl refl).0 in omega arith;
  right_lost = λ state rest wait closed none C. let r = C.rights_all 1 0 (omega arith) (omega arith) refl none closed in nobody r.0 r.1 r.2 r.3;
  opened_too_early = λ state wait opened C. let e : 1 ≡ 0 = (C.unblocked 3 (λ z. omega arith)).waits 0 1 (omega arith) refl refl in omega arith;
  two_first = λ state rest wait C. let a : 0 ≡ C.led.place = C.led.only 0 one_segment refl (refl, refl) in
      let b : 1 ≡ C.led.place = C.led.only 1 one_segment refl (refl, refl) in omega arith;
}
