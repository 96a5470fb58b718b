-- A lease is handed over to another key, and the merge stays.
use Rattle.std.proofs.Common.{◌≡◌, ◌≢◌, ℕ, ◌⊎◌, inl, inr, ⊎_elim, sym, ap, ◌∙◌, Option, Some}
use Rattle.merge_laws.specs.Core.{Lease}
use Rattle.merge_laws.specs.Steps.{HandsOver}
use Rattle.merge_laws.specs.MergeLaws.{HandsKeepTheMerge}
use Rattle.merge_laws.proofs.Tests.{none_some, by_equal}
use Rattle.merge_laws.proofs.Order.{merged_same}

-- a lease after was one before, of the same key or the one that was handed over
pub handed_from : (f h : ℕ → Option Lease) (k j : ℕ) → HandsOver f h k j → (i : ℕ) (l : Lease) → h i ≡ Some l
    → ((i ≡ j) × (f k ≡ Some l)) ⊎ ((i ≢ j) × (i ≢ k) × (f i ≡ Some l))
handed_from f h k j H i l e = by_equal i j
    (λ q. inl (q, sym H.here ∙ (ap h (sym q) ∙ e)))
    (λ n. by_equal i k (λ q. absurd (none_some (sym H.gone ∙ (ap h (sym q) ∙ e)))) (λ m. inr (n, m, sym (H.there i n m) ∙ e)))

-- and each lease before is one after
pub handed_to : (f h : ℕ → Option Lease) (k j : ℕ) → HandsOver f h k j → (i : ℕ) (l : Lease) → f i ≡ Some l → (b : ℕ) × (h b ≡ Some l)
handed_to f h k j H i l e = by_equal i k
    (λ q. (j, H.here ∙ (ap f (sym q) ∙ e)))
    (λ m. (i, H.there i (λ q. none_some (sym H.free ∙ (ap f (sym q) ∙ e))) m ∙ e))

-- its key before
pub handed_key : (f h : ℕ → Option Lease) (k j : ℕ) → HandsOver f h k j → (i : ℕ) (l : Lease) → h i ≡ Some l → (a : ℕ) × (f a ≡ Some l)
handed_key f h k j H i l e = ⊎_elim (λ t. (k, t.1)) (λ t. (i, t.2)) (handed_from f h k j H i l e)

pub hands_keep_the_merge : HandsKeepTheMerge
hands_keep_the_merge g c d C k j apart H ended cells =
    let S = C.sound in
    let old : (i : ℕ) (l : Lease) → d.lease i ≡ Some l → (a : ℕ) × (c.lease a ≡ Some l) = handed_key c.lease d.lease k j H in (
      record {
        sound = record {
          ended_ready = λ p e q b. ended q ∙ S.ended_ready p (sym (ended p) ∙ e) q b;
          lease_ready = λ i l e q b. let o = old i l e in ended q ∙ S.lease_ready o.0 l o.1 q b;
          lease_below = λ i l e. let o = old i l e in S.lease_below o.0 l o.1;
          lease_unended = λ i l e. let o = old i l e in ended l.piece ∙ S.lease_unended o.0 l o.1;
          lease_once = λ a b l m e f q. ⊎_elim
              (λ x. ⊎_elim (λ y. x.0 ∙ sym y.0) (λ y. absurd (y.1 (sym (S.lease_once k b l m x.1 y.2 q)))) (handed_from c.lease d.lease k j H b m f))
              (λ x. ⊎_elim (λ y. absurd (x.1 (S.lease_once a k l m x.2 y.1 q))) (λ y. S.lease_once a b l m x.2 y.2 q) (handed_from c.lease d.lease k j H b m f))
              (handed_from c.lease d.lease k j H a l e);
        };
        merged = λ w none. cells w ∙ (C.merged w (λ i l e. let t = handed_to c.lease d.lease k j H i l e in none t.0 l t.1)
            ∙ merged_same g c.ended d.ended w (λ q t. sym (ended q)));
      },
      (λ I i l w e r. let o = old i l e in cells w ∙ I o.0 l w o.1 r),
    )
