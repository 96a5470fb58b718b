-- Pairs in rising key order: what is found after each operation, and how many pairs there are.
use Rattle.std.proofs.Common.{◌≡◌, ◌≢◌, T, ℤ, ◌+◌, true, false, cond, not, Option, Some, None, is_some, List, length, refl, sym, ap, subst, ◌∙◌, inl, inr, arith}
use Rattle.std.specs.Prelude.{IsTrue}
use Rattle.std.specs.Ordering.{int_cmp, int_eq}
use Rattle.std.specs.Cmp.{int_cmp_total}
use Rattle.std.specs.FinMap.{int_cmp-IsAntisymmetric}
use Rattle.std.specs.FinMap.Entries.{where_key, is_sorted, find-put, find-where_key, is_sorted-put, is_sorted-where_key, length-put, length_without, same_entries}
use Rattle.std.proofs.lemmas.Bool.{true≢false}
use Rattle.frame_ast.specs.Contents.{value_of_key, has_key, with_key, without_key}
use Rattle.native_map.proofs.Ints.{same_int, other_int, cases_int, int_eq-sym, to_T, from_T}

module _ (ps : List (ℤ × ℤ)) (k : ℤ) where
  pub with_key-here : (v : ℤ) → value_of_key (with_key ps k v) k ≡ Some v
  with_key-here v = find-put int_cmp int_cmp_total k k v ps ∙ ap (λ b. cond b (Some v) (value_of_key ps k)) (same_int k k refl)

  pub with_key-there : (v q : ℤ) → q ≢ k → value_of_key (with_key ps k v) q ≡ value_of_key ps q
  with_key-there v q ne = find-put int_cmp int_cmp_total q k v ps ∙ ap (λ b. cond b (Some v) (value_of_key ps q)) (other_int q k ne)

  without : (q : ℤ) → value_of_key (without_key ps k) q ≡ cond (not (int_eq q k)) (value_of_key ps q) None
  without q = find-where_key int_cmp (λ j. not (int_eq j k)) q (λ x e. ap (λ j. not (int_eq j k)) (sym (int_cmp-IsAntisymmetric q x e))) ps

  pub without_key-here : value_of_key (without_key ps k) k ≡ None
  without_key-here = without k ∙ ap (λ b. cond (not b) (value_of_key ps k) None) (same_int k k refl)

  pub without_key-there : (q : ℤ) → q ≢ k → value_of_key (without_key ps k) q ≡ value_of_key ps q
  without_key-there q ne = without q ∙ ap (λ b. cond (not b) (value_of_key ps q) None) (other_int q k ne)

  module _ (rising : IsTrue (is_sorted int_cmp ps)) where
    sorted : T (is_sorted int_cmp ps)
    sorted = to_T _ rising

    pub rising-with_key : (v : ℤ) → IsTrue (is_sorted int_cmp (with_key ps k v))
    rising-with_key v = from_T _ (is_sorted-put int_cmp int_cmp_total k v ps sorted)

    pub rising-without_key : IsTrue (is_sorted int_cmp (without_key ps k))
    rising-without_key = from_T _ (is_sorted-where_key int_cmp (λ j. not (int_eq j k)) ps sorted)

    pub length-with_key : (v : ℤ) → length (with_key ps k v) ≡ cond (has_key ps k) (length ps) (length ps + 1)
    length-with_key v = length-put int_cmp int_cmp_total k v ps sorted

    counted : cond (has_key ps k) 1 0 + length (without_key ps k) ≡ length ps
    counted =
        subst (λ f. cond (has_key ps k) 1 0 + length (where_key int_cmp f ps) ≡ length ps) (λ i j. not (int_eq-sym k j i))
        (length_without int_cmp int_cmp_total k ps sorted)

    pub length-without_key : has_key ps k ≡ true → length (without_key ps k) + 1 ≡ length ps
    length-without_key present =
        let e : 1 + length (without_key ps k) ≡ length ps = subst (λ b. cond b 1 0 + length (without_key ps k) ≡ length ps) present counted in
        omega arith

    none_of : (o : Option ℤ) → is_some o ≡ false → o ≡ None
    none_of None e = refl
    none_of (Some x) e = absurd (true≢false e)

    -- an absent key leaves the pairs as they are
    pub without_key-absent : has_key ps k ≡ false → without_key ps k ≡ ps
    without_key-absent absent = same_entries int_cmp int_cmp_total int_cmp-IsAntisymmetric (without_key ps k) ps (to_T _ rising-without_key) sorted
        (λ q. elim (cases_int q k) [
          | inl q_k ↦ ap (value_of_key (without_key ps k)) q_k ∙ without_key-here ∙ sym (ap (value_of_key ps) q_k ∙ none_of (value_of_key ps k) absent)
          | inr q_o ↦ without_key-there q q_o
        ])
