-- A text that is given a place: the first of its bucket, or one of the others.
use Rattle.std.proofs.Common.{◌≡◌, ℕ, ◌<◌, Bool, true, false, cond, List, length, set, ◌==◌, inl, inr, Option, Some, None, refl, sym, ◌∙◌, ap, subst}
use Rattle.std.specs.Str.{bytes_eq}
use Rattle.std.specs.Ordering.{nat_cmp}
use Rattle.std.specs.Cmp.Lexicographic.{slice_cmp}
use Rattle.std.specs.BTreeMap.{BTreeMap, UpdatesBy}
use Rattle.std.specs.Borrow.{Bor}
use Rattle.std.proofs.lemmas.Slice.Eq.{bytes_eq-Decides}
use Rattle.std.proofs.lemmas.Bool.{cases_eq, eqb-true, eq-eqb, ne_eqb}
use Rattle.std.proofs.lemmas.List.{length-set, get_or-set_same, get_or-set_other}
use Rattle.std.proofs.lemmas.Map.Text.{btree_map_updates_str}
use Rattle.text_places.specs.declared.places.Placed.{Placed}
use Rattle.text_places.specs.Places.{bucket_of, first_of, first_for, other_of, place_by}

-- BUCKETS

-- the first text of a bucket, after one is the first of its bucket
first_set : (firsts : List (Option Placed)) (b c : ℕ) (x : Option Placed) → b < length firsts
    → first_of (set firsts b x) c ≡ cond (b == c) x (first_of firsts c)
first_set firsts b c x within = elim (cases_eq b c) [
  | inl same ↦ ap (first_of (set firsts b x)) (sym same) ∙ (get_or-set_same firsts b x None within
      ∙ sym (ap (λ t. cond t x (first_of firsts c)) (eq-eqb b c same)))
  | inr other ↦ get_or-set_other firsts b c x None (λ e. other (sym e)) ∙ sym (ap (λ t. cond t x (first_of firsts c)) (ne_eqb b c other))
]

same_bucket : (count : ℕ) (put q : List ℕ) → bytes_eq put q ≡ true → (bucket_of count put == bucket_of count q) ≡ true
same_bucket count put q e = eq-eqb _ _ (ap (bucket_of count) ((bytes_eq-Decides put q).0 e))

-- THE FIRST OF ITS BUCKET
-- b: a text is in the bucket of the one that is put; s: it is that one

by_first : (b s : Bool) (e : Placed) (old : Option Placed) (x : Option ℕ) (q : List ℕ) → s ≡ bytes_eq e.text.now q → (b ≡ true → (old ≡ None) × (x ≡ None))
    → (s ≡ true → b ≡ true) → place_by (cond b (Some e) old) x q ≡ cond s (Some e.place) (place_by old x q)
by_first true s e old x q is none same =
    let n = none refl in
    ap (λ t. cond t (Some e.place) x) (sym is) ∙ ap (cond s (Some e.place)) (n.1 ∙ sym (ap (λ o. place_by o x q) n.0))
by_first false true e old x q is none same = let no = same refl in cc
by_first false false e old x q is none same = refl

pub put_first : (firsts : List (Option Placed)) (others : List (Bor (List ℕ) × ℕ)) (e : Placed) (bucket : ℕ) → bucket ≡ bucket_of (length firsts) e.text.now
    → bucket < length firsts → first_of firsts bucket ≡ None → ((text : List ℕ) → first_for firsts text ≡ None → other_of others text ≡ None) → (q : List ℕ) →
    place_by (first_for (set firsts bucket (Some e)) q) (other_of others q) q
    ≡ cond (bytes_eq e.text.now q) (Some e.place) (place_by (first_for firsts q) (other_of others q) q)
put_first firsts others e bucket its inside free apart q =
    let count = length firsts in
    let after : first_for (set firsts bucket (Some e)) q ≡ cond (bucket_of count e.text.now == bucket_of count q) (Some e) (first_for firsts q) =
    ap (λ n. first_of (set firsts bucket (Some e)) (bucket_of n q)) (length-set firsts bucket (Some e))
    ∙ (first_set firsts bucket (bucket_of count q) (Some e) inside
    ∙ ap (λ k. cond (k == bucket_of count q) (Some e) (first_for firsts q)) its) in
    ap (λ o. place_by o (other_of others q) q) after
    ∙ by_first (bucket_of count e.text.now == bucket_of count q) (bytes_eq e.text.now q) e (first_for firsts q) (other_of others q) q refl
    (λ b.
    let none : first_for firsts q ≡ None =
    subst (λ k. first_of firsts k ≡ None) (eqb-true (bucket_of count e.text.now) (bucket_of count q) b) (subst (λ k. first_of firsts k ≡ None) its free) in
    (none, apart q none))
    (same_bucket count e.text.now q)

pub apart_first : (firsts : List (Option Placed)) (others : List (Bor (List ℕ) × ℕ)) (e : Placed) (bucket : ℕ) → bucket < length firsts
    → ((text : List ℕ) → first_for firsts text ≡ None → other_of others text ≡ None) → (q : List ℕ) → first_for (set firsts bucket (Some e)) q ≡ None
    → other_of others q ≡ None
apart_first firsts others e bucket inside apart q gone =
    apart q (left (bucket == bucket_of (length firsts) q) (first_for firsts q)
    (sym (ap (λ n. first_of (set firsts bucket (Some e)) (bucket_of n q)) (length-set firsts bucket (Some e))
    ∙ first_set firsts bucket (bucket_of (length firsts) q) (Some e) inside) ∙ gone)) where
      left : (b : Bool) (o : Option Placed) → cond b (Some e) o ≡ None → o ≡ None
      left true o is = cc
      left false o is = is

-- ONE OF THE OTHERS

not_here : (s : Bool) (place : ℕ) (x : Option ℕ) → cond s (Some place) x ≡ None → s ≡ false
not_here true place x h = cc
not_here false place x h = refl

by_other : (s : Bool) (first : Option Placed) (x y : Option ℕ) (place : ℕ) (q : List ℕ) → y ≡ cond s (Some place) x → (s ≡ true → place_by first y q ≡ y)
    → place_by first y q ≡ cond s (Some place) (place_by first x q)
by_other true first x y place q is here = here refl ∙ is
by_other false first x y place q is here = ap (λ o. place_by first o q) is

module _ (firsts : List (Option Placed)) (old new : BTreeMap (Bor (List ℕ)) ℕ) (text : List ℕ) (place : ℕ) (first : Placed)
    (used : first_for firsts text ≡ Some first)
    (updates : UpdatesBy (λ x y. slice_cmp nat_cmp x.now y.now) (λ k. slice_cmp nat_cmp text k.now) old new (Some place)) where
  other_put : (q : List ℕ) → other_of new.entries q ≡ cond (bytes_eq text q) (Some place) (other_of old.entries q)
  other_put q = btree_map_updates_str text old new (Some place) updates q

  pub put_other : place_by (first_for firsts text) (other_of old.entries text) text ≡ None → (q : List ℕ) →
      place_by (first_for firsts q) (other_of new.entries q) q
      ≡ cond (bytes_eq text q) (Some place) (place_by (first_for firsts q) (other_of old.entries q) q)
  put_other absent q =
      by_other (bytes_eq text q) (first_for firsts q) (other_of old.entries q) (other_of new.entries q) place q (other_put q)
      (λ s.
      let is : text ≡ q = (bytes_eq-Decides text q).0 s in
      let here : first_for firsts q ≡ Some first = subst (λ t. first_for firsts t ≡ Some first) is used in
      let other : bytes_eq first.text.now text ≡ false =
      not_here (bytes_eq first.text.now text) first.place (other_of old.entries text)
      (ap (λ o. place_by o (other_of old.entries text) text) (sym used) ∙ absent) in
      ap (λ o. place_by o (other_of new.entries q) q) here
      ∙ ap (λ t. cond t (Some first.place) (other_of new.entries q)) (subst (λ t. bytes_eq first.text.now t ≡ false) is other))

  pub apart_other : ((q : List ℕ) → first_for firsts q ≡ None → other_of old.entries q ≡ None) → (q : List ℕ) → first_for firsts q ≡ None
      → other_of new.entries q ≡ None
  apart_other apart q gone = other_put q ∙ not_new (bytes_eq text q) refl where
    not_new : (s : Bool) → bytes_eq text q ≡ s → cond s (Some place) (other_of old.entries q) ≡ None
    not_new true s =
        let here : first_for firsts q ≡ Some first = subst (λ t. first_for firsts t ≡ Some first) ((bytes_eq-Decides text q).0 s) used in
        let no : None ≡ Some first = sym gone ∙ here in
        cc
    not_new false s = apart q gone
