-- A name that is added to those known, and the table and the map that find their places.
use Rattle.std.proofs.Common.{◌≡◌, ℕ, ◌+◌, ◌-◌, ◌<◌, ◌^◌, zero, suc, Bool, true, false, cond, List, [], ◌∷◌, ◌++◌, length, map, set, ◌==◌, inl, inr, Option, Some, None, unwrap_or, get_or, is_some, refl, sym, ◌∙◌, ap, subst, arith, length-append}
use Rattle.std.specs.List.{slice_get}
use Rattle.std.specs.Str.{bytes_eq}
use Rattle.std.proofs.lemmas.Slice.Eq.{bytes_eq-Decides}
use Rattle.std.proofs.lemmas.Bool.{cases_eq, eqb-true, eq-eqb, ne_eqb}
use Rattle.std.proofs.lemmas.List.{length-map, map-append, length-set, get_or-set_same, get_or-set_other}
use Rattle.text_places.specs.Places.{Places}
use Rattle.script_names.specs.declared.names.Entry.{Entry}
use Rattle.std.proofs.lemmas.Option.{slice_get-get_or}
use Rattle.script_names.specs.Names.{Name, place_in, with_name}
use Rattle.script_names.specs.Index.{known_of, bucket_of, first_of, first_for, other_of, IsIndex}
use Rattle.script_names.proofs.NameLemmas.{place_in-push}

-- ENTRIES

pub entry_before : (entries : List Entry) (e d : Entry) (place : ℕ) → place < length entries → slice_get (entries ++ e ∷ []) place ≡ Some d →
    slice_get entries place ≡ Some d
entry_before [] e d place within h = absurd (omega (arith, within))
entry_before (x ∷ xs) e d zero within h = h
entry_before (x ∷ xs) e d (suc place) within h = entry_before xs e d place (omega (arith, within)) h

pub entry_last : (entries : List Entry) (e : Entry) → slice_get (entries ++ e ∷ []) (length entries) ≡ Some e
entry_last [] e = refl
entry_last (x ∷ xs) e = entry_last xs e

-- the place of a text after a name is added
place_more : (entries : List Entry) (e : Entry) → place_in (map known_of entries) e.text.now ≡ None → (q : List ℕ) →
    place_in (map known_of (entries ++ e ∷ [])) q ≡ cond (bytes_eq e.text.now q) (Some (length entries)) (place_in (map known_of entries) q)
place_more entries e none q =
    ap (λ ns. place_in ns q) (map-append known_of entries (e ∷ []))
    ∙ (place_in-push (map known_of entries) e.text.now e.kind none q
    ∙ ap (λ n. cond (bytes_eq e.text.now q) (Some n) (place_in (map known_of entries) q)) (length-map entries known_of))

-- BUCKETS

-- the first name of a bucket, after one is the first of its bucket
first_set : (firsts : List (Option ℕ)) (b c : ℕ) (x : Option ℕ) → b < length firsts → first_of (set firsts b x) c ≡ cond (b == c) x (first_of firsts c)
first_set firsts b c x within = elim (cases_eq b c) [
  | inl same ↦ ap (first_of (set firsts b x)) (sym same) ∙ (get_or-set_same firsts b x None within
      ∙ sym (ap (λ t. cond t x (first_of firsts c)) (eq-eqb b c same)))
  | inr other ↦ get_or-set_other firsts b c x None (λ e. other (sym e)) ∙ sym (ap (λ t. cond t x (first_of firsts c)) (ne_eqb b c other))
]

same_bucket : (count : ℕ) (made q : List ℕ) → bytes_eq made q ≡ true → (bucket_of count made == bucket_of count q) ≡ true
same_bucket count made q e = eq-eqb _ _ (ap (bucket_of count) ((bytes_eq-Decides made q).0 e))

-- ONE MORE NAME, BY CASES
-- b: the text is in the new name's bucket; s: it is the new name; t: it is the first name of its bucket

some_number : (n m : ℕ) → Some n ≡ Some m → n ≡ m
some_number n m e = ap (λ o. unwrap_or o 0) e

within_more : (b : Bool) (o : Option ℕ) (n p len : ℕ) → n ≡ len → cond b (Some n) o ≡ Some p → (o ≡ Some p → p < len) → p < len + 1
within_more true o n p len is e old = let same = some_number n p e in omega (arith, is, same)
within_more false o n p len is e old = omega (arith, old e)

missing_more : (b s : Bool) (o old : Option ℕ) (n m : ℕ) → cond b (Some n) o ≡ None → (o ≡ None → old ≡ None) → (s ≡ true → b ≡ true)
    → cond s (Some m) old ≡ None
missing_more true s o old n m e none same = cc
missing_more false true o old n m e none same = let no = same refl in cc
missing_more false false o old n m e none same = none e

apart_more : (b : Bool) (o x : Option ℕ) (n : ℕ) → cond b (Some n) o ≡ None → (o ≡ None → x ≡ None) → x ≡ None
apart_more true o x n e none = cc
apart_more false o x n e none = none e

finds_first : (b s t : Bool) (o old x : Option ℕ) (n p : ℕ) → (b ≡ true → (n ≡ p) × (t ≡ s) × (old ≡ None) × (x ≡ None)) →
    (b ≡ false → (s ≡ false) × (old ≡ cond t (Some p) x)) → cond s (Some n) old ≡ cond t (Some p) x
finds_first true true true o old x n p new known = ap (λ k. Some k) (new refl).0
finds_first true true false o old x n p new known = let no = (new refl).1 in cc
finds_first true false true o old x n p new known = let no = (new refl).1 in cc
finds_first true false false o old x n p new known = let r = new refl in r.2 ∙ sym r.3
finds_first false true t o old x n p new known = let no = (known refl).0 in cc
finds_first false false t o old x n p new known = (known refl).1

missing_other : (s : Bool) (old : Option ℕ) (n : ℕ) → s ≡ false → old ≡ None → cond s (Some n) old ≡ None
missing_other true old n other e = cc
missing_other false old n other e = e

finds_other : (s t : Bool) (old x : Option ℕ) (n m p : ℕ) → n ≡ m → (s ≡ true → old ≡ None) → old ≡ cond t (Some p) x →
    cond s (Some n) old ≡ cond t (Some p) (cond s (Some m) x)
finds_other false t old x n m p is absent e = e
finds_other true false old x n m p is absent e = ap (λ k. Some k) is
finds_other true true old x n m p is absent e = let none = absent refl in cc

taken : (b : Bool) (o : Option ℕ) (n p : ℕ) → b ≡ true → cond b (Some n) o ≡ Some p → n ≡ p
taken true o n p is e = some_number n p e
taken false o n p is e = cc

left : (b : Bool) (o w : Option ℕ) (n : ℕ) → b ≡ false → cond b (Some n) o ≡ w → o ≡ w
left true o w n is e = cc
left false o w n is e = e

not_so : (s b : Bool) → (s ≡ true → b ≡ true) → b ≡ false → s ≡ false
not_so true b same is = let b_true = same refl in cc
not_so false b same is = refl

some_entry : (d e : Entry) → Some d ≡ Some e → d ≡ e
some_entry d e h = ap (λ o. unwrap_or o d) h

-- THE TABLE AND THE MAP AFTER ONE MORE NAME

-- whether a text is in the bucket of another, where there are so many
abbrev alike : ℕ → Entry → List ℕ → Bool
alike count e q = bucket_of count e.text.now == bucket_of count q

free_too : (old : List (Option ℕ)) (e : Entry) (q : List ℕ) → first_for old e.text.now ≡ None → alike (length old) e q ≡ true → first_for old q ≡ None
free_too old e q free b = subst (λ h. first_of old h ≡ None) (eqb-true (bucket_of (length old) e.text.now) (bucket_of (length old) q) b) free

-- the first name of a text's bucket is the new one
is_last : (entries : List Entry) (e first : Entry) (q : List ℕ) (p : ℕ) → length entries ≡ p → slice_get (entries ++ e ∷ []) p ≡ Some first →
    bytes_eq first.text.now q ≡ bytes_eq e.text.now q
is_last entries e first q p at here =
    let last : Some e ≡ Some first = sym (entry_last entries e) ∙ (ap (slice_get (entries ++ e ∷ [])) at ∙ here) in
    ap (λ d. bytes_eq d.text.now q) (sym (some_entry e first last))

-- the first name of a text's bucket is an earlier one
is_known : (old : List (Option ℕ)) (others : Places) (entries : List Entry) (e first : Entry) (q : List ℕ) (p : ℕ)
    → IsIndex old others entries →
    first_for old q ≡ Some p → slice_get (entries ++ e ∷ []) p ≡ Some first →
    place_in (map known_of entries) q ≡ cond (bytes_eq first.text.now q) (Some p) (other_of others q)
is_known old others entries e first q p index found here =
    index.finds q p first found (entry_before entries e first p (index.within (bucket_of (length old) q) p found) here)

-- no name is in its bucket: it is the first
pub index_first : (old : List (Option ℕ)) (others : Places) (entries : List Entry) (e : Entry) (bucket place : ℕ) → place ≡ length entries →
    IsIndex old others entries → length entries < 2 ^ 32 - 1 → bucket ≡ bucket_of (length old) e.text.now → bucket < length old
    → first_for old e.text.now ≡ None →
    IsIndex (set old bucket (Some place)) others (entries ++ e ∷ [])
index_first old others entries e bucket place at index room its inside free =
    let absent = index.missing e.text.now free in
    let many : length (set old bucket (Some place)) ≡ length old = length-set old bucket (Some place) in
    let after : (b : ℕ) → first_of (set old bucket (Some place)) b ≡ cond (bucket_of (length old) e.text.now == b) (Some (length entries)) (first_of old b) =
    λ b. first_set old bucket b (Some place) inside
    ∙ (ap (λ k. cond (k == b) (Some place) (first_of old b)) its
    ∙ ap (λ n. cond (bucket_of (length old) e.text.now == b) (Some n) (first_of old b)) at) in
    let after_for : (q : List ℕ) → first_for (set old bucket (Some place)) q ≡ cond (alike (length old) e q) (Some (length entries)) (first_for old q) =
    λ q. ap (λ n. first_of (set old bucket (Some place)) (bucket_of n q)) many ∙ after (bucket_of (length old) q) in
    record {
      few = rw (length-append entries (e ∷ [])) (omega (arith, room));
      some_buckets = rw many index.some_buckets;
      few_buckets = rw many index.few_buckets;
      within = λ b p found. rw (length-append entries (e ∷ []))
          (within_more (bucket_of (length old) e.text.now == b) (first_of old b) (length entries) p (length entries) refl
          (sym (after b) ∙ found) (index.within b p));
      missing = λ q gone. place_more entries e absent q
          ∙ missing_more (alike (length old) e q) (bytes_eq e.text.now q) (first_for old q) (place_in (map known_of entries) q) (length entries)
          (length entries)
          (sym (after_for q) ∙ gone) (index.missing q) (same_bucket (length old) e.text.now q);
      apart = λ q gone. apart_more (alike (length old) e q) (first_for old q) (other_of others q) (length entries) (sym (after_for q) ∙ gone) (index.apart q);
      finds = λ q p first found here. place_more entries e absent q
          ∙ finds_first (alike (length old) e q) (bytes_eq e.text.now q) (bytes_eq first.text.now q) (first_for old q) (place_in (map known_of entries) q)
          (other_of others q) (length entries) p
          (λ b.
          let none = free_too old e q free b in
          let n = taken (alike (length old) e q) (first_for old q) (length entries) p b (sym (after_for q) ∙ found) in
          (n, is_last entries e first q p n here, index.missing q none, index.apart q none))
          (λ b. (
            not_so (bytes_eq e.text.now q) (alike (length old) e q) (same_bucket (length old) e.text.now q) b,
            is_known old others entries e first q p index (left (alike (length old) e q) (first_for old q) (Some p) (length entries) b
                (sym (after_for q) ∙ found)) here,
          ));
    }

-- another name is in its bucket: it is one of the others
pub index_other : (firsts : List (Option ℕ)) (old new : Places) (entries : List Entry) (e : Entry) (place taken_at : ℕ)
    → place ≡ length entries →
    IsIndex firsts old entries → length entries < 2 ^ 32 - 1 → first_for firsts e.text.now ≡ Some taken_at → place_in (map known_of entries) e.text.now ≡ None →
    ((q : List ℕ) → other_of new q ≡ cond (bytes_eq e.text.now q) (Some place) (other_of old q)) → IsIndex firsts new (entries ++ e ∷ [])
index_other firsts old new entries e place taken_at at index room used absent other =
    let not_new : (q : List ℕ) → first_for firsts q ≡ None → bytes_eq e.text.now q ≡ false =
    λ q gone. not_so (bytes_eq e.text.now q) (is_some (first_for firsts q))
    (λ s. ap is_some (ap (λ t. first_for firsts t) (sym ((bytes_eq-Decides e.text.now q).0 s)) ∙ used)) (ap is_some gone) in
    record {
      few = rw (length-append entries (e ∷ [])) (omega (arith, room));
      some_buckets = index.some_buckets;
      few_buckets = index.few_buckets;
      within = λ b p found. rw (length-append entries (e ∷ [])) (let below = index.within b p found in omega (arith, below));
      missing = λ q gone. place_more entries e absent q
          ∙ missing_other (bytes_eq e.text.now q) (place_in (map known_of entries) q) (length entries) (not_new q gone) (index.missing q gone);
      apart = λ q gone. other q ∙ missing_other (bytes_eq e.text.now q) (other_of old q) place (not_new q gone) (index.apart q gone);
      finds = λ q p first found here. place_more entries e absent q
          ∙ (finds_other (bytes_eq e.text.now q) (bytes_eq first.text.now q) (place_in (map known_of entries) q) (other_of old q) (length entries) place p
          (sym at)
          (λ s. subst (λ t. place_in (map known_of entries) t ≡ None) ((bytes_eq-Decides e.text.now q).0 s) absent)
          (is_known firsts old entries e first q p index found here)
          ∙ ap (cond (bytes_eq first.text.now q) (Some p)) (sym (other q)));
    }

-- a text that is no name isn't among the others
pub not_other : (firsts : List (Option ℕ)) (others : Places) (entries : List Entry) (e : Entry) (p : ℕ) → IsIndex firsts others entries
    → first_for firsts e.text.now ≡ Some p → place_in (map known_of entries) e.text.now ≡ None → other_of others e.text.now ≡ None
not_other firsts others entries e p index used absent =
    none_left (bytes_eq (get_or entries p e).text.now e.text.now) (other_of others e.text.now)
    (sym (index.finds e.text.now p (get_or entries p e) used
    (slice_get-get_or entries p e (index.within (bucket_of (length firsts) e.text.now) p used))) ∙ absent) where
      none_left : (b : Bool) (x : Option ℕ) → cond b (Some p) x ≡ None → x ≡ None
      none_left true x h = cc
      none_left false x h = h

-- LOOK-UPS

entry_at : (firsts : List (Option ℕ)) (others : Places) (entries : List Entry) (bucket p : ℕ) (first : Entry)
    → IsIndex firsts others entries →
    first_of firsts bucket ≡ Some p → first ≡ get_or entries p first → slice_get entries p ≡ Some first
entry_at firsts others entries bucket p first index found is = slice_get-get_or entries p first (index.within bucket p found) ∙ ap (λ x. Some x) (sym is)

-- the first name of a text's bucket is the text
pub found_first : (firsts : List (Option ℕ)) (others : Places) (entries : List Entry) (names : List Name) (q : List ℕ) (p : ℕ)
    (first : Entry) →
    map known_of entries ≡ names → IsIndex firsts others entries → first_for firsts q ≡ Some p → first ≡ get_or entries p first →
    bytes_eq first.text.now q ≡ true → place_in names q ≡ Some p
found_first firsts others entries names q p first view index found is same =
    ap (λ ns. place_in ns q) (sym view)
    ∙ (index.finds q p first found (entry_at firsts others entries (bucket_of (length firsts) q) p first index found is)
    ∙ ap (λ b. cond b (Some p) (other_of others q)) same)

-- it is another
pub found_other : (firsts : List (Option ℕ)) (others : Places) (entries : List Entry) (names : List Name) (q : List ℕ) (p : ℕ)
    (first : Entry) →
    map known_of entries ≡ names → IsIndex firsts others entries → first_for firsts q ≡ Some p → first ≡ get_or entries p first →
    bytes_eq first.text.now q ≡ false → place_in names q ≡ other_of others q
found_other firsts others entries names q p first view index found is same =
    ap (λ ns. place_in ns q) (sym view)
    ∙ (index.finds q p first found (entry_at firsts others entries (bucket_of (length firsts) q) p first index found is)
    ∙ ap (λ b. cond b (Some p) (other_of others q)) same)

-- THE NAMES AFTER ONE IS MADE

pub named_new : (entries : List Entry) (names : List Name) (e : Entry) → map known_of entries ≡ names → is_some (place_in names e.text.now) ≡ false →
    map known_of (entries ++ e ∷ []) ≡ with_name names e.text.now e.kind
named_new entries names e view new =
    map-append known_of entries (e ∷ [])
    ∙ (ap (λ ns. ns ++ known_of e ∷ []) view
    ∙ ap (λ b. cond b names (names ++ record { text = e.text.now; kind = e.kind } ∷ [])) (sym new))
