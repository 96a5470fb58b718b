-- What the words spell, word by word.
use Rattle.std.proofs.Common.{refl, ap, ap₂, ◌≡◌, true, false, cond, codes, Option, Some, None, List, [], ◌∷◌, ◌++◌, ◌∙◌, sym, Bool, ◌||◌, append-nil, append_assoc, not, eqb, inl, inr, ◌⊎◌, fold, subst}
use Rattle.std.specs.Str.{bytes_eq}
use Rattle.std.specs.Option.{option_map_or, option_map, MatchOption}
use Rattle.std.specs.Borrow.{Bor}
use Rattle.std.specs.Prelude.{option_and_then}
use Rattle.std.specs.Str.Pattern.{FindsTextPrefix, StripsPrefix}
use Rattle.std.proofs.lemmas.Bool.{and_from, and_parts, eqb-true, eq-eqb, not-true}
use Rattle.std.proofs.lemmas.Slice.Eq.{bytes_eq-Decides}
use Rattle.std.proofs.lemmas.List.Folds.{list_all-append, list_any-append}
use Rattle.command_words.specs.declared.place.Place.{Place}
use Rattle.command_words.specs.declared.place.Place.TheVariants.{Workers, Number, Jobs, Depth, Script, Table}
use Rattle.command_words.specs.Words.{Text, Item, Reading, Spelling, awaits, gives, flag, positional, after_prefix, option_or, spelling, same_place, has, positional_place, read_as, read_where, read_word, fits, is_distinct, all_fit, is_accepted, flag_or_positional}
use Rattle.command_words.proofs.StepLemmas.{name_of, is_option}

pub after_prefix_is : (prefix word v : Text) → after_prefix prefix word ≡ Some v → word ≡ prefix ++ v
after_prefix_is [] word v e = cc
after_prefix_is (c ∷ prefix) [] v e = absurd (let bad : None ≡ Some v = e in cc)
after_prefix_is (c ∷ prefix) (x ∷ word) v e = go (after_prefix_is prefix word v) (eqb x c) refl e
  where
    go : (after_prefix prefix word ≡ Some v → word ≡ prefix ++ v) → (b : Bool) → eqb x c ≡ b → cond b (after_prefix prefix word) None ≡ Some v
        → x ∷ word ≡ c ∷ (prefix ++ v)
    go more true same e = ap₂ (λ a rest. a ∷ rest) (eqb-true x c same) (more e)
    go more false same e = absurd (let bad : None ≡ Some v = e in cc)

pub after_prefix-append : (prefix v : Text) → after_prefix prefix (prefix ++ v) ≡ Some v
after_prefix-append [] v = refl
after_prefix-append (c ∷ prefix) v =
    let same : eqb c c ≡ true = eq-eqb c c refl in
    rw same (after_prefix-append prefix v)

-- what `strip_prefix` answers
pub after_is : (prefix word : Text) (r : Option (Bor Text)) → MatchOption r (FindsTextPrefix prefix word None)
    (λ x. StripsPrefix (FindsTextPrefix prefix) word x.now)
    → option_map (λ s. s.now) r ≡ after_prefix prefix word
after_is prefix word (Some x) h =
    let whole : word ≡ prefix ++ x.now = h.1.1 ∙ ap (λ v. prefix ++ v) (sym h.2) in
    sym (ap (after_prefix prefix) whole ∙ after_prefix-append prefix x.now)
after_is prefix word None h = go (after_prefix prefix word) refl
  where
    go : (o : Option Text) → after_prefix prefix word ≡ o → None ≡ o
    go None e = refl
    go (Some v) e = absurd (h v (after_prefix_is prefix word v e))

-- two prefixes, one after the other
pub after_both : (a b word : Text) → after_prefix (a ++ b) word ≡ option_and_then (after_prefix b) (after_prefix a word)
after_both [] b word = refl
after_both (c ∷ a) b [] = refl
after_both (c ∷ a) b (x ∷ word) = go (after_both a b word) (eqb x c)
  where
    go : after_prefix (a ++ b) word ≡ option_and_then (after_prefix b) (after_prefix a word) → (t : Bool)
        → cond t (after_prefix (a ++ b) word) None ≡ option_and_then (after_prefix b) (cond t (after_prefix a word) None)
    go more true = more
    go more false = refl

pub option_by_parts : (p : Place) (name word : Text) (other : Spelling) → bytes_eq word name ≡ false
    → option_or p name word other ≡ option_map_or (gives p) (option_and_then (after_prefix (61 ∷ [])) (after_prefix name word)) other
option_by_parts p name word other differs = rw (differs, after_both name (61 ∷ []) word) refl

-- what two calls of `strip` show of an option
pub option_given : (p : Place) (name word rest v : Text) → bytes_eq word name ≡ false → Some rest ≡ after_prefix name word
    → Some v ≡ after_prefix (61 ∷ []) rest
    → (other : Spelling) → option_or p name word other ≡ gives p v
option_given p name word rest v differs first second other =
    option_by_parts p name word other differs ∙ ap (λ o. option_map_or (gives p) (option_and_then (after_prefix (61 ∷ [])) o) other) (sym first)
    ∙ ap (λ o. option_map_or (gives p) o other) (sym second)

pub option_unequal : (p : Place) (name word rest : Text) → bytes_eq word name ≡ false → Some rest ≡ after_prefix name word → None ≡ after_prefix (61 ∷ []) rest
    → (other : Spelling) → option_or p name word other ≡ other
option_unequal p name word rest differs first second other =
    option_by_parts p name word other differs ∙ ap (λ o. option_map_or (gives p) (option_and_then (after_prefix (61 ∷ [])) o) other) (sym first)
    ∙ ap (λ o. option_map_or (gives p) o other) (sym second)

pub option_absent : (p : Place) (name word : Text) → bytes_eq word name ≡ false → None ≡ after_prefix name word
    → (other : Spelling) → option_or p name word other ≡ other
option_absent p name word differs first other =
    option_by_parts p name word other differs ∙ ap (λ o. option_map_or (gives p) (option_and_then (after_prefix (61 ∷ [])) o) other) (sym first)

-- what `option_or` may say of a word
option_view : (p : Place) (name word : Text) (other : Spelling)
    → ((word ≡ name) × (option_or p name word other ≡ awaits p))
    ⊎ (((v : Text) × (word ≡ (name ++ 61 ∷ []) ++ v) × (option_or p name word other ≡ gives p v)) ⊎ (option_or p name word other ≡ other))
option_view p name word other = go (bytes_eq word name) refl (after_prefix (name ++ 61 ∷ []) word) refl
  where
    go : (b : Bool) → bytes_eq word name ≡ b → (o : Option Text) → after_prefix (name ++ 61 ∷ []) word ≡ o
        → ((word ≡ name) × (cond b (awaits p) (option_map_or (gives p) o other) ≡ awaits p))
        ⊎ (((v : Text) × (word ≡ (name ++ 61 ∷ []) ++ v) × (cond b (awaits p) (option_map_or (gives p) o other) ≡ gives p v))
        ⊎ (cond b (awaits p) (option_map_or (gives p) o other) ≡ other))
    go true same o e = inl ((bytes_eq-Decides word name).0 same, refl)
    go false same (Some v) e = inr (inl (v, after_prefix_is _ word v e, refl))
    go false same None e = inr (inr refl)

abbrev pub IsSpelling : Text → Spelling → Type 0
IsSpelling word (awaits p) = (is_option p ≡ true) × (word ≡ name_of p)
IsSpelling word (gives p v) = (is_option p ≡ true) × (word ≡ name_of p ++ 61 ∷ v)
IsSpelling word flag = word ≡ name_of Depth
IsSpelling word positional = Unit {0}

pub spelling_is : (word : Text) → IsSpelling word (spelling word)
unfolding name_of
spelling_is word = option_is Workers (codes "--workers") (option_or Number (codes "--gen") word
    (option_or Jobs (codes "--jobs") word (flag_or_positional word))) refl refl
    (option_is Number (codes "--gen") (option_or Jobs (codes "--jobs") word (flag_or_positional word)) refl refl
    (option_is Jobs (codes "--jobs") (flag_or_positional word) refl refl (last (bytes_eq word (codes "--depth")) refl)))
  where
    option_is : (p : Place) (name : Text) (other : Spelling) → is_option p ≡ true → name ≡ name_of p → IsSpelling word other
        → IsSpelling word (option_or p name word other)
    option_is p name other o named rest = elim (option_view p name word other) [
      | inl h ↦ subst (IsSpelling word) (sym h.1) (o, h.0 ∙ named)
      | inr (inl h) ↦ subst (IsSpelling word) (sym h.2) (o, h.1 ∙ append_assoc name (61 ∷ []) h.0 ∙ ap (λ n. n ++ 61 ∷ h.0) named)
      | inr (inr e) ↦ subst (IsSpelling word) (sym e) rest
    ]

    last : (b : Bool) → bytes_eq word (codes "--depth") ≡ b → IsSpelling word (cond b flag positional)
    last true same = (bytes_eq-Decides word (codes "--depth")).0 same
    last false same = tt

-- ---- what was read stays

pub IsMore : List Item → List Item → Type 0
IsMore old new = (more : List Item) × (new ≡ old ++ more)

more_trans : (a b c : List Item) → IsMore a b → IsMore b c → IsMore a c
unfolding IsMore
more_trans a b c h k = (h.0 ++ k.0, k.1 ∙ ap (λ l. l ++ k.0) h.1 ∙ append_assoc a h.0 k.0)

read_as_more : (s : Spelling) (word : Text) (r : Reading) → IsMore r.items (read_as s word r).items
unfolding IsMore
read_as_more (awaits p) word r = ([], sym (append-nil r.items))
read_as_more (gives p v) word r = ((p, v) ∷ [], refl)
read_as_more flag word r = ((Depth, []) ∷ [], refl)
read_as_more positional word r = ((positional_place r.items, word) ∷ [], refl)

word_more : (r : Reading) (word : Text) → IsMore r.items (read_word r word).items
unfolding read_word IsMore
word_more r word = go r.waiting
  where
    go : (w : Option Place) → IsMore r.items (read_where w word r).items
    go (Some p) = ((p, word) ∷ [], refl)
    go None = read_as_more (spelling word) word r

words_more : (words : List Text) (r : Reading) → IsMore r.items (fold read_word r words).items
unfolding IsMore
words_more [] r = ([], sym (append-nil r.items))
words_more (word ∷ rest) r = more_trans r.items (read_word r word).items _ (word_more r word) (words_more rest (read_word r word))

pub has-append : (p : Place) (xs ys : List Item) → has p (xs ++ ys) ≡ (has p xs || has p ys)
has-append p xs ys = list_any-append (λ i. same_place i.0 p) xs ys

pub or_parts : (a b : Bool) → (a || b) ≡ false → (a ≡ false) × (b ≡ false)
or_parts true b e = absurd (let bad : true ≡ false = e in cc)
or_parts false b e = (refl, e)

not_from : (b : Bool) → b ≡ false → not b ≡ true
not_from b e = rw e refl

distinct_front : (xs ys : List Item) → is_distinct (xs ++ ys) ≡ true → is_distinct xs ≡ true
distinct_front [] ys e = refl
distinct_front (x ∷ xs) ys e =
    let parts = and_parts (not (has x.0 (xs ++ ys))) (is_distinct (xs ++ ys)) e in
    let gone : (has x.0 xs || has x.0 ys) ≡ false = sym (has-append x.0 xs ys) ∙ not-true _ parts.0 in
    and_from _ _ (not_from _ (or_parts _ _ gone).0) (distinct_front xs ys parts.1)

same_self : (p : Place) → same_place p p ≡ true
same_self Workers = refl
same_self Number = refl
same_self Jobs = refl
same_self Depth = refl
same_self Script = refl
same_self Table = refl

pub same_flip : (p q : Place) → same_place p q ≡ same_place q p
same_flip Workers Workers = refl
same_flip Number Number = refl
same_flip Jobs Jobs = refl
same_flip Depth Depth = refl
same_flip Script Script = refl
same_flip Table Table = refl
same_flip p q = refl

-- what was read so far is sound
pub record IsSound (items : List Item) : Type 0 where
  pub fit : all_fit items ≡ true
  pub distinct : is_distinct items ≡ true

pub sound_now : (words : List Text) (r : Reading) → is_accepted (fold read_word r words) ≡ true → IsSound r.items
unfolding IsMore
sound_now words r e =
    let more = words_more words r in
    let fits_all = and_parts _ _ (and_parts _ _ e).1 in
    let fit : all_fit (r.items ++ more.0) ≡ true = ap all_fit (sym more.1) ∙ fits_all.0 in
    let apart : is_distinct (r.items ++ more.0) ≡ true = ap is_distinct (sym more.1) ∙ (and_parts _ _ fits_all.1).0 in record {
      fit = (and_parts _ _ (sym (list_all-append (λ (i : Item). fits i.0 i.1) r.items more.0) ∙ fit)).0;
      distinct = distinct_front r.items more.0 apart;
    }

-- the newest item fits, and its place was free
pub newest : (items : List Item) (p : Place) (v : Text) → IsSound (items ++ (p, v) ∷ []) → (fits p v ≡ true) × (has p items ≡ false)
newest items p v s = (
  (and_parts _ _ (and_parts _ _ (sym (list_all-append (λ (i : Item). fits i.0 i.1) items ((p, v) ∷ [])) ∙ s.fit)).1).0,
  apart items s.distinct,
)
  where
    apart : (xs : List Item) → is_distinct (xs ++ (p, v) ∷ []) ≡ true → has p xs ≡ false
    apart [] e = refl
    apart (x ∷ xs) e =
        let parts = and_parts (not (has x.0 (xs ++ (p, v) ∷ []))) (is_distinct (xs ++ (p, v) ∷ [])) e in
        let gone : (has x.0 xs || (same_place p x.0 || false)) ≡ false = sym (has-append x.0 xs ((p, v) ∷ [])) ∙ not-true _ parts.0 in
        let other : same_place x.0 p ≡ false = same_flip x.0 p ∙ (or_parts _ _ (or_parts _ _ gone).1).0 in
        rw other (apart xs parts.1)
