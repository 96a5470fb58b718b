-- Fields that are read where they stand: their bytes are plain, and their number is that of the definition.
use Rattle.std.proofs.Common.{refl, ap, ap₂, ◌≡◌, true, false, Option, Some, List, [], ◌∷◌, ◌++◌, ◌∙◌, sym, ℕ, ℤ, Bool, ◌&&◌, ◌⊎◌, ◌<◌, ◌≤◌, ◌+◌, ◌-◌, ◌*◌, ◌^◌, arith, length, length-append, append-nil, append_assoc, suc, zero, drop, take, map, not, pos, leb, eqb, get_or, set, le-leb, inl, inr}
use Rattle.std.specs.Option.{unwrap_or, is_some}
use Rattle.std.specs.Char.{is_ascii_digit, digit_value}
use Rattle.std.specs.List.{list_all, list_any}
use Rattle.std.proofs.lemmas.Bool.Decides.{nat_tests}
use Rattle.std.proofs.lemmas.Bool.{and_parts, and_from, not-true, not_from_false, or_from, eqb-true, ne_eqb, leb-true}
use Rattle.std.proofs.lemmas.List.{drop_more, map-append}
use Rattle.std.proofs.lemmas.List.Folds.{list_all-append, list_any-append}
use Rattle.std.proofs.lemmas.Int.Digits.{digits_value_push}
use Rattle.std.proofs.lemmas.Str.{digit_value_digit}
use Rattle.std.proofs.lemmas.Str.Parse.{digits_value_short}
use Rattle.table_in.specs.Numbers.{Text, is_space, skip_spaces, drop_spaces, signed, is_numeral, magnitude, number_of}
use Rattle.table_in.specs.Rows.{Fields, all_numbers}
use Rattle.table_in.specs.Columns.{value_of}
use Rattle.table_in.specs.Plain.{is_mark, is_plain, with_commas, SpacesAt, DigitsAt, NumberAt, RecordAt, EndsLine, number_by}
use Rattle.table_in.proofs.NumberLemmas.{drop_spaces-space, own}
use Rattle.table_in.proofs.PlainLemmas.{plain_record}

-- ---- spaces

skip_spaces-spaces : (spaces x : Text) → list_all is_space spaces ≡ true → skip_spaces (spaces ++ x) ≡ skip_spaces x
skip_spaces-spaces [] x e = refl
skip_spaces-spaces (c ∷ rest) x e =
    let parts = and_parts (is_space c) (list_all is_space rest) e in
    rw parts.0 (skip_spaces-spaces rest x parts.1)

drop_spaces-spaces : (x spaces : Text) → list_all is_space spaces ≡ true → drop_spaces (x ++ spaces) ≡ drop_spaces x
drop_spaces-spaces x [] e = ap drop_spaces (append-nil x)
drop_spaces-spaces x (c ∷ rest) e =
    let parts = and_parts (is_space c) (list_all is_space rest) e in
    let space : c ≡ 32 = eqb-true c 32 parts.0 in
    ap (λ n. drop_spaces (x ++ n ∷ rest)) space ∙ ap drop_spaces (sym (append_assoc x (32 ∷ []) rest))
    ∙ drop_spaces-spaces (x ++ 32 ∷ []) rest parts.1 ∙ drop_spaces-space x

abbrev is_tight : Text → Bool
is_tight = list_all (λ c. not (is_space c))

drop_spaces-tight : (x : Text) → is_tight x ≡ true → drop_spaces x ≡ x
drop_spaces-tight [] e = refl
drop_spaces-tight (c ∷ rest) e =
    let parts = and_parts (not (is_space c)) (is_tight rest) e in
    let other = not-true (is_space c) parts.0 in
    rw other (ap (λ (t : Text). c ∷ t) (drop_spaces-tight rest parts.1))

-- ---- digits

pub digit_low : (c : ℕ) → is_ascii_digit c ≡ true → 48 ≤ c
digit_low c e = leb-true 48 c (and_parts (leb 48 c) (leb c 57) e).0

pub digit_high : (c : ℕ) → is_ascii_digit c ≡ true → c ≤ 57
digit_high c e = leb-true c 57 (and_parts (leb 48 c) (leb c 57) e).1

digit_other : (c n : ℕ) → is_ascii_digit c ≡ true → n < 48 → eqb c n ≡ false
digit_other c n e lt =
    let low = digit_low c e in
    ne_eqb c n (λ same. absurd (omega (arith, same, low)))

digits_tight : (digits : Text) → list_all is_ascii_digit digits ≡ true → is_tight digits ≡ true
digits_tight [] e = refl
digits_tight (c ∷ rest) e =
    let parts = and_parts (is_ascii_digit c) (list_all is_ascii_digit rest) e in
    and_from _ _ (not_from_false _ (digit_other c 32 parts.0 (omega arith))) (digits_tight rest parts.1)

digits_plain : (digits : Text) → list_all is_ascii_digit digits ≡ true → list_any is_mark digits ≡ false
digits_plain [] e = refl
digits_plain (c ∷ rest) e =
    let parts = and_parts (is_ascii_digit c) (list_all is_ascii_digit rest) e in
    or_from _ _
    (or_from _ _ (digit_other c 44 parts.0 (omega arith)) (or_from _ _ (digit_other c 34 parts.0 (omega arith))
    (or_from _ _ (digit_other c 10 parts.0 (omega arith)) (digit_other c 13 parts.0 (omega arith)))))
    (digits_plain rest parts.1)

spaces_plain : (spaces : Text) → list_all is_space spaces ≡ true → list_any is_mark spaces ≡ false
spaces_plain [] e = refl
spaces_plain (c ∷ rest) e =
    let parts = and_parts (is_space c) (list_all is_space rest) e in
    let space : c ≡ 32 = eqb-true c 32 parts.0 in
    rw space (spaces_plain rest parts.1)

-- one more digit
pub digit_more : (text : Text) (from at number : ℕ) → DigitsAt text from number at → at < length text → is_ascii_digit (get_or text at 0) ≡ true
    → DigitsAt text from (number * 10 + (get_or text at 0 - 48)) (at + 1)
digit_more text from at number h lt e =
    let c = get_or text at 0 in
    let low = digit_low c e in
    let high = digit_high c e in
    let value : digit_value c + 48 ≡ c = digit_value_digit c (low, high) in
    let digit : digit_value c ≡ c - 48 = omega (arith, value, low) in
    record {
      digits = h.digits ++ (c ∷ []);
      split = h.split ∙ ap (λ (t : Text). h.digits ++ t) (drop_more text at 0 lt) ∙ sym (append_assoc h.digits (c ∷ []) (drop (at + 1) text));
      all = list_all-append is_ascii_digit h.digits (c ∷ []) ∙ and_from _ _ h.all (and_from _ _ e refl);
      value = ap₂ (λ a b. a * 10 + b) h.value (sym digit) ∙ sym (digits_value_push 10 h.digits c);
      count = omega (arith, h.count, length-append h.digits (c ∷ []));
      within = omega arith;
    }

-- as few digits are a number that leaves room for one more
pub few_digits : (text : Text) (from number at : ℕ) → DigitsAt text from number at → at < from + 18 → number < 100000000000000000
few_digits text from number at h lt =
    let count = h.count in
    let small : magnitude h.digits < 10 ^ 17 = digits_value_short own h.digits 17 h.all (omega (arith, count)) in
    omega (arith, small, h.value)

-- so small a number is one without a sign
pub small_number : (n : ℕ) → n < 2 ^ 63 → Some (pos n) ≡ number_by false n
small_number n h = grind (arith, nat_tests)

-- no space
pub no_spaces : (text : Text) (from : ℕ) → from ≤ length text → SpacesAt text from from
no_spaces text from within = record { spaces = []; split = refl; all = refl; ahead = omega arith; within = within }

-- one more space
pub space_more : (text : Text) (from at : ℕ) → SpacesAt text from at → at < length text → get_or text at 0 ≡ 32 → SpacesAt text from (at + 1)
space_more text from at h lt e =
    let c = get_or text at 0 in record {
      spaces = h.spaces ++ (c ∷ []);
      split = h.split ∙ ap (λ (t : Text). h.spaces ++ t) (drop_more text at 0 lt) ∙ sym (append_assoc h.spaces (c ∷ []) (drop (at + 1) text));
      all = list_all-append is_space h.spaces (c ∷ []) ∙ and_from _ _ h.all (ap (λ n. eqb n 32 && true) e);
      ahead = let ahead = h.ahead in omega arith;
      within = omega arith;
    }

-- ---- a field

abbrev pub sign : Bool → Text
sign true = 45 ∷ []
sign false = []

numeral : (digits : Text) → list_all is_ascii_digit digits ≡ true → 0 < length digits → is_numeral digits ≡ true
numeral digits e some = and_from _ _ (le-leb 1 (length digits) (omega arith)) e

-- the number of digits, with a `-` or none, and spaces round them
field_number : (negative : Bool) (before digits after : Text) → list_all is_space before ≡ true → list_all is_ascii_digit digits ≡ true
    → list_all is_space after ≡ true
    → 0 < length digits → number_of (before ++ (sign negative ++ (digits ++ after))) ≡ number_by negative (magnitude digits)
unfolding number_of
field_number true before digits after b d a some =
    let tight = drop_spaces-spaces (45 ∷ digits) after a ∙ drop_spaces-tight (45 ∷ digits) (digits_tight digits d) in
    let is = numeral digits d some in
    ap (λ t. signed (drop_spaces t)) (skip_spaces-spaces before (45 ∷ (digits ++ after)) b) ∙ ap signed tight ∙ rw is refl
field_number false before [] after b d a some = absurd (omega arith)
field_number false before (c ∷ rest) after b d a some =
    let digit = (and_parts (is_ascii_digit c) (list_all is_ascii_digit rest) d).0 in
    let space : eqb c 32 ≡ false = digit_other c 32 digit (omega arith) in
    let minus : eqb c 45 ≡ false = digit_other c 45 digit (omega arith) in
    let first : skip_spaces ((c ∷ rest) ++ after) ≡ (c ∷ rest) ++ after = rw space refl in
    let tight = drop_spaces-spaces (c ∷ rest) after a ∙ drop_spaces-tight (c ∷ rest) (digits_tight (c ∷ rest) d) in
    let is = numeral (c ∷ rest) d some in
    ap (λ t. signed (drop_spaces t)) (skip_spaces-spaces before ((c ∷ rest) ++ after) b ∙ first) ∙ ap signed tight ∙ rw (minus, is) refl

plain_from : (x : Text) → 0 < length x → list_any is_mark x ≡ false → is_plain x ≡ true
plain_from [] some e = absurd (omega arith)
plain_from (c ∷ rest) some e = not_from_false _ e

sign_plain : (negative : Bool) → list_any is_mark (sign negative) ≡ false
sign_plain true = refl
sign_plain false = refl

pub sign_at : (text : Text) (start first : ℕ) (negative : Bool)
    → ((negative ≡ true) × (first ≡ start + 1) × (start < length text) × (get_or text start 0 ≡ 45)) ⊎ ((negative ≡ false) × (first ≡ start))
    → (drop start text ≡ sign negative ++ drop first text) × (start ≤ first)
sign_at text start first negative (inl minus) =
    let further = minus.1 in (
      drop_more text start 0 minus.2 ∙ ap₂ (λ (c k : ℕ). c ∷ drop k text) minus.3 (sym minus.1)
          ∙ ap (λ b. sign b ++ drop first text) (sym minus.0),
      omega (arith, further),
    )
sign_at text start first negative (inr none) =
    let same = none.1 in (
      ap (λ k. drop k text) (sym none.1) ∙ ap (λ b. sign b ++ drop first text) (sym none.0),
      omega (arith, same),
    )

pub number_at : (text : Text) (from start first number last end : ℕ) (negative : Bool) (value : ℤ) → SpacesAt text from start
    → drop start text ≡ sign negative ++ drop first text → start ≤ first
    → DigitsAt text first number last → (last ≡ first → ⊥) → SpacesAt text last end → Some value ≡ number_by negative number
    → NumberAt text from value end
number_at text from start first number last end negative value s minus ahead d some e is =
    let before = s.spaces in
    let after = e.spaces in
    let digits = d.digits in
    let tail = drop end text in
    let field = before ++ (sign negative ++ (digits ++ after)) in
    let count = d.count in
    let long : 0 < length digits = omega (arith, count, some) in
    let inner : sign negative ++ drop first text ≡ (sign negative ++ (digits ++ after)) ++ tail =
    ap (λ (t : Text). sign negative ++ t) (d.split ∙ ap (λ (t : Text). digits ++ t) e.split ∙ sym (append_assoc digits after tail))
    ∙ sym (append_assoc (sign negative) (digits ++ after) tail) in
    let size = length-append before (sign negative ++ (digits ++ after)) in
    let size_signed = length-append (sign negative) (digits ++ after) in
    let size_digits = length-append digits after in record {
      field = field;
      split = s.split ∙ ap (λ (t : Text). before ++ t) (minus ∙ inner) ∙ sym (append_assoc before (sign negative ++ (digits ++ after)) tail);
      plain = plain_from field (omega (arith, size, size_signed, size_digits, long))
          (list_any-append is_mark before _ ∙ or_from _ _ (spaces_plain before s.all)
          (list_any-append is_mark (sign negative) _ ∙ or_from _ _ (sign_plain negative)
          (list_any-append is_mark digits after ∙ or_from _ _ (digits_plain digits d.all) (spaces_plain after e.all))));
      number = field_number negative before digits after s.all d.all e.all long ∙ ap (number_by negative) (sym d.value) ∙ sym is;
      ahead = omega (arith, s.ahead, e.ahead, count, long, ahead);
      within = e.within;
    }

-- ---- a record

-- the bytes from a place up to another are plain fields of numbers with a comma after each; the values stand first in a list
pub record Along (text : Text) (from at i : ℕ) (values : List ℤ) : Type 0 where
  pub fields : Fields
  pub split : drop from text ≡ with_commas fields ++ drop at text
  pub plain : list_all is_plain fields ≡ true
  pub numbers : all_numbers fields ≡ true
  pub held : map value_of fields ≡ take i values
  pub ahead : from ≤ at
  pub within : at ≤ length text

with_commas-more : (fields : Fields) (field : Text) → with_commas (fields ++ (field ∷ [])) ≡ with_commas fields ++ (field ++ (44 ∷ []))
with_commas-more [] field = refl
with_commas-more (f ∷ fields) field =
    ap (λ (t : Text). f ++ 44 ∷ t) (with_commas-more fields field) ∙ sym (append_assoc f (44 ∷ with_commas fields) (field ++ (44 ∷ [])))

pub numbers_more : (fields : Fields) (field : Text) (value : ℤ) → all_numbers fields ≡ true → number_of field ≡ Some value
    → all_numbers (fields ++ (field ∷ [])) ≡ true
numbers_more fields field value all e =
    list_all-append (λ f. is_some (number_of f)) fields (field ∷ []) ∙ and_from _ _ all (and_from _ _ (ap is_some e) refl)

take_set : (i : ℕ) (values : List ℤ) (v : ℤ) → i < length values → take (i + 1) (set values i v) ≡ take i values ++ v ∷ []
take_set i [] v lt = absurd (omega arith)
take_set zero (x ∷ values) v lt = refl
take_set (suc i) (x ∷ values) v lt =
    let one_more : suc i + 1 ≡ suc (i + 1) = omega arith in
    rw one_more (ap (λ (l : List ℤ). x ∷ l) (take_set i values v (omega arith)))

pub held_more : (fields : Fields) (field : Text) (i : ℕ) (values : List ℤ) (v : ℤ) → i < length values → map value_of fields ≡ take i values
    → number_of field ≡ Some v → map value_of (fields ++ (field ∷ [])) ≡ take (i + 1) (set values i v)
held_more fields field i values v lt held is =
    map-append value_of fields (field ∷ [])
    ∙ ap₂ (λ (l : List ℤ) (o : Option ℤ). l ++ unwrap_or o (pos 0) ∷ []) held is
    ∙ sym (take_set i values v lt)

pub field_more : (text : Text) (from at end i : ℕ) (values : List ℤ) (v : ℤ) → Along text from at i values → NumberAt text at v end
    → end < length text → get_or text end 0 ≡ 44 → i < length values
    → Along text from (end + 1) (i + 1) (set values i v)
field_more text from at end i values v h n lt comma inside =
    let f = n.field in
    let tail = drop (end + 1) text in
    let fields = with_commas h.fields in
    let ahead = h.ahead in
    let further = n.ahead in record {
      fields = h.fields ++ (f ∷ []);
      split = h.split ∙ ap (λ (t : Text). fields ++ t) (n.split ∙ ap (λ (t : Text). f ++ t) (drop_more text end 0 lt ∙ ap (λ c. c ∷ tail) comma)
          ∙ sym (append_assoc f (44 ∷ []) tail))
          ∙ sym (append_assoc fields (f ++ (44 ∷ [])) tail) ∙ ap (λ (t : Text). t ++ tail) (sym (with_commas-more h.fields f));
      plain = list_all-append is_plain h.fields (f ∷ []) ∙ and_from _ _ h.plain (and_from _ _ n.plain refl);
      numbers = numbers_more h.fields f v h.numbers n.number;
      held = held_more h.fields f i values v inside h.held n.number;
      ahead = omega arith;
      within = omega arith;
    }

take_whole : (n : ℕ) (xs : List ℤ) → n ≡ length xs → take n xs ≡ xs
take_whole n [] e = rw e refl
take_whole zero (x ∷ xs) e = absurd (omega arith)
take_whole (suc n) (x ∷ xs) e = ap (λ (l : List ℤ). x ∷ l) (take_whole n xs (omega arith))

pub length_set : (i : ℕ) (values : List ℤ) (v : ℤ) → length (set values i v) ≡ length values
length_set i [] v = refl
length_set zero (x ∷ values) v = refl
length_set (suc i) (x ∷ values) v = ap suc (length_set i values v)

pub record_ends : (text : Text) (from at end i : ℕ) (values : List ℤ) (v : ℤ) → Along text from at i values → NumberAt text at v end
    → EndsLine text end → i + 1 ≡ length values
    → RecordAt text from (set values i v) end
record_ends text from at end i values v h n ends whole =
    let ahead = h.ahead in
    let further = n.ahead in record {
      fields = h.fields ++ (n.field ∷ []);
      next = plain_record text from end h.fields n.field (h.split ∙ ap (λ (t : Text). with_commas h.fields ++ t) n.split) h.plain n.plain ends;
      numbers = numbers_more h.fields n.field v h.numbers n.number;
      held = held_more h.fields n.field i values v (omega arith) h.held n.number
          ∙ take_whole (i + 1) (set values i v) (whole ∙ sym (length_set i values v));
      ahead = omega arith;
      ends = ends;
      within = n.within;
    }
