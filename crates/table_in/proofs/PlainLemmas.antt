-- Records of plain fields are what `csv`'s machine makes of their bytes.
use Rattle.std.proofs.Common.{refl, ap, ◌≡◌, true, false, Option, Some, None, List, [], ◌∷◌, ◌++◌, ◌∙◌, sym, ℕ, ◌<◌, ◌≤◌, ◌+◌, arith, length, append-nil, append_assoc, suc, zero, drop, inl, inr, get_or}
use Rattle.std.specs.Prelude.{◌==◌}
use Rattle.std.specs.List.{list_all, list_any}
use Rattle.std.proofs.lemmas.Bool.{and_parts, or_parts, or_cases, not-true, eqb-true, cases_Bool, cases_lt}
use Rattle.std.proofs.lemmas.List.{drop_more, drop_all}
use Rattle.csv.specs.Machine.{Read, next_record, ends_at_end, after_end}
use Rattle.csv.specs.Reading.{records, records_from, records_next, default_config}
use Rattle.csv.specs.declared.parser.State.{State}
use Rattle.csv.specs.declared.parser.State.TheVariants as st
use Rattle.csv.specs.declared.parser.Terminator.TheVariants as term
use Rattle.csv.proofs.RoundTrip.{start-same, record-same}
use Rattle.table_in.specs.Numbers.{Text}
use Rattle.table_in.specs.Rows.{Fields}
use Rattle.table_in.specs.Plain.{is_line_end, is_mark, is_plain, with_commas, rows_after, EndsLine}
use Rattle.table_in.proofs.RowLemmas.{fewer}

-- ---- a plain record

no_mark : (b : ℕ) → is_mark b ≡ false → ((b == 44) ≡ false) × ((b == 34) ≡ false) × ((b == 13) ≡ false) × ((b == 10) ≡ false)
no_mark b e =
    let comma = or_parts _ _ e in
    let quote = or_parts _ _ comma.1 in
    let line = or_parts _ _ quote.1 in
    (comma.0, quote.0, line.1, line.0)

-- bytes that are no marks join the field at hand
plain_run : (fields : Fields) (field x tail : Text) → list_any is_mark x ≡ false
    → next_record default_config st.InField fields field (x ++ tail) ≡ next_record default_config st.InField fields (field ++ x) tail
unfolding next_record
plain_run fields field [] tail e = rw (append-nil field) refl
plain_run fields field (b ∷ rest) tail e =
    let parts = or_parts (is_mark b) (list_any is_mark rest) e in
    let q = no_mark b parts.0 in
    rw (q.0, q.2, q.3) (plain_run fields (field ++ (b ∷ [])) rest tail parts.1
    ∙ ap (λ (f : Text). next_record default_config st.InField fields f tail) (append_assoc field (b ∷ []) rest))

-- a plain field, from its start
plain_field : (fields : Fields) (x tail : Text) → is_plain x ≡ true
    → next_record default_config st.StartField fields [] (x ++ tail) ≡ next_record default_config st.InField fields x tail
plain_field fields [] tail e = absurd (let bad : false ≡ true = e in cc)
plain_field fields (b ∷ rest) tail e =
    let plain = not-true (list_any is_mark (b ∷ rest)) e in
    let q = no_mark b (or_parts (is_mark b) (list_any is_mark rest) plain).0 in
    start-same fields [] b (rest ++ tail) q.1 ∙ plain_run fields [] (b ∷ rest) tail plain

comma_ends : (fields : Fields) (x u : Text)
    → next_record default_config st.InField fields x (44 ∷ u) ≡ next_record default_config st.StartField (fields ++ (x ∷ [])) [] u
unfolding next_record
comma_ends fields x u = refl

-- plain fields, each with its comma
commas_run : (before fields : Fields) (tail : Text) → list_all is_plain fields ≡ true
    → next_record default_config st.StartField before [] (with_commas fields ++ tail)
    ≡ next_record default_config st.StartField (before ++ fields) [] tail
commas_run before [] tail e = ap (λ (l : Fields). next_record default_config st.StartField l [] tail) (sym (append-nil before))
commas_run before (f ∷ fields) tail e =
    let parts = and_parts (is_plain f) (list_all is_plain fields) e in
    ap (next_record default_config st.StartField before []) (append_assoc f (44 ∷ with_commas fields) tail)
    ∙ plain_field before f (44 ∷ (with_commas fields ++ tail)) parts.0
    ∙ comma_ends before f (with_commas fields ++ tail)
    ∙ commas_run (before ++ (f ∷ [])) fields tail parts.1
    ∙ ap (λ (l : Fields). next_record default_config st.StartField l [] tail) (append_assoc before (f ∷ []) fields)

-- a record that starts with no end of a line starts as its first field does
plain_start : (x tail : Text) → is_plain x ≡ true
    → next_record default_config st.StartRecord [] [] (x ++ tail) ≡ next_record default_config st.StartField [] [] (x ++ tail)
plain_start [] tail e = absurd (let bad : false ≡ true = e in cc)
plain_start (b ∷ rest) tail e =
    let plain = not-true (list_any is_mark (b ∷ rest)) e in
    let q = no_mark b (or_parts (is_mark b) (list_any is_mark rest) plain).0 in
    record-same [] [] b (rest ++ tail) q.2 q.3

-- plain fields with commas between them are the fields of the record that `csv` is in, up to what stands after them
pub record_run : (fields : Fields) (last tail : Text) → list_all is_plain fields ≡ true → is_plain last ≡ true
    → next_record default_config st.StartRecord [] [] (with_commas fields ++ (last ++ tail)) ≡ next_record default_config st.InField fields last tail
record_run [] last tail e plain = plain_start last tail plain ∙ plain_field [] last tail plain
record_run (f ∷ fields) last tail e plain =
    let parts = and_parts (is_plain f) (list_all is_plain fields) e in
    ap (next_record default_config st.StartRecord [] []) (append_assoc f (44 ∷ with_commas fields) (last ++ tail))
    ∙ plain_start f (44 ∷ (with_commas fields ++ (last ++ tail))) parts.0
    ∙ sym (ap (next_record default_config st.StartField [] []) (append_assoc f (44 ∷ with_commas fields) (last ++ tail)))
    ∙ commas_run [] (f ∷ fields) (last ++ tail) e
    ∙ plain_field (f ∷ fields) last tail plain

-- ---- between records

pub skips_line : (c : ℕ) (rest : Text) → is_line_end c ≡ true
    → next_record default_config st.StartRecord [] [] (c ∷ rest) ≡ next_record default_config st.StartRecord [] [] rest
unfolding next_record
skips_line c rest e = elim (or_cases (c == 10) (c == 13) e) [
  | inl feed ↦ let is : c ≡ 10 = eqb-true c 10 feed in rw is refl
  | inr return ↦ let is : c ≡ 13 = eqb-true c 13 return in rw is refl
]

-- between records it is one whether a line feed may still belong to the line's end
pub between_same : (s : State) (rest : Text) → ends_at_end s ≡ false
    → next_record default_config s [] [] rest ≡ next_record default_config st.StartRecord [] [] rest
unfolding next_record
between_same st.StartRecord rest e = refl
between_same st.AfterCr [] e = refl
between_same st.AfterCr (c ∷ rest) e = elim (cases_Bool (c == 10)) [
  | inl feed ↦ let is : c ≡ 10 = eqb-true c 10 feed in rw is refl
  | inr other ↦ rw other refl
]
between_same st.StartField rest e = absurd (let bad : true ≡ false = e in cc)
between_same st.InField rest e = absurd (let bad : true ≡ false = e in cc)
between_same st.InQuoted rest e = absurd (let bad : true ≡ false = e in cc)
between_same st.AfterQuote rest e = absurd (let bad : true ≡ false = e in cc)
between_same st.InEscape rest e = absurd (let bad : true ≡ false = e in cc)
between_same st.InComment rest e = absurd (let bad : true ≡ false = e in cc)

-- the records of a text don't depend on how many are asked for, once these are as many as it may have
enough : (n m : ℕ) (s t : State) (xs ys : Text) → ends_at_end s ≡ false → ends_at_end t ≡ false → length xs < n → length ys < m
    → next_record default_config s [] [] xs ≡ next_record default_config t [] [] ys
    → records_from default_config n s xs ≡ records_from default_config m t ys
unfolding records_from
enough zero m s t xs ys bs bt ln lm e = absurd (omega arith)
enough (suc n) zero s t xs ys bs bt ln lm e = absurd (omega arith)
enough (suc n) (suc m) s t xs ys bs bt ln lm e =
    go (λ r us vs br lu lv. enough n m r r us vs br br lu lv) (next_record default_config s [] [] xs) refl (sym e)
  where
    go : ((r : State) (us vs : Text) → ends_at_end r ≡ false → length us < n → length vs < m
        → next_record default_config r [] [] us ≡ next_record default_config r [] [] vs
        → records_from default_config n r us ≡ records_from default_config m r vs)
        → (o : Option Read) → next_record default_config s [] [] xs ≡ o → next_record default_config t [] [] ys ≡ next_record default_config s [] [] xs
        → records_next (records_from default_config n) (next_record default_config s [] [] xs)
        ≡ records_next (records_from default_config m) (next_record default_config t [] [] ys)
    go more None a b = rw (b, a) refl
    go more (Some p) a b =
        let first = fewer s xs p bs a in
        let second = fewer t ys p bt (b ∙ a) in
        let few : length p.2 < n = omega (arith, first.0) in
        let fewest : length p.2 < m = omega (arith, second.0) in
        rw (b, a) (ap (λ (l : List Fields). p.0 ∷ l) (more p.1 p.2 p.2 first.1 few fewest refl))

-- one record, and those of a text that goes on as the rest does
pub rows_next : (xs ys : Text) (p : Read) → next_record default_config st.StartRecord [] [] xs ≡ Some p
    → next_record default_config p.1 [] [] p.2 ≡ next_record default_config st.StartRecord [] [] ys
    → records default_config xs ≡ p.0 ∷ records default_config ys
unfolding records_from
rows_next xs ys p e same =
    let first = fewer st.StartRecord xs p refl e in
    let one_more : length xs + 1 ≡ suc (length xs) = omega arith in
    let few : length p.2 < length xs = omega (arith, first.0) in
    let fewer_still : length ys < length ys + 1 = omega arith in
    ap (λ n. records_from default_config n st.StartRecord xs) one_more
    ∙ ap (records_next (records_from default_config (length xs))) e
    ∙ ap (λ (l : List Fields). p.0 ∷ l) (enough (length xs) (length ys + 1) p.1 st.StartRecord p.2 ys first.1 refl few fewer_still same)

pub rows_skip : (xs ys : Text) → next_record default_config st.StartRecord [] [] xs ≡ next_record default_config st.StartRecord [] [] ys
    → records default_config xs ≡ records default_config ys
rows_skip xs ys e =
    let few : length xs < length xs + 1 = omega arith in
    let fewer_still : length ys < length ys + 1 = omega arith in
    enough (length xs + 1) (length ys + 1) st.StartRecord st.StartRecord xs ys refl refl few fewer_still e

-- an end of a line before a record is no record
pub rows_after-line : (text : Text) (at : ℕ) → at < length text → is_line_end (get_or text at 0) ≡ true
    → rows_after text at ≡ rows_after text (at + 1)
rows_after-line text at lt e =
    ap (records default_config) (drop_more text at 0 lt)
    ∙ rows_skip (get_or text at 0 ∷ drop (at + 1) text) (drop (at + 1) text) (skips_line (get_or text at 0) (drop (at + 1) text) e)

-- ---- the end of a record

-- a plain field that is followed by the end of a line or of the text ends the record
ends_run : (fields : Fields) (last : Text) (c : ℕ) (rest : Text) → is_line_end c ≡ true
    → next_record default_config st.InField fields last (c ∷ rest) ≡ Some (fields ++ (last ∷ []), after_end term.CRLF c, rest)
unfolding next_record
ends_run fields last c rest e = elim (or_cases (c == 10) (c == 13) e) [
  | inl feed ↦ let is : c ≡ 10 = eqb-true c 10 feed in rw is refl
  | inr return ↦ let is : c ≡ 13 = eqb-true c 13 return in rw is refl
]

after_between : (c : ℕ) → ends_at_end (after_end term.CRLF c) ≡ false
after_between c = elim (cases_Bool (c == 13)) [ inl e ↦ rw e refl | inr e ↦ rw e refl ]

last_run : (fields : Fields) (last : Text)
    → next_record default_config st.InField fields last [] ≡ Some (fields ++ (last ∷ []), st.StartRecord, [])
unfolding next_record
last_run fields last = refl

plain_record-last : (text : Text) (from end : ℕ) (fields : Fields) (last : Text) → drop from text ≡ with_commas fields ++ (last ++ drop end text)
    → list_all is_plain fields ≡ true → is_plain last ≡ true → length text ≤ end
    → rows_after text from ≡ (fields ++ (last ∷ [])) ∷ rows_after text end
plain_record-last text from end fields last split e plain past =
    let none : drop end text ≡ [] = drop_all end text past in
    let read = ap (next_record default_config st.StartRecord [] []) split ∙ record_run fields last (drop end text) e plain
    ∙ ap (next_record default_config st.InField fields last) none ∙ last_run fields last in
    rows_next (drop from text) (drop end text) (fields ++ (last ∷ []), st.StartRecord, []) read
    (ap (next_record default_config st.StartRecord [] []) (sym none))

-- the record of plain fields that stands from a place on, up to the end of its line
pub plain_record : (text : Text) (from end : ℕ) (fields : Fields) (last : Text) → drop from text ≡ with_commas fields ++ (last ++ drop end text)
    → list_all is_plain fields ≡ true → is_plain last ≡ true → EndsLine text end
    → rows_after text from ≡ (fields ++ (last ∷ [])) ∷ rows_after text end
plain_record text from end fields last split e plain (inl past) = plain_record-last text from end fields last split e plain past
plain_record text from end fields last split e plain (inr line) = elim (cases_lt end (length text)) [
  | inl lt ↦
      let c = get_or text end 0 in
      let rest = drop (end + 1) text in
      let more : drop end text ≡ c ∷ rest = drop_more text end 0 lt in
      let read = ap (next_record default_config st.StartRecord [] []) split ∙ record_run fields last (drop end text) e plain
      ∙ ap (next_record default_config st.InField fields last) more ∙ ends_run fields last c rest line in
      rows_next (drop from text) (drop end text) (fields ++ (last ∷ []), after_end term.CRLF c, rest) read
      (between_same (after_end term.CRLF c) rest (after_between c)
      ∙ sym (skips_line c rest line) ∙ ap (next_record default_config st.StartRecord [] []) (sym more))
  | inr past ↦ plain_record-last text from end fields last split e plain past
]
