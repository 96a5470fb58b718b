-- The records of a text, one by one.
use Rattle.std.proofs.Common.{refl, ap, ap₂, ◌≡◌, true, false, cond, Option, Some, None, List, [], ◌∷◌, ◌++◌, ◌∙◌, sym, ℕ, Bool, ◌&&◌, ◌||◌, ◌≤◌, ◌+◌, ◌-◌, arith, length, append-nil, subst, suc, zero, eqb, take, ℤ, ◌≢◌}
use Rattle.csv.specs.Records.{field_at}
use Rattle.table_in.specs.declared.TableFault.{TableFault}
use Rattle.csv.specs.Machine.{Read, next_record, step, is_end, fields_after, field_after, ends_at_end, in_field, start_field, start_record}
use Rattle.csv.specs.Reading.{Reached, records, records_from, records_next, default_config, strip_bom}
use Rattle.csv.specs.declared.parser.State.{State}
use Rattle.csv.specs.declared.parser.State.TheVariants as st
use Rattle.csv.specs.declared.parser.Action.{Action}
use Rattle.csv.specs.declared.parser.Action.TheVariants as act
use Rattle.table_in.specs.Numbers.{Text, number_of}
use Rattle.table_in.specs.declared.TableFault.TheVariants.{Unequal, NotNumber}
use Rattle.std.specs.Option.{is_some}
use Rattle.std.proofs.lemmas.Bool.{and_from, ne_eqb, eq-eqb, eqb-true}
use Rattle.std.proofs.lemmas.List.Folds.{list_all-append}
use Rattle.table_in.specs.Rows.{Fields, rows_in, or_fault, row_fault, fault_from, all_numbers}

-- ---- a record takes a byte at least

abbrev choice : Bool → State × Action → State × Action → State × Action
choice b x y = cond b x y

-- the state after a record is between records
in_field_between : (c : ℕ) → is_end (in_field default_config c).1 ≡ true → ends_at_end (in_field default_config c).0 ≡ false
in_field_between c = go (eqb c 44) (eqb c 13) (eqb c 10)
  where
    go : (a b d : Bool) → is_end (choice a (st.StartField, act.EndField) (choice (b || d) (cond b st.AfterCr st.StartRecord, act.EndRecord)
        (st.InField, act.Copy))).1 ≡ true
        → ends_at_end (choice a (st.StartField, act.EndField) (choice (b || d) (cond b st.AfterCr st.StartRecord, act.EndRecord) (st.InField, act.Copy))).0
        ≡ false
    go true b d e = absurd (let bad : false ≡ true = e in cc)
    go false true d e = refl
    go false false true e = refl
    go false false false e = absurd (let bad : false ≡ true = e in cc)

start_field_between : (c : ℕ) → is_end (start_field default_config c).1 ≡ true → ends_at_end (start_field default_config c).0 ≡ false
start_field_between c = go (eqb c 34)
  where
    go : (a : Bool) → is_end (choice a (st.InQuoted, act.Skip) (in_field default_config c)).1 ≡ true
        → ends_at_end (choice a (st.InQuoted, act.Skip) (in_field default_config c)).0 ≡ false
    go true e = absurd (let bad : false ≡ true = e in cc)
    go false e = in_field_between c e

start_record_between : (c : ℕ) → is_end (start_record default_config c).1 ≡ true → ends_at_end (start_record default_config c).0 ≡ false
start_record_between c = go (eqb c 13 || eqb c 10)
  where
    go : (a : Bool) → is_end (choice a (st.StartRecord, act.Skip) (start_field default_config c)).1 ≡ true
        → ends_at_end (choice a (st.StartRecord, act.Skip) (start_field default_config c)).0 ≡ false
    go true e = absurd (let bad : false ≡ true = e in cc)
    go false e = start_field_between c e

pub step_between : (s : State) (c : ℕ) → is_end (step default_config s c).1 ≡ true → ends_at_end (step default_config s c).0 ≡ false
step_between st.StartRecord c e = start_record_between c e
step_between st.StartField c e = start_field_between c e
step_between st.InField c e = in_field_between c e
step_between st.InQuoted c e = go (eqb c 34) e
  where
    go : (a : Bool) → is_end (choice a (st.AfterQuote, act.Skip) (st.InQuoted, act.Copy)).1 ≡ true
        → ends_at_end (choice a (st.AfterQuote, act.Skip) (st.InQuoted, act.Copy)).0 ≡ false
    go true e = absurd (let bad : false ≡ true = e in cc)
    go false e = absurd (let bad : false ≡ true = e in cc)
step_between st.InEscape c e = absurd (let bad : false ≡ true = e in cc)
step_between st.AfterQuote c e = go (eqb c 34) e
  where
    go : (a : Bool) → is_end (choice a (st.InQuoted, act.Copy) (in_field default_config c)).1 ≡ true
        → ends_at_end (choice a (st.InQuoted, act.Copy) (in_field default_config c)).0 ≡ false
    go true e = absurd (let bad : false ≡ true = e in cc)
    go false e = in_field_between c e
step_between st.InComment c e = go (eqb c 10) e
  where
    go : (a : Bool) → is_end (choice a (st.StartRecord, act.Skip) (st.InComment, act.Skip)).1 ≡ true
        → ends_at_end (choice a (st.StartRecord, act.Skip) (st.InComment, act.Skip)).0 ≡ false
    go true e = absurd (let bad : false ≡ true = e in cc)
    go false e = absurd (let bad : false ≡ true = e in cc)
step_between st.AfterCr c e = go (eqb c 10) e
  where
    go : (a : Bool) → is_end (choice a (st.StartRecord, act.Skip) (start_record default_config c)).1 ≡ true
        → ends_at_end (choice a (st.StartRecord, act.Skip) (start_record default_config c)).0 ≡ false
    go true e = absurd (let bad : false ≡ true = e in cc)
    go false e = start_record_between c e

-- what a record leaves: no more bytes, and a state between records
abbrev pub Leaves : Read → ℕ → Type 0
Leaves p n = (length p.2 ≤ n) × (ends_at_end p.1 ≡ false)

pub leaves : (s : State) (fields : Fields) (field xs : Text) (p : Read) → next_record default_config s fields field xs ≡ Some p → Leaves p (length xs)
unfolding next_record
leaves s fields field [] p e = go (ends_at_end s) e
  where
    go : (b : Bool) → cond b (Some (fields ++ (field ∷ []), st.StartRecord, [])) None ≡ Some p → Leaves p 0
    go true e =
        let is : (fields ++ (field ∷ []), st.StartRecord, []) ≡ p = cc in
        subst (λ (q : Read). Leaves q 0) is (omega arith, refl)
    go false e = absurd (let bad : None ≡ Some p = e in cc)
leaves s fields field (c ∷ rest) p e =
    go (leaves (step default_config s c).0 (fields_after (step default_config s c).1 fields field) (field_after (step default_config s c).1 c field) rest p)
    (is_end (step default_config s c).1) refl e
  where
    go : (next_record default_config (step default_config s c).0 (fields_after (step default_config s c).1 fields field)
        (field_after (step default_config s c).1 c field) rest ≡ Some p → Leaves p (length rest))
        → (b : Bool) → is_end (step default_config s c).1 ≡ b
        → cond b (Some (fields_after (step default_config s c).1 fields field, (step default_config s c).0, rest))
        (next_record default_config (step default_config s c).0 (fields_after (step default_config s c).1 fields field)
        (field_after (step default_config s c).1 c field) rest) ≡ Some p
        → Leaves p (length (c ∷ rest))
    go more true ends e =
        let is : (fields_after (step default_config s c).1 fields field, (step default_config s c).0, rest) ≡ p = cc in
        subst (λ (q : Read). Leaves q (length (c ∷ rest))) is (omega arith, step_between s c ends)
    go more false ends e =
        let h = more e in
        let left : length p.2 ≤ length rest = h.0 in
        (omega arith, h.1)

-- a record between records takes a byte at least
pub fewer : (s : State) (xs : Text) (p : Read) → ends_at_end s ≡ false → next_record default_config s [] [] xs ≡ Some p
    → (length p.2 + 1 ≤ length xs) × (ends_at_end p.1 ≡ false)
unfolding next_record
fewer s [] p between e =
    let bad : None ≡ Some p = rw between at e in
    absurd (cc)
fewer s (c ∷ rest) p between e = go (is_end (step default_config s c).1) refl e
  where
    go : (b : Bool) → is_end (step default_config s c).1 ≡ b
        → cond b (Some (fields_after (step default_config s c).1 [] [], (step default_config s c).0, rest))
        (next_record default_config (step default_config s c).0 (fields_after (step default_config s c).1 [] [])
        (field_after (step default_config s c).1 c []) rest) ≡ Some p
        → (length p.2 + 1 ≤ length (c ∷ rest)) × (ends_at_end p.1 ≡ false)
    go true ends e =
        let is : (fields_after (step default_config s c).1 [] [], (step default_config s c).0, rest) ≡ p = cc in
        subst (λ (q : Read). (length q.2 + 1 ≤ length (c ∷ rest)) × (ends_at_end q.1 ≡ false)) is (omega arith, step_between s c ends)
    go false ends e =
        let h = leaves (step default_config s c).0 (fields_after (step default_config s c).1 [] []) (field_after (step default_config s c).1 c []) rest p e in
        let left : length p.2 ≤ length rest = h.0 in
        (omega arith, h.1)

pub reached-fewer : (rows : List Fields) (s s2 : State) (xs ys : Text) → ends_at_end s ≡ false → Reached default_config s xs rows s2 ys
    → length rows + length ys ≤ length xs
unfolding Reached
reached-fewer [] s s2 xs ys between h =
    let same : length xs ≡ length ys = ap length h.1 in
    omega arith
reached-fewer (r ∷ rs) s s2 xs ys between h =
    let p = h.0 in
    let one = fewer s xs p between h.1 in
    let first : length p.2 + 1 ≤ length xs = one.0 in
    let more : length rs + length ys ≤ length p.2 = reached-fewer rs p.1 s2 p.2 ys one.1 h.3 in
    omega arith

pub reached-records : (rows : List Fields) (k : ℕ) (s s2 : State) (xs ys : Text) → Reached default_config s xs rows s2 ys
    → records_from default_config (length rows + k) s xs ≡ rows ++ records_from default_config k s2 ys
unfolding Reached records_from
reached-records [] k s s2 xs ys h =
    let zero_more : 0 + k ≡ k = omega arith in
    ap (λ n. records_from default_config n s xs) zero_more ∙ ap₂ (records_from default_config k) h.0 h.1
reached-records (r ∷ rs) k s s2 xs ys h =
    let one_more : suc (length rs) + k ≡ suc (length rs + k) = omega arith in
    ap (λ n. records_from default_config n s xs) one_more
    ∙ ap (records_next (records_from default_config (length rs + k))) h.1
    ∙ ap₂ (λ (x : Fields) (l : List Fields). x ∷ l) (sym h.2) (reached-records rs k h.0.1 s2 h.0.2 ys h.3)

-- the records that were read are the first of the text's
pub rows-front : (source : Text) (rows : List Fields) (s2 : State) (ys : Text) → Reached default_config st.StartRecord (strip_bom source) rows s2 ys
    → (more : List Fields) × (rows_in source ≡ rows ++ more) × (next_record default_config s2 [] [] ys ≡ None → more ≡ [])
unfolding records_from
rows-front source rows s2 ys h =
    let xs = strip_bom source in
    let few : length rows + length ys ≤ length xs = reached-fewer rows st.StartRecord s2 xs ys refl h in
    let k = length xs - length rows in
    let count : length xs + 1 ≡ length rows + suc k = omega arith in (
      records_from default_config (suc k) s2 ys,
      ap (λ n. records_from default_config n st.StartRecord xs) count ∙ reached-records rows (suc k) st.StartRecord s2 xs ys h,
      λ none. ap (records_next (records_from default_config k)) none,
    )

-- a byte-order mark is some bytes less
pub strip_bom-shorter : (t : Text) → length (strip_bom t) ≤ length t
unfolding strip_bom
strip_bom-shorter [] = omega arith
strip_bom-shorter (x ∷ []) = omega arith
strip_bom-shorter (x ∷ y ∷ []) = omega arith
strip_bom-shorter (x ∷ y ∷ z ∷ rest) = mark (Rattle.csv.specs.Reading.is_bom x y z) x y z rest
  where
    mark : (b : Bool) (x y z : ℕ) (rest : Text) → length (cond b rest (x ∷ y ∷ z ∷ rest)) ≤ length (x ∷ y ∷ z ∷ rest)
    mark true x y z rest = omega arith
    mark false x y z rest = omega arith

-- a text has no more records than bytes
pub rows-few : (source : Text) (rows : List Fields) (s2 : State) (ys : Text) → Reached default_config st.StartRecord (strip_bom source) rows s2 ys
    → length rows ≤ length source
rows-few source rows s2 ys h =
    let few : length rows + length ys ≤ length (strip_bom source) = reached-fewer rows st.StartRecord s2 (strip_bom source) ys refl h in
    let shorter : length (strip_bom source) ≤ length source = strip_bom-shorter source in
    omega arith

-- ---- faults

or_fault-or_fault : (a b c : Option TableFault) → or_fault a (or_fault b c) ≡ or_fault (or_fault a b) c
or_fault-or_fault None b c = refl
or_fault-or_fault (Some f) b c = refl

pub fault_from-append : (row width : ℕ) (xs ys : List Fields) → fault_from row width (xs ++ ys) ≡ or_fault (fault_from row width xs)
    (fault_from (row + length xs) width ys)
fault_from-append row width [] ys =
    let none_more : row ≡ row + 0 = omega arith in
    ap (λ n. fault_from n width ys) none_more
fault_from-append row width (x ∷ xs) ys =
    let one_more : (row + 1) + length xs ≡ row + length (x ∷ xs) = omega arith in
    ap (or_fault (row_fault row width x)) (fault_from-append (row + 1) width xs ys
    ∙ ap (λ n. or_fault (fault_from (row + 1) width xs) (fault_from n width ys)) one_more)
    ∙ or_fault-or_fault (row_fault row width x) (fault_from (row + 1) width xs) _

-- ---- the fields of one record

pub field_at-none : (fields : Fields) (i : ℕ) → field_at fields i ≡ None → length fields ≤ i
unfolding field_at
field_at-none [] i e = omega arith
field_at-none (f ∷ fields) zero e = absurd (let bad : Some f ≡ None = e in cc)
field_at-none (f ∷ fields) (suc i) e =
    let past : length fields ≤ i = field_at-none fields i e in
    omega arith

pub take-field : (fields : Fields) (i : ℕ) (f : Text) → field_at fields i ≡ Some f → take (i + 1) fields ≡ take i fields ++ f ∷ []
unfolding field_at
take-field [] i f e = absurd (let bad : None ≡ Some f = e in cc)
take-field (g ∷ fields) zero f e =
    let same : g ≡ f = cc in
    ap (λ (x : Text). x ∷ []) same
take-field (g ∷ fields) (suc i) f e =
    let one_more : suc i + 1 ≡ suc (i + 1) = omega arith in
    ap (λ n. take n (g ∷ fields)) one_more ∙ ap (λ (l : Fields). g ∷ l) (take-field fields i f e)

pub numbers-more : (fields : Fields) (i : ℕ) (f : Text) (n : ℤ) → field_at fields i ≡ Some f → Some n ≡ number_of f → all_numbers (take i fields) ≡ true
    → all_numbers (take (i + 1) fields) ≡ true
numbers-more fields i f n at is before =
    ap all_numbers (take-field fields i f at) ∙ list_all-append (λ (t : Text). is_some (number_of t)) (take i fields) (f ∷ [])
    ∙ and_from _ _ before (ap (λ o. is_some o && true) (sym is))

pub numbers-not : (fields : Fields) (i : ℕ) (f : Text) → field_at fields i ≡ Some f → None ≡ number_of f → all_numbers fields ≡ false
unfolding field_at
numbers-not [] i f e is = absurd (let bad : None ≡ Some f = e in cc)
numbers-not (g ∷ fields) zero f e is =
    let same : g ≡ f = cc in
    ap (λ o. is_some o && all_numbers fields) (ap number_of same ∙ sym is)
numbers-not (g ∷ fields) (suc i) f e is = ap (λ b. is_some (number_of g) && b) (numbers-not fields i f e is) ∙ and_false _
  where
    and_false : (b : Bool) → (b && false) ≡ false
    and_false true = refl
    and_false false = refl

pub row_unequal : (row width : ℕ) (fields : Fields) → length fields ≢ width → row_fault row width fields ≡ Some (Unequal row)
row_unequal row width fields other =
    let test : eqb (length fields) width ≡ false = ne_eqb _ _ other in
    rw test refl

pub row_not_number : (row width : ℕ) (fields : Fields) → length fields ≡ width → all_numbers fields ≡ false → row_fault row width fields ≡ Some (NotNumber row)
row_not_number row width fields same bad =
    let test : eqb (length fields) width ≡ true = eq-eqb _ _ same in
    rw (test, bad) refl

pub row_sound : (row width : ℕ) (fields : Fields) → length fields ≡ width → all_numbers fields ≡ true → row_fault row width fields ≡ None
row_sound row width fields same good =
    let test : eqb (length fields) width ≡ true = eq-eqb _ _ same in
    rw (test, good) refl

pub row_width : (row wide : ℕ) (fields : Fields) → row_fault row wide fields ≡ None → length fields ≡ wide
row_width row wide fields e = go (eqb (length fields) wide) refl
  where
    go : (b : Bool) → eqb (length fields) wide ≡ b → length fields ≡ wide
    go true same = eqb-true _ _ same
    go false other =
        let bad : Some (Unequal row) ≡ None = rw other at e in
        absurd (cc)

-- ---- the whole

pub faulty : (source : Text) (rows : List Fields) (fields : Fields) (s2 : State) (ys : Text) (first width row : ℕ) (fault : TableFault)
    → Reached default_config st.StartRecord (strip_bom source) (rows ++ fields ∷ []) s2 ys → fault_from first width rows ≡ None
    → row ≡ first + length rows
    → row_fault row width fields ≡ Some fault → fault_from first width (rows_in source) ≡ Some fault
faulty source rows fields s2 ys first width row fault h sound is e =
    let front = rows-front source (rows ++ fields ∷ []) s2 ys h in
    ap (fault_from first width) front.1
    ∙ fault_from-append first width (rows ++ fields ∷ []) front.0
    ∙ ap (λ o. or_fault o (fault_from (first + length (rows ++ fields ∷ [])) width front.0))
    (fault_from-append first width rows (fields ∷ []) ∙ ap (λ o. or_fault o (or_fault (row_fault (first + length rows) width fields) None)) sound
    ∙ ap (λ o. or_fault o None) (ap (λ n. row_fault n width fields) (sym is) ∙ e))

pub sound-more : (first width : ℕ) (rows : List Fields) (fields : Fields) (row : ℕ) → fault_from first width rows ≡ None → row ≡ first + length rows
    → row_fault row width fields ≡ None → fault_from first width (rows ++ fields ∷ []) ≡ None
sound-more first width rows fields row sound is e =
    fault_from-append first width rows (fields ∷ []) ∙ ap (λ o. or_fault o (or_fault (row_fault (first + length rows) width fields) None)) sound
    ∙ ap (λ o. or_fault o None) (ap (λ n. row_fault n width fields) (sym is) ∙ e)

pub all-read : (source : Text) (rows : List Fields) (s2 : State) (ys : Text)
    → Reached default_config st.StartRecord (strip_bom source) rows s2 ys
    → next_record default_config s2 [] [] ys ≡ None → rows_in source ≡ rows
all-read source rows s2 ys h none =
    let front = rows-front source rows s2 ys h in
    front.1 ∙ ap (λ (l : List Fields). rows ++ l) (front.2 none) ∙ append-nil rows
