-- The end of a text's first record, byte by byte.
use Rattle.std.proofs.Common.{refl, ap, ◌≡◌, true, false, Some, None, [], ◌∷◌, ◌∙◌, sym, ℕ, ◌<◌, ◌≤◌, ◌+◌, arith, length, drop, inl, inr, get_or}
use Rattle.std.proofs.lemmas.List.{drop_more, drop_all}
use Rattle.csv.specs.Machine.{Read, next_record, step, is_end, fields_after, field_after}
use Rattle.csv.specs.Reading.{default_config}
use Rattle.csv.specs.declared.parser.State.{State}
use Rattle.csv.specs.declared.parser.State.TheVariants as st
use Rattle.table_in.specs.Numbers.{Text}
use Rattle.table_in.specs.Rows.{Fields}
use Rattle.table_in.specs.Plain.{state_at, rows_after, FirstEnds, Follows}
use Rattle.table_in.specs.declared.names.Place.{Place}
use Rattle.table_in.proofs.RowLemmas.{step_between, leaves}
use Rattle.table_in.proofs.PlainLemmas.{rows_next, between_same, skips_line}

-- the first record goes on at this place of the text, in the state of that place
pub record ScanAt (text : Text) (place : Place) (at : ℕ) : Type 0 where
  pub fields : Fields
  pub field : Text
  pub same : next_record default_config st.StartRecord [] [] text ≡ next_record default_config (state_at place) fields field (drop at text)

goes : (s : State) (fields : Fields) (field : Text) (c : ℕ) (rest : Text) → is_end (step default_config s c).1 ≡ false
    → next_record default_config s fields field (c ∷ rest)
    ≡ next_record default_config (step default_config s c).0 (fields_after (step default_config s c).1 fields field)
    (field_after (step default_config s c).1 c field) rest
unfolding next_record
goes s fields field c rest e = rw e refl

stops : (s : State) (fields : Fields) (field : Text) (c : ℕ) (rest : Text) → is_end (step default_config s c).1 ≡ true
    → next_record default_config s fields field (c ∷ rest)
    ≡ Some (fields_after (step default_config s c).1 fields field, (step default_config s c).0, rest)
unfolding next_record
stops s fields field c rest e = rw e refl

pub scan_more : (text : Text) (place after : Place) (at : ℕ) → ScanAt text place at → at < length text
    → Follows (get_or text at 0) (step default_config (state_at place) (get_or text at 0)) (Some after) → ScanAt text after (at + 1)
scan_more text place after at h lt f =
    let c = get_or text at 0 in
    let next = step default_config (state_at place) c in
    let rest = drop (at + 1) text in record {
      fields = fields_after next.1 h.fields h.field;
      field = field_after next.1 c h.field;
      same = h.same ∙ ap (next_record default_config (state_at place) h.fields h.field) (drop_more text at 0 lt)
          ∙ goes (state_at place) h.fields h.field c rest f.0
          ∙ ap (λ s. next_record default_config s (fields_after next.1 h.fields h.field) (field_after next.1 c h.field) rest) f.1;
    }

pub scan_stops : (text : Text) (place : Place) (at : ℕ) → ScanAt text place at → at < length text
    → Follows (get_or text at 0) (step default_config (state_at place) (get_or text at 0)) None → FirstEnds text at
scan_stops text place at h lt f =
    let c = get_or text at 0 in
    let next = step default_config (state_at place) c in
    let rest = drop (at + 1) text in
    let more = drop_more text at 0 lt in
    let read : next_record default_config st.StartRecord [] [] text ≡ Some (fields_after next.1 h.fields h.field, next.0, rest) =
    h.same ∙ ap (next_record default_config (state_at place) h.fields h.field) more ∙ stops (state_at place) h.fields h.field c rest f.0 in
    let goes_on : next_record default_config next.0 [] [] rest ≡ next_record default_config st.StartRecord [] [] (drop at text) =
    between_same next.0 rest (step_between (state_at place) c f.0) ∙ sym (skips_line c rest f.1)
    ∙ ap (next_record default_config st.StartRecord [] []) (sym more) in
    let rows = rows_next text (drop at text) (fields_after next.1 h.fields h.field, next.0, rest) read goes_on in record {
      next = λ p e.
          let same : Some (fields_after next.1 h.fields h.field, next.0, rest) ≡ Some p = sym read ∙ e in
          let is : (fields_after next.1 h.fields h.field, next.0, rest) ≡ p = cc in
          rows ∙ ap (λ (q : Read). q.0 ∷ rows_after text at) is;
      ends = inr f.1;
      within = omega arith;
    }

none_left : (xs : Text) → length xs ≤ 0 → xs ≡ []
none_left [] e = refl
none_left (x ∷ xs) e = absurd (omega arith)

pub scan_ends : (text : Text) (place : Place) (at : ℕ) → ScanAt text place at → at ≡ length text → FirstEnds text at
scan_ends text place at h all =
    let none : drop at text ≡ [] = drop_all at text (omega arith) in record {
      next = λ p e.
          let read : next_record default_config (state_at place) h.fields h.field [] ≡ Some p =
          ap (next_record default_config (state_at place) h.fields h.field) (sym none) ∙ sym h.same ∙ e in
          let left = leaves (state_at place) h.fields h.field [] p read in
          let rest : p.2 ≡ [] = none_left p.2 left.0 in
          rows_next text (drop at text) p e
          (between_same p.1 p.2 left.1 ∙ ap (next_record default_config st.StartRecord [] []) (rest ∙ sym none));
      ends = inl (omega arith);
      within = omega arith;
    }
