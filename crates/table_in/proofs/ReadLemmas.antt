-- The loop over the records of a text, by `csv`.
use Rattle.std.proofs.Common.{refl, ap, ◌≡◌, true, false, Bool, map, Option, Some, None, List, [], ◌∷◌, ◌++◌, ◌∙◌, sym, ℕ, ◌≤◌, ◌+◌, arith, length, Bor, subst, inl, length-append}
use Rattle.csv.specs.Machine.{next_record}
use Rattle.csv.specs.Reading.{Reached, Ready, ReadRecord, default_config, source_of, strip_bom}
use Rattle.csv.specs.declared.reader.Reader.{Reader}
use Rattle.csv.specs.declared.reader.Trim.TheVariants as trim
use Rattle.csv.specs.declared.parser.State.TheVariants as st
use Rattle.csv.proofs.ReadFacts.{rows-more, rows-end}
use Rattle.table_in.specs.Numbers.{Text}
use Rattle.table_in.specs.Rows.{Fields, rows_in, table_fault, row_fault, fault_from}
use Rattle.table_in.specs.Columns.{NamedColumn, with_row}
use Rattle.table_in.specs.Plain.{AddsRows, BeginsWith, IsMarked, marked, with_rows}
use Rattle.table_in.specs.declared.TableFault.{TableFault}
use Rattle.table_in.specs.declared.TableFault.TheVariants.{Empty}
use Rattle.table_in.proofs.RowLemmas.{rows-front, rows-few, faulty, sound-more, all-read}
use Rattle.table_in.proofs.ColumnLemmas.{length-with_rows}
use Rattle.table_in.proofs.MarkLemmas.{marked_rows-more}

abbrev pub left_in : Bor Text → Option Text
left_in s = Some s.now

-- the columns hold the records that were read so far, which have no fault; `row` is the number of the next one
pub record Along (rdr : Reader (Bor Text)) (source : Text) (marks : List Bool) (old t : List NamedColumn) (first row : ℕ) : Type 0 where
  pub rows : List Fields
  pub rest : Text
  pub trims : rdr.trim ≡ trim.None
  pub ready : Ready rdr
  pub config : rdr.config ≡ default_config
  pub bytes : source_of left_in rdr ≡ Some rest
  pub reached : Reached default_config st.StartRecord (strip_bom source) rows rdr.state rest
  pub count : row ≡ first + length rows
  pub sound : fault_from first (length marks) rows ≡ None
  pub held : t ≡ with_rows old (map (marked marks) rows)
  pub wide : IsMarked marks old

pub starts : (a : Reader (Bor Text)) (source : Text) (marks : List Bool) (t : List NamedColumn) (first : ℕ) → a.config ≡ default_config
    → source_of left_in a ≡ Some (strip_bom source) → a.state ≡ st.StartRecord → a.trim ≡ trim.None → Ready a → IsMarked marks t
    → Along a source marks t t first first
unfolding Reached
starts a source marks t first config bytes start trims ready wide = record {
  rows = [];
  rest = strip_bom source;
  trims = trims;
  ready = ready;
  config = config;
  bytes = bytes;
  reached = (sym start, refl);
  count = omega arith;
  sound = refl;
  held = refl;
  wide = wide;
}

-- the first record of a text
pub begins : (a b : Reader (Bor Text)) (source : Text) (names : Fields) → a.config ≡ default_config → source_of left_in a ≡ Some (strip_bom source)
    → a.state ≡ st.StartRecord → ReadRecord left_in a b true names → BeginsWith (strip_bom source) names
unfolding Reached
begins a b source names config bytes start r =
    let h = rows-more left_in a b names default_config st.StartRecord (strip_bom source) (strip_bom source) [] config bytes (sym start, refl) r in
    let read = h.2 in
    let p = read.0 in
    (p.1, p.2, read.1 ∙ ap (λ (n : Fields). Some (n, p.1, p.2)) (sym read.2))

-- the text has no record
pub empty : (a b : Reader (Bor Text)) (source : Text) (names : Fields) → a.config ≡ default_config → source_of left_in a ≡ Some (strip_bom source)
    → a.state ≡ st.StartRecord
    → ReadRecord left_in a b false names → table_fault (rows_in source) ≡ Some Empty
unfolding Reached
empty a b source names config bytes start r =
    let none : next_record default_config st.StartRecord [] [] (strip_bom source) ≡ None =
    subst (λ s. next_record default_config s [] [] (strip_bom source) ≡ None) start
    (rows-end left_in a b names default_config (strip_bom source) config bytes r) in
    let front = rows-front source [] st.StartRecord (strip_bom source) (refl, refl) in
    ap table_fault (front.1 ∙ front.2 none)

-- the columns are as many as before
pub still_marked : (rdr : Reader (Bor Text)) (source : Text) (marks : List Bool) (old t : List NamedColumn) (first row : ℕ)
    → Along rdr source marks old t first row → IsMarked marks t
still_marked rdr source marks old t first row h = h.wide ∙ sym (ap length h.held ∙ length-with_rows old (map (marked marks) h.rows))

pub goes_on : (a b : Reader (Bor Text)) (source : Text) (marks : List Bool) (old t u : List NamedColumn) (first row : ℕ) (fields : Fields)
    → Along a source marks old t first row → ReadRecord left_in a b true fields → b.first ≡ true
    → row_fault row (length marks) fields ≡ None → u ≡ with_row t (marked marks fields) → Along b source marks old u first (row + 1)
goes_on a b source marks old t u first row fields h r taken sound new =
    let m = rows-more left_in a b fields default_config st.StartRecord (strip_bom source) h.rest h.rows h.config h.bytes h.reached r in
    let count : row ≡ first + length h.rows = h.count in record {
      rows = h.rows ++ fields ∷ [];
      rest = m.0;
      trims = r.3 ∙ h.trims;
      ready = inl taken;
      config = r.2 ∙ h.config;
      bytes = m.1;
      reached = m.2;
      count = omega (arith, h.count, length-append h.rows (fields ∷ []));
      sound = sound-more first (length marks) h.rows fields row h.sound count sound;
      held = new ∙ ap (λ l. with_row l (marked marks fields)) h.held ∙ sym (marked_rows-more marks old h.rows fields);
      wide = h.wide;
    }

pub faults : (a b : Reader (Bor Text)) (source : Text) (marks : List Bool) (old t : List NamedColumn) (first row : ℕ) (fields : Fields) (f : TableFault)
    → Along a source marks old t first row
    → ReadRecord left_in a b true fields
    → row_fault row (length marks) fields ≡ Some f → fault_from first (length marks) (rows_in source) ≡ Some f
faults a b source marks old t first row fields f h r bad =
    let m = rows-more left_in a b fields default_config st.StartRecord (strip_bom source) h.rest h.rows h.config h.bytes h.reached r in
    let count : row ≡ first + length h.rows = h.count in
    faulty source h.rows fields b.state m.0 first (length marks) row f m.2 h.sound count bad

-- the number of the next record is small
pub few : (a : Reader (Bor Text)) (source : Text) (marks : List Bool) (old t : List NamedColumn) (first row : ℕ) → Along a source marks old t first row
    → row ≤ first + length source
few a source marks old t first row h =
    let count = rows-few source h.rows a.state h.rest h.reached in
    omega (arith, h.count, count)

pub ends : (a b : Reader (Bor Text)) (source : Text) (marks : List Bool) (old t : List NamedColumn) (first row : ℕ) (f : Fields)
    → Along a source marks old t first row → ReadRecord left_in a b false f → AddsRows first marks old t (rows_in source)
ends a b source marks old t first row f h r =
    let all = all-read source h.rows a.state h.rest h.reached (rows-end left_in a b f default_config h.rest h.config h.bytes r) in record {
      sound = ap (fault_from first (length marks)) all ∙ h.sound;
      held = h.held ∙ sym (ap (λ l. with_rows old (map (marked marks) l)) all);
    }
