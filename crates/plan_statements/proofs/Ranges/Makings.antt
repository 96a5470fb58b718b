-- Each statement that makes a container: its contents, its words, and what fills them.
use Rattle.std.proofs.Common.{◌≡◌, ℕ, zero, suc, ◌<◌, true, false, ◌&&◌, ℤ, pos, List, [], ◌∷◌, length, replicate, Option, Some, None, refl, sym, ap, subst, arith}
use Rattle.std.specs.Prelude.{slice_get, get_or, option_map, unwrap_or, IfSome, Vec, vec_len}
use Rattle.std.specs.declared.alloc.Global.{Global}
use Rattle.std.proofs.lemmas.Bool.{and_parts, eqb-true}
use Rattle.std.proofs.lemmas.List.{length-replicate}
use Rattle.job_base.specs.declared.limits.TheConstants.{MOST_ELEMENTS, MOST_COLUMN_BYTES, MOST_PAIRS, MOST_STREAM_INDEXES, MOST_STREAM_ITEMS}
use Rattle.frame_ast.specs.declared.name_kind.NameKind.TheVariants as kind
use Rattle.frame_ast.specs.declared.script.Life.{Life}
use Rattle.frame_ast.specs.declared.script.Order.TheVariants.{Array, Column, List as NewList, Reference, Map, Stream}
use Rattle.frame_ast.specs.declared.script.Script.{Script}
use Rattle.frame_ast.specs.declared.script.Statement.{Statement}
use Rattle.frame_ast.specs.Accepted.{makes, literal_fits, has_length, up_to}
use Rattle.frame_ast.specs.Contents.{Cells as Elements, Entries, words_of}
use Rattle.frame_ast.specs.Forms.{form_of}
use Rattle.frame_ast.specs.Orders.{Table, Setting, setting, new_array, new_column, new_list, new_reference, new_map, new_stream}
use Rattle.kernel_exec.specs.declared.binds.Bind.TheVariants as bind
use Rattle.plan_laws.specs.Binds.{bind_of}
use Rattle.plan_state.specs.Steps.{IsStep}
use Rattle.plan_statements.proofs.Ranges.NewContainers.{Makes, IsGiven}
use Rattle.plan_state.proofs.Reaching.{fits_at, made_below, long}

-- ARRAYS

array_given : (g : Setting) (len : ℕ) (values : Option ℕ) → IsGiven (option_map (λ n. get_or g.literals n []) values) (new_array g len values)
array_given g len None = ap (λ n. Elements (replicate n (pos 0))) (length-replicate len (pos 0))
array_given g len (Some n) = refl

literal_long : (literals : List (List ℤ)) (n len : ℕ) → has_length len (slice_get literals n) ≡ true
    → (n < length literals) × (length (get_or literals n []) ≡ len)
literal_long [] n len e = absurd cc
literal_long (x ∷ xs) zero len e = (omega arith, eqb-true (length x) len e)
literal_long (x ∷ xs) (suc n) len e = let h = literal_long xs n len e in let lt = h.0 in (omega arith, h.1)

array_long : (g : Setting) (len : ℕ) (values : Option ℕ) → literal_fits g.literals len values ≡ true → len ≡ words_of (new_array g len values)
array_long g len None e = sym (length-replicate len (pos 0))
array_long g len (Some n) e = sym (literal_long g.literals n len e).1

pub array_bind : (g : Setting) (start len : ℕ) (values : Option ℕ) → len ≡ words_of (new_array g len values)
    → bind.Array (record { start = start; len = len }) 0 ≡ bind_of start (new_array g len values)
array_bind g start len None e = ap (λ n. bind.Array (record { start = start; len = n }) 0) e
array_bind g start len (Some n) e = ap (λ n. bind.Array (record { start = start; len = n }) 0) e

module _ {script : Script} {table : Table} {n line name len : ℕ} {life : Life} {values : Option ℕ}
    (step : IsStep script table n (record { line = line; act = Array name len life values })) where
  abbrev g : Setting
  g = setting script table

  abbrev x : Statement
  x = record { line = line; act = Array name len life values }

  fits : (makes (record { kinds = step.accepted.kinds; made = (fits_at step).made }) name kind.Array ≡ true)
      × (literal_fits g.literals len values ≡ true)
  fits =
      let f = fits_at step in
      let a = and_parts (makes (record { kinds = step.accepted.kinds; made = f.made }) name kind.Array)
      (up_to MOST_ELEMENTS len && literal_fits g.literals len values) f.fits in
      (a.0, (and_parts (up_to MOST_ELEMENTS len) (literal_fits g.literals len values) a.1).1)

  pub array_makes : Makes g x name life (new_array g len values)
  array_makes = record {
    refusal_is = λ s. refl;
    effect_is = λ s. refl;
    made = refl;
    lost = refl;
    passed = refl;
    takes = refl;
    job = tt;
    below = made_below step (fits_at step).made name kind.Array fits.0;
  }

  pub array_words : len ≡ words_of (new_array g len values)
  array_words = array_long g len values fits.1

  pub array_is_given : IsGiven (option_map (λ n. get_or g.literals n []) values) (new_array g len values)
  array_is_given = array_given g len values

  pub array_literal : (k : ℕ) → values ≡ Some k → k < length script.literals.items
  array_literal k e =
      let lt = (literal_long g.literals k len (subst (λ o. literal_fits g.literals len o ≡ true) e fits.1)).0 in
      let l = long (λ (v : Vec ℤ Global). v.items) script.literals.items in
      omega arith

  pub array_there : IfSome values (λ k. k < vec_len script.literals)
  array_there = by values refl
    where
      by : (o : Option ℕ) → values ≡ o → IfSome o (λ k. k < vec_len script.literals)
      by None e = tt
      by (Some k) e = let lt = array_literal k e in let l = script.literals.ok.0 in omega arith

-- COLUMNS

column_given : (values : Option (List ℤ)) → IsGiven values (Elements (unwrap_or values []))
column_given None = refl
column_given (Some xs) = refl

module _ {script : Script} {table : Table} {n line name : ℕ} {column : Vec ℕ Global} {life : Life}
    (step : IsStep script table n (record { line = line; act = Column name column life })) where
  pub column_makes : Makes (setting script table) (record { line = line; act = Column name column life }) name life
      (new_column (setting script table) column.items)
  column_makes =
      let x : Statement = record { line = line; act = Column name column life } in
      let f = fits_at step in
      record {
        refusal_is = λ s. refl;
        effect_is = λ s. refl;
        made = refl;
        lost = refl;
        passed = refl;
        takes = refl;
        job = tt;
        below = made_below step f.made name kind.Array
            (and_parts (makes (record { kinds = step.accepted.kinds; made = f.made }) name kind.Array)
            (up_to MOST_COLUMN_BYTES (length column.items)) f.fits).0;
      }

  pub column_is_given : (values : Option (List ℤ)) → values ≡ table column.items → IsGiven values (new_column (setting script table) column.items)
  column_is_given values e = subst (λ o. IsGiven values (Elements (unwrap_or o []))) e (column_given values)

-- LISTS

module _ {script : Script} {table : Table} {n line name cap : ℕ} {life : Life}
    (step : IsStep script table n (record { line = line; act = NewList name cap life })) where
  pub list_makes : Makes (setting script table) (record { line = line; act = NewList name cap life }) name life (new_list cap)
  list_makes =
      let x : Statement = record { line = line; act = NewList name cap life } in
      let f = fits_at step in
      record {
        refusal_is = λ s. refl;
        effect_is = λ s. refl;
        made = refl;
        lost = refl;
        passed = refl;
        takes = refl;
        job = tt;
        below = made_below step f.made name kind.List (and_parts (makes (record { kinds = step.accepted.kinds; made = f.made }) name kind.List)
            (up_to MOST_ELEMENTS cap) f.fits).0;
      }

-- REFERENCES

pub reference_given : (value : Option ℤ) → IsGiven (option_map (λ z. z ∷ []) value) (new_reference value)
reference_given None = refl
reference_given (Some z) = refl

module _ {script : Script} {table : Table} {n line name : ℕ} {life : Life} {value : Option ℤ}
    (step : IsStep script table n (record { line = line; act = Reference name life value })) where
  pub reference_makes : Makes (setting script table) (record { line = line; act = Reference name life value }) name life (new_reference value)
  reference_makes =
      let x : Statement = record { line = line; act = Reference name life value } in
      let f = fits_at step in
      record {
        refusal_is = λ s. refl;
        effect_is = λ s. refl;
        made = refl;
        lost = refl;
        passed = refl;
        takes = refl;
        job = tt;
        below = made_below step f.made name kind.Reference f.fits;
      }

-- MAPS

module _ {script : Script} {table : Table} {n line name cap : ℕ} {life : Life}
    (step : IsStep script table n (record { line = line; act = Map name cap life })) where
  pub map_makes : Makes (setting script table) (record { line = line; act = Map name cap life }) name life (new_map cap)
  map_makes =
      let x : Statement = record { line = line; act = Map name cap life } in
      let f = fits_at step in
      record {
        refusal_is = λ s. refl;
        effect_is = λ s. refl;
        made = refl;
        lost = refl;
        passed = refl;
        takes = refl;
        job = tt;
        below = made_below step f.made name kind.Map (and_parts (makes (record { kinds = step.accepted.kinds; made = f.made }) name kind.Map)
            (up_to MOST_PAIRS cap) f.fits).0;
      }

-- STREAMS

pub stream_given : (count room : ℕ) → form_of (new_stream count room) ≡ new_stream count room
stream_given count room = ap (λ n. Entries room (replicate n None)) (length-replicate count None)

pub stream_bind : (start count room : ℕ) → bind.Stream (record { start = start; count = count; room = room }) false ≡ bind_of start (new_stream count room)
stream_bind start count room = ap (λ n. bind.Stream (record { start = start; count = n; room = room }) false) (sym (length-replicate count None))

module _ {script : Script} {table : Table} {n line name count room : ℕ} {life : Life}
    (step : IsStep script table n (record { line = line; act = Stream name count room life })) where
  pub stream_makes : Makes (setting script table) (record { line = line; act = Stream name count room life }) name life (new_stream count room)
  stream_makes =
      let x : Statement = record { line = line; act = Stream name count room life } in
      let f = fits_at step in
      record {
        refusal_is = λ s. refl;
        effect_is = λ s. refl;
        made = refl;
        lost = refl;
        passed = refl;
        takes = refl;
        job = tt;
        below = made_below step f.made name kind.Stream
            (and_parts (makes (record { kinds = step.accepted.kinds; made = f.made }) name kind.Stream)
            (up_to MOST_STREAM_INDEXES count && up_to MOST_STREAM_ITEMS room) f.fits).0;
      }
