-- What the events of a statement's clauses leave read.
use Rattle.std.proofs.Common.{◌≡◌, ℕ, true, false, List, [], ◌∷◌, ◌++◌, Option, Some, None, refl, sym, ◌∙◌, ap, append_assoc}
use Rattle.std.proofs.lemmas.List.{append-nil}
use Rattle.frame_ast.specs.declared.script.Life.{Life}
use Rattle.frame_ast.specs.declared.script.Life.TheVariants.{Persistent}
use Rattle.frame_grammar.specs.declared.symbols.Action.{Action}
use Rattle.frame_grammar.specs.declared.symbols.Action.TheVariants as action
use Rattle.frame_grammar.specs.declared.symbols.Event.{Event}
use Rattle.kernel_raw.specs.RawEvents.{on}
use Rattle.script_text.specs.declared.raw.RawNumber.{RawNumber}
use Rattle.script_text.specs.declared.raw.RawArg.{RawArg}
use Rattle.script_text.specs.declared.raw.RawArg.TheVariants as arg
use Rattle.script_text.specs.declared.raw.RawSizes.{RawSizes}
use Rattle.script_text.specs.declared.raw.RawSizes.TheVariants as sizes
use Rattle.script_text.specs.declared.build_scalars.LastNames.{LastNames}
use Rattle.script_text.specs.declared.build_scalars.LastNumbers.{LastNumbers}
use Rattle.script_text.specs.declared.build_scalars.Scalars.{Scalars}
use Rattle.script_text.specs.Events.{SpellsLife, unsaid, temp, tempjob, persistent, SpellsSigned, minus, plain, SpellsMaybe, none, some, also, names_events, SpellsArg, named, signed, SpellsArgs, SpellsSizes, counted, deferred, SpellsWaived, SpellsAfter}
use Rattle.script_text.specs.Reading.{signed_of, Reading, order_from}

abbrev pub reading : Scalars → List RawArg → List ℕ → List ℕ → Reading
reading w as' ns ws = record { scalars = w; args = as'; names = ns; waive = ws }

-- the same events
pub of_events : (r : Reading) (es es' rest : List Event) → es ≡ es' → order_from r (es ++ rest) ≡ order_from r (es' ++ rest)
of_events r es es' rest e = ap (λ x. order_from r (x ++ rest)) e

-- LIVES

pub life_read : (w : Scalars) (as' : List RawArg) (ns ws : List ℕ) (rest : List Event) (p : ℕ) {a : Action} {life : Life} → SpellsLife a life →
    order_from (reading (record w { life = Persistent }) as' ns ws) (on a p ∷ rest) ≡ order_from (reading (record w { life = life }) as' ns ws) rest
life_read w as' ns ws rest p unsaid = refl
life_read w as' ns ws rest p temp = refl
life_read w as' ns ws rest p tempjob = refl
life_read w as' ns ws rest p persistent = refl

-- SIGNED NUMBERS

-- after a signed number
abbrev pub with_number_read : LastNumbers → Reading → Reading
with_number_read g r = record r { scalars = record r.scalars { numbers = g } }

pub record SignedRead (r : Reading) (n : RawNumber) (events rest : List Event) : Type 0 where
  pub numbers : LastNumbers
  pub read : order_from r (events ++ rest) ≡ order_from (with_number_read numbers r) rest
  pub is : numbers.signed ≡ Some n
  pub before_last : numbers.signed_before ≡ r.scalars.numbers.signed

pub signed_read : (r : Reading) (rest : List Event) {events : List Event} {n : RawNumber} → SpellsSigned events n → SignedRead r n events rest
signed_read r rest {events} (minus {at = at} o q e) = record {
  numbers = record {
    before_last = r.scalars.numbers.last;
    last = at;
    operator_before = r.scalars.numbers.operator;
    operator = o;
    signed_before = r.scalars.numbers.signed;
    signed = Some (record { minus = true; at = at });
  };
  read = of_events r events (on action.Operator o ∷ on action.Number at ∷ on action.MinusNumber q ∷ []) rest e;
  is = refl;
  before_last = refl;
}
signed_read r rest {events} (plain {at = at} q e) = record {
  numbers = record {
    before_last = r.scalars.numbers.last;
    last = at;
    operator_before = r.scalars.numbers.operator_before;
    operator = r.scalars.numbers.operator;
    signed_before = r.scalars.numbers.signed;
    signed = Some (record { minus = false; at = at });
  };
  read = of_events r events (on action.Number at ∷ on action.PlainNumber q ∷ []) rest e;
  is = refl;
  before_last = refl;
}

-- a signed number, or none
pub record MaybeRead (w : Scalars) (as' : List RawArg) (ns ws : List ℕ) (m : Option RawNumber) (events rest : List Event) : Type 0 where
  pub numbers : LastNumbers
  pub read : order_from (reading w as' ns ws) (events ++ rest) ≡ order_from (reading (record w { numbers = numbers }) as' ns ws) rest
  pub is : numbers.signed ≡ m
  pub before_last : numbers.signed_before ≡ w.numbers.signed

pub maybe_read : (w : Scalars) (as' : List RawArg) (ns ws : List ℕ) (rest : List Event) {events : List Event} {m : Option RawNumber} → SpellsMaybe events m →
    MaybeRead w as' ns ws m events rest
maybe_read w as' ns ws rest {events} (none q e) = record {
  numbers = record w.numbers { signed_before = w.numbers.signed; signed = None };
  read = of_events (reading w as' ns ws) events (on action.NoNumber q ∷ []) rest e;
  is = refl;
  before_last = refl;
}
maybe_read w as' ns ws rest (some s) =
    let r = signed_read (reading w as' ns ws) rest s in
    record { numbers = r.numbers; read = r.read; is = r.is; before_last = r.before_last }

-- NAMES

pub record NamesRead (w : Scalars) (as' : List RawArg) (ns ws : List ℕ) (names : List ℕ) (rest : List Event) : Type 0 where
  pub last : LastNames
  pub read : order_from (reading (record w { is_listing = true }) as' ns ws) (names_events names ++ rest) ≡ order_from
      (reading (record w { is_listing = true; names = last }) as' (ns ++ names) ws) rest
  pub opener : last.opener ≡ w.names.opener
  pub handle : last.handle ≡ w.names.handle
  pub kernel : last.kernel ≡ w.names.kernel

pub names_read : (names : List ℕ) (w : Scalars) (as' : List RawArg) (ns ws : List ℕ) (rest : List Event) → NamesRead w as' ns ws names rest
names_read [] w as' ns ws rest = record {
  last = w.names;
  read = ap (λ x. order_from (reading (record w { is_listing = true }) as' x ws) rest) (sym (append-nil ns));
  opener = refl;
  handle = refl;
  kernel = refl;
}
names_read (x ∷ names) w as' ns ws rest =
    let more = names_read names (record w { names = record w.names { before_last = w.names.last; last = x } }) as' (ns ++ x ∷ []) ws rest in
    record {
      last = more.last;
      read = more.read ∙ ap (λ y. order_from (reading (record w { is_listing = true; names = more.last }) as' y ws) rest) (append_assoc ns (x ∷ []) names);
      opener = more.opener;
      handle = more.handle;
      kernel = more.kernel;
    }

-- CLAUSES OF A SCHEDULE

-- outside lists of names
abbrev pub plainly : Scalars → Scalars
plainly w = record w { is_listing = false }

pub record ArgsRead (w : Scalars) (as' : List RawArg) (ns ws : List ℕ) (args : List RawArg) (events rest : List Event) : Type 0 where
  pub names : LastNames
  pub numbers : LastNumbers
  pub read : order_from (reading (plainly w) as' ns ws) (events ++ rest) ≡ order_from
      (reading (record (plainly w) { names = names; numbers = numbers }) (as' ++ args) ns ws) rest
  pub handle : names.handle ≡ w.names.handle
  pub kernel : names.kernel ≡ w.names.kernel

arg_read : {events : List Event} {a : RawArg} → SpellsArg events a → (w : Scalars) (as' : List RawArg) (ns ws : List ℕ) (rest : List Event)
    → ArgsRead w as' ns ws (a ∷ []) events rest
arg_read {events} (named {x = x} q e) w as' ns ws rest = record {
  names = record w.names { before_last = w.names.last; last = x };
  numbers = w.numbers;
  read = of_events (reading (plainly w) as' ns ws) events (on action.Name x ∷ on action.NameArgument q ∷ []) rest e;
  handle = refl;
  kernel = refl;
}
arg_read {events} (signed q es {n} s e) w as' ns ws rest =
    let r = reading (plainly w) as' ns ws in
    let one = signed_read r (on action.NumberArgument q ∷ rest) s in
    record {
      names = w.names;
      numbers = one.numbers;
      read = of_events r events (es ++ on action.NumberArgument q ∷ []) rest e
          ∙ ap (λ x. order_from r x) (append_assoc es (on action.NumberArgument q ∷ []) rest)
          ∙ one.read
          ∙ ap (λ x. order_from (reading (record (plainly w) { numbers = one.numbers }) (as' ++ arg.Number (signed_of x) ∷ []) ns ws) rest) one.is;
      handle = refl;
      kernel = refl;
    }

pub args_read : {events : List Event} {args : List RawArg} → SpellsArgs events args → (w : Scalars) (as' : List RawArg) (ns ws : List ℕ) (rest : List Event)
    → ArgsRead w as' ns ws args events rest
args_read {events} (none e) w as' ns ws rest = record {
  names = w.names;
  numbers = w.numbers;
  read = of_events (reading (plainly w) as' ns ws) events [] rest e
      ∙ ap (λ x. order_from (reading (plainly w) x ns ws) rest) (sym (append-nil as'));
  handle = refl;
  kernel = refl;
}
args_read {events} (also es es' {a} {as' = args} s m e) w as' ns ws rest =
    let r = reading (plainly w) as' ns ws in
    let one = arg_read s w as' ns ws (es' ++ rest) in
    let others = args_read m (record w { names = one.names; numbers = one.numbers }) (as' ++ a ∷ []) ns ws rest in
    record {
      names = others.names;
      numbers = others.numbers;
      read = of_events r events (es ++ es') rest e
          ∙ ap (λ x. order_from r x) (append_assoc es es' rest)
          ∙ one.read
          ∙ others.read
          ∙ ap (λ x. order_from (reading (record (plainly w) { names = others.names; numbers = others.numbers }) x ns ws) rest)
          (append_assoc as' (a ∷ []) args);
      handle = others.handle ∙ one.handle;
      kernel = others.kernel ∙ one.kernel;
    }

pub record SizesRead (w : Scalars) (as' : List RawArg) (ns ws : List ℕ) (cut : RawSizes) (events rest : List Event) : Type 0 where
  pub names : LastNames
  pub numbers : LastNumbers
  pub read : order_from (reading (record (plainly w) { sizes = sizes.None }) as' ns ws) (events ++ rest)
      ≡ order_from (reading (record (plainly w) { sizes = cut; names = names; numbers = numbers }) as' ns ws) rest
  pub handle : names.handle ≡ w.names.handle
  pub kernel : names.kernel ≡ w.names.kernel

pub sizes_read : {events : List Event} {cut : RawSizes} → SpellsSizes events cut → (w : Scalars) (as' : List RawArg) (ns ws : List ℕ) (rest : List Event)
    → SizesRead w as' ns ws cut events rest
sizes_read {events} (none q e) w as' ns ws rest = record {
  names = w.names;
  numbers = w.numbers;
  read = of_events (reading (record (plainly w) { sizes = sizes.None }) as' ns ws) events (on action.SizesNone q ∷ []) rest e;
  handle = refl;
  kernel = refl;
}
sizes_read {events} (counted {len = len} {batch = batch} q e) w as' ns ws rest = record {
  names = w.names;
  numbers = record w.numbers { before_last = len; last = batch };
  read = of_events (reading (record (plainly w) { sizes = sizes.None }) as' ns ws) events
      (on action.Number len ∷ on action.Number batch ∷ on action.SizesLength q ∷ []) rest e;
  handle = refl;
  kernel = refl;
}
sizes_read {events} (deferred {list = l} {batch = batch} q e) w as' ns ws rest = record {
  names = record w.names { before_last = w.names.last; last = l };
  numbers = record w.numbers { before_last = w.numbers.last; last = batch };
  read = of_events (reading (record (plainly w) { sizes = sizes.None }) as' ns ws) events
      (on action.Name l ∷ on action.Number batch ∷ on action.SizesDefer q ∷ []) rest e;
  handle = refl;
  kernel = refl;
}

pub record WaivedRead (w : Scalars) (as' : List RawArg) (xs : List ℕ) (events rest : List Event) : Type 0 where
  pub names : LastNames
  pub read : order_from (reading (plainly w) as' [] []) (events ++ rest) ≡ order_from (reading (record (plainly w) { names = names }) as' [] xs) rest
  pub handle : names.handle ≡ w.names.handle
  pub kernel : names.kernel ≡ w.names.kernel

pub waived_read : {events : List Event} {xs : List ℕ} → SpellsWaived events xs → (w : Scalars) (as' : List RawArg) (rest : List Event)
    → WaivedRead w as' xs events rest
waived_read {events} (none q e) w as' rest = record {
  names = w.names;
  read = of_events (reading (plainly w) as' [] []) events (on action.WaivedNone q ∷ []) rest e;
  handle = refl;
  kernel = refl;
}
waived_read {events} (some o q {x} {xs} e) w as' rest =
    let r = reading (plainly w) as' [] [] in
    let w' = record (plainly w) { names = record w.names { opener = w.names.last } } in
    let all = names_read (x ∷ xs) w' as' [] [] (on action.Waived q ∷ rest) in
    record {
      names = all.last;
      read = of_events r events (on action.OpenNames o ∷ names_events (x ∷ xs) ++ on action.Waived q ∷ []) rest e
          ∙ ap (λ y. order_from r (on action.OpenNames o ∷ y)) (append_assoc (names_events (x ∷ xs)) (on action.Waived q ∷ []) rest)
          ∙ all.read;
      handle = all.handle;
      kernel = all.kernel;
    }

pub record AfterRead (w : Scalars) (as' : List RawArg) (ws xs : List ℕ) (events rest : List Event) : Type 0 where
  pub names : LastNames
  pub read : order_from (reading (plainly w) as' [] ws) (events ++ rest) ≡ order_from (reading (record (plainly w) { names = names }) as' xs ws) rest
  pub handle : names.handle ≡ w.names.handle
  pub kernel : names.kernel ≡ w.names.kernel

pub after_read : {events : List Event} {xs : List ℕ} → SpellsAfter events xs → (w : Scalars) (as' : List RawArg) (ws : List ℕ) (rest : List Event)
    → AfterRead w as' ws xs events rest
after_read {events} (none q e) w as' ws rest = record {
  names = w.names;
  read = of_events (reading (plainly w) as' [] ws) events (on action.AfterNone q ∷ []) rest e;
  handle = refl;
  kernel = refl;
}
after_read {events} (some o q {x} {xs} e) w as' ws rest =
    let r = reading (plainly w) as' [] ws in
    let w' = record (plainly w) { names = record w.names { opener = w.names.last } } in
    let all = names_read (x ∷ xs) w' as' [] ws (on action.After q ∷ rest) in
    record {
      names = all.last;
      read = of_events r events (on action.OpenNames o ∷ names_events (x ∷ xs) ++ on action.After q ∷ []) rest e
          ∙ ap (λ y. order_from r (on action.OpenNames o ∷ y)) (append_assoc (names_events (x ∷ xs)) (on action.After q ∷ []) rest)
          ∙ all.read;
      handle = all.handle;
      kernel = all.kernel;
    }
