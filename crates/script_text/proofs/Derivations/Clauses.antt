-- What the clauses of a statement mean, production by production.
use Rattle.std.proofs.Common.{◌≡◌, ℕ, suc, ◌+◌, true, false, List, [], ◌∷◌, ◌++◌, length, Some, None, refl, sym, ◌∙◌, ap, subst, append_assoc}
use Rattle.std.proofs.lemmas.List.{append-nil}
use Rattle.frame_ast.specs.declared.script.Life.TheVariants.{Temp, TempJob, Persistent}
use Rattle.frame_grammar.specs.declared.token_kind.TokenKind.{TokenKind}
use Rattle.frame_grammar.specs.declared.token_kind.TokenKind.TheVariants as token
use Rattle.frame_grammar.specs.declared.symbols.Production.{Production}
use Rattle.frame_grammar.specs.declared.symbols.Production.TheVariants as production
use Rattle.frame_grammar.specs.declared.symbols.Action.TheVariants as action
use Rattle.frame_grammar.specs.declared.symbols.Event.{Event}
use Rattle.frame_grammar.specs.Grammar.{head_of}
use Rattle.frame_grammar.specs.Bodies.{body_of}
use Rattle.kernel_raw.specs.RawEvents.{on}
use Rattle.script_text.specs.declared.raw.RawArg.TheVariants as arg
use Rattle.script_text.specs.declared.raw.RawSizes.TheVariants as sizes
use Rattle.script_text.specs.Raw.{Dispose, DisposeAuto}
use Rattle.script_text.specs.Events.{unsaid, temp, tempjob, persistent, SpellsSigned, minus, plain, none, some, also, named, signed, counted, deferred, SpellsOrder, dispose, dispose_after, dispose_auto}
use Rattle.script_text.proofs.Derivations.Chains.{Chain, events_of}
use Rattle.script_text.proofs.Derivations.Meanings.{Means}

-- what the body of a production derives means what its head is to mean
abbrev pub Build : List TokenKind → Production → Type 0
Build all p = (n : ℕ) (c : Chain (Means all) all (body_of p) n) → Means all (head_of p) n (events_of (Means all) all (body_of p) n c)

-- nothing more stands behind it
pub and_no_more : (P : List Event → Type 0) (es : List Event) → P es → P (es ++ [])
and_no_more P es h = subst P (sym (append-nil es)) h

pub last_no_more : (es rest : List Event) → es ++ (rest ++ []) ≡ es ++ rest
last_no_more es rest = ap (λ x. es ++ x) (append-nil rest)

-- LIVES

pub life_none : (all : List TokenKind) → Build all production.LifeNone
unfolding body_of head_of
life_none all n c = record { life = Persistent; said = action.LifeNone; at = n; spells = unsaid; events_are = refl }

pub life_temp : (all : List TokenKind) → Build all production.LifeTemp
unfolding body_of head_of
life_temp all n c = record { life = Temp; said = action.LifeTemp; at = suc n; spells = temp; events_are = refl }

pub life_temp_job : (all : List TokenKind) → Build all production.LifeTempJob
unfolding body_of head_of
life_temp_job all n c = record { life = TempJob; said = action.LifeTempJob; at = suc n; spells = tempjob; events_are = refl }

pub life_persistent : (all : List TokenKind) → Build all production.LifePersistent
unfolding body_of head_of
life_persistent all n c = record { life = Persistent; said = action.LifePersistent; at = suc n; spells = persistent; events_are = refl }

-- NUMBERS

pub signed_minus : (all : List TokenKind) → Build all production.SignedMinus
unfolding body_of head_of
signed_minus all n (m, (k, _)) = record { number = record { minus = true; at = suc n }; spells = minus n (suc (suc n)) refl; stands = k }

pub signed_plain : (all : List TokenKind) → Build all production.SignedPlain
unfolding body_of head_of
signed_plain all n (k, _) = record { number = record { minus = false; at = n }; spells = plain (suc n) refl; stands = k }

pub maybe_signed_none : (all : List TokenKind) → Build all production.MaybeSignedNone
unfolding body_of head_of
maybe_signed_none all n c = record { number = None; spells = none n refl; stand = tt }

pub maybe_signed_some : (all : List TokenKind) → Build all production.MaybeSignedSome
unfolding body_of head_of
maybe_signed_some all n (s, _) = record {
  number = Some s.means.number;
  spells = some (and_no_more (λ es. SpellsSigned es s.means.number) s.events s.means.spells);
  stand = s.means.stands;
}

pub reference_value_none : (all : List TokenKind) → Build all production.ReferenceValueNone
unfolding body_of head_of
reference_value_none all n c = record { number = None; spells = none n refl; stand = tt }

pub reference_value_some : (all : List TokenKind) → Build all production.ReferenceValueSome
unfolding body_of head_of
reference_value_some all n (a, (s, _)) = record {
  number = Some s.means.number;
  spells = some (and_no_more (λ es. SpellsSigned es s.means.number) s.events s.means.spells);
  stand = s.means.stands;
}

pub more_values_end : (all : List TokenKind) → Build all production.MoreValuesEnd
unfolding body_of head_of
more_values_end all n c = record { numbers = []; spells = none refl; stand = tt }

pub more_values_some : (all : List TokenKind) → Build all production.MoreValuesSome
unfolding body_of head_of
more_values_some all n (s, (m, _)) = record {
  numbers = s.means.number ∷ m.means.numbers;
  spells = also s.events m.events s.means.spells m.means.spells (last_no_more s.events m.events);
  stand = (s.means.stands, m.means.stand);
}

pub array_values_none : (all : List TokenKind) → Build all production.ArrayValuesNone
unfolding body_of head_of
array_values_none all n c = record { values = None; spells = none n refl; stand = tt }

pub array_values_some : (all : List TokenKind) → Build all production.ArrayValuesSome
unfolding body_of head_of
array_values_some all n (a, (s, (m, _))) =
    let end = suc n + length s.tokens + length m.tokens in
    record {
      values = Some (s.means.number ∷ m.means.numbers);
      spells = some (suc n) end (s.events ++ m.events) (also s.events m.events s.means.spells m.means.spells refl)
          (ap (λ x. on action.OpenValues (suc n) ∷ x) (sym (append_assoc s.events m.events (on action.CloseValues end ∷ []))));
      stand = (s.means.stands, m.means.stand);
    }

-- ARGUMENTS

pub argument_name : (all : List TokenKind) → Build all production.ArgumentName
unfolding body_of head_of
argument_name all n (k, _) = record { arg = arg.Name n; spells = named (suc n) refl; stands = k }

pub argument_signed : (all : List TokenKind) → Build all production.ArgumentSigned
unfolding body_of head_of
argument_signed all n (s, _) = record {
  arg = arg.Number s.means.number;
  spells = signed (n + length s.tokens) s.events s.means.spells refl;
  stands = s.means.stands;
}

pub arguments_none : (all : List TokenKind) → Build all production.ArgumentsNone
unfolding body_of head_of
arguments_none all n c = record { args = []; spells = none refl; stand = tt }

pub arguments_some : (all : List TokenKind) → Build all production.ArgumentsSome
unfolding body_of head_of
arguments_some all n (a, (m, _)) = record {
  args = a.means.arg ∷ m.means.args;
  spells = also a.events m.events a.means.spells m.means.spells (last_no_more a.events m.events);
  stand = (a.means.stands, m.means.stand);
}

pub more_arguments_end : (all : List TokenKind) → Build all production.MoreArgumentsEnd
unfolding body_of head_of
more_arguments_end all n c = record { args = []; spells = none refl; stand = tt }

pub more_arguments_some : (all : List TokenKind) → Build all production.MoreArgumentsSome
unfolding body_of head_of
more_arguments_some all n (k, (a, (m, _))) = record {
  args = a.means.arg ∷ m.means.args;
  spells = also a.events m.events a.means.spells m.means.spells (last_no_more a.events m.events);
  stand = (a.means.stands, m.means.stand);
}

-- CLAUSES OF A SCHEDULE

pub auto_none : (all : List TokenKind) → Build all production.AutoNone
unfolding body_of head_of
auto_none all n c = record { auto = false; at = n; events_are = refl }

pub auto_some : (all : List TokenKind) → Build all production.AutoSome
unfolding body_of head_of
auto_some all n c = record { auto = true; at = suc n; events_are = refl }

pub sizes_none : (all : List TokenKind) → Build all production.SizesNone
unfolding body_of head_of
sizes_none all n c = record { sizes = sizes.None; spells = none n refl; stand = tt }

pub sizes_length : (all : List TokenKind) → Build all production.SizesLength
unfolding body_of head_of
sizes_length all n (k, (j, _)) = record { sizes = sizes.Length n (suc n); spells = counted (suc (suc n)) refl; stand = (k, j) }

pub sizes_defer : (all : List TokenKind) → Build all production.SizesDefer
unfolding body_of head_of
sizes_defer all n (d, (k, (j, _))) =
    record { sizes = sizes.Defer (suc n) (suc (suc n)); spells = deferred (suc (suc (suc n))) refl; stand = (k, j) }

pub names_end : (all : List TokenKind) → Build all production.NamesEnd
unfolding body_of head_of
names_end all n c = record { names = []; events_are = refl; stand = tt }

pub names_more : (all : List TokenKind) → Build all production.NamesMore
unfolding body_of head_of
names_more all n (k, (m, _)) = record {
  names = n ∷ m.means.names;
  events_are = ap (λ x. on action.Name n ∷ x) (append-nil m.events ∙ m.means.events_are);
  stand = (k, m.means.stand);
}

pub waived_none : (all : List TokenKind) → Build all production.WaivedNone
unfolding body_of head_of
waived_none all n c = record { names = []; spells = none n refl; stand = tt }

pub waived_some : (all : List TokenKind) → Build all production.WaivedSome
unfolding body_of head_of
waived_some all n (w, (k, (m, _))) =
    let end = suc (suc n) + length m.tokens in
    record {
      names = suc n ∷ m.means.names;
      spells = some (suc n) end
          (ap (λ x. on action.OpenNames (suc n) ∷ on action.Name (suc n) ∷ (x ++ on action.Waived end ∷ [])) m.means.events_are);
      stand = (k, m.means.stand);
    }

pub after_none : (all : List TokenKind) → Build all production.AfterNone
unfolding body_of head_of
after_none all n c = record { names = []; spells = none n refl; stand = tt }

pub after_some : (all : List TokenKind) → Build all production.AfterSome
unfolding body_of head_of
after_some all n (w, (k, (m, _))) =
    let end = suc (suc n) + length m.tokens in
    record {
      names = suc n ∷ m.means.names;
      spells = some (suc n) end
          (ap (λ x. on action.OpenNames (suc n) ∷ on action.Name (suc n) ∷ (x ++ on action.After end ∷ [])) m.means.events_are);
      stand = (k, m.means.stand);
    }

-- DISPOSALS

pub disposed_now : (all : List TokenKind) → Build all production.DisposedNow
unfolding body_of head_of
disposed_now all n c = record { after = []; handle = None; spells = λ x. dispose n refl; stand = tt; handle_stands = tt }

pub disposed_later : (all : List TokenKind) → Build all production.DisposedLater
unfolding body_of head_of
disposed_later all n (a, (k, (m, (s, (h, _))))) =
    let end = suc (suc n) + length m.tokens in
    record {
      after = suc n ∷ m.means.names;
      handle = Some (suc end);
      spells = λ x. dispose_after (suc n) end (suc (suc end))
          (ap (λ y. on action.Name x ∷ on action.OpenNames (suc n) ∷ on action.Name (suc n)
          ∷ (y ++ on action.After end ∷ on action.Name (suc end) ∷ on action.DisposeAfterStatement (suc (suc end)) ∷ [])) m.means.events_are);
      stand = (k, m.means.stand);
      handle_stands = h;
    }

pub disposal_named : (all : List TokenKind) → Build all production.DisposalNamed
unfolding body_of head_of
disposal_named all n (k, (d, _)) = record {
  order = Dispose n d.means.after d.means.handle;
  spells = and_no_more (λ es. SpellsOrder (on action.Name n ∷ es) (Dispose n d.means.after d.means.handle)) d.events (d.means.spells n);
  no_block = refl;
  stands = (k, d.means.stand, d.means.handle_stands);
}

pub disposal_auto : (all : List TokenKind) → Build all production.DisposalAuto
unfolding body_of head_of
disposal_auto all n (a, (k, (s, (h, _)))) =
    let handle = suc (suc (suc n)) in
    record { order = DisposeAuto (suc n) handle; spells = dispose_auto (suc handle) refl; no_block = refl; stands = (k, h) }

-- COMPARISONS

pub test_equal : (all : List TokenKind) → Build all production.TestEqual
unfolding body_of head_of
test_equal all n (k, _) = record { at = n; test = token.Equal; events_are = refl; stands = k; is_test = tt }

pub test_not_equal : (all : List TokenKind) → Build all production.TestNotEqual
unfolding body_of head_of
test_not_equal all n (k, _) = record { at = n; test = token.NotEqual; events_are = refl; stands = k; is_test = tt }

pub test_less : (all : List TokenKind) → Build all production.TestLess
unfolding body_of head_of
test_less all n (k, _) = record { at = n; test = token.Less; events_are = refl; stands = k; is_test = tt }

pub test_less_equal : (all : List TokenKind) → Build all production.TestLessEqual
unfolding body_of head_of
test_less_equal all n (k, _) = record { at = n; test = token.LessEqual; events_are = refl; stands = k; is_test = tt }

pub test_greater : (all : List TokenKind) → Build all production.TestGreater
unfolding body_of head_of
test_greater all n (k, _) = record { at = n; test = token.Greater; events_are = refl; stands = k; is_test = tt }

pub test_greater_equal : (all : List TokenKind) → Build all production.TestGreaterEqual
unfolding body_of head_of
test_greater_equal all n (k, _) = record { at = n; test = token.GreaterEqual; events_are = refl; stands = k; is_test = tt }
