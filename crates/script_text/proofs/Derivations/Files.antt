-- A file is items: what its derivation means.
use Rattle.std.proofs.Common.{◌+◌, length, ◌≡◌, ℕ, inl, inr, Bool, true, false, List, [], ◌∷◌, ◌++◌, take, drop, refl, sym, ◌∙◌, ap, subst, append_assoc}
use Rattle.std.proofs.lemmas.List.{append-nil, take-append-drop}
use Rattle.frame_grammar.specs.declared.token_kind.TokenKind.{TokenKind}
use Rattle.frame_grammar.specs.declared.symbols.Nonterminal.TheVariants as nonterminal
use Rattle.frame_grammar.specs.declared.symbols.Production.TheVariants as production
use Rattle.frame_grammar.specs.declared.symbols.Symbol.TheVariants as symbol
use Rattle.frame_grammar.specs.declared.symbols.Action.TheVariants as action
use Rattle.frame_grammar.specs.declared.symbols.Event.{Event}
use Rattle.frame_grammar.specs.Grammar.{head_of, Derives}
use Rattle.frame_grammar.specs.Bodies.{body_of}
use Rattle.frame_grammar.specs.Sentences.{IsOnlySentence}
use Rattle.kernel_raw.specs.RawEvents.{on, IsKernel}
use Rattle.kernel_raw.proofs.Derived.Meanings.{is_kernel_up}
use Rattle.kernel_raw.proofs.Derived.Derivations.{kernel_derived}
use Rattle.script_text.specs.Places.{IsFile}
use Rattle.script_text.specs.Raw.{KernelForm, Nothing, Kernel, Single, Block}
use Rattle.script_text.specs.Events.{SpellsKernel, nothing, kernel, single, block}
use Rattle.script_text.proofs.Derivations.Trees.{tree_of}
use Rattle.script_text.proofs.Derivations.Chains.{Chained, chained, Builds}
use Rattle.script_text.proofs.Derivations.Meanings.{Means, StatementMeans, ItemsMeans}
use Rattle.script_text.proofs.Derivations.Clauses
use Rattle.script_text.proofs.Derivations.Clauses.{Build, and_no_more, last_no_more}
use Rattle.script_text.proofs.Derivations.Statements

form_of_kernel : {events : List Event} {m : ℕ} → IsKernel events m → KernelForm
form_of_kernel k = record { parallel = k.parallel; name = k.name; params = k.params; body = k.body }

spells_kernel : {events : List Event} {m : ℕ} (k : IsKernel events m) → SpellsKernel events (form_of_kernel k)
unfolding form_of_kernel
spells_kernel k = record {
  at = k.at;
  body_at = k.body_at;
  end_at = k.end_at;
  params = k.param_events;
  statements = k.statement_events;
  spelled = k.spelled;
  with_params = k.with_params;
  with_statements = k.with_statements;
}

-- a statement and the items behind it
first_item : {all : List TokenKind} {n : ℕ} {outside : Bool} {es rest : List Event} → StatementMeans all n es → ItemsMeans all outside rest →
    ItemsMeans all outside (on action.StartStatement n ∷ es ++ rest)
first_item {all} {n} {outside} {es} {rest} s more = elim s.said [
  | inl one ↦ record {
    items = Single n one.order more.items;
    spells = single es rest one.spells one.no_block more.spells refl;
    stand = ((s.first, s.first_stands), one.stands, more.stand);
  }
  | inr b ↦ record {
    items = Block n b.head b.inner more.items;
    spells = block b.end b.end_at b.heads b.inners rest b.spells b.closes b.spells_inner more.spells
        (ap (λ x. on action.StartStatement n ∷ (x ++ rest)) b.events_are
        ∙ ap (λ x. on action.StartStatement n ∷ x) (append_assoc b.heads (b.inners ++ on b.end b.end_at ∷ []) rest)
        ∙ ap (λ x. on action.StartStatement n ∷ (b.heads ++ x)) (append_assoc b.inners (on b.end b.end_at ∷ []) rest));
    stand = ((s.first, s.first_stands), b.stands, b.inner_stands, more.stand);
  }
]

no_items : (all : List TokenKind) (outside : Bool) → ItemsMeans all outside []
no_items all outside = record { items = Nothing; spells = nothing refl; stand = tt }

same_items : {all : List TokenKind} {outside : Bool} (es es' : List Event) → es ≡ es' → ItemsMeans all outside es → ItemsMeans all outside es'
same_items {all} {outside} es es' e m = subst (λ x. ItemsMeans all outside x) e m

-- INSIDE A BLOCK

lined_end : (all : List TokenKind) → Build all production.LinedEnd
unfolding body_of head_of
lined_end all n c = no_items all false

lined_line : (all : List TokenKind) → Build all production.LinedLine
unfolding body_of head_of
lined_line all n (t, (m, _)) = same_items m.events (m.events ++ []) (sym (append-nil m.events)) m.means

lined_statement : (all : List TokenKind) → Build all production.LinedStatement
unfolding body_of head_of
lined_statement all n (s, (t, (m, _))) =
    same_items (on action.StartStatement n ∷ s.events ++ m.events) (on action.StartStatement n ∷ s.events ++ (m.events ++ []))
    (ap (λ x. on action.StartStatement n ∷ x) (sym (last_no_more s.events m.events))) (first_item s.means m.means)

-- ITEMS

items_end : (all : List TokenKind) → Build all production.ItemsEnd
unfolding body_of head_of
items_end all n c = no_items all true

items_line : (all : List TokenKind) → Build all production.ItemsLine
unfolding body_of head_of
items_line all n (t, (m, _)) = same_items m.events (m.events ++ []) (sym (append-nil m.events)) m.means

items_kernel : (all : List TokenKind) → Build all production.ItemsKernel
unfolding body_of head_of
items_kernel all n (k, (m, _)) =
    let form = is_kernel_up (n + length k.tokens) (length all) k.events k.within (kernel_derived k.derives) in
    record {
      items = Kernel k.events (form_of_kernel form) m.means.items;
      spells = kernel m.events (spells_kernel form) m.means.spells (last_no_more k.events m.events);
      stand = (form, m.means.stand);
    }

items_statement : (all : List TokenKind) → Build all production.ItemsStatement
unfolding body_of head_of
items_statement all n (s, (m, _)) =
    same_items (on action.StartStatement n ∷ s.events ++ m.events) (on action.StartStatement n ∷ s.events ++ (m.events ++ []))
    (ap (λ x. on action.StartStatement n ∷ x) (sym (last_no_more s.events m.events))) (first_item s.means m.means)

after_item_end : (all : List TokenKind) → Build all production.AfterItemEnd
unfolding body_of head_of
after_item_end all n c = no_items all true

after_item_line : (all : List TokenKind) → Build all production.AfterItemLine
unfolding body_of head_of
after_item_line all n (t, (m, _)) = same_items m.events (m.events ++ []) (sym (append-nil m.events)) m.means

whole_file : (all : List TokenKind) → Build all production.File
unfolding body_of head_of
whole_file all n (m, (t, _)) = same_items m.events (m.events ++ []) (sym (append-nil m.events)) m.means

-- each production
builds : (all : List TokenKind) → Builds (Means all) all
unfolding head_of
builds all production.File n c = whole_file all n c
builds all production.ItemsEnd n c = items_end all n c
builds all production.ItemsLine n c = items_line all n c
builds all production.ItemsKernel n c = items_kernel all n c
builds all production.ItemsStatement n c = items_statement all n c
builds all production.AfterItemEnd n c = after_item_end all n c
builds all production.AfterItemLine n c = after_item_line all n c
builds all production.ArrayStatement n c = Statements.array_statement all n c
builds all production.ColumnStatement n c = Statements.column_statement all n c
builds all production.ListStatement n c = Statements.list_statement all n c
builds all production.ReferenceStatement n c = Statements.reference_statement all n c
builds all production.MapStatement n c = Statements.map_statement all n c
builds all production.StreamStatement n c = Statements.stream_statement all n c
builds all production.SliceStatement n c = Statements.slice_statement all n c
builds all production.ViewStatement n c = Statements.view_statement all n c
builds all production.CopyStatement n c = Statements.copy_statement all n c
builds all production.SetStatement n c = Statements.set_statement all n c
builds all production.AddToStatement n c = Statements.add_to_statement all n c
builds all production.PutStatement n c = Statements.put_statement all n c
builds all production.RemoveFromStatement n c = Statements.remove_from_statement all n c
builds all production.ClearOutStatement n c = Statements.clear_out_statement all n c
builds all production.SetCapacityStatement n c = Statements.set_capacity_statement all n c
builds all production.ScheduleStatement n c = Statements.schedule_statement all n c
builds all production.CombineStatement n c = Statements.combine_statement all n c
builds all production.CompleteStatement n c = Statements.complete_statement all n c
builds all production.DisposeStatement n c = Statements.dispose_statement all n c
builds all production.PrintStatement n c = Statements.print_statement all n c
builds all production.FlushStatement n c = Statements.flush_statement all n c
builds all production.FrameStatement n c = Statements.frame_statement all n c
builds all production.RepeatStatement n c = Statements.repeat_statement all n c
builds all production.WhenStatement n c = Statements.when_statement all n c
builds all production.LifeNone n c = Clauses.life_none all n c
builds all production.LifeTemp n c = Clauses.life_temp all n c
builds all production.LifeTempJob n c = Clauses.life_temp_job all n c
builds all production.LifePersistent n c = Clauses.life_persistent all n c
builds all production.SignedMinus n c = Clauses.signed_minus all n c
builds all production.SignedPlain n c = Clauses.signed_plain all n c
builds all production.MaybeSignedNone n c = Clauses.maybe_signed_none all n c
builds all production.MaybeSignedSome n c = Clauses.maybe_signed_some all n c
builds all production.ArrayValuesNone n c = Clauses.array_values_none all n c
builds all production.ArrayValuesSome n c = Clauses.array_values_some all n c
builds all production.MoreValuesEnd n c = Clauses.more_values_end all n c
builds all production.MoreValuesSome n c = Clauses.more_values_some all n c
builds all production.ReferenceValueNone n c = Clauses.reference_value_none all n c
builds all production.ReferenceValueSome n c = Clauses.reference_value_some all n c
builds all production.ArgumentsNone n c = Clauses.arguments_none all n c
builds all production.ArgumentsSome n c = Clauses.arguments_some all n c
builds all production.MoreArgumentsEnd n c = Clauses.more_arguments_end all n c
builds all production.MoreArgumentsSome n c = Clauses.more_arguments_some all n c
builds all production.ArgumentName n c = Clauses.argument_name all n c
builds all production.ArgumentSigned n c = Clauses.argument_signed all n c
builds all production.AutoNone n c = Clauses.auto_none all n c
builds all production.AutoSome n c = Clauses.auto_some all n c
builds all production.SizesNone n c = Clauses.sizes_none all n c
builds all production.SizesLength n c = Clauses.sizes_length all n c
builds all production.SizesDefer n c = Clauses.sizes_defer all n c
builds all production.WaivedNone n c = Clauses.waived_none all n c
builds all production.WaivedSome n c = Clauses.waived_some all n c
builds all production.AfterNone n c = Clauses.after_none all n c
builds all production.AfterSome n c = Clauses.after_some all n c
builds all production.NamesEnd n c = Clauses.names_end all n c
builds all production.NamesMore n c = Clauses.names_more all n c
builds all production.DisposalNamed n c = Clauses.disposal_named all n c
builds all production.DisposalAuto n c = Clauses.disposal_auto all n c
builds all production.DisposedNow n c = Clauses.disposed_now all n c
builds all production.DisposedLater n c = Clauses.disposed_later all n c
builds all production.TestEqual n c = Clauses.test_equal all n c
builds all production.TestNotEqual n c = Clauses.test_not_equal all n c
builds all production.TestLess n c = Clauses.test_less all n c
builds all production.TestLessEqual n c = Clauses.test_less_equal all n c
builds all production.TestGreater n c = Clauses.test_greater all n c
builds all production.TestGreaterEqual n c = Clauses.test_greater_equal all n c
builds all production.LinedEnd n c = lined_end all n c
builds all production.LinedLine n c = lined_line all n c
builds all production.LinedStatement n c = lined_statement all n c
builds all _ n c = tt

-- The events of a file spell items, and each place told is that of a token of its kind.
pub file_items : (all : List TokenKind) (events : List Event) → (rest ks : List TokenKind) → all ≡ ks ++ rest →
    Derives 0 events (symbol.Nonterminal nonterminal.File ∷ []) ks → ItemsMeans all true events
file_items all events rest ks whole d =
    let c : Chained (Means all) all 0 events (symbol.Nonterminal nonterminal.File ∷ []) = chained (Means all) all (builds all) (tree_of [] rest whole refl d) in
    same_items (c.chain.0.events) events (sym (append-nil c.chain.0.events) ∙ sym c.are) c.chain.0.means

pub sentence_items : (all : List TokenKind) (n : ℕ) (events : List Event) → IsOnlySentence nonterminal.File all n events → ItemsMeans all true events
sentence_items all n events found = file_items all events (drop n all) (take n all) (sym (take-append-drop n all)) found.sentence

pub is_file : (all : List TokenKind) (n : ℕ) (events : List Event) → IsOnlySentence nonterminal.File all n events → IsFile all events
is_file all n events found = let m = sentence_items all n events found in record { items = m.items; spells = m.spells; stand = m.stand }
