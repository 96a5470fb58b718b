-- What the parser's steps for statements of a script do is what the table says.
use Rattle.std.proofs.Common.{◌≡◌, ℕ, ◌<◌, false, ◌∷◌, [], List, ◌++◌, drop, Some, refl, sym, subst, arith}
use denote.Enum.Bare.{sameb}
use Rattle.frame_grammar.specs.contracts.token_kind.TokenKind.{the_type as the_kind}
use Rattle.frame_grammar.specs.declared.token_kind.TokenKind.{TokenKind}
use Rattle.frame_grammar.specs.declared.token_kind.TokenKind.TheVariants as kind
use Rattle.frame_grammar.specs.declared.symbols.Nonterminal.TheVariants as nonterminal
use Rattle.frame_grammar.specs.declared.symbols.Production.{Production}
use Rattle.frame_grammar.specs.declared.symbols.Production.TheVariants as production
use Rattle.frame_grammar.specs.declared.symbols.Action.TheVariants as action
use Rattle.frame_grammar.specs.declared.symbols.Symbol.{Symbol}
use Rattle.frame_grammar.specs.declared.symbols.Symbol.TheVariants as symbol
use Rattle.frame_grammar.specs.declared.symbols.Event.{Event}
use Rattle.frame_grammar.specs.Bodies.{body_of}
use Rattle.grammar_table.specs.Table.{choices_of, default_of}
use Rattle.grammar_table.specs.Predict.{predicted, same_kind}
use Rattle.grammar_table.specs.Stack.{Takes, Goes, weight}
use Rattle.frame_parser.specs.Shortcuts.{tells_life}
use Rattle.grammar_table.proofs.Steps.{Leads, leads_start, goes_on_by, acts, smaller}
use Rattle.frame_parser.proofs.Takings.{takes, leaves}

same_some : {p q : Production} → Some p ≡ Some q → p ≡ q
same_some e = cc

-- a statement's production begins with the token by which it is found
begins : (k : TokenKind) (p q : Production) → Some p ≡ Some q → body_of p ≡ symbol.Terminal k ∷ drop 1 (body_of p)
    → body_of q ≡ symbol.Terminal k ∷ drop 1 (body_of q)
begins k p q e is = subst (λ r. body_of r ≡ symbol.Terminal k ∷ drop 1 (body_of r)) (same_some e) is

pub statement_begins : (k : TokenKind) (p : Production) → predicted nonterminal.Statement k ≡ Some p → body_of p ≡ symbol.Terminal k ∷ drop 1 (body_of p)
unfolding body_of choices_of default_of same_kind
statement_begins kind.Array p e = begins kind.Array production.ArrayStatement p e refl
statement_begins kind.Column p e = begins kind.Column production.ColumnStatement p e refl
statement_begins kind.List p e = begins kind.List production.ListStatement p e refl
statement_begins kind.Reference p e = begins kind.Reference production.ReferenceStatement p e refl
statement_begins kind.Map p e = begins kind.Map production.MapStatement p e refl
statement_begins kind.Stream p e = begins kind.Stream production.StreamStatement p e refl
statement_begins kind.Slice p e = begins kind.Slice production.SliceStatement p e refl
statement_begins kind.View p e = begins kind.View production.ViewStatement p e refl
statement_begins kind.Copy p e = begins kind.Copy production.CopyStatement p e refl
statement_begins kind.Set p e = begins kind.Set production.SetStatement p e refl
statement_begins kind.Add p e = begins kind.Add production.AddToStatement p e refl
statement_begins kind.Put p e = begins kind.Put production.PutStatement p e refl
statement_begins kind.Remove p e = begins kind.Remove production.RemoveFromStatement p e refl
statement_begins kind.Clear p e = begins kind.Clear production.ClearOutStatement p e refl
statement_begins kind.SetCapacity p e = begins kind.SetCapacity production.SetCapacityStatement p e refl
statement_begins kind.Schedule p e = begins kind.Schedule production.ScheduleStatement p e refl
statement_begins kind.Combine p e = begins kind.Combine production.CombineStatement p e refl
statement_begins kind.Complete p e = begins kind.Complete production.CompleteStatement p e refl
statement_begins kind.Dispose p e = begins kind.Dispose production.DisposeStatement p e refl
statement_begins kind.Print p e = begins kind.Print production.PrintStatement p e refl
statement_begins kind.Flush p e = begins kind.Flush production.FlushStatement p e refl
statement_begins kind.Frame p e = begins kind.Frame production.FrameStatement p e refl
statement_begins kind.Repeat p e = begins kind.Repeat production.RepeatStatement p e refl
statement_begins kind.When p e = begins kind.When production.WhenStatement p e refl
statement_begins _ p e = cc

-- it is an item then
statement_is_item : (k : TokenKind) (p : Production) → predicted nonterminal.Statement k ≡ Some p
    → predicted nonterminal.Items k ≡ Some production.ItemsStatement
unfolding choices_of default_of same_kind
statement_is_item kind.Array p e = refl
statement_is_item kind.Column p e = refl
statement_is_item kind.List p e = refl
statement_is_item kind.Reference p e = refl
statement_is_item kind.Map p e = refl
statement_is_item kind.Stream p e = refl
statement_is_item kind.Slice p e = refl
statement_is_item kind.View p e = refl
statement_is_item kind.Copy p e = refl
statement_is_item kind.Set p e = refl
statement_is_item kind.Add p e = refl
statement_is_item kind.Put p e = refl
statement_is_item kind.Remove p e = refl
statement_is_item kind.Clear p e = refl
statement_is_item kind.SetCapacity p e = refl
statement_is_item kind.Schedule p e = refl
statement_is_item kind.Combine p e = refl
statement_is_item kind.Complete p e = refl
statement_is_item kind.Dispose p e = refl
statement_is_item kind.Print p e = refl
statement_is_item kind.Flush p e = refl
statement_is_item kind.Frame p e = refl
statement_is_item kind.Repeat p e = refl
statement_is_item kind.When p e = refl
statement_is_item _ p e = cc

statement_led : (k : TokenKind) (p : Production) (place : ℕ) (done0 done : List Event) (ss0 ss rest : List Symbol)
    → predicted nonterminal.Statement k ≡ Some p →
    Leads k place done0 ss0 done (symbol.Nonterminal nonterminal.Statement ∷ ss) → rest ≡ drop 1 (body_of p) ++ ss → Takes k place done0 ss0 done rest
statement_led k p place done0 done ss0 ss rest e led is =
    let body = goes_on_by k place done0 done ss0 ss nonterminal.Statement p led e in
    let first = subst (λ xs. Leads k place done0 ss0 done (xs ++ ss)) (statement_begins k p e) body in
    subst (λ xs. Takes k place done0 ss0 done xs) (sym is) (takes k place done0 done ss0 (drop 1 (body_of p) ++ ss) first)

pub statement_taken : (k : TokenKind) (p : Production) (place : ℕ) (done : List Event) (ss rest : List Symbol) → predicted nonterminal.Statement k ≡ Some p
    → rest ≡ drop 1 (body_of p) ++ ss →
    Takes k place done (symbol.Nonterminal nonterminal.Statement ∷ ss) done rest
statement_taken k p place done ss rest e is =
    let ss0 = symbol.Nonterminal nonterminal.Statement ∷ ss in
    statement_led k p place done done ss0 ss rest e (leads_start k place done ss0) is

pub item_taken : (k : TokenKind) (p : Production) (place : ℕ) (done : List Event) (ss rest : List Symbol) → predicted nonterminal.Statement k ≡ Some p →
    rest ≡ drop 1 (body_of p) ++ symbol.Nonterminal nonterminal.AfterItem ∷ ss →
    Takes k place done (symbol.Nonterminal nonterminal.Items ∷ ss) (done ++ record { action = action.StartStatement; place = place } ∷ []) rest
unfolding body_of
item_taken k p place done ss rest e is =
    let ss0 = symbol.Nonterminal nonterminal.Items ∷ ss in
    let after = symbol.Nonterminal nonterminal.AfterItem ∷ ss in
    let body = goes_on_by k place done done ss0 ss nonterminal.Items production.ItemsStatement (leads_start k place done ss0) (statement_is_item k p e) in
    let started = acts k place done done ss0 (symbol.Nonterminal nonterminal.Statement ∷ after) action.StartStatement body in
    statement_led k p place done (done ++ record { action = action.StartStatement; place = place } ∷ []) ss0 after rest e started is

-- Line ends between items

pub line_after_item : (place : ℕ) (done : List Event) (ss : List Symbol) → Takes kind.Line place done (symbol.Nonterminal nonterminal.AfterItem ∷ ss) done
    (symbol.Nonterminal nonterminal.Items ∷ ss)
unfolding body_of choices_of default_of same_kind
line_after_item place done ss =
    let ss0 = symbol.Nonterminal nonterminal.AfterItem ∷ ss in
    takes kind.Line place done done ss0 (symbol.Nonterminal nonterminal.Items ∷ ss)
    (goes_on_by kind.Line place done done ss0 ss nonterminal.AfterItem production.AfterItemLine (leads_start kind.Line place done ss0) refl)

items_end : (k : TokenKind) → sameb the_kind k kind.Line ≡ false → predicted nonterminal.AfterItem k ≡ Some production.AfterItemEnd
unfolding choices_of default_of same_kind
items_end kind.Line e = cc
items_end _ e = refl

pub no_item : (k : TokenKind) (place : ℕ) (done : List Event) (ss : List Symbol) → sameb the_kind k kind.Line ≡ false
    → Goes k place done (symbol.Nonterminal nonterminal.AfterItem ∷ ss) done ss
unfolding body_of
no_item k place done ss e = leaves k place done ss nonterminal.AfterItem production.AfterItemEnd (items_end k e) refl

-- Signed numbers

pub plain : (place : ℕ) (done : List Event) (ss : List Symbol) → Takes kind.Number place done (symbol.Nonterminal nonterminal.Signed ∷ ss)
    (done ++ record { action = action.Number; place = place } ∷ []) (symbol.Action action.PlainNumber ∷ ss)
unfolding body_of choices_of default_of same_kind
plain place done ss =
    let ss0 = symbol.Nonterminal nonterminal.Signed ∷ ss in
    let rest = symbol.Action action.PlainNumber ∷ ss in
    let body = goes_on_by kind.Number place done done ss0 ss nonterminal.Signed production.SignedPlain (leads_start kind.Number place done ss0) refl in
    let noted = acts kind.Number place done done ss0 (symbol.Terminal kind.Number ∷ rest) action.Number body in
    takes kind.Number place done (done ++ record { action = action.Number; place = place } ∷ []) ss0 rest noted

pub minus : (place : ℕ) (done : List Event) (ss : List Symbol) → Takes kind.Minus place done (symbol.Nonterminal nonterminal.Signed ∷ ss)
    (done ++ record { action = action.Operator; place = place } ∷ []) (symbol.Action action.Number ∷ symbol.Terminal kind.Number
    ∷ symbol.Action action.MinusNumber ∷ ss)
unfolding body_of choices_of default_of same_kind
minus place done ss =
    let ss0 = symbol.Nonterminal nonterminal.Signed ∷ ss in
    let rest = symbol.Action action.Number ∷ symbol.Terminal kind.Number ∷ symbol.Action action.MinusNumber ∷ ss in
    let body = goes_on_by kind.Minus place done done ss0 ss nonterminal.Signed production.SignedMinus (leads_start kind.Minus place done ss0) refl in
    let noted = acts kind.Minus place done done ss0 (symbol.Terminal kind.Minus ∷ rest) action.Operator body in
    takes kind.Minus place done (done ++ record { action = action.Operator; place = place } ∷ []) ss0 rest noted

pub maybe_plain : (place : ℕ) (done : List Event) (ss : List Symbol) → Takes kind.Number place done (symbol.Nonterminal nonterminal.MaybeSigned ∷ ss)
    (done ++ record { action = action.Number; place = place } ∷ []) (symbol.Action action.PlainNumber ∷ ss)
unfolding body_of choices_of default_of same_kind
maybe_plain place done ss =
    let ss0 = symbol.Nonterminal nonterminal.MaybeSigned ∷ ss in
    let rest = symbol.Action action.PlainNumber ∷ ss in
    let some = goes_on_by kind.Number place done done ss0 ss nonterminal.MaybeSigned production.MaybeSignedSome (leads_start kind.Number place done ss0) refl in
    let body = goes_on_by kind.Number place done done ss0 ss nonterminal.Signed production.SignedPlain some refl in
    let noted = acts kind.Number place done done ss0 (symbol.Terminal kind.Number ∷ rest) action.Number body in
    takes kind.Number place done (done ++ record { action = action.Number; place = place } ∷ []) ss0 rest noted

-- Parts that are left out

life_none : (k : TokenKind) → tells_life k ≡ false → predicted nonterminal.Life k ≡ Some production.LifeNone
unfolding choices_of default_of same_kind
life_none kind.Temp e = cc
life_none kind.TempJob e = cc
life_none kind.Persistent e = cc
life_none _ e = refl

pub no_life : (k : TokenKind) (place : ℕ) (done : List Event) (ss : List Symbol) → tells_life k ≡ false
    → Goes k place done (symbol.Nonterminal nonterminal.Life ∷ ss)
    (done ++ record { action = action.LifeNone; place = place } ∷ []) ss
unfolding body_of
no_life k place done ss e =
    let ss0 = symbol.Nonterminal nonterminal.Life ∷ ss in
    let none = life_none k e in
    let body = goes_on_by k place done done ss0 ss nonterminal.Life production.LifeNone (leads_start k place done ss0) none in
    let noted = acts k place done done ss0 ss action.LifeNone body in
    let less : weight (symbol.Action action.LifeNone ∷ ss) < weight ss0 = smaller k nonterminal.Life production.LifeNone ss none in
    (noted.reached, noted.closed, omega (arith, less))

values_none : (k : TokenKind) → sameb the_kind k kind.Assign ≡ false → predicted nonterminal.ArrayValues k ≡ Some production.ArrayValuesNone
unfolding choices_of default_of same_kind
values_none kind.Assign e = cc
values_none _ e = refl

pub no_values : (k : TokenKind) (place : ℕ) (done : List Event) (ss : List Symbol) → sameb the_kind k kind.Assign ≡ false
    → Goes k place done (symbol.Nonterminal nonterminal.ArrayValues ∷ ss)
    (done ++ record { action = action.NoValues; place = place } ∷ []) ss
unfolding body_of
no_values k place done ss e =
    let ss0 = symbol.Nonterminal nonterminal.ArrayValues ∷ ss in
    let none = values_none k e in
    let body = goes_on_by k place done done ss0 ss nonterminal.ArrayValues production.ArrayValuesNone (leads_start k place done ss0) none in
    let noted = acts k place done done ss0 ss action.NoValues body in
    let less : weight (symbol.Action action.NoValues ∷ ss) < weight ss0 = smaller k nonterminal.ArrayValues production.ArrayValuesNone ss none in
    (noted.reached, noted.closed, omega (arith, less))
