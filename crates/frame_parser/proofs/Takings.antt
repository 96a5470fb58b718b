-- What the parser's shortcuts do is what the table says.
use Rattle.std.proofs.Common.{◌≡◌, ℕ, ◌<◌, ◌≤◌, ◌&&◌, ◌⊎◌, ⊎_elim, Bool, true, false, ◌∷◌, [], List, ◌++◌, Option, Some, None, refl, sym, ◌∙◌, ap, subst, append_assoc, arith}
use Rattle.std.proofs.lemmas.Bool.{and_parts}
use denote.Enum.Bare.{sameb}
use Rattle.frame_grammar.specs.contracts.token_kind.TokenKind.{the_type as the_kind}
use Rattle.frame_grammar.specs.declared.token_kind.TokenKind.{TokenKind}
use Rattle.frame_grammar.specs.declared.token_kind.TokenKind.TheVariants as kind
use Rattle.frame_grammar.specs.declared.symbols.Nonterminal.{Nonterminal}
use Rattle.frame_grammar.specs.declared.symbols.Nonterminal.TheVariants as nonterminal
use Rattle.frame_grammar.specs.declared.symbols.Production.{Production}
use Rattle.frame_grammar.specs.declared.symbols.Production.TheVariants as production
use Rattle.frame_grammar.specs.declared.symbols.Action.TheVariants as action
use Rattle.frame_grammar.specs.declared.symbols.Symbol.{Symbol}
use Rattle.frame_grammar.specs.declared.symbols.Symbol.TheVariants as symbol
use Rattle.frame_grammar.specs.declared.symbols.Event.{Event}
use Rattle.frame_parser.specs.declared.operands.Expected.{Expected}
use Rattle.frame_parser.specs.Operands.{to_come}
use Rattle.frame_grammar.specs.Bodies.{body_of}
use Rattle.grammar_table.specs.Table.{choices_of, default_of}
use Rattle.grammar_table.specs.Predict.{predicted, same_kind}
use Rattle.grammar_table.specs.Stack.{Takes, Goes, weight}
use Rattle.frame_parser.specs.Parser.{IsPart}
use Rattle.frame_parser.specs.Shortcuts.{multiplies, adds, compares}
use Rattle.grammar_table.specs.StackSymbols.{symbols_of, is_lined, ends_line, takes_line}
use Rattle.grammar_table.specs.declared.stack_symbol.StackSymbol.{StackSymbol}
use Rattle.grammar_table.specs.declared.stack_symbol.StackSymbol.TheVariants as waiting
use Rattle.grammar_table.proofs.Steps.{Leads, leads_start, goes_on_by, acts, smaller}
use Rattle.grammar_table.proofs.Run.{shift}
use Rattle.grammar_table.proofs.Closes.{closes-terminal}

-- the token ahead is on top of the stack
pub takes : (ahead : TokenKind) (place : ℕ) (done0 done : List Event) (ss0 ss : List Symbol) → Leads ahead place done0 ss0 done (symbol.Terminal ahead ∷ ss)
    → Takes ahead place done0 ss0 done ss
takes ahead place done0 done ss0 ss leads = (
  λ start read at. shift start ahead place done read ss (leads.reached start read at),
  λ e. closes-terminal ahead ss (leads.closed e),
)

-- what was led to takes the token
pub leads_take : (ahead : TokenKind) (place : ℕ) (done0 done done' : List Event) (ss0 ss ss' : List Symbol) → Leads ahead place done0 ss0 done ss
    → Takes ahead place done ss done' ss' → Takes ahead place done0 ss0 done' ss'
leads_take ahead place done0 done done' ss0 ss ss' leads step = (
  λ start read at. step.0 start read (leads.reached start read at),
  λ e. step.1 (leads.closed e),
)

-- what was led to goes on
pub leads_go : (ahead : TokenKind) (place : ℕ) (done0 done done' : List Event) (ss0 ss ss' : List Symbol) → Leads ahead place done0 ss0 done ss
    → Goes ahead place done ss done' ss' → Leads ahead place done0 ss0 done' ss'
leads_go ahead place done0 done done' ss0 ss ss' leads step = record {
  reached = λ start read at. step.0 start read (leads.reached start read at);
  closed = λ e. step.1 (leads.closed e);
}

-- what was led to is a part of an expression, which takes the token or goes on
pub part_takes : (part_taken : Option Expected) (c : Expected) (ahead : TokenKind) (place : ℕ) (done0 done done' : List Event) (ss0 part ss ss' : List Symbol)
    → part_taken ≡ Some c →
    IsPart part_taken ahead place part done ss done' ss' → Leads ahead place done0 ss0 done (part ++ ss) → Takes ahead place done0 ss0 done' (to_come c ++ ss')
part_takes part_taken c ahead place done0 done done' ss0 part ss ss' e step leads =
    leads_take ahead place done0 done done' ss0 (part ++ ss) (to_come c ++ ss') leads (subst (λ o. IsPart o ahead place part done ss done' ss') e step)

pub part_goes : (part_taken : Option Expected) (ahead : TokenKind) (place : ℕ) (done0 done done' : List Event) (ss0 part ss ss' : List Symbol)
    → ((c : Expected) → part_taken ≡ Some c → ⊥) →
    IsPart part_taken ahead place part done ss done' ss' → Leads ahead place done0 ss0 done (part ++ ss) → Leads ahead place done0 ss0 done' ss'
part_goes (Some c) ahead place done0 done done' ss0 part ss ss' none step leads = absurd (none c refl)
part_goes None ahead place done0 done done' ss0 part ss ss' none step leads = leads_go ahead place done0 done done' ss0 (part ++ ss) ss' leads step

-- two events, one after the other
pub both : (done done' : List Event) (a b : Event) → done' ≡ done ++ a ∷ b ∷ [] → done' ≡ (done ++ a ∷ []) ++ b ∷ []
both done done' a b e = e ∙ sym (append_assoc done (a ∷ []) (b ∷ []))

-- the same in the words of whoever asks
pub told : (k k' : TokenKind) (place : ℕ) (done done1 done1' : List Event) (ss ss1 ss1' : List Symbol) → k ≡ k' → done1 ≡ done1' → ss1 ≡ ss1' →
    Takes k' place done ss done1' ss1' → Takes k place done ss done1 ss1
told k k' place done done1 done1' ss ss1 ss1' same same_events same_stack step =
    subst (λ x. Takes x place done ss done1 ss1) (sym same)
    (subst (λ x. Takes k' place done ss x ss1) (sym same_events)
    (subst (λ x. Takes k' place done ss done1' x) (sym same_stack) step))

pub told_going : (k : TokenKind) (place : ℕ) (done done1 done1' : List Event) (ss ss1 ss1' : List Symbol) → done1 ≡ done1' → ss1 ≡ ss1' →
    Goes k place done ss done1' ss1' → Goes k place done ss done1 ss1
told_going k place done done1 done1' ss ss1 ss1' same_events same_stack step =
    subst (λ x. Goes k place done ss x ss1) (sym same_events)
    (subst (λ x. Goes k place done ss done1' x) (sym same_stack) step)

-- The nonterminal goes on by a production that derives nothing.
pub leaves : (ahead : TokenKind) (place : ℕ) (done : List Event) (ss : List Symbol) (n : Nonterminal) (p : Production) → predicted n ahead ≡ Some p
    → body_of p ≡ [] →
    Goes ahead place done (symbol.Nonterminal n ∷ ss) done ss
leaves ahead place done ss n p e empty =
    let ss0 = symbol.Nonterminal n ∷ ss in
    let led = subst (λ body. Leads ahead place done ss0 done (body ++ ss)) empty
    (goes_on_by ahead place done done ss0 ss n p (leads_start ahead place done ss0) e) in
    let less = subst (λ body. weight (body ++ ss) < weight ss0) empty (smaller ahead n p ss e) in
    (led.reached, led.closed, less)

-- Line ends in kernels

pub line_end : (place : ℕ) (done : List Event) (ss : List Symbol) → Takes kind.Line place done (symbol.Nonterminal nonterminal.Lines ∷ ss) done
    (symbol.Nonterminal nonterminal.Lines ∷ ss)
unfolding body_of choices_of default_of same_kind
line_end place done ss =
    let ss0 = symbol.Nonterminal nonterminal.Lines ∷ ss in
    takes kind.Line place done done ss0 ss0
    (goes_on_by kind.Line place done done ss0 ss nonterminal.Lines production.LinesMore (leads_start kind.Line place done ss0) refl)

lines_end : (k : TokenKind) → sameb the_kind k kind.Line ≡ false → predicted nonterminal.Lines k ≡ Some production.LinesEnd
unfolding choices_of default_of same_kind
lines_end kind.Line e = cc
lines_end _ e = refl

pub no_line_end : (k : TokenKind) (place : ℕ) (done : List Event) (ss : List Symbol) → sameb the_kind k kind.Line ≡ false
    → Goes k place done (symbol.Nonterminal nonterminal.Lines ∷ ss) done ss
unfolding body_of
no_line_end k place done ss e = leaves k place done ss nonterminal.Lines production.LinesEnd (lines_end k e) refl

ends_line-is : (k : TokenKind) → ends_line k ≡ true → k ≡ kind.Line
ends_line-is kind.Line e = refl
ends_line-is _ e = cc

ends_line-not : (k : TokenKind) → ends_line k ≡ false → sameb the_kind k kind.Line ≡ false
ends_line-not kind.Line e = cc
ends_line-not _ e = refl

first_false : (b : Bool) → b && true ≡ false → b ≡ false
first_false true e = cc
first_false false e = refl

-- a line end before what waits behind line ends is taken
pub line_taken_before : (w : StackSymbol) (k : TokenKind) (place : ℕ) (done : List Event) (ss : List Symbol) → takes_line w k ≡ true
    → Takes k place done (symbols_of w ++ ss) done (symbols_of w ++ ss)
line_taken_before (waiting.LinedNonterminal n) k place done ss e =
    subst (λ x. Takes x place done (symbols_of (waiting.LinedNonterminal n) ++ ss) done (symbols_of (waiting.LinedNonterminal n) ++ ss))
    (sym (ends_line-is k (and_parts (ends_line k) true e).0))
    (line_end place done (symbol.Nonterminal n ∷ ss))
line_taken_before (waiting.LinedAction a) k place done ss e =
    subst (λ x. Takes x place done (symbols_of (waiting.LinedAction a) ++ ss) done (symbols_of (waiting.LinedAction a) ++ ss))
    (sym (ends_line-is k (and_parts (ends_line k) true e).0))
    (line_end place done (symbol.Action a ∷ ss))
line_taken_before (waiting.Terminal j) k place done ss e = let no = (and_parts (ends_line k) false e).1 in cc
line_taken_before (waiting.Nonterminal n) k place done ss e = let no = (and_parts (ends_line k) false e).1 in cc
line_taken_before (waiting.Action a) k place done ss e = let no = (and_parts (ends_line k) false e).1 in cc
line_taken_before waiting.AfterFactor k place done ss e = let no = (and_parts (ends_line k) false e).1 in cc
line_taken_before waiting.AfterTerm k place done ss e = let no = (and_parts (ends_line k) false e).1 in cc

-- what was led to, without line ends before it
pub record LeadsNearer (k : TokenKind) (place : ℕ) (done0 : List Event) (ss0 : List Symbol) (done : List Event) (ss ss' : List Symbol) : Type 0 where
  pub leads : Leads k place done0 ss0 done ss'
  pub nearer : weight ss' ≤ weight ss

-- any other token goes past the line ends
pub past_lines : (w one lined : StackSymbol) (s : Symbol) (k : TokenKind) (place : ℕ) (done0 done : List Event) (ss0 ss : List Symbol) → symbols_of one ≡ s ∷ []
    → symbols_of lined ≡ symbol.Nonterminal nonterminal.Lines ∷ s ∷ [] →
    is_lined lined ≡ true → (w ≡ one) ⊎ (w ≡ lined) → takes_line w k ≡ false → Leads k place done0 ss0 done (symbols_of w ++ ss)
    → LeadsNearer k place done0 ss0 done (symbols_of w ++ ss) (s ∷ ss)
past_lines w one lined s k place done0 done ss0 ss one_is lined_is has_lines which not_line leads =
    ⊎_elim
    (λ e.
    let whole : symbols_of w ++ ss ≡ s ∷ ss = ap (λ x. symbols_of x ++ ss) e ∙ ap (λ xs. xs ++ ss) one_is in
    record { leads = subst (Leads k place done0 ss0 done) whole leads; nearer = subst (λ xs. weight (s ∷ ss) ≤ weight xs) (sym whole) (omega arith) })
    (λ e.
    let whole : symbols_of w ++ ss ≡ symbol.Nonterminal nonterminal.Lines ∷ s ∷ ss = ap (λ x. symbols_of x ++ ss) e ∙ ap (λ xs. xs ++ ss) lined_is in
    let test : ends_line k && true ≡ false = ap (λ b. ends_line k && b) (sym (ap is_lined e ∙ has_lines)) ∙ not_line in
    let other = first_false (ends_line k) test in
    let step = no_line_end k place done (s ∷ ss) (ends_line-not k other) in
    record {
      leads = leads_go k place done0 done done ss0 (symbol.Nonterminal nonterminal.Lines ∷ s ∷ ss) (s ∷ ss)
          (subst (Leads k place done0 ss0 done) whole leads) step;
      nearer = subst (λ xs. weight (s ∷ ss) ≤ weight xs) (sym whole) (let less = step.2 in omega (arith, less));
    })
    which

-- Statements of kernels

pub assignment : (place : ℕ) (done : List Event) (ss : List Symbol) → Takes kind.Name place done (symbol.Nonterminal nonterminal.Statements ∷ ss)
    ((done ++ record { action = action.StartStatement; place = place } ∷ []) ++ record { action = action.Name; place = place } ∷ [])
    (symbol.Nonterminal nonterminal.Lines ∷ symbol.Nonterminal nonterminal.Target ∷ symbol.Terminal kind.Semicolon ∷ symbol.Nonterminal nonterminal.Lines
    ∷ symbol.Nonterminal nonterminal.Statements ∷ ss)
unfolding body_of choices_of default_of same_kind
assignment place done ss =
    let ss0 = symbol.Nonterminal nonterminal.Statements ∷ ss in
    let rest = symbol.Nonterminal nonterminal.Lines ∷ symbol.Nonterminal nonterminal.Target ∷ symbol.Terminal kind.Semicolon
    ∷ symbol.Nonterminal nonterminal.Lines ∷ ss0 in
    let started = done ++ record { action = action.StartStatement; place = place } ∷ [] in
    let more = goes_on_by kind.Name place done done ss0 ss nonterminal.Statements production.StatementsMore (leads_start kind.Name place done ss0) refl in
    let start = acts kind.Name place done done ss0 (symbol.Nonterminal nonterminal.KernelStatement ∷ ss0) action.StartStatement more in
    let body = goes_on_by kind.Name place done started ss0 ss0 nonterminal.KernelStatement production.NameStatement start refl in
    let noted = acts kind.Name place done started ss0 (symbol.Terminal kind.Name ∷ rest) action.Name body in
    takes kind.Name place done (started ++ record { action = action.Name; place = place } ∷ []) ss0 rest noted

pub assigned : (place : ℕ) (done : List Event) (ss : List Symbol) → Takes kind.Assign place done (symbol.Nonterminal nonterminal.Target ∷ ss) done
    (symbol.Nonterminal nonterminal.Lines ∷ symbol.Nonterminal nonterminal.Value ∷ ss)
unfolding body_of choices_of default_of same_kind
assigned place done ss =
    let ss0 = symbol.Nonterminal nonterminal.Target ∷ ss in
    takes kind.Assign place done done ss0 (symbol.Nonterminal nonterminal.Lines ∷ symbol.Nonterminal nonterminal.Value ∷ ss)
    (goes_on_by kind.Assign place done done ss0 ss nonterminal.Target production.TargetName (leads_start kind.Assign place done ss0) refl)

pub placed : (place : ℕ) (done : List Event) (ss : List Symbol) → Takes kind.OpenBracket place done (symbol.Nonterminal nonterminal.Target ∷ ss) done
    (symbol.Nonterminal nonterminal.Lines ∷ symbol.Nonterminal nonterminal.Expression ∷ symbol.Terminal kind.CloseBracket ∷ symbol.Nonterminal nonterminal.Lines
    ∷ symbol.Terminal kind.Assign ∷ symbol.Nonterminal nonterminal.Lines ∷ symbol.Nonterminal nonterminal.Expression ∷ symbol.Action action.SetPlace ∷ ss)
unfolding body_of choices_of default_of same_kind
placed place done ss =
    let ss0 = symbol.Nonterminal nonterminal.Target ∷ ss in
    let value = symbol.Terminal kind.Assign ∷ symbol.Nonterminal nonterminal.Lines ∷ symbol.Nonterminal nonterminal.Expression ∷ symbol.Action action.SetPlace
    ∷ ss in
    let rest = symbol.Nonterminal nonterminal.Lines ∷ symbol.Nonterminal nonterminal.Expression ∷ symbol.Terminal kind.CloseBracket
    ∷ symbol.Nonterminal nonterminal.Lines ∷ value in
    takes kind.OpenBracket place done done ss0 rest
    (goes_on_by kind.OpenBracket place done done ss0 ss nonterminal.Target production.TargetPlace (leads_start kind.OpenBracket place done ss0) refl)

-- Operands

pub number : (place : ℕ) (done : List Event) (ss : List Symbol) → Takes kind.Number place done (symbol.Nonterminal nonterminal.Unary ∷ ss)
    (done ++ record { action = action.Number; place = place } ∷ []) (symbol.Nonterminal nonterminal.Lines ∷ symbol.Action action.NumberAtom ∷ ss)
unfolding body_of choices_of default_of same_kind
number place done ss =
    let ss0 = symbol.Nonterminal nonterminal.Unary ∷ ss in
    let rest = symbol.Nonterminal nonterminal.Lines ∷ symbol.Action action.NumberAtom ∷ ss in
    let atom = goes_on_by kind.Number place done done ss0 ss nonterminal.Unary production.UnaryAtom (leads_start kind.Number place done ss0) refl in
    let body = goes_on_by kind.Number place done done ss0 ss nonterminal.Atom production.AtomNumber atom refl in
    let noted = acts kind.Number place done done ss0 (symbol.Terminal kind.Number ∷ rest) action.Number body in
    takes kind.Number place done (done ++ record { action = action.Number; place = place } ∷ []) ss0 rest noted

pub index : (place : ℕ) (done : List Event) (ss : List Symbol) → Takes kind.Index place done (symbol.Nonterminal nonterminal.Unary ∷ ss)
    (done ++ record { action = action.StartAtom; place = place } ∷ []) (symbol.Nonterminal nonterminal.Lines ∷ symbol.Action action.IndexAtom ∷ ss)
unfolding body_of choices_of default_of same_kind
index place done ss =
    let ss0 = symbol.Nonterminal nonterminal.Unary ∷ ss in
    let rest = symbol.Nonterminal nonterminal.Lines ∷ symbol.Action action.IndexAtom ∷ ss in
    let atom = goes_on_by kind.Index place done done ss0 ss nonterminal.Unary production.UnaryAtom (leads_start kind.Index place done ss0) refl in
    let body = goes_on_by kind.Index place done done ss0 ss nonterminal.Atom production.AtomIndex atom refl in
    let noted = acts kind.Index place done done ss0 (symbol.Terminal kind.Index ∷ rest) action.StartAtom body in
    takes kind.Index place done (done ++ record { action = action.StartAtom; place = place } ∷ []) ss0 rest noted

pub parens : (place : ℕ) (done : List Event) (ss : List Symbol) → Takes kind.OpenParen place done (symbol.Nonterminal nonterminal.Unary ∷ ss) done
    (symbol.Nonterminal nonterminal.Lines ∷ symbol.Nonterminal nonterminal.Expression ∷ symbol.Terminal kind.CloseParen ∷ symbol.Nonterminal nonterminal.Lines
    ∷ ss)
unfolding body_of choices_of default_of same_kind
parens place done ss =
    let ss0 = symbol.Nonterminal nonterminal.Unary ∷ ss in
    let rest = symbol.Nonterminal nonterminal.Lines ∷ symbol.Nonterminal nonterminal.Expression ∷ symbol.Terminal kind.CloseParen
    ∷ symbol.Nonterminal nonterminal.Lines ∷ ss in
    let atom = goes_on_by kind.OpenParen place done done ss0 ss nonterminal.Unary production.UnaryAtom (leads_start kind.OpenParen place done ss0) refl in
    takes kind.OpenParen place done done ss0 rest (goes_on_by kind.OpenParen place done done ss0 ss nonterminal.Atom production.AtomParens atom refl)

pub name : (place : ℕ) (done : List Event) (ss : List Symbol) → Takes kind.Name place done (symbol.Nonterminal nonterminal.Unary ∷ ss)
    ((done ++ record { action = action.StartAtom; place = place } ∷ []) ++ record { action = action.Name; place = place } ∷ [])
    (symbol.Nonterminal nonterminal.Lines ∷ symbol.Nonterminal nonterminal.Place ∷ ss)
unfolding body_of choices_of default_of same_kind
name place done ss =
    let ss0 = symbol.Nonterminal nonterminal.Unary ∷ ss in
    let rest = symbol.Nonterminal nonterminal.Lines ∷ symbol.Nonterminal nonterminal.Place ∷ ss in
    let started = done ++ record { action = action.StartAtom; place = place } ∷ [] in
    let atom = goes_on_by kind.Name place done done ss0 ss nonterminal.Unary production.UnaryAtom (leads_start kind.Name place done ss0) refl in
    let body = goes_on_by kind.Name place done done ss0 ss nonterminal.Atom production.AtomName atom refl in
    let start = acts kind.Name place done done ss0 (symbol.Action action.Name ∷ symbol.Terminal kind.Name ∷ rest) action.StartAtom body in
    let noted = acts kind.Name place done started ss0 (symbol.Terminal kind.Name ∷ rest) action.Name start in
    takes kind.Name place done (started ++ record { action = action.Name; place = place } ∷ []) ss0 rest noted

pub bracket : (place : ℕ) (done : List Event) (ss : List Symbol) → Takes kind.OpenBracket place done (symbol.Nonterminal nonterminal.Place ∷ ss) done
    (symbol.Nonterminal nonterminal.Lines ∷ symbol.Nonterminal nonterminal.Expression ∷ symbol.Terminal kind.CloseBracket ∷ symbol.Nonterminal nonterminal.Lines
    ∷ symbol.Action action.PlaceAtom ∷ ss)
unfolding body_of choices_of default_of same_kind
bracket place done ss =
    let ss0 = symbol.Nonterminal nonterminal.Place ∷ ss in
    let rest = symbol.Nonterminal nonterminal.Lines ∷ symbol.Nonterminal nonterminal.Expression ∷ symbol.Terminal kind.CloseBracket
    ∷ symbol.Nonterminal nonterminal.Lines ∷ symbol.Action action.PlaceAtom ∷ ss in
    takes kind.OpenBracket place done done ss0 rest
    (goes_on_by kind.OpenBracket place done done ss0 ss nonterminal.Place production.PlaceSome (leads_start kind.OpenBracket place done ss0) refl)

place_none : (k : TokenKind) → sameb the_kind k kind.OpenBracket ≡ false → predicted nonterminal.Place k ≡ Some production.PlaceNone
unfolding choices_of default_of same_kind
place_none kind.OpenBracket e = cc
place_none _ e = refl

pub no_bracket : (k : TokenKind) (place : ℕ) (done : List Event) (ss : List Symbol) → sameb the_kind k kind.OpenBracket ≡ false
    → Goes k place done (symbol.Nonterminal nonterminal.Place ∷ ss)
    (done ++ record { action = action.NameAtom; place = place } ∷ []) ss
unfolding body_of
no_bracket k place done ss e =
    let ss0 = symbol.Nonterminal nonterminal.Place ∷ ss in
    let none = place_none k e in
    let body = goes_on_by k place done done ss0 ss nonterminal.Place production.PlaceNone (leads_start k place done ss0) none in
    let noted = acts k place done done ss0 ss action.NameAtom body in
    let less : weight (symbol.Action action.NameAtom ∷ ss) < weight ss0 = smaller k nonterminal.Place production.PlaceNone ss none in
    (noted.reached, noted.closed, omega (arith, less))

-- What follows operands

-- the operator is noted, and taken
operator : (k : TokenKind) (place : ℕ) (done : List Event) (n : Nonterminal) (p : Production) (ss rest : List Symbol) → predicted n k ≡ Some p →
    body_of p ++ ss ≡ symbol.Action action.Operator ∷ symbol.Terminal k ∷ rest
    → Takes k place done (symbol.Nonterminal n ∷ ss) (done ++ record { action = action.Operator; place = place } ∷ []) rest
operator k place done n p ss rest e body =
    let ss0 = symbol.Nonterminal n ∷ ss in
    let led = subst (λ xs. Leads k place done ss0 done xs) body (goes_on_by k place done done ss0 ss n p (leads_start k place done ss0) e) in
    takes k place done (done ++ record { action = action.Operator; place = place } ∷ []) ss0 rest
    (acts k place done done ss0 (symbol.Terminal k ∷ rest) action.Operator led)

abbrev pub factor_ahead : List Symbol → List Symbol
factor_ahead ss = symbol.Nonterminal nonterminal.Lines ∷ symbol.Nonterminal nonterminal.Unary ∷ symbol.Action action.Binary
    ∷ symbol.Nonterminal nonterminal.MoreTerm ∷ ss

pub factor : (k : TokenKind) (place : ℕ) (done : List Event) (ss : List Symbol) → multiplies k ≡ true
    → Takes k place done (symbol.Nonterminal nonterminal.MoreTerm ∷ ss)
    (done ++ record { action = action.Operator; place = place } ∷ []) (factor_ahead ss)
unfolding body_of choices_of default_of same_kind
factor kind.Star place done ss e = operator kind.Star place done nonterminal.MoreTerm production.MoreTermTimes ss (factor_ahead ss) refl refl
factor kind.Slash place done ss e = operator kind.Slash place done nonterminal.MoreTerm production.MoreTermOver ss (factor_ahead ss) refl refl
factor kind.Percent place done ss e = operator kind.Percent place done nonterminal.MoreTerm production.MoreTermRemainder ss (factor_ahead ss) refl refl
factor _ place done ss e = cc

term_ends : (k : TokenKind) → multiplies k ≡ false → predicted nonterminal.MoreTerm k ≡ Some production.MoreTermEnd
unfolding choices_of default_of same_kind
term_ends kind.Star e = cc
term_ends kind.Slash e = cc
term_ends kind.Percent e = cc
term_ends _ e = refl

pub no_factor : (k : TokenKind) (place : ℕ) (done : List Event) (ss : List Symbol) → multiplies k ≡ false
    → Goes k place done (symbol.Nonterminal nonterminal.MoreTerm ∷ ss) done ss
unfolding body_of
no_factor k place done ss e = leaves k place done ss nonterminal.MoreTerm production.MoreTermEnd (term_ends k e) refl

abbrev pub term_ahead : List Symbol → List Symbol
term_ahead ss = symbol.Nonterminal nonterminal.Lines ∷ symbol.Nonterminal nonterminal.Term ∷ symbol.Action action.Binary
    ∷ symbol.Nonterminal nonterminal.MoreSum ∷ ss

pub term : (k : TokenKind) (place : ℕ) (done : List Event) (ss : List Symbol) → adds k ≡ true → Takes k place done (symbol.Nonterminal nonterminal.MoreSum ∷ ss)
    (done ++ record { action = action.Operator; place = place } ∷ []) (term_ahead ss)
unfolding body_of choices_of default_of same_kind
term kind.Plus place done ss e = operator kind.Plus place done nonterminal.MoreSum production.MoreSumPlus ss (term_ahead ss) refl refl
term kind.Minus place done ss e = operator kind.Minus place done nonterminal.MoreSum production.MoreSumMinus ss (term_ahead ss) refl refl
term _ place done ss e = cc

sum_ends : (k : TokenKind) → adds k ≡ false → predicted nonterminal.MoreSum k ≡ Some production.MoreSumEnd
unfolding choices_of default_of same_kind
sum_ends kind.Plus e = cc
sum_ends kind.Minus e = cc
sum_ends _ e = refl

pub no_term : (k : TokenKind) (place : ℕ) (done : List Event) (ss : List Symbol) → adds k ≡ false
    → Goes k place done (symbol.Nonterminal nonterminal.MoreSum ∷ ss) done ss
unfolding body_of
no_term k place done ss e = leaves k place done ss nonterminal.MoreSum production.MoreSumEnd (sum_ends k e) refl

compared_none : (k : TokenKind) → compares k ≡ false → predicted nonterminal.Compared k ≡ Some production.ComparedNone
unfolding choices_of default_of same_kind
compared_none kind.Equal e = cc
compared_none kind.NotEqual e = cc
compared_none kind.Less e = cc
compared_none kind.LessEqual e = cc
compared_none kind.Greater e = cc
compared_none kind.GreaterEqual e = cc
compared_none _ e = refl

pub no_comparison : (k : TokenKind) (place : ℕ) (done : List Event) (ss : List Symbol) → compares k ≡ false
    → Goes k place done (symbol.Nonterminal nonterminal.Compared ∷ ss) done ss
unfolding body_of
no_comparison k place done ss e = leaves k place done ss nonterminal.Compared production.ComparedNone (compared_none k e) refl

and_ends : (k : TokenKind) → sameb the_kind k kind.AndAnd ≡ false → predicted nonterminal.MoreAnd k ≡ Some production.MoreAndEnd
unfolding choices_of default_of same_kind
and_ends kind.AndAnd e = cc
and_ends _ e = refl

pub no_and : (k : TokenKind) (place : ℕ) (done : List Event) (ss : List Symbol) → sameb the_kind k kind.AndAnd ≡ false
    → Goes k place done (symbol.Nonterminal nonterminal.MoreAnd ∷ ss) done ss
unfolding body_of
no_and k place done ss e = leaves k place done ss nonterminal.MoreAnd production.MoreAndEnd (and_ends k e) refl

or_ends : (k : TokenKind) → sameb the_kind k kind.OrOr ≡ false → predicted nonterminal.MoreOr k ≡ Some production.MoreOrEnd
unfolding choices_of default_of same_kind
or_ends kind.OrOr e = cc
or_ends _ e = refl

pub no_or : (k : TokenKind) (place : ℕ) (done : List Event) (ss : List Symbol) → sameb the_kind k kind.OrOr ≡ false
    → Goes k place done (symbol.Nonterminal nonterminal.MoreOr ∷ ss) done ss
unfolding body_of
no_or k place done ss e = leaves k place done ss nonterminal.MoreOr production.MoreOrEnd (or_ends k e) refl

-- Values of arrays

pub value : (place : ℕ) (done : List Event) (ss : List Symbol) → Takes kind.Number place done (symbol.Nonterminal nonterminal.MoreValues ∷ ss)
    (done ++ record { action = action.Number; place = place } ∷ []) (symbol.Action action.PlainNumber ∷ symbol.Nonterminal nonterminal.MoreValues ∷ ss)
unfolding body_of choices_of default_of same_kind
value place done ss =
    let ss0 = symbol.Nonterminal nonterminal.MoreValues ∷ ss in
    let rest = symbol.Action action.PlainNumber ∷ ss0 in
    let signed = goes_on_by kind.Number place done done ss0 ss nonterminal.MoreValues production.MoreValuesSome (leads_start kind.Number place done ss0) refl in
    let body = goes_on_by kind.Number place done done ss0 ss0 nonterminal.Signed production.SignedPlain signed refl in
    let noted = acts kind.Number place done done ss0 (symbol.Terminal kind.Number ∷ rest) action.Number body in
    takes kind.Number place done (done ++ record { action = action.Number; place = place } ∷ []) ss0 rest noted

pub negative : (place : ℕ) (done : List Event) (ss : List Symbol) → Takes kind.Minus place done (symbol.Nonterminal nonterminal.MoreValues ∷ ss)
    (done ++ record { action = action.Operator; place = place } ∷ [])
    (symbol.Action action.Number ∷ symbol.Terminal kind.Number ∷ symbol.Action action.MinusNumber ∷ symbol.Nonterminal nonterminal.MoreValues ∷ ss)
unfolding body_of choices_of default_of same_kind
negative place done ss =
    let ss0 = symbol.Nonterminal nonterminal.MoreValues ∷ ss in
    let rest = symbol.Action action.Number ∷ symbol.Terminal kind.Number ∷ symbol.Action action.MinusNumber ∷ ss0 in
    let signed = goes_on_by kind.Minus place done done ss0 ss nonterminal.MoreValues production.MoreValuesSome (leads_start kind.Minus place done ss0) refl in
    let body = goes_on_by kind.Minus place done done ss0 ss0 nonterminal.Signed production.SignedMinus signed refl in
    let noted = acts kind.Minus place done done ss0 (symbol.Terminal kind.Minus ∷ rest) action.Operator body in
    takes kind.Minus place done (done ++ record { action = action.Operator; place = place } ∷ []) ss0 rest noted
