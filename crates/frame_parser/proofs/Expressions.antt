-- An expression goes through all its levels, whatever token is ahead; what may follow at each of them mostly doesn't.
use Rattle.std.proofs.Common.{◌≡◌, ℕ, ◌<◌, Option, Some, None, false, Result, Ok, Err, IfOk, ◌∷◌, [], List, ◌++◌, refl, arith}
use Rattle.std.proofs.lemmas.Bool.{or_parts}
use denote.Enum.Bare.{sameb}
use Rattle.frame_grammar.specs.contracts.token_kind.TokenKind.{the_type as the_kind}
use Rattle.frame_grammar.specs.declared.token_kind.TokenKind.{TokenKind}
use Rattle.frame_grammar.specs.declared.token_kind.TokenKind.TheVariants as kind
use Rattle.frame_grammar.specs.declared.symbols.Nonterminal.TheVariants as nonterminal
use Rattle.frame_grammar.specs.declared.symbols.Production.TheVariants as production
use Rattle.frame_grammar.specs.declared.symbols.Action.TheVariants as action
use Rattle.frame_grammar.specs.declared.symbols.Symbol.{Symbol}
use Rattle.frame_grammar.specs.declared.symbols.Symbol.TheVariants as symbol
use Rattle.frame_grammar.specs.declared.symbols.Event.{Event}
use Rattle.grammar_table.specs.declared.stack_symbol.StackSymbol.TheVariants as waiting
use Rattle.frame_parser.specs.declared.operands.Expected.{Expected}
use Rattle.frame_grammar.specs.Bodies.{body_of}
use Rattle.grammar_table.specs.Table.{choices_of, default_of}
use Rattle.grammar_table.specs.Sets.{is_nullable_of, rank_of}
use Rattle.grammar_table.specs.Stack.{weight, Goes}
use Rattle.frame_parser.specs.Parser.{IsPart}
use Rattle.grammar_table.specs.Predict.{predicted, same_kind}
use Rattle.frame_parser.specs.Shortcuts.{begins_effect, multiplies, adds, compares, is_and_or, joins}
use Rattle.grammar_table.specs.StackSymbols.{after_term, symbols_of}
use Rattle.frame_parser.proofs.Takings.{leads_go, no_factor, no_term, no_comparison, no_and, no_or}
use Rattle.grammar_table.proofs.Steps.{leads_start, goes_on_by, smaller}

-- what an expression goes on by before any token: its first operand, and at each level what may follow there
abbrev pub expression_levels : List Symbol
expression_levels =
    symbol.Nonterminal nonterminal.Unary ∷ symbol.Nonterminal nonterminal.MoreTerm ∷ symbol.Nonterminal nonterminal.MoreSum
    ∷ symbol.Nonterminal nonterminal.Compared
    ∷ symbol.Nonterminal nonterminal.MoreAnd ∷ symbol.Nonterminal nonterminal.MoreOr ∷ []

levels_smaller : (ss : List Symbol) → weight (expression_levels ++ ss) < weight (symbol.Nonterminal nonterminal.Expression ∷ ss)
unfolding rank_of is_nullable_of
levels_smaller ss = omega arith

pub levels : (ahead : TokenKind) (place : ℕ) (done : List Event) (ss : List Symbol)
    → Goes ahead place done (symbol.Nonterminal nonterminal.Expression ∷ ss) done (expression_levels ++ ss)
unfolding body_of choices_of default_of
levels ahead place done ss =
    let ss0 = symbol.Nonterminal nonterminal.Expression ∷ ss in
    let behind_or = symbol.Nonterminal nonterminal.MoreOr ∷ ss in
    let behind_and = symbol.Nonterminal nonterminal.MoreAnd ∷ behind_or in
    let behind_compared = symbol.Nonterminal nonterminal.Compared ∷ behind_and in
    let behind_sum = symbol.Nonterminal nonterminal.MoreSum ∷ behind_compared in
    let both = goes_on_by ahead place done done ss0 ss nonterminal.Expression production.Expression (leads_start ahead place done ss0) refl in
    let comparison = goes_on_by ahead place done done ss0 behind_or nonterminal.Both production.Both both refl in
    let sum = goes_on_by ahead place done done ss0 behind_and nonterminal.Comparison production.Comparison comparison refl in
    let term = goes_on_by ahead place done done ss0 behind_compared nonterminal.Sum production.Sum sum refl in
    let led = goes_on_by ahead place done done ss0 behind_sum nonterminal.Term production.Term term refl in
    (led.reached, led.closed, levels_smaller ss)

-- a term goes on to its first factor and what may follow that
term_smaller : (ss : List Symbol) → weight (symbol.Nonterminal nonterminal.Unary ∷ symbol.Nonterminal nonterminal.MoreTerm ∷ ss) < weight
    (symbol.Nonterminal nonterminal.Term ∷ ss)
unfolding rank_of is_nullable_of
term_smaller ss = omega arith

pub term_begins : (ahead : TokenKind) (place : ℕ) (done : List Event) (ss : List Symbol) → Goes ahead place done (symbol.Nonterminal nonterminal.Term ∷ ss) done
    (symbol.Nonterminal nonterminal.Unary ∷ symbol.Nonterminal nonterminal.MoreTerm ∷ ss)
unfolding body_of choices_of default_of
term_begins ahead place done ss =
    let ss0 = symbol.Nonterminal nonterminal.Term ∷ ss in
    let led = goes_on_by ahead place done done ss0 ss nonterminal.Term production.Term (leads_start ahead place done ss0) refl in
    (led.reached, led.closed, term_smaller ss)

-- What follows at each level

goes_go : (ahead : TokenKind) (place : ℕ) (done : List Event) (ss ss' ss'' : List Symbol) → Goes ahead place done ss done ss'
    → Goes ahead place done ss' done ss'' → Goes ahead place done ss done ss''
goes_go ahead place done ss ss' ss'' first then = (
  λ start read at. then.0 start read (first.0 start read at),
  λ e. then.1 (first.1 e),
  omega (arith, first.2, then.2),
)

-- what may follow a sum, before these symbols
abbrev pub above_sum : List Symbol → List Symbol
above_sum ss = symbol.Nonterminal nonterminal.Compared ∷ symbol.Nonterminal nonterminal.MoreAnd ∷ symbol.Nonterminal nonterminal.MoreOr ∷ ss

factor_part : (part_taken : Option Expected) (ahead : TokenKind) (place : ℕ) (done : List Event) (ss : List Symbol) (done' : List Event) (ss' : List Symbol)
    → multiplies ahead ≡ false →
    IsPart part_taken ahead place after_term done ss done' ss' → IsPart part_taken ahead place (symbols_of waiting.AfterFactor) done ss done' ss'
factor_part (Some c) ahead place done ss done' ss' none part = (
  λ start read at. part.0 start read ((no_factor ahead place done (after_term ++ ss) none).0 start read at),
  λ e. part.1 ((no_factor ahead place done (after_term ++ ss) none).1 e),
)
factor_part None ahead place done ss done' ss' none part =
    let gone = no_factor ahead place done (after_term ++ ss) none in (
      λ start read at. part.0 start read (gone.0 start read at),
      λ e. part.1 (gone.1 e),
      omega (arith, gone.2, part.2),
    )

-- a factor that no operator of its term follows goes on as its term does
pub part_of_factor : {E : Type 0} (result : Result (Option Expected) E) (ahead : TokenKind) (place : ℕ) (done : List Event) (ss : List Symbol)
    (done' : List Event) (ss' : List Symbol) →
    multiplies ahead ≡ false → IfOk result (λ part_taken. IsPart part_taken ahead place after_term done ss done' ss') →
    IfOk result (λ part_taken. IsPart part_taken ahead place (symbols_of waiting.AfterFactor) done ss done' ss')
part_of_factor (Ok part_taken) ahead place done ss done' ss' none part = factor_part part_taken ahead place done ss done' ss' none part
part_of_factor (Err e) ahead place done ss done' ss' none part = part

not_and : (k : TokenKind) → is_and_or k ≡ false → sameb the_kind k kind.AndAnd ≡ false
not_and kind.AndAnd e = cc
not_and _ e = refl

not_or : (k : TokenKind) → is_and_or k ≡ false → sameb the_kind k kind.OrOr ≡ false
not_or kind.OrOr e = cc
not_or _ e = refl

-- no operator follows a term
pub nothing_follows : (k : TokenKind) (place : ℕ) (done : List Event) (ss : List Symbol) → adds k ≡ false → joins k ≡ false
    → Goes k place done (after_term ++ ss) done ss
nothing_follows k place done ss sum above =
    let apart = or_parts (compares k) (is_and_or k) above in
    let behind_and = symbol.Nonterminal nonterminal.MoreOr ∷ ss in
    let behind_compared = symbol.Nonterminal nonterminal.MoreAnd ∷ behind_and in
    let behind_sum = symbol.Nonterminal nonterminal.Compared ∷ behind_compared in
    goes_go k place done (after_term ++ ss) behind_sum ss (no_term k place done behind_sum sum)
    (goes_go k place done behind_sum behind_compared ss (no_comparison k place done behind_compared apart.0)
    (goes_go k place done behind_compared behind_and ss (no_and k place done behind_and (not_and k apart.1)) (no_or k place done ss (not_or k apart.1))))

-- What is assigned to a name is an expression before any token that begins no effect.
value_default : (k : TokenKind) → begins_effect k ≡ false → predicted nonterminal.Value k ≡ Some production.ValueExpression
unfolding choices_of default_of same_kind
value_default kind.TryAdd e = cc
value_default kind.Remove e = cc
value_default _ e = refl

pub assigned_expression : (k : TokenKind) (place : ℕ) (done : List Event) (ss : List Symbol) → begins_effect k ≡ false →
    Goes k place done (symbol.Nonterminal nonterminal.Value ∷ ss) done (expression_levels ++ symbol.Action action.SetName ∷ ss)
unfolding body_of
assigned_expression k place done ss e =
    let ss0 = symbol.Nonterminal nonterminal.Value ∷ ss in
    let named = symbol.Action action.SetName ∷ ss in
    let predicts = value_default k e in
    let step = levels k place done named in
    let led = leads_go k place done done done ss0 (symbol.Nonterminal nonterminal.Expression ∷ named) (expression_levels ++ named)
    (goes_on_by k place done done ss0 ss nonterminal.Value production.ValueExpression (leads_start k place done ss0) predicts) step in
    let less : weight (symbol.Nonterminal nonterminal.Expression ∷ named) < weight ss0 = smaller k nonterminal.Value production.ValueExpression ss predicts in
    (led.reached, led.closed, omega (arith, step.2, less))
