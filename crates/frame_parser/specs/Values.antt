-- Values of an array, which the parser takes one after another.
use Rattle.std.specs.Prelude.{◌≡◌, ◌≤◌, ℕ, Bool, true, false, List, [], ◌∷◌, ◌++◌, length, Option, Some, None, if◌then◌else◌}
use Rattle.frame_grammar.specs.declared.token_kind.TokenKind.{TokenKind}
use Rattle.frame_grammar.specs.declared.token_kind.TokenKind.TheVariants as kind
use Rattle.frame_parser.specs.declared.parser.Taken.{Taken}
use Rattle.frame_parser.specs.declared.parser.Taken.TheVariants as taken
use Rattle.frame_grammar.specs.declared.symbols.Action.{Action}
use Rattle.frame_grammar.specs.declared.symbols.Action.TheVariants as action
use Rattle.frame_grammar.specs.declared.symbols.Event.{Event}
use Rattle.frame_grammar.specs.declared.symbols.Nonterminal.{Nonterminal}
use Rattle.frame_grammar.specs.declared.symbols.Nonterminal.TheVariants.{MoreValues}
use Rattle.frame_grammar.specs.declared.symbols.Symbol.{Symbol}
use Rattle.frame_grammar.specs.declared.symbols.Symbol.TheVariants as symbol
use Rattle.frame_parser.specs.declared.values.Value.{Value}
use Rattle.grammar_table.specs.declared.stack_symbol.StackSymbol.{StackSymbol}
use Rattle.grammar_table.specs.declared.stack_symbol.StackSymbol.TheVariants as waiting
use Rattle.frame_parser.specs.declared.values.Value.TheVariants.{Sign, Plain, Negative}
use Rattle.frame_parser.specs.Operands.{to_come}
use Rattle.grammar_table.specs.Stack.{Between, Takes, Stops}

-- the value that is whole with an action
abbrev pub ended_by : Action → Option Value
ended_by action.PlainNumber = Some Plain
ended_by action.MinusNumber = Some Negative
ended_by _ = None

-- how far a value is read with the token behind one that is read so far, if the token is of a value
abbrev pub next_value : Value → TokenKind → Option Value
next_value Sign kind.Number = Some Negative
next_value Plain kind.Number = Some Plain
next_value Plain kind.Minus = Some Sign
next_value Negative kind.Number = Some Plain
next_value Negative kind.Minus = Some Sign
next_value _ _ = None

-- more values are what waits
abbrev pub are_values : Option StackSymbol → Bool
are_values (Some (waiting.Nonterminal MoreValues)) = true
are_values _ = false

-- the same behind a value that is whole with an action, where this waits
abbrev pub value_after : Option StackSymbol → Option Value → TokenKind → Option Value
value_after top None ahead = None
value_after top (Some value) ahead = if are_values top then next_value value ahead else None

-- what is still to come of a value that is read so far
abbrev pub rest_of : Value → List Symbol
rest_of Sign = symbol.Action action.Number ∷ symbol.Terminal kind.Number ∷ symbol.Action action.MinusNumber ∷ []
rest_of Plain = symbol.Action action.PlainNumber ∷ []
rest_of Negative = symbol.Action action.MinusNumber ∷ []

-- the same on top of the stack, above more values
abbrev pub in_values : Value → List Symbol → List Symbol
in_values value ss = rest_of value ++ symbol.Nonterminal MoreValues ∷ ss

-- the tokens from one place to another are of values, where one is read so far and in the end another
pub record TakesValues (tokens : List TokenKind) (place place' : ℕ) (value value' : Value)
    (done done' : List Event) : Type 0 where
  pub on : place ≤ place'
  pub within : place' ≤ length tokens
  pub between : (start : Nonterminal) (ss : List Symbol) → Between start tokens place done (in_values value ss) →
      Between start tokens place' done' (in_values value' ss)

-- what was done with the token ahead
abbrev pub IsTaken : Taken → TokenKind → ℕ → List Event → List Symbol → List Event → List Symbol → Type 0
IsTaken taken.None ahead place done ss done' ss' = Stops ahead place done ss
IsTaken taken.Token ahead place done ss done' ss' = Takes ahead place done ss done' ss'
IsTaken (taken.Before expected) ahead place done ss done' ss' =
    Takes ahead place done ss done' (to_come expected ++ ss')
IsTaken (taken.Value value) ahead place done ss done' ss' =
    (rest : List Symbol) × (ss' ≡ symbol.Nonterminal MoreValues ∷ rest)
    × Takes ahead place done ss done' (in_values value rest)
