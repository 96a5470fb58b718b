-- What is to come in a line of `schedule`, behind each of its phrases.
use Rattle.std.specs.Prelude.{List, [], ◌∷◌}
use Rattle.frame_grammar.specs.declared.token_kind.TokenKind.TheVariants as kind
use Rattle.frame_grammar.specs.declared.symbols.Action.TheVariants as action
use Rattle.frame_grammar.specs.declared.symbols.Nonterminal.{Nonterminal}
use Rattle.frame_grammar.specs.declared.symbols.Nonterminal.TheVariants as nonterminal
use Rattle.frame_grammar.specs.declared.symbols.Symbol.{Symbol}
use Rattle.frame_grammar.specs.declared.symbols.Symbol.TheVariants as symbol

-- what stands behind the arguments
abbrev pub sizes_on : List Symbol
sizes_on = symbol.Nonterminal nonterminal.Sizes ∷ symbol.Nonterminal nonterminal.Waived
    ∷ symbol.Nonterminal nonterminal.AfterNames ∷ symbol.Action action.ScheduleStatement
    ∷ symbol.Nonterminal nonterminal.AfterItem ∷ []

-- arguments, all or more of them, and what stands behind them
abbrev pub within_arguments : Nonterminal → List Symbol
within_arguments n = symbol.Nonterminal n ∷ symbol.Action action.CloseArguments ∷ symbol.Terminal kind.CloseParen
    ∷ sizes_on

abbrev pub arguments_on : List Symbol
arguments_on = within_arguments nonterminal.Arguments

abbrev pub more_arguments_on : List Symbol
more_arguments_on = within_arguments nonterminal.MoreArguments

-- more jobs to wait for, and the end of the line
abbrev pub names_on : List Symbol
names_on = symbol.Nonterminal nonterminal.Names ∷ symbol.Action action.After ∷ symbol.Action action.ScheduleStatement
    ∷ symbol.Nonterminal nonterminal.AfterItem ∷ []
