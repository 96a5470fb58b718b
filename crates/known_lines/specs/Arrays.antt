-- What is to come in a line of `array` with values, behind each of its phrases.
use Rattle.std.specs.Prelude.{List, [], ◌∷◌}
use Rattle.frame_grammar.specs.declared.symbols.Action.TheVariants as action
use Rattle.frame_grammar.specs.declared.symbols.Nonterminal.TheVariants as nonterminal
use Rattle.frame_grammar.specs.declared.symbols.Symbol.{Symbol}
use Rattle.frame_grammar.specs.declared.symbols.Symbol.TheVariants as symbol

-- more values, if any, and the end of the line
abbrev pub more_values_on : List Symbol
more_values_on = symbol.Nonterminal nonterminal.MoreValues ∷ symbol.Action action.CloseValues
    ∷ symbol.Action action.ArrayStatement ∷ symbol.Nonterminal nonterminal.AfterItem ∷ []

-- the first value, which has to be there, and all of that
abbrev pub values_on : List Symbol
values_on = symbol.Nonterminal nonterminal.Signed ∷ more_values_on
