-- What is to come behind a token that was taken.
use Rattle.std.specs.Prelude.{List, [], ◌∷◌, ◌++◌}
use Rattle.frame_parser.specs.declared.operands.Expected.{Expected}
use Rattle.frame_parser.specs.declared.operands.Expected.TheVariants as expected
use Rattle.frame_parser.specs.declared.operands.Side.{Side}
use Rattle.frame_parser.specs.declared.operands.Side.TheVariants as side
use Rattle.frame_grammar.specs.declared.symbols.Action.TheVariants as action
use Rattle.frame_grammar.specs.declared.symbols.Nonterminal.{Nonterminal}
use Rattle.frame_grammar.specs.declared.symbols.Nonterminal.TheVariants as nonterminal
use Rattle.frame_grammar.specs.declared.symbols.Symbol.{Symbol}
use Rattle.frame_grammar.specs.declared.symbols.Symbol.TheVariants as symbol
use Rattle.grammar_table.specs.declared.stack_symbol.StackSymbol.TheVariants as waiting
use Rattle.grammar_table.specs.StackSymbols.{symbols_of}

abbrev pub nonterminal_of : Expected → Nonterminal
nonterminal_of expected.Place = nonterminal.Place
nonterminal_of expected.Target = nonterminal.Target
nonterminal_of (expected.Side side.Factor) = nonterminal.Unary
nonterminal_of (expected.Side side.Term) = nonterminal.Term
nonterminal_of (expected.Side side.Expression) = nonterminal.Expression
nonterminal_of (expected.Side side.Value) = nonterminal.Value

-- the symbols that it is, the first one first
abbrev pub to_come : Expected → List Symbol
to_come c = symbols_of (waiting.LinedNonterminal (nonterminal_of c))

-- what waits behind the operand that a side begins with
abbrev pub behind_of : Side → List Symbol
behind_of side.Factor = []
behind_of side.Term = symbol.Nonterminal nonterminal.MoreTerm ∷ []
behind_of side.Expression = symbols_of waiting.AfterFactor
behind_of side.Value = symbols_of waiting.AfterFactor ++ symbol.Action action.SetName ∷ []
