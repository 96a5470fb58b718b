-- What waits on the parser's stack.
use Rattle.std.specs.Prelude.{Bool, true, false, ◌&&◌, List, [], ◌∷◌, ◌++◌, reverse}
use Rattle.frame_grammar.specs.declared.token_kind.TokenKind.{TokenKind}
use Rattle.frame_grammar.specs.declared.token_kind.TokenKind.TheVariants.{Line}
use Rattle.frame_grammar.specs.declared.symbols.Nonterminal.TheVariants.{Lines, MoreTerm, MoreSum, Compared, MoreAnd, MoreOr}
use Rattle.frame_grammar.specs.declared.symbols.Symbol.{Symbol}
use Rattle.frame_grammar.specs.declared.symbols.Symbol.TheVariants as symbol
use Rattle.grammar_table.specs.declared.stack_symbol.StackSymbol.{StackSymbol}
use Rattle.grammar_table.specs.declared.stack_symbol.StackSymbol.TheVariants as waiting

-- what may follow a term, at each level of an expression
abbrev pub after_term : List Symbol
after_term =
    symbol.Nonterminal MoreSum ∷ symbol.Nonterminal Compared ∷ symbol.Nonterminal MoreAnd ∷ symbol.Nonterminal MoreOr
    ∷ []

-- the symbols that it stands for, the first one first
abbrev pub symbols_of : StackSymbol → List Symbol
symbols_of (waiting.Terminal k) = symbol.Terminal k ∷ []
symbols_of (waiting.Nonterminal n) = symbol.Nonterminal n ∷ []
symbols_of (waiting.Action a) = symbol.Action a ∷ []
symbols_of (waiting.LinedNonterminal n) = symbol.Nonterminal Lines ∷ symbol.Nonterminal n ∷ []
symbols_of (waiting.LinedAction a) = symbol.Nonterminal Lines ∷ symbol.Action a ∷ []
symbols_of waiting.AfterFactor = symbol.Nonterminal MoreTerm ∷ after_term
symbols_of waiting.AfterTerm = after_term

-- line ends may stand before it
abbrev pub is_lined : StackSymbol → Bool
is_lined (waiting.LinedNonterminal n) = true
is_lined (waiting.LinedAction a) = true
is_lined _ = false

abbrev pub ends_line : TokenKind → Bool
ends_line Line = true
ends_line _ = false

-- the token ahead is a line end that stands before it
abbrev pub takes_line : StackSymbol → TokenKind → Bool
takes_line w k = ends_line k && is_lined w

-- a symbol that waits by itself
abbrev pub alone : Symbol → StackSymbol
alone (symbol.Terminal k) = waiting.Terminal k
alone (symbol.Nonterminal n) = waiting.Nonterminal n
alone (symbol.Action a) = waiting.Action a

abbrev pub all_symbols : List StackSymbol → List Symbol
all_symbols [] = []
all_symbols (w ∷ ws) = symbols_of w ++ all_symbols ws

-- the symbols on a stack from the top down; the last of what waits is on top
abbrev pub standing : List StackSymbol → List Symbol
standing stack = all_symbols (reverse stack)
