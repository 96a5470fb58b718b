-- By which production a nonterminal goes on before a token.
use Rattle.std.specs.Prelude.{Bool, List, [], ◌∷◌, Option, Some, None, if◌then◌else◌}
use Rattle.frame_grammar.specs.declared.token_kind.TokenKind.{TokenKind}
use Rattle.frame_grammar.specs.declared.symbols.Nonterminal.{Nonterminal}
use Rattle.frame_grammar.specs.declared.symbols.Production.{Production}
use Rattle.frame_grammar.specs.contracts.token_kind.TokenKind.{the_type}
use Rattle.grammar_table.specs.Table.{choices_of, default_of}
use denote.Enum.Bare.{sameb}

unfoldable pub same_kind : TokenKind → TokenKind → Bool
same_kind j k = sameb the_type j k

-- the first choice with this token
abbrev pub found : List (TokenKind × Production) → TokenKind → Option Production
found [] k = None
found (choice ∷ choices) k = if same_kind choice.0 k then Some choice.1 else found choices k

abbrev pub or_else : Option Production → Option Production → Option Production
or_else None other = other
or_else (Some p) other = Some p

abbrev pub predicted : Nonterminal → TokenKind → Option Production
predicted n k = or_else (found (choices_of n) k) (default_of n)
