-- The comparison of a `when`.
use Rattle.std.specs.Prelude.{Option, None, Some}
use Rattle.frame_grammar.specs.declared.token_kind.TokenKind.{TokenKind}
use Rattle.frame_grammar.specs.declared.token_kind.TokenKind.TheVariants as token
use Rattle.kernel_text.specs.declared.token.Token.{Token}
use Rattle.frame_ast.specs.declared.script.Sign.{Sign}
use Rattle.frame_ast.specs.declared.script.Sign.TheVariants as sign

abbrev pub sign_of : TokenKind → Sign
sign_of token.NotEqual = sign.Ne
sign_of token.Less = sign.Lt
sign_of token.LessEqual = sign.Le
sign_of token.Greater = sign.Gt
sign_of token.GreaterEqual = sign.Ge
sign_of _ = sign.Eq

abbrev pub sign_in : Option Token → Sign
sign_in None = sign.Eq
sign_in (Some t) = sign_of t.kind
