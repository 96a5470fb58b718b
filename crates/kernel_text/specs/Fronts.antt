-- What private functions of the lexer say of the first byte of a text.
use Rattle.std.specs.Prelude.{◌≢◌, ◌≡◌, ◌==◌, ◌&&◌, ◌+◌, ◌<◌, ◌≤◌, ℕ, Bool, false, List, [], ◌∷◌, length, drop, Some, unwrap_or, nat_le, if◌then◌else◌}
use Rattle.std.specs.List.{list_any}
use Rattle.std.specs.Char.{is_ascii_digit}
use Rattle.frame_grammar.specs.declared.token_kind.TokenKind.{TokenKind}
use Rattle.frame_grammar.specs.declared.token_kind.TokenKind.TheVariants.{Name, Number, Line, Bad}
use Rattle.kernel_text.specs.Spellings.{spelling_of, spelled, symbols, is_first_of}
use Rattle.kernel_text.specs.Words.{begins_name}
use Rattle.kernel_text.specs.Tokens.{front_kind, front_len, is_bad}

-- a byte that begins no name, number, text or comment, is not blank, and ends no line
pub record IsOther (byte : ℕ) : Type 0 where
  pub no_name : begins_name byte ≡ false
  pub no_digit : is_ascii_digit byte ≡ false
  pub no_quote : byte ≢ 34
  pub no_comment : byte ≢ 35
  pub no_space : byte ≢ 32
  pub no_tab : byte ≢ 9
  pub no_return : byte ≢ 13
  pub no_line : byte ≢ 10

-- whether a symbol of two bytes begins with this byte
unfoldable pub begins_pair : ℕ → Bool
begins_pair byte = list_any (λ kind. is_first_of byte kind && nat_le 2 (length (spelling_of kind))) symbols

-- the kind of the token that begins with this byte, where the byte alone tells it; else Bad
unfoldable pub kind_begun : ℕ → TokenKind
kind_begun byte =
    if begins_name byte then Name
    else (if is_ascii_digit byte then Number
    else (if byte == 10 then Line
    else (if begins_pair byte then Bad
    else unwrap_or (spelled symbols (byte ∷ [])) Bad)))

-- a token of this kind, other than Bad, stands from a place up to another
pub record IsTokenAt (source : List ℕ) (place : ℕ) (kind : TokenKind) (end : ℕ) : Type 0 where
  pub kind_is : Some kind ≡ front_kind (drop place source)
  pub end_is : end ≡ place + front_len (drop place source)
  pub some : place < end
  pub within : end ≤ length source
  pub fine : is_bad kind ≡ false
