-- The tokens of a file: from left to right, the longest first.
use Rattle.std.specs.Prelude.{◌==◌, ℕ, Bool, true, false, ◌+◌, ◌-◌, max, zero, suc, List, [], ◌∷◌, ◌++◌, length, take, Option, Some, None, nat_eq, if◌then◌else◌, slice_range, ◌≡◌, map, slice_get, IsUtf8}
use Rattle.std.specs.List.{starts_with}
use Rattle.frame_grammar.specs.declared.token_kind.TokenKind.{TokenKind}
use Rattle.frame_grammar.specs.declared.token_kind.TokenKind.TheVariants.{Name, End, Bad}
use Rattle.kernel_text.specs.declared.token.Token.{Token}
use Rattle.kernel_text.specs.Words.{is_word, kind_of}

-- the greatest number up to n of first bytes that are a word, or 0 where there is none
unfoldable pub longest_up_to : ℕ → List ℕ → ℕ
longest_up_to zero bytes = 0
longest_up_to (suc n) bytes = if is_word (take (suc n) bytes) then suc n else longest_up_to n bytes

-- the number of bytes of the longest word that the bytes begin with
abbrev pub longest : List ℕ → ℕ
longest bytes = longest_up_to (length bytes) bytes

-- the number of bytes of what the bytes begin with: the longest word, else one byte
unfoldable pub front_len : List ℕ → ℕ
front_len bytes = max 1 (longest bytes)

-- the kind of the token that the bytes begin with: Bad where no word begins there, none for what stands between tokens
unfoldable pub front_kind : List ℕ → Option TokenKind
front_kind bytes = if longest bytes == 0 then Some Bad else kind_of (take (longest bytes) bytes)

-- the token that stands from a place on, if one does
abbrev pub token_at : Option TokenKind → (start end line : ℕ) → List Token
token_at None start end line = []
token_at (Some kind) start end line = record { kind = kind; start = start; end = end; line = line } ∷ []

-- the line after a byte of this line
abbrev pub line_after : ℕ → ℕ → ℕ
line_after byte line = if byte == 10 then line + 1 else line

-- The tokens from a place and a line on, where the first of these bytes, so many as the first number says, belong to a
-- word that began before them.
unfoldable pub tokens_from : (begun place line : ℕ) → List ℕ → List Token
tokens_from begun place line [] = token_at (Some End) place place line
tokens_from (suc begun) place line (byte ∷ bytes) = tokens_from begun (place + 1) line bytes
tokens_from zero place line (byte ∷ bytes) =
    token_at (front_kind (byte ∷ bytes)) place (place + front_len (byte ∷ bytes)) line
    ++ tokens_from (front_len (byte ∷ bytes) - 1) (place + 1) (line_after byte line) bytes

-- the length of the byte-order mark that a file begins with, if it does
abbrev pub mark_len : List ℕ → ℕ
mark_len source = if starts_with nat_eq source (0xEF ∷ 0xBB ∷ 0xBF ∷ []) then 3 else 0

-- the tokens of a file
unfoldable pub tokens_of : List ℕ → List Token
tokens_of source = tokens_from (mark_len source) 0 1 source

-- a byte that begins no token
abbrev pub is_bad : TokenKind → Bool
is_bad Bad = true
is_bad _ = false

-- an end at a place of a line
abbrev pub end_at : (place line : ℕ) → Token
end_at place line = record { kind = End; start = place; end = place; line = line }

-- the tokens up to the first Bad one, with it, and an end behind it; all of them where none is Bad
unfoldable pub up_to_bad : List Token → List Token
up_to_bad [] = []
up_to_bad (token ∷ tokens) = token ∷ (if is_bad token.kind then end_at token.end token.line ∷ [] else up_to_bad tokens)

-- the bytes of a token
abbrev pub text_of : List ℕ → Token → List ℕ
text_of source token = slice_range source token.start token.end

abbrev pub token_text : List ℕ → Option Token → List ℕ
token_text source None = []
token_text source (Some token) = text_of source token

-- the line of a token, or 0
abbrev pub token_line : Option Token → ℕ
token_line None = 0
token_line (Some token) = token.line

-- the kinds of tokens
abbrev pub kinds : List Token → List TokenKind
kinds tokens = map (λ token. token.kind) tokens

-- the bytes of each token that is a name are text
abbrev pub NamesAreText : List ℕ → List Token → Type 0
NamesAreText source tokens =
    (k : ℕ) (token : Token) → slice_get tokens k ≡ Some token → token.kind ≡ Name → IsUtf8 (text_of source token)
