-- Tokens in 32 bits, and what they are in a file.
use Rattle.std.specs.Prelude.{ℕ, ◌+◌, ◌/◌, ◌%◌, ◌<◌, Bool, true, false, List, [], ◌∷◌, length, drop, slice_get, unwrap_or}
use Rattle.frame_grammar.specs.declared.token_kind.TokenKind.{TokenKind}
use Rattle.frame_grammar.specs.declared.token_kind.TokenKind.TheVariants.{Name, Line, End}
use Rattle.kernel_text.specs.declared.token.Token.{Token}
use Rattle.kernel_text.specs.declared.mark.Mark.{Mark}
use Rattle.kernel_text.specs.declared.mark.TheConstants.{KINDS}
use Rattle.kernel_text.specs.Tokens.{front_len}

-- the kind of a number, which is its place among all kinds
unfoldable pub kind_numbered : ℕ → TokenKind
kind_numbered number = unwrap_or (slice_get KINDS number) Name

-- the kind of a token
abbrev pub kind_of : Mark → TokenKind
kind_of mark = kind_numbered (mark.word % 128)

-- it has the number of a kind, and no greater one, so that a token has one mark
abbrev pub IsOfKind : Mark → Type 0
IsOfKind mark = mark.word % 128 < length KINDS

-- the place of its first byte
abbrev pub start_of : Mark → ℕ
start_of mark = mark.word / 128

-- where a token of this kind ends: an end where it starts, any other behind what the file has there
abbrev pub end_in : List ℕ → TokenKind → ℕ → ℕ
end_in source End start = start
end_in source _ start = start + front_len (drop start source)

abbrev pub is_line : TokenKind → Bool
is_line Line = true
is_line _ = false

-- the line behind a token of this line
abbrev pub line_behind : TokenKind → ℕ → ℕ
line_behind Line line = line + 1
line_behind _ line = line

-- what a token is in a file, where it lies on this line
abbrev pub token_in : List ℕ → ℕ → Mark → Token
token_in source line mark =
    let kind = kind_of mark in
    let start = start_of mark in
    record { kind = kind; start = start; end = end_in source kind start; line = line }

-- what tokens are in a file, where the first of them lies on this line
abbrev pub tokens_in : List ℕ → ℕ → List Mark → List Token
tokens_in source line [] = []
tokens_in source line (mark ∷ marks) =
    token_in source line mark ∷ tokens_in source (line_behind (kind_of mark) line) marks

-- how many of these tokens are the end of a line
abbrev pub lines_in : List Mark → ℕ
lines_in [] = 0
lines_in (mark ∷ marks) = line_behind (kind_of mark) (lines_in marks)
