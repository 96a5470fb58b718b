-- What a word of a file is: a token, or what stands between tokens.
use Rattle.std.specs.Prelude.{◌==◌, ℕ, ◌||◌, ◌&&◌, not, Bool, false, List, [], ◌∷◌, Option, Some, is_some, unwrap_or, nat_le, if◌then◌else◌}
use Rattle.std.specs.List.{list_all}
use Rattle.std.specs.Char.{is_ascii_digit, is_ascii_alphabetic, is_ascii_alphanumeric}
use Rattle.frame_grammar.specs.declared.token_kind.TokenKind.{TokenKind}
use Rattle.frame_grammar.specs.declared.token_kind.TokenKind.TheVariants.{Name, Number, Text, Line}
use Rattle.kernel_text.specs.Spellings.{spelled, symbols, reserved_words}

-- a letter or _
abbrev pub begins_name : ℕ → Bool
begins_name byte = is_ascii_alphabetic byte || (byte == 95)

-- a letter, a digit or _
abbrev pub continues_name : ℕ → Bool
continues_name byte = is_ascii_alphanumeric byte || (byte == 95)

-- a printable byte or a space, but no double quote
abbrev pub stands_in_text : ℕ → Bool
stands_in_text byte = (nat_le 32 byte && nat_le byte 126) && not (byte == 34)

-- no line feed
abbrev pub stays_in_line : ℕ → Bool
stays_in_line byte = not (byte == 10)

unfoldable pub is_name : List ℕ → Bool
is_name [] = false
is_name (first ∷ others) = begins_name first && list_all continues_name others

unfoldable pub is_number : List ℕ → Bool
is_number [] = false
is_number (first ∷ others) = is_ascii_digit first && list_all is_ascii_digit others

-- bytes of a text, and the quote that closes it
unfoldable pub closes_text : List ℕ → Bool
closes_text [] = false
closes_text (last ∷ []) = last == 34
closes_text (byte ∷ next ∷ others) = stands_in_text byte && closes_text (next ∷ others)

-- a quote, at least one byte, and a quote
unfoldable pub is_text : List ℕ → Bool
is_text [] = false
is_text (first ∷ []) = false
is_text (first ∷ second ∷ others) = ((first == 34) && stands_in_text second) && closes_text others

-- a space, a tab or a carriage return
unfoldable pub is_blank : List ℕ → Bool
is_blank [] = false
is_blank (byte ∷ []) = ((byte == 32) || (byte == 9)) || (byte == 13)
is_blank (byte ∷ next ∷ others) = false

-- # and bytes of any kind, but no line feed
unfoldable pub is_comment : List ℕ → Bool
is_comment [] = false
is_comment (first ∷ others) = (first == 35) && list_all stays_in_line others

-- the kind of the token that these bytes are, if they are one
unfoldable pub kind_of : List ℕ → Option TokenKind
kind_of word =
    if is_name word then Some (unwrap_or (spelled reserved_words word) Name)
    else (if is_number word then Some Number
    else (if is_text word then Some Text
    else spelled (Line ∷ symbols) word))

-- a token, or what stands between tokens
abbrev pub is_word : List ℕ → Bool
is_word word = (is_blank word || is_comment word) || is_some (kind_of word)
