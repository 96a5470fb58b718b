-- What a text with escapes stands for, byte for byte.
use Rattle.std.specs.Prelude.{◌==◌, ℕ, ◌+◌, ◌*◌, ◌/◌, ◌%◌, List, [], ◌∷◌, ◌++◌, Option, Some, None, if◌then◌else◌}
use Rattle.row_texts.specs.declared.escapes.Begun.{Begun}
use Rattle.row_texts.specs.declared.escapes.Begun.TheVariants.{Nothing, Backslash, Hex, Digit}

-- the value of a hexadecimal digit
abbrev pub digit : ℕ → ℕ
digit byte = (byte % 16 + byte / 64 * 9) % 16

-- what a letter after a backslash stands for
abbrev pub letter_of : ℕ → ℕ
letter_of byte = if byte == 110 then 10 else (if byte == 114 then 13 else (if byte == 116 then 9 else byte))

-- what of an escape has begun after a byte
abbrev pub after : Begun → ℕ → Begun
after Nothing byte = if byte == 92 then Backslash else Nothing
after Backslash byte = if byte == 120 then Hex else Nothing
after Hex byte = Digit (digit byte)
after (Digit high) byte = Nothing

-- the byte that ends with this one, if one does
abbrev pub byte_of : Begun → ℕ → Option ℕ
byte_of Nothing byte = if byte == 92 then None else Some byte
byte_of Backslash byte = if byte == 120 then None else Some (letter_of byte)
byte_of Hex byte = None
byte_of (Digit high) byte = Some (high % 16 * 16 + digit byte)

abbrev pub none_or_one : Option ℕ → List ℕ
none_or_one None = []
none_or_one (Some byte) = byte ∷ []

-- the bytes of what follows, where so much of an escape stands before it
abbrev pub read_from : Begun → List ℕ → List ℕ
read_from begun [] = []
read_from begun (byte ∷ others) = none_or_one (byte_of begun byte) ++ read_from (after begun byte) others

abbrev pub unescaped : List ℕ → List ℕ
unescaped text = read_from Nothing text
