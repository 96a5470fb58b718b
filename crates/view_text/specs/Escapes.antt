-- Texts in another language, in which each character stands for itself.
use Rattle.std.specs.Prelude.{ℕ, ◌==◌, List, codes, encode_utf8, flat_map, if◌then◌else◌}
use Rattle.std.specs.Str.{chars}
use Rattle.view_text.specs.declared.escaping.Language.{Language}
use Rattle.view_text.specs.declared.escaping.Language.TheVariants.{Dot, Html}

-- Graphviz escapes a quote (34) and a backslash (92) in a quoted text; a page an ampersand (38), a quote and a `<`
-- (60).
abbrev pub escape_of : Language → ℕ → List ℕ
escape_of Dot c = if c == 34 then codes "\\\"" else if c == 92 then codes "\\\\" else encode_utf8 c
escape_of Html c = if c == 38 then codes "&amp;" else if c == 34 then codes "&quot;" else if c == 60 then codes "&lt;"
    else encode_utf8 c

-- the bytes of a text whose characters are escaped where the language asks for it
abbrev pub escaped : Language → List ℕ → List ℕ
escaped language text = flat_map (escape_of language) (chars text)
