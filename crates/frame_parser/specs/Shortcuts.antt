-- Kinds of tokens that steps of the parser tell from each other.
use Rattle.std.specs.Prelude.{Bool, true, false, ◌||◌}
use Rattle.frame_grammar.specs.declared.token_kind.TokenKind.{TokenKind}
use Rattle.frame_grammar.specs.declared.token_kind.TokenKind.TheVariants.{Star, Slash, Percent, Plus, Minus, Equal, NotEqual, Less, LessEqual, Greater, GreaterEqual, AndAnd, OrOr, TryAdd, Remove, Temp, TempJob, Persistent}

-- * / %
abbrev pub multiplies : TokenKind → Bool
multiplies Star = true
multiplies Slash = true
multiplies Percent = true
multiplies _ = false

-- + -
abbrev pub adds : TokenKind → Bool
adds Plus = true
adds Minus = true
adds _ = false

-- == != < <= > >=
abbrev pub compares : TokenKind → Bool
compares Equal = true
compares NotEqual = true
compares Less = true
compares LessEqual = true
compares Greater = true
compares GreaterEqual = true
compares _ = false

-- && ||
abbrev pub is_and_or : TokenKind → Bool
is_and_or AndAnd = true
is_and_or OrOr = true
is_and_or _ = false

-- operators of the levels above a sum
abbrev pub joins : TokenKind → Bool
joins k = compares k || is_and_or k

-- try_add remove
abbrev pub begins_effect : TokenKind → Bool
begins_effect TryAdd = true
begins_effect Remove = true
begins_effect _ = false

-- temp tempjob persistent
abbrev pub tells_life : TokenKind → Bool
tells_life Temp = true
tells_life TempJob = true
tells_life Persistent = true
tells_life _ = false
