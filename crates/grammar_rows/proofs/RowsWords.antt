-- How tokens are spelled.
use Rattle.std.proofs.Common.{◌≡◌, [], ◌∷◌, map, refl}
use Rattle.frame_grammar.specs.declared.token_kind.TokenKind.TheVariants.{Name, Number, Text, Bad, OpenBrace, CloseBrace, OpenParen, CloseParen, OpenBracket, CloseBracket, Comma, Semicolon, Colon, Assign, Equal, NotEqual, Less, LessEqual, Greater, GreaterEqual, Plus, Minus, Star, Slash, Percent, Not, AndAnd, OrOr, DotDot, Job, Parallel, Ro, Wo, Rw, Int, Array, List as ListWord, Ref, Map, Stream, By, Var, If, Else, For, In, While, Begin, Write, Add, Remove, Clear, TryAdd, Len, Has, Count, At, Index, Column, Reference, Slice, View, Copy, Set, Put, SetCapacity, Schedule, Waive, After, Combine, Complete, Dispose, As, Print, Flush, Repeat, Frame, Temp, TempJob, Persistent, Defer, Auto, When}
use Rattle.grammar_rows.proofs.Marks.{said, quoted, tables}

-- { } ( ) [ ] , ; : = == != < <= > >= + - * / % ! && || ..
symbols :
    map said ("{" ∷ "}" ∷ "(" ∷ ")" ∷ "[" ∷ "]" ∷ "," ∷ ";" ∷ ":" ∷ "=" ∷ "==" ∷ "!=" ∷ "<" ∷ "<=" ∷ ">" ∷ ">=" ∷ "+" ∷ "-" ∷ "*" ∷ "/" ∷ "%" ∷ "!" ∷ "&&"
    ∷ "||" ∷ ".." ∷ [])
    ≡ OpenBrace ∷ CloseBrace ∷ OpenParen ∷ CloseParen ∷ OpenBracket ∷ CloseBracket ∷ Comma ∷ Semicolon ∷ Colon ∷ Assign ∷ Equal ∷ NotEqual ∷ Less
    ∷ LessEqual ∷ Greater ∷ GreaterEqual ∷ Plus ∷ Minus ∷ Star ∷ Slash ∷ Percent ∷ Not ∷ AndAnd ∷ OrOr ∷ DotDot ∷ []
unfolding tables
symbols = refl

words_of_kernels :
    map said ("job" ∷ "parallel" ∷ "ro" ∷ "wo" ∷ "rw" ∷ "int" ∷ "array" ∷ "list" ∷ "ref" ∷ "map" ∷ "stream" ∷ "by" ∷ "var" ∷ "if" ∷ "else" ∷ "for" ∷ "in"
    ∷ "while" ∷ "begin" ∷ "write" ∷ "add" ∷ "remove" ∷ "clear" ∷ "try_add" ∷ "len" ∷ "has" ∷ "count" ∷ "at" ∷ "index" ∷ [])
    ≡ Job ∷ Parallel ∷ Ro ∷ Wo ∷ Rw ∷ Int ∷ Array ∷ ListWord ∷ Ref ∷ Map ∷ Stream ∷ By ∷ Var ∷ If ∷ Else ∷ For ∷ In
    ∷ While ∷ Begin ∷ Write ∷ Add ∷ Remove ∷ Clear ∷ TryAdd ∷ Len ∷ Has ∷ Count ∷ At ∷ Index ∷ []
unfolding tables
words_of_kernels = refl

words_of_scripts :
    map said ("column" ∷ "reference" ∷ "slice" ∷ "view" ∷ "copy" ∷ "set" ∷ "put" ∷ "setcapacity" ∷ "schedule" ∷ "waive" ∷ "after" ∷ "combine" ∷ "complete"
    ∷ "dispose" ∷ "as" ∷ "print" ∷ "flush" ∷ "repeat" ∷ "frame" ∷ "temp" ∷ "tempjob" ∷ "persistent" ∷ "defer" ∷ "auto" ∷ "when" ∷ [])
    ≡ Column ∷ Reference ∷ Slice ∷ View ∷ Copy ∷ Set ∷ Put ∷ SetCapacity ∷ Schedule ∷ Waive ∷ After ∷ Combine ∷ Complete
    ∷ Dispose ∷ As ∷ Print ∷ Flush ∷ Repeat ∷ Frame ∷ Temp ∷ TempJob ∷ Persistent ∷ Defer ∷ Auto ∷ When ∷ []
unfolding tables
words_of_scripts = refl

-- names: a reserved word and more, other letters, and a line below
names : map said ("jobs" ∷ "Job" ∷ "_" ∷ "x1" ∷ "_temp" ∷ "temp_job" ∷ "setCapacity" ∷ "reads" ∷ []) ≡ Name ∷ Name ∷ Name ∷ Name ∷ Name ∷ Name ∷ Name ∷ Name
    ∷ []
unfolding tables
names = refl

numbers : map said ("0" ∷ "007" ∷ "9223372036854775808" ∷ []) ≡ Number ∷ Number ∷ Number ∷ []
unfolding tables
numbers = refl

texts : map quoted ("A" ∷ "mass (kg) # {" ∷ " " ∷ []) ≡ Text ∷ Text ∷ Text ∷ []
unfolding tables
texts = refl

-- no one token each
no_tokens : map said ("" ∷ "1x" ∷ "x-y" ∷ "a b" ∷ "&" ∷ "." ∷ "=>" ∷ "-1" ∷ "..." ∷ "@" ∷ []) ≡ Bad ∷ Bad ∷ Bad ∷ Bad ∷ Bad ∷ Bad ∷ Bad ∷ Bad ∷ Bad ∷ Bad ∷ []
unfolding tables
no_tokens = refl
