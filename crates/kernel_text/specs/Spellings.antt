-- How symbols and reserved words are spelled.
use Rattle.std.specs.Prelude.{◌==◌, ℕ, Bool, List, [], ◌∷◌, Option, codes, find, length, slice_index, ◌&&◌}
use Rattle.std.specs.Str.{bytes_eq}
use Rattle.frame_grammar.specs.declared.token_kind.TokenKind.{TokenKind}
use Rattle.frame_grammar.specs.declared.token_kind.TokenKind.TheVariants.{Name, Number, Text, Line, End, Bad, OpenBrace, CloseBrace, OpenParen, CloseParen, OpenBracket, CloseBracket, Comma, Semicolon, Colon, Assign, Equal, NotEqual, Less, LessEqual, Greater, GreaterEqual, Plus, Minus, Star, Slash, Percent, Not, AndAnd, OrOr, DotDot, Job, Parallel, Ro, Wo, Rw, Int, Array, List as ListWord, Ref, Map, Stream, By, Var, If, Else, For, In, While, Begin, Write, Add, Remove, Clear, TryAdd, Len, Has, Count, At, Index, Column, Reference, Slice, View, Copy, Set, Put, SetCapacity, Schedule, Waive, After, Combine, Complete, Dispose, As, Print, Flush, Repeat, Frame, Temp, TempJob, Persistent, Defer, Auto, When}

-- the bytes of a token of this kind, where the kind has one spelling
unfoldable pub spelling_of : TokenKind → List ℕ
spelling_of Name = []
spelling_of Number = []
spelling_of Text = []
spelling_of Line = 10 ∷ []
spelling_of End = []
spelling_of Bad = []
spelling_of OpenBrace = codes "{"
spelling_of CloseBrace = codes "}"
spelling_of OpenParen = codes "("
spelling_of CloseParen = codes ")"
spelling_of OpenBracket = codes "["
spelling_of CloseBracket = codes "]"
spelling_of Comma = codes ","
spelling_of Semicolon = codes ";"
spelling_of Colon = codes ":"
spelling_of Assign = codes "="
spelling_of Equal = codes "=="
spelling_of NotEqual = codes "!="
spelling_of Less = codes "<"
spelling_of LessEqual = codes "<="
spelling_of Greater = codes ">"
spelling_of GreaterEqual = codes ">="
spelling_of Plus = codes "+"
spelling_of Minus = codes "-"
spelling_of Star = codes "*"
spelling_of Slash = codes "/"
spelling_of Percent = codes "%"
spelling_of Not = codes "!"
spelling_of AndAnd = codes "&&"
spelling_of OrOr = codes "||"
spelling_of DotDot = codes ".."
spelling_of Job = codes "job"
spelling_of Parallel = codes "parallel"
spelling_of Ro = codes "ro"
spelling_of Wo = codes "wo"
spelling_of Rw = codes "rw"
spelling_of Int = codes "int"
spelling_of Array = codes "array"
spelling_of ListWord = codes "list"
spelling_of Ref = codes "ref"
spelling_of Map = codes "map"
spelling_of Stream = codes "stream"
spelling_of By = codes "by"
spelling_of Var = codes "var"
spelling_of If = codes "if"
spelling_of Else = codes "else"
spelling_of For = codes "for"
spelling_of In = codes "in"
spelling_of While = codes "while"
spelling_of Begin = codes "begin"
spelling_of Write = codes "write"
spelling_of Add = codes "add"
spelling_of Remove = codes "remove"
spelling_of Clear = codes "clear"
spelling_of TryAdd = codes "try_add"
spelling_of Len = codes "len"
spelling_of Has = codes "has"
spelling_of Count = codes "count"
spelling_of At = codes "at"
spelling_of Index = codes "index"
spelling_of Column = codes "column"
spelling_of Reference = codes "reference"
spelling_of Slice = codes "slice"
spelling_of View = codes "view"
spelling_of Copy = codes "copy"
spelling_of Set = codes "set"
spelling_of Put = codes "put"
spelling_of SetCapacity = codes "setcapacity"
spelling_of Schedule = codes "schedule"
spelling_of Waive = codes "waive"
spelling_of After = codes "after"
spelling_of Combine = codes "combine"
spelling_of Complete = codes "complete"
spelling_of Dispose = codes "dispose"
spelling_of As = codes "as"
spelling_of Print = codes "print"
spelling_of Flush = codes "flush"
spelling_of Repeat = codes "repeat"
spelling_of Frame = codes "frame"
spelling_of Temp = codes "temp"
spelling_of TempJob = codes "tempjob"
spelling_of Persistent = codes "persistent"
spelling_of Defer = codes "defer"
spelling_of Auto = codes "auto"
spelling_of When = codes "when"

unfoldable pub symbols : List TokenKind
symbols =
    OpenBrace ∷ CloseBrace ∷ OpenParen ∷ CloseParen ∷ OpenBracket ∷ CloseBracket ∷ Comma ∷
    Semicolon ∷ Colon ∷ Assign ∷ Equal ∷ NotEqual ∷ Less ∷ LessEqual ∷ Greater ∷ GreaterEqual ∷
    Plus ∷ Minus ∷ Star ∷ Slash ∷ Percent ∷ Not ∷ AndAnd ∷ OrOr ∷ DotDot ∷ []

unfoldable pub reserved_words : List TokenKind
reserved_words =
    Index ∷ Set ∷ Schedule ∷ Print ∷ Put ∷ Complete ∷ Combine ∷ Job ∷ Parallel ∷ Ro ∷ Wo ∷ Rw ∷
    Int ∷ Array ∷ ListWord ∷ Ref ∷ Map ∷ Stream ∷ By ∷ Var ∷ If ∷ Else ∷ For ∷ In ∷ While ∷
    Begin ∷ Write ∷ Add ∷ Remove ∷ Clear ∷ TryAdd ∷ Len ∷ Has ∷ Count ∷ At ∷ Column ∷
    Reference ∷ Slice ∷ View ∷ Copy ∷ SetCapacity ∷ Waive ∷ After ∷ Dispose ∷ As ∷ Flush ∷
    Repeat ∷ Frame ∷ Temp ∷ TempJob ∷ Persistent ∷ Defer ∷ Auto ∷ When ∷ []

-- whether this is the first byte of the kind's spelling
abbrev pub is_first_of : ℕ → TokenKind → Bool
is_first_of byte kind = slice_index (spelling_of kind) 0 == byte

-- whether the kind's spelling has so many bytes, and this one first
abbrev pub is_shaped : ℕ → ℕ → TokenKind → Bool
is_shaped len first kind = (length (spelling_of kind) == len) && is_first_of first kind

-- the first of these kinds that is spelled so
abbrev pub spelled : List TokenKind → List ℕ → Option TokenKind
spelled kinds word = find (λ kind. bytes_eq (spelling_of kind) word) kinds
