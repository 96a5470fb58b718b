-- What may follow in a file outside of its kernels: by which tokens, and by no others, it goes on.
use Prim.Native.String.{String}
use Rattle.std.proofs.Common.{List, [], ◌∷◌, ◌++◌, map, refl}
use Rattle.frame_grammar.specs.declared.token_kind.TokenKind.{TokenKind}
use Rattle.frame_grammar.specs.declared.token_kind.TokenKind.TheVariants.{Name, Number, Text, Line, End}
use Rattle.frame_grammar.specs.declared.symbols.Nonterminal.TheVariants.{File}
use Rattle.grammar_rows.proofs.Marks.{Mark, word, text as quoted, line, said, GoesOnBy, file_goes_on, tables}

-- these words may follow
abbrev words : List String → List TokenKind
words ws = map said ws

-- tokens by their spelling
abbrev text : List String → List Mark
text ws = map word ws

-- the statement may end here, or go on by these words
abbrev or_ends : List String → List TokenKind
or_ends ws = Line ∷ End ∷ words ws

abbrev statements : List String
statements =
    "array" ∷ "column" ∷ "list" ∷ "reference" ∷ "map" ∷ "stream" ∷ "slice" ∷ "view" ∷ "copy" ∷ "set" ∷ "add" ∷ "put" ∷ "remove" ∷ "clear"
    ∷ "setcapacity" ∷ "schedule" ∷ "combine" ∷ "complete" ∷ "dispose" ∷ "print" ∷ "flush" ∷ "frame" ∷ "repeat" ∷ "when" ∷ []

abbrev lives : List String
lives = "temp" ∷ "tempjob" ∷ "persistent" ∷ []

start : GoesOnBy File [] (or_ends ("job" ∷ "parallel" ∷ statements))
unfolding tables
start = file_goes_on refl

after_line : GoesOnBy File (line ∷ []) (or_ends ("job" ∷ "parallel" ∷ statements))
unfolding tables
after_line = file_goes_on refl

after_kernel : GoesOnBy File (text ("job" ∷ "k" ∷ "(" ∷ ")" ∷ "{" ∷ "}" ∷ [])) (or_ends [])
unfolding tables
after_kernel = file_goes_on refl

array : GoesOnBy File (text ("array" ∷ [])) (Name ∷ [])
unfolding tables
array = file_goes_on refl

array_name : GoesOnBy File (text ("array" ∷ "a" ∷ [])) (Number ∷ [])
unfolding tables
array_name = file_goes_on refl

array_length : GoesOnBy File (text ("array" ∷ "a" ∷ "3" ∷ [])) (or_ends ("=" ∷ lives))
unfolding tables
array_length = file_goes_on refl

array_life : GoesOnBy File (text ("array" ∷ "a" ∷ "3" ∷ "temp" ∷ [])) (or_ends ("=" ∷ []))
unfolding tables
array_life = file_goes_on refl

array_equals : GoesOnBy File (text ("array" ∷ "a" ∷ "3" ∷ "=" ∷ [])) (Number ∷ words ("-" ∷ []))
unfolding tables
array_equals = file_goes_on refl

array_minus : GoesOnBy File (text ("array" ∷ "a" ∷ "3" ∷ "=" ∷ "-" ∷ [])) (Number ∷ [])
unfolding tables
array_minus = file_goes_on refl

array_value : GoesOnBy File (text ("array" ∷ "a" ∷ "3" ∷ "=" ∷ "1" ∷ [])) (Number ∷ or_ends ("-" ∷ []))
unfolding tables
array_value = file_goes_on refl

column : GoesOnBy File (text ("column" ∷ "c" ∷ [])) (Text ∷ [])
unfolding tables
column = file_goes_on refl

column_text : GoesOnBy File (text ("column" ∷ "c" ∷ []) ++ quoted "A" ∷ []) (or_ends lives)
unfolding tables
column_text = file_goes_on refl

column_life : GoesOnBy File (text ("column" ∷ "c" ∷ []) ++ quoted "A" ∷ word "tempjob" ∷ []) (or_ends [])
unfolding tables
column_life = file_goes_on refl

list : GoesOnBy File (text ("list" ∷ "l" ∷ "4" ∷ [])) (or_ends lives)
unfolding tables
list = file_goes_on refl

list_life : GoesOnBy File (text ("list" ∷ "l" ∷ "4" ∷ "persistent" ∷ [])) (or_ends [])
unfolding tables
list_life = file_goes_on refl

reference : GoesOnBy File (text ("reference" ∷ "r" ∷ [])) (or_ends ("=" ∷ lives))
unfolding tables
reference = file_goes_on refl

reference_equals : GoesOnBy File (text ("reference" ∷ "r" ∷ "=" ∷ [])) (Number ∷ words ("-" ∷ []))
unfolding tables
reference_equals = file_goes_on refl

reference_value : GoesOnBy File (text ("reference" ∷ "r" ∷ "=" ∷ "5" ∷ [])) (or_ends [])
unfolding tables
reference_value = file_goes_on refl

a_map : GoesOnBy File (text ("map" ∷ "m" ∷ "4" ∷ [])) (or_ends lives)
unfolding tables
a_map = file_goes_on refl

stream : GoesOnBy File (text ("stream" ∷ "s" ∷ "4" ∷ [])) (Number ∷ [])
unfolding tables
stream = file_goes_on refl

stream_room : GoesOnBy File (text ("stream" ∷ "s" ∷ "4" ∷ "2" ∷ [])) (or_ends lives)
unfolding tables
stream_room = file_goes_on refl

slice : GoesOnBy File (text ("slice" ∷ "v" ∷ "a" ∷ "1" ∷ [])) (Number ∷ [])
unfolding tables
slice = file_goes_on refl

slice_length : GoesOnBy File (text ("slice" ∷ "v" ∷ "a" ∷ "1" ∷ "2" ∷ [])) (or_ends [])
unfolding tables
slice_length = file_goes_on refl

view : GoesOnBy File (text ("view" ∷ "v" ∷ "l" ∷ [])) (or_ends [])
unfolding tables
view = file_goes_on refl

copy : GoesOnBy File (text ("copy" ∷ "b" ∷ "a" ∷ [])) (or_ends [])
unfolding tables
copy = file_goes_on refl

set : GoesOnBy File (text ("set" ∷ "a" ∷ [])) (Number ∷ words ("-" ∷ "=" ∷ []))
unfolding tables
set = file_goes_on refl

set_place : GoesOnBy File (text ("set" ∷ "a" ∷ "1" ∷ [])) (words ("=" ∷ []))
unfolding tables
set_place = file_goes_on refl

set_equals : GoesOnBy File (text ("set" ∷ "a" ∷ "=" ∷ [])) (Number ∷ words ("-" ∷ []))
unfolding tables
set_equals = file_goes_on refl

set_value : GoesOnBy File (text ("set" ∷ "a" ∷ "=" ∷ "1" ∷ [])) (or_ends [])
unfolding tables
set_value = file_goes_on refl

add : GoesOnBy File (text ("add" ∷ "m" ∷ "1" ∷ [])) (Number ∷ or_ends ("-" ∷ []))
unfolding tables
add = file_goes_on refl

add_pair : GoesOnBy File (text ("add" ∷ "m" ∷ "1" ∷ "2" ∷ [])) (or_ends [])
unfolding tables
add_pair = file_goes_on refl

put : GoesOnBy File (text ("put" ∷ "m" ∷ "1" ∷ [])) (Number ∷ words ("-" ∷ []))
unfolding tables
put = file_goes_on refl

put_pair : GoesOnBy File (text ("put" ∷ "m" ∷ "1" ∷ "2" ∷ [])) (or_ends [])
unfolding tables
put_pair = file_goes_on refl

remove : GoesOnBy File (text ("remove" ∷ "l" ∷ "0" ∷ [])) (or_ends [])
unfolding tables
remove = file_goes_on refl

clear : GoesOnBy File (text ("clear" ∷ "l" ∷ [])) (or_ends [])
unfolding tables
clear = file_goes_on refl

set_capacity : GoesOnBy File (text ("setcapacity" ∷ "l" ∷ "8" ∷ [])) (or_ends [])
unfolding tables
set_capacity = file_goes_on refl

schedule : GoesOnBy File (text ("schedule" ∷ [])) (Name ∷ words ("auto" ∷ []))
unfolding tables
schedule = file_goes_on refl

schedule_auto : GoesOnBy File (text ("schedule" ∷ "auto" ∷ [])) (Name ∷ [])
unfolding tables
schedule_auto = file_goes_on refl

arguments : GoesOnBy File (text ("schedule" ∷ "h" ∷ "k" ∷ "(" ∷ [])) (Name ∷ Number ∷ words ("-" ∷ ")" ∷ []))
unfolding tables
arguments = file_goes_on refl

argument : GoesOnBy File (text ("schedule" ∷ "h" ∷ "k" ∷ "(" ∷ "a" ∷ [])) (words ("," ∷ ")" ∷ []))
unfolding tables
argument = file_goes_on refl

next_argument : GoesOnBy File (text ("schedule" ∷ "h" ∷ "k" ∷ "(" ∷ "1" ∷ "," ∷ [])) (Name ∷ Number ∷ words ("-" ∷ []))
unfolding tables
next_argument = file_goes_on refl

after_arguments : GoesOnBy File (text ("schedule" ∷ "h" ∷ "k" ∷ "(" ∷ ")" ∷ [])) (Number ∷ or_ends ("defer" ∷ "waive" ∷ "after" ∷ []))
unfolding tables
after_arguments = file_goes_on refl

length : GoesOnBy File (text ("schedule" ∷ "h" ∷ "k" ∷ "(" ∷ ")" ∷ "8" ∷ [])) (Number ∷ [])
unfolding tables
length = file_goes_on refl

batch : GoesOnBy File (text ("schedule" ∷ "h" ∷ "k" ∷ "(" ∷ ")" ∷ "8" ∷ "2" ∷ [])) (or_ends ("waive" ∷ "after" ∷ []))
unfolding tables
batch = file_goes_on refl

defer : GoesOnBy File (text ("schedule" ∷ "h" ∷ "k" ∷ "(" ∷ ")" ∷ "defer" ∷ "l" ∷ [])) (Number ∷ [])
unfolding tables
defer = file_goes_on refl

defer_batch : GoesOnBy File (text ("schedule" ∷ "h" ∷ "k" ∷ "(" ∷ ")" ∷ "defer" ∷ "l" ∷ "2" ∷ [])) (or_ends ("waive" ∷ "after" ∷ []))
unfolding tables
defer_batch = file_goes_on refl

waive : GoesOnBy File (text ("schedule" ∷ "h" ∷ "k" ∷ "(" ∷ ")" ∷ "waive" ∷ [])) (Name ∷ [])
unfolding tables
waive = file_goes_on refl

waived : GoesOnBy File (text ("schedule" ∷ "h" ∷ "k" ∷ "(" ∷ ")" ∷ "waive" ∷ "p" ∷ [])) (Name ∷ or_ends ("after" ∷ []))
unfolding tables
waived = file_goes_on refl

after : GoesOnBy File (text ("schedule" ∷ "h" ∷ "k" ∷ "(" ∷ ")" ∷ "after" ∷ [])) (Name ∷ [])
unfolding tables
after = file_goes_on refl

after_names : GoesOnBy File (text ("schedule" ∷ "h" ∷ "k" ∷ "(" ∷ ")" ∷ "after" ∷ "g" ∷ [])) (Name ∷ or_ends [])
unfolding tables
after_names = file_goes_on refl

combine : GoesOnBy File (text ("combine" ∷ "h" ∷ [])) (Name ∷ or_ends [])
unfolding tables
combine = file_goes_on refl

complete : GoesOnBy File (text ("complete" ∷ [])) (Name ∷ words ("auto" ∷ []))
unfolding tables
complete = file_goes_on refl

complete_name : GoesOnBy File (text ("complete" ∷ "auto" ∷ "x" ∷ [])) (or_ends [])
unfolding tables
complete_name = file_goes_on refl

dispose : GoesOnBy File (text ("dispose" ∷ [])) (Name ∷ words ("auto" ∷ []))
unfolding tables
dispose = file_goes_on refl

dispose_name : GoesOnBy File (text ("dispose" ∷ "x" ∷ [])) (or_ends ("after" ∷ []))
unfolding tables
dispose_name = file_goes_on refl

dispose_after : GoesOnBy File (text ("dispose" ∷ "x" ∷ "after" ∷ "h" ∷ [])) (Name ∷ words ("as" ∷ []))
unfolding tables
dispose_after = file_goes_on refl

dispose_as : GoesOnBy File (text ("dispose" ∷ "x" ∷ "after" ∷ "h" ∷ "as" ∷ "d" ∷ [])) (or_ends [])
unfolding tables
dispose_as = file_goes_on refl

dispose_auto : GoesOnBy File (text ("dispose" ∷ "auto" ∷ "x" ∷ [])) (words ("as" ∷ []))
unfolding tables
dispose_auto = file_goes_on refl

dispose_auto_as : GoesOnBy File (text ("dispose" ∷ "auto" ∷ "x" ∷ "as" ∷ "d" ∷ [])) (or_ends [])
unfolding tables
dispose_auto_as = file_goes_on refl

print : GoesOnBy File (text ("print" ∷ "x" ∷ [])) (or_ends [])
unfolding tables
print = file_goes_on refl

flush : GoesOnBy File (text ("flush" ∷ [])) (or_ends [])
unfolding tables
flush = file_goes_on refl

frame : GoesOnBy File (text ("frame" ∷ [])) (or_ends [])
unfolding tables
frame = file_goes_on refl

repeat : GoesOnBy File (text ("repeat" ∷ "2" ∷ [])) (words ("{" ∷ []))
unfolding tables
repeat = file_goes_on refl

repeat_open : GoesOnBy File (text ("repeat" ∷ "2" ∷ "{" ∷ [])) (Line ∷ [])
unfolding tables
repeat_open = file_goes_on refl

-- no kernel stands in a block, and the file doesn't end there
in_block : GoesOnBy File (text ("repeat" ∷ "2" ∷ "{" ∷ []) ++ line ∷ []) (Line ∷ words ("}" ∷ statements))
unfolding tables
in_block = file_goes_on refl

statement_in_block : GoesOnBy File (text ("repeat" ∷ "2" ∷ "{" ∷ []) ++ line ∷ word "flush" ∷ []) (Line ∷ [])
unfolding tables
statement_in_block = file_goes_on refl

after_block : GoesOnBy File (text ("repeat" ∷ "2" ∷ "{" ∷ []) ++ line ∷ word "}" ∷ []) (or_ends [])
unfolding tables
after_block = file_goes_on refl

when : GoesOnBy File (text ("when" ∷ "r" ∷ [])) (words ("==" ∷ "!=" ∷ "<" ∷ "<=" ∷ ">" ∷ ">=" ∷ []))
unfolding tables
when = file_goes_on refl

when_sign : GoesOnBy File (text ("when" ∷ "r" ∷ "<" ∷ [])) (Number ∷ words ("-" ∷ []))
unfolding tables
when_sign = file_goes_on refl

when_number : GoesOnBy File (text ("when" ∷ "r" ∷ "<" ∷ "1" ∷ [])) (words ("{" ∷ []))
unfolding tables
when_number = file_goes_on refl

when_block : GoesOnBy File (text ("when" ∷ "r" ∷ "<" ∷ "1" ∷ "{" ∷ []) ++ line ∷ []) (Line ∷ words ("}" ∷ statements))
unfolding tables
when_block = file_goes_on refl

after_when : GoesOnBy File (text ("when" ∷ "r" ∷ "<" ∷ "1" ∷ "{" ∷ []) ++ line ∷ word "}" ∷ []) (or_ends [])
unfolding tables
after_when = file_goes_on refl
