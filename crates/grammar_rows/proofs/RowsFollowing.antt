-- What may follow: by which tokens, and by no others, a kernel goes on.
--
-- Each row gives the tokens so far, and then all of those that a next token can be. So a production that takes too much is
-- refused here, as one that takes too little is by the sentences of the other rows.
use Prim.Native.String.{String}
use Rattle.std.proofs.Common.{List, [], ◌∷◌, ◌++◌, map, refl}
use Rattle.frame_grammar.specs.declared.token_kind.TokenKind.{TokenKind}
use Rattle.frame_grammar.specs.declared.token_kind.TokenKind.TheVariants.{Name, Number, Line}
use Rattle.frame_grammar.specs.declared.symbols.Nonterminal.TheVariants.{Kernel}
use Rattle.grammar_rows.proofs.Marks.{Mark, word, said, GoesOnBy, kernel_goes_on, tables}

-- these words may follow, and the end of a line, as anywhere in a kernel
abbrev words : List String → List TokenKind
words ws = Line ∷ map said ws

-- tokens by their spelling
abbrev text : List String → List Mark
text ws = map word ws

-- after `job k(`
abbrev in_params : List String → List Mark
in_params ws = text ("job" ∷ "k" ∷ "(" ∷ []) ++ text ws

-- after `job k() {`
abbrev in_body : List String → List Mark
in_body ws = text ("job" ∷ "k" ∷ "(" ∷ ")" ∷ "{" ∷ []) ++ text ws

-- the words that statements begin with, beside a name
abbrev statements : List String
statements = "var" ∷ "add" ∷ "remove" ∷ "clear" ∷ "write" ∷ "begin" ∷ "if" ∷ "for" ∷ "while" ∷ []

-- the words that a value begins with, beside a name and a number
abbrev values : List String
values = "index" ∷ "len" ∷ "has" ∷ "count" ∷ "at" ∷ "(" ∷ "-" ∷ "!" ∷ []

-- the operators after a side of a comparison, and all that may follow a value that isn't compared yet
abbrev after_side : List String
after_side = "*" ∷ "/" ∷ "%" ∷ "+" ∷ "-" ∷ "&&" ∷ "||" ∷ []

abbrev operators : List String
operators = "==" ∷ "!=" ∷ "<" ∷ "<=" ∷ ">" ∷ ">=" ∷ after_side

start : GoesOnBy Kernel [] (map said ("job" ∷ "parallel" ∷ []))
unfolding tables
start = kernel_goes_on refl

job : GoesOnBy Kernel (text ("job" ∷ [])) (Name ∷ words [])
unfolding tables
job = kernel_goes_on refl

its_name : GoesOnBy Kernel (text ("parallel" ∷ "k" ∷ [])) (words ("(" ∷ []))
unfolding tables
its_name = kernel_goes_on refl

params : GoesOnBy Kernel (in_params []) (Name ∷ words (")" ∷ []))
unfolding tables
params = kernel_goes_on refl

param : GoesOnBy Kernel (in_params ("a" ∷ [])) (words (":" ∷ []))
unfolding tables
param = kernel_goes_on refl

colon : GoesOnBy Kernel (in_params ("a" ∷ ":" ∷ [])) (words ("int" ∷ "ro" ∷ "wo" ∷ "rw" ∷ []))
unfolding tables
colon = kernel_goes_on refl

int : GoesOnBy Kernel (in_params ("a" ∷ ":" ∷ "int" ∷ [])) (words ("," ∷ ")" ∷ []))
unfolding tables
int = kernel_goes_on refl

comma : GoesOnBy Kernel (in_params ("a" ∷ ":" ∷ "int" ∷ "," ∷ [])) (Name ∷ words [])
unfolding tables
comma = kernel_goes_on refl

read_only : GoesOnBy Kernel (in_params ("a" ∷ ":" ∷ "ro" ∷ [])) (words ("array" ∷ "list" ∷ "ref" ∷ "map" ∷ "stream" ∷ []))
unfolding tables
read_only = kernel_goes_on refl

write_only : GoesOnBy Kernel (in_params ("a" ∷ ":" ∷ "wo" ∷ [])) (words ("array" ∷ "list" ∷ "ref" ∷ "map" ∷ "stream" ∷ []))
unfolding tables
write_only = kernel_goes_on refl

read_write : GoesOnBy Kernel (in_params ("a" ∷ ":" ∷ "rw" ∷ [])) (words ("array" ∷ "list" ∷ "ref" ∷ "map" ∷ "stream" ∷ []))
unfolding tables
read_write = kernel_goes_on refl

array : GoesOnBy Kernel (in_params ("a" ∷ ":" ∷ "ro" ∷ "array" ∷ [])) (words ("by" ∷ "," ∷ ")" ∷ []))
unfolding tables
array = kernel_goes_on refl

by_ : GoesOnBy Kernel (in_params ("a" ∷ ":" ∷ "ro" ∷ "array" ∷ "by" ∷ [])) (Number ∷ words [])
unfolding tables
by_ = kernel_goes_on refl

width : GoesOnBy Kernel (in_params ("a" ∷ ":" ∷ "ro" ∷ "array" ∷ "by" ∷ "4" ∷ [])) (words ("," ∷ ")" ∷ []))
unfolding tables
width = kernel_goes_on refl

list : GoesOnBy Kernel (in_params ("a" ∷ ":" ∷ "ro" ∷ "list" ∷ [])) (words ("," ∷ ")" ∷ []))
unfolding tables
list = kernel_goes_on refl

ref : GoesOnBy Kernel (in_params ("a" ∷ ":" ∷ "ro" ∷ "ref" ∷ [])) (words ("," ∷ ")" ∷ []))
unfolding tables
ref = kernel_goes_on refl

a_map : GoesOnBy Kernel (in_params ("a" ∷ ":" ∷ "ro" ∷ "map" ∷ [])) (words ("," ∷ ")" ∷ []))
unfolding tables
a_map = kernel_goes_on refl

stream : GoesOnBy Kernel (in_params ("a" ∷ ":" ∷ "ro" ∷ "stream" ∷ [])) (words ("," ∷ ")" ∷ []))
unfolding tables
stream = kernel_goes_on refl

after_params : GoesOnBy Kernel (in_params (")" ∷ [])) (words ("{" ∷ []))
unfolding tables
after_params = kernel_goes_on refl

body : GoesOnBy Kernel (in_body []) (Name ∷ words ("}" ∷ statements))
unfolding tables
body = kernel_goes_on refl

var : GoesOnBy Kernel (in_body ("var" ∷ [])) (Name ∷ words [])
unfolding tables
var = kernel_goes_on refl

var_name : GoesOnBy Kernel (in_body ("var" ∷ "x" ∷ [])) (words ("=" ∷ []))
unfolding tables
var_name = kernel_goes_on refl

var_value : GoesOnBy Kernel (in_body ("var" ∷ "x" ∷ "=" ∷ [])) (Name ∷ Number ∷ words values)
unfolding tables
var_value = kernel_goes_on refl

after_number : GoesOnBy Kernel (in_body ("var" ∷ "x" ∷ "=" ∷ "1" ∷ [])) (words (";" ∷ operators))
unfolding tables
after_number = kernel_goes_on refl

after_index : GoesOnBy Kernel (in_body ("var" ∷ "x" ∷ "=" ∷ "index" ∷ [])) (words (";" ∷ operators))
unfolding tables
after_index = kernel_goes_on refl

after_name : GoesOnBy Kernel (in_body ("var" ∷ "x" ∷ "=" ∷ "y" ∷ [])) (words (";" ∷ "[" ∷ operators))
unfolding tables
after_name = kernel_goes_on refl

after_place : GoesOnBy Kernel (in_body ("var" ∷ "x" ∷ "=" ∷ "y" ∷ "[" ∷ "1" ∷ "]" ∷ [])) (words (";" ∷ operators))
unfolding tables
after_place = kernel_goes_on refl

-- a comparison isn't compared again
after_comparison : GoesOnBy Kernel (in_body ("var" ∷ "x" ∷ "=" ∷ "1" ∷ "<" ∷ "2" ∷ [])) (words (";" ∷ after_side))
unfolding tables
after_comparison = kernel_goes_on refl

after_equal : GoesOnBy Kernel (in_body ("var" ∷ "x" ∷ "=" ∷ "1" ∷ "==" ∷ "2" ∷ [])) (words (";" ∷ after_side))
unfolding tables
after_equal = kernel_goes_on refl

after_and : GoesOnBy Kernel (in_body ("var" ∷ "x" ∷ "=" ∷ "1" ∷ "<" ∷ "2" ∷ "&&" ∷ "3" ∷ [])) (words (";" ∷ operators))
unfolding tables
after_and = kernel_goes_on refl

after_or : GoesOnBy Kernel (in_body ("var" ∷ "x" ∷ "=" ∷ "1" ∷ "<" ∷ "2" ∷ "||" ∷ "3" ∷ [])) (words (";" ∷ operators))
unfolding tables
after_or = kernel_goes_on refl

after_operator : GoesOnBy Kernel (in_body ("var" ∷ "x" ∷ "=" ∷ "1" ∷ "*" ∷ [])) (Name ∷ Number ∷ words values)
unfolding tables
after_operator = kernel_goes_on refl

after_sign : GoesOnBy Kernel (in_body ("var" ∷ "x" ∷ "=" ∷ "-" ∷ [])) (Name ∷ Number ∷ words values)
unfolding tables
after_sign = kernel_goes_on refl

in_parentheses : GoesOnBy Kernel (in_body ("var" ∷ "x" ∷ "=" ∷ "(" ∷ "1" ∷ [])) (words (")" ∷ operators))
unfolding tables
in_parentheses = kernel_goes_on refl

after_parentheses : GoesOnBy Kernel (in_body ("var" ∷ "x" ∷ "=" ∷ "(" ∷ "1" ∷ ")" ∷ [])) (words (";" ∷ operators))
unfolding tables
after_parentheses = kernel_goes_on refl

len : GoesOnBy Kernel (in_body ("var" ∷ "x" ∷ "=" ∷ "len" ∷ "(" ∷ [])) (Name ∷ words [])
unfolding tables
len = kernel_goes_on refl

len_of : GoesOnBy Kernel (in_body ("var" ∷ "x" ∷ "=" ∷ "len" ∷ "(" ∷ "a" ∷ [])) (words (")" ∷ []))
unfolding tables
len_of = kernel_goes_on refl

after_len : GoesOnBy Kernel (in_body ("var" ∷ "x" ∷ "=" ∷ "len" ∷ "(" ∷ "a" ∷ ")" ∷ [])) (words (";" ∷ operators))
unfolding tables
after_len = kernel_goes_on refl

has : GoesOnBy Kernel (in_body ("var" ∷ "x" ∷ "=" ∷ "has" ∷ "(" ∷ "m" ∷ "," ∷ "1" ∷ [])) (words (")" ∷ operators))
unfolding tables
has = kernel_goes_on refl

count : GoesOnBy Kernel (in_body ("var" ∷ "x" ∷ "=" ∷ "count" ∷ "(" ∷ "s" ∷ "," ∷ "1" ∷ [])) (words (")" ∷ operators))
unfolding tables
count = kernel_goes_on refl

at : GoesOnBy Kernel (in_body ("var" ∷ "x" ∷ "=" ∷ "at" ∷ "(" ∷ "s" ∷ "," ∷ "1" ∷ [])) (words ("," ∷ operators))
unfolding tables
at = kernel_goes_on refl

at_item : GoesOnBy Kernel (in_body ("var" ∷ "x" ∷ "=" ∷ "at" ∷ "(" ∷ "s" ∷ "," ∷ "1" ∷ "," ∷ "2" ∷ [])) (words (")" ∷ operators))
unfolding tables
at_item = kernel_goes_on refl

after_var : GoesOnBy Kernel (in_body ("var" ∷ "x" ∷ "=" ∷ "1" ∷ ";" ∷ [])) (Name ∷ words ("}" ∷ statements))
unfolding tables
after_var = kernel_goes_on refl

name : GoesOnBy Kernel (in_body ("x" ∷ [])) (words ("=" ∷ "[" ∷ []))
unfolding tables
name = kernel_goes_on refl

name_value : GoesOnBy Kernel (in_body ("x" ∷ "=" ∷ [])) (Name ∷ Number ∷ words ("try_add" ∷ "remove" ∷ values))
unfolding tables
name_value = kernel_goes_on refl

after_name_value : GoesOnBy Kernel (in_body ("x" ∷ "=" ∷ "1" ∷ [])) (words (";" ∷ operators))
unfolding tables
after_name_value = kernel_goes_on refl

-- the same where a place is set has no effect after `=`
place : GoesOnBy Kernel (in_body ("x" ∷ "[" ∷ "1" ∷ "]" ∷ [])) (words ("=" ∷ []))
unfolding tables
place = kernel_goes_on refl

place_value : GoesOnBy Kernel (in_body ("x" ∷ "[" ∷ "1" ∷ "]" ∷ "=" ∷ [])) (Name ∷ Number ∷ words values)
unfolding tables
place_value = kernel_goes_on refl

after_try_add : GoesOnBy Kernel (in_body ("x" ∷ "=" ∷ "try_add" ∷ "(" ∷ "m" ∷ "," ∷ "1" ∷ "," ∷ "2" ∷ ")" ∷ [])) (words (";" ∷ []))
unfolding tables
after_try_add = kernel_goes_on refl

try_add_pair : GoesOnBy Kernel (in_body ("x" ∷ "=" ∷ "try_add" ∷ "(" ∷ "m" ∷ "," ∷ "1" ∷ [])) (words ("," ∷ operators))
unfolding tables
try_add_pair = kernel_goes_on refl

remove_key : GoesOnBy Kernel (in_body ("x" ∷ "=" ∷ "remove" ∷ "(" ∷ "m" ∷ "," ∷ "1" ∷ [])) (words (")" ∷ operators))
unfolding tables
remove_key = kernel_goes_on refl

after_remove_key : GoesOnBy Kernel (in_body ("x" ∷ "=" ∷ "remove" ∷ "(" ∷ "m" ∷ "," ∷ "1" ∷ ")" ∷ [])) (words (";" ∷ []))
unfolding tables
after_remove_key = kernel_goes_on refl

add : GoesOnBy Kernel (in_body ("add" ∷ "(" ∷ "l" ∷ "," ∷ "1" ∷ [])) (words ("," ∷ ")" ∷ operators))
unfolding tables
add = kernel_goes_on refl

add_pair : GoesOnBy Kernel (in_body ("add" ∷ "(" ∷ "m" ∷ "," ∷ "1" ∷ "," ∷ "2" ∷ [])) (words (")" ∷ operators))
unfolding tables
add_pair = kernel_goes_on refl

after_add : GoesOnBy Kernel (in_body ("add" ∷ "(" ∷ "l" ∷ "," ∷ "1" ∷ ")" ∷ [])) (words (";" ∷ []))
unfolding tables
after_add = kernel_goes_on refl

remove : GoesOnBy Kernel (in_body ("remove" ∷ "(" ∷ "l" ∷ "," ∷ "1" ∷ [])) (words (")" ∷ operators))
unfolding tables
remove = kernel_goes_on refl

clear : GoesOnBy Kernel (in_body ("clear" ∷ "(" ∷ "l" ∷ [])) (words (")" ∷ []))
unfolding tables
clear = kernel_goes_on refl

write : GoesOnBy Kernel (in_body ("write" ∷ "(" ∷ "s" ∷ "," ∷ "1" ∷ [])) (words (")" ∷ operators))
unfolding tables
write = kernel_goes_on refl

begin : GoesOnBy Kernel (in_body ("begin" ∷ "s" ∷ [])) (words ("[" ∷ []))
unfolding tables
begin = kernel_goes_on refl

begin_place : GoesOnBy Kernel (in_body ("begin" ∷ "s" ∷ "[" ∷ "1" ∷ "]" ∷ [])) (words ("{" ∷ []))
unfolding tables
begin_place = kernel_goes_on refl

after_begin : GoesOnBy Kernel (in_body ("begin" ∷ "s" ∷ "[" ∷ "1" ∷ "]" ∷ "{" ∷ "}" ∷ [])) (Name ∷ words ("}" ∷ statements))
unfolding tables
after_begin = kernel_goes_on refl

if_ : GoesOnBy Kernel (in_body ("if" ∷ "1" ∷ [])) (words ("{" ∷ operators))
unfolding tables
if_ = kernel_goes_on refl

block : GoesOnBy Kernel (in_body ("if" ∷ "1" ∷ "{" ∷ [])) (Name ∷ words ("}" ∷ statements))
unfolding tables
block = kernel_goes_on refl

after_if : GoesOnBy Kernel (in_body ("if" ∷ "1" ∷ "{" ∷ "}" ∷ [])) (Name ∷ words ("else" ∷ "}" ∷ statements))
unfolding tables
after_if = kernel_goes_on refl

else : GoesOnBy Kernel (in_body ("if" ∷ "1" ∷ "{" ∷ "}" ∷ "else" ∷ [])) (words ("{" ∷ []))
unfolding tables
else = kernel_goes_on refl

after_else : GoesOnBy Kernel (in_body ("if" ∷ "1" ∷ "{" ∷ "}" ∷ "else" ∷ "{" ∷ "}" ∷ [])) (Name ∷ words ("}" ∷ statements))
unfolding tables
after_else = kernel_goes_on refl

for_name : GoesOnBy Kernel (in_body ("for" ∷ "i" ∷ [])) (words ("in" ∷ []))
unfolding tables
for_name = kernel_goes_on refl

for_low : GoesOnBy Kernel (in_body ("for" ∷ "i" ∷ "in" ∷ "0" ∷ [])) (words (".." ∷ operators))
unfolding tables
for_low = kernel_goes_on refl

for_high : GoesOnBy Kernel (in_body ("for" ∷ "i" ∷ "in" ∷ "0" ∷ ".." ∷ "9" ∷ [])) (words ("{" ∷ operators))
unfolding tables
for_high = kernel_goes_on refl

while : GoesOnBy Kernel (in_body ("while" ∷ "1" ∷ [])) (words ("{" ∷ operators))
unfolding tables
while = kernel_goes_on refl
