-- Kernels: their parameters, and each of their statements.
use Prim.Native.String.{String}
use Rattle.std.proofs.Common.{List, [], ◌∷◌, ◌++◌, refl}
use Rattle.frame_grammar.specs.declared.symbols.Action.TheVariants.{OpenJob, OpenParallel, OpenBody, CloseKernel, Parameter, IntParameter, ReadParameter, WriteParameter, ReadWriteParameter, ArrayContainer, ListContainer, RefContainer, MapContainer, StreamContainer, Width, StartStatement, OpenBlock, CloseBlock, VarStatement, SetName, SetPlace, SetTryAdd, SetRemove, AddItem, AddPair, RemoveStatement, ClearStatement, WriteStatement, BeginHead, BeginStatement, IfHead, IfStatement, IfElseStatement, ForHead, ForStatement, WhileHead, WhileStatement, NumberAtom}
use Rattle.grammar_rows.proofs.Marks.{Mark, word, name, number, note, ReadsKernel, kernel_reads, tables}

-- `job k(PARAMS) { }`
abbrev taking : List Mark → List Mark
taking params =
    note OpenJob ∷ word "job" ∷ name "k" ∷ word "(" ∷ params
    ++ word ")" ∷ word "{" ∷ note OpenBody ∷ note CloseKernel ∷ word "}" ∷ []

-- `job k() { STATEMENTS }`
abbrev doing : List Mark → List Mark
doing statements =
    note OpenJob ∷ word "job" ∷ name "k" ∷ word "(" ∷ word ")" ∷ word "{" ∷ note OpenBody ∷ statements
    ++ note CloseKernel ∷ word "}" ∷ []

-- a number as a value
abbrev value : String → List Mark
value n = number n ∷ note NumberAtom ∷ []

-- `{ }`
abbrev no_statements : List Mark
no_statements = word "{" ∷ note OpenBlock ∷ note CloseBlock ∷ word "}" ∷ []

-- job k() { }
a_job : ReadsKernel (taking [])
unfolding tables
a_job = kernel_reads refl refl refl

-- parallel k() { }
a_parallel : ReadsKernel (note OpenParallel ∷ word "parallel" ∷ name "k" ∷ word "(" ∷ word ")" ∷ word "{" ∷ note OpenBody ∷ note CloseKernel ∷ word "}" ∷ [])
unfolding tables
a_parallel = kernel_reads refl refl refl

-- parallel k(n: int) { x = 1; }
a_parallel_with_a_statement : ReadsKernel (
    note OpenParallel ∷ word "parallel" ∷ name "k" ∷ word "(" ∷ name "n" ∷ word ":" ∷ word "int" ∷ note IntParameter ∷ note Parameter ∷ word ")"
    ∷ word "{" ∷ note OpenBody ∷ note StartStatement ∷ name "x" ∷ word "=" ∷ value "1" ++ note SetName ∷ word ";" ∷ note CloseKernel ∷ word "}" ∷ [])
unfolding tables
a_parallel_with_a_statement = kernel_reads refl refl refl

-- n: int
an_int : ReadsKernel (taking (name "n" ∷ word ":" ∷ word "int" ∷ note IntParameter ∷ note Parameter ∷ []))
unfolding tables
an_int = kernel_reads refl refl refl

-- n: int, m: int, a: ro array
three_parameters : ReadsKernel (taking (
    name "n" ∷ word ":" ∷ word "int" ∷ note IntParameter ∷ note Parameter ∷ word ","
    ∷ name "m" ∷ word ":" ∷ word "int" ∷ note IntParameter ∷ note Parameter ∷ word ","
    ∷ name "a" ∷ word ":" ∷ word "ro" ∷ note ReadParameter ∷ word "array" ∷ note ArrayContainer ∷ note Parameter ∷ []))
unfolding tables
three_parameters = kernel_reads refl refl refl

-- a: wo array
a_written_array : ReadsKernel (taking (name "a" ∷ word ":" ∷ word "wo" ∷ note WriteParameter ∷ word "array" ∷ note ArrayContainer ∷ note Parameter ∷ []))
unfolding tables
a_written_array = kernel_reads refl refl refl

-- a: rw array by 4
an_array_by_4 : ReadsKernel (taking (
    name "a" ∷ word ":" ∷ word "rw" ∷ note ReadWriteParameter ∷ word "array" ∷ note ArrayContainer
    ∷ note Width ∷ word "by" ∷ number "4" ∷ note Parameter ∷ []))
unfolding tables
an_array_by_4 = kernel_reads refl refl refl

-- l: rw list
a_list : ReadsKernel (taking (name "l" ∷ word ":" ∷ word "rw" ∷ note ReadWriteParameter ∷ word "list" ∷ note ListContainer ∷ note Parameter ∷ []))
unfolding tables
a_list = kernel_reads refl refl refl

-- t: wo ref
a_ref : ReadsKernel (taking (name "t" ∷ word ":" ∷ word "wo" ∷ note WriteParameter ∷ word "ref" ∷ note RefContainer ∷ note Parameter ∷ []))
unfolding tables
a_ref = kernel_reads refl refl refl

-- m: ro map
a_map : ReadsKernel (taking (name "m" ∷ word ":" ∷ word "ro" ∷ note ReadParameter ∷ word "map" ∷ note MapContainer ∷ note Parameter ∷ []))
unfolding tables
a_map = kernel_reads refl refl refl

-- s: wo stream
a_stream : ReadsKernel (taking (name "s" ∷ word ":" ∷ word "wo" ∷ note WriteParameter ∷ note StreamContainer ∷ word "stream" ∷ note Parameter ∷ []))
unfolding tables
a_stream = kernel_reads refl refl refl

-- var x = 1;
a_var : ReadsKernel (doing (note StartStatement ∷ word "var" ∷ name "x" ∷ word "=" ∷ value "1" ++ word ";" ∷ note VarStatement ∷ []))
unfolding tables
a_var = kernel_reads refl refl refl

-- x = 1;
a_name_set : ReadsKernel (doing (note StartStatement ∷ name "x" ∷ word "=" ∷ value "1" ++ note SetName ∷ word ";" ∷ []))
unfolding tables
a_name_set = kernel_reads refl refl refl

-- x[1] = 2;
a_place_set : ReadsKernel (doing (
    note StartStatement ∷ name "x" ∷ word "[" ∷ value "1" ++ word "]" ∷ word "=" ∷ value "2" ++ note SetPlace ∷ word ";" ∷ []))
unfolding tables
a_place_set = kernel_reads refl refl refl

-- x = try_add(m, 1, 2);
a_try_add : ReadsKernel (doing (
    note StartStatement ∷ name "x" ∷ word "=" ∷ word "try_add" ∷ word "(" ∷ name "m" ∷ word "," ∷ value "1" ++ word "," ∷ value "2"
    ++ word ")" ∷ note SetTryAdd ∷ word ";" ∷ []))
unfolding tables
a_try_add = kernel_reads refl refl refl

-- x = remove(m, 1);
a_remove_of_a_key : ReadsKernel (doing (
    note StartStatement ∷ name "x" ∷ word "=" ∷ word "remove" ∷ word "(" ∷ name "m" ∷ word "," ∷ value "1" ++ word ")" ∷ note SetRemove
    ∷ word ";" ∷ []))
unfolding tables
a_remove_of_a_key = kernel_reads refl refl refl

-- add(l, 1);
an_add : ReadsKernel (doing (
    note StartStatement ∷ word "add" ∷ word "(" ∷ name "l" ∷ word "," ∷ value "1" ++ note AddItem ∷ word ")" ∷ word ";" ∷ []))
unfolding tables
an_add = kernel_reads refl refl refl

-- add(m, 1, 2);
an_add_of_a_pair : ReadsKernel (doing (
    note StartStatement ∷ word "add" ∷ word "(" ∷ name "m" ∷ word "," ∷ value "1" ++ word "," ∷ value "2" ++ note AddPair ∷ word ")"
    ∷ word ";" ∷ []))
unfolding tables
an_add_of_a_pair = kernel_reads refl refl refl

-- remove(l, 1);
a_remove : ReadsKernel (doing (
    note StartStatement ∷ word "remove" ∷ word "(" ∷ name "l" ∷ word "," ∷ value "1" ++ word ")" ∷ word ";" ∷ note RemoveStatement ∷ []))
unfolding tables
a_remove = kernel_reads refl refl refl

-- clear(l);
a_clear : ReadsKernel (doing (
    note StartStatement ∷ word "clear" ∷ word "(" ∷ name "l" ∷ word ")" ∷ word ";" ∷ note ClearStatement ∷ []))
unfolding tables
a_clear = kernel_reads refl refl refl

-- begin s[1] { write(s, 2); }
a_begin : ReadsKernel (doing (
    note StartStatement ∷ word "begin" ∷ name "s" ∷ word "[" ∷ value "1" ++ word "]" ∷ note BeginHead ∷ word "{" ∷ note OpenBlock
    ∷ note StartStatement ∷ word "write" ∷ word "(" ∷ name "s" ∷ word "," ∷ value "2" ++ word ")" ∷ word ";" ∷ note WriteStatement
    ∷ note CloseBlock ∷ word "}" ∷ note BeginStatement ∷ []))
unfolding tables
a_begin = kernel_reads refl refl refl

-- if 1 { }
an_if : ReadsKernel (doing (note StartStatement ∷ word "if" ∷ value "1" ++ note IfHead ∷ no_statements ++ note IfStatement ∷ []))
unfolding tables
an_if = kernel_reads refl refl refl

-- if 1 { } else { } clear(l);
an_else : ReadsKernel (doing (
    note StartStatement ∷ word "if" ∷ value "1" ++ note IfHead ∷ no_statements ++ word "else" ∷ no_statements ++ note IfElseStatement
    ∷ note StartStatement ∷ word "clear" ∷ word "(" ∷ name "l" ∷ word ")" ∷ word ";" ∷ note ClearStatement ∷ []))
unfolding tables
an_else = kernel_reads refl refl refl

-- for i in 0..9 { }
a_for : ReadsKernel (doing (
    note StartStatement ∷ word "for" ∷ name "i" ∷ word "in" ∷ value "0" ++ word ".." ∷ value "9" ++ note ForHead ∷ no_statements
    ++ note ForStatement ∷ []))
unfolding tables
a_for = kernel_reads refl refl refl

-- while 1 { }
a_while : ReadsKernel (doing (note StartStatement ∷ word "while" ∷ value "1" ++ note WhileHead ∷ no_statements ++ note WhileStatement ∷ []))
unfolding tables
a_while = kernel_reads refl refl refl
