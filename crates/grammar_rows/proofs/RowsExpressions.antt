-- Values: each atom and each operator, which level binds more tightly, and that a level groups to the left.
use Prim.Native.String.{String}
use Rattle.std.proofs.Common.{List, [], ◌∷◌, ◌++◌, refl}
use Rattle.frame_grammar.specs.declared.symbols.Action.TheVariants.{OpenJob, OpenBody, CloseKernel, StartStatement, VarStatement, Binary, Unary, NumberAtom, StartAtom, IndexAtom, NameAtom, PlaceAtom, LenAtom, HasAtom, CountAtom, AtAtom}
use Rattle.grammar_rows.proofs.Marks.{Mark, word, name, number, operator, note, ReadsKernel, kernel_reads, tables}

-- `job k() { var x = VALUE; }`
abbrev giving : List Mark → List Mark
giving value =
    note OpenJob ∷ word "job" ∷ name "k" ∷ word "(" ∷ word ")" ∷ word "{" ∷ note OpenBody
    ∷ note StartStatement ∷ word "var" ∷ name "x" ∷ word "=" ∷ value
    ++ word ";" ∷ note VarStatement ∷ note CloseKernel ∷ word "}" ∷ []

abbrev constant : String → List Mark
constant n = number n ∷ note NumberAtom ∷ []

abbrev variable : String → List Mark
variable x = note StartAtom ∷ name x ∷ note NameAtom ∷ []

-- an operator after its left side, with its right side
abbrev joined : String → List Mark → List Mark
joined sign right = operator sign ∷ right ++ note Binary ∷ []

abbrev before : String → List Mark → List Mark
before sign value = operator sign ∷ value ++ note Unary ∷ []

-- 1
a_number : ReadsKernel (giving (constant "1"))
unfolding tables
a_number = kernel_reads refl refl refl

-- index
the_index : ReadsKernel (giving (note StartAtom ∷ word "index" ∷ note IndexAtom ∷ []))
unfolding tables
the_index = kernel_reads refl refl refl

-- y
a_name : ReadsKernel (giving (variable "y"))
unfolding tables
a_name = kernel_reads refl refl refl

-- y[1]
a_place : ReadsKernel (giving (note StartAtom ∷ name "y" ∷ word "[" ∷ constant "1" ++ word "]" ∷ note PlaceAtom ∷ []))
unfolding tables
a_place = kernel_reads refl refl refl

-- (1)
parentheses : ReadsKernel (giving (word "(" ∷ constant "1" ++ word ")" ∷ []))
unfolding tables
parentheses = kernel_reads refl refl refl

-- len(y)
a_length : ReadsKernel (giving (note StartAtom ∷ word "len" ∷ word "(" ∷ name "y" ∷ word ")" ∷ note LenAtom ∷ []))
unfolding tables
a_length = kernel_reads refl refl refl

-- has(m, 1)
a_has : ReadsKernel (giving (note StartAtom ∷ word "has" ∷ word "(" ∷ name "m" ∷ word "," ∷ constant "1" ++ word ")" ∷ note HasAtom ∷ []))
unfolding tables
a_has = kernel_reads refl refl refl

-- count(s, 1)
a_count : ReadsKernel (giving (note StartAtom ∷ word "count" ∷ word "(" ∷ name "s" ∷ word "," ∷ constant "1" ++ word ")" ∷ note CountAtom ∷ []))
unfolding tables
a_count = kernel_reads refl refl refl

-- at(s, 1, 2)
an_item : ReadsKernel (giving (
    note StartAtom ∷ word "at" ∷ word "(" ∷ name "s" ∷ word "," ∷ constant "1" ++ word "," ∷ constant "2" ++ word ")" ∷ note AtAtom ∷ []))
unfolding tables
an_item = kernel_reads refl refl refl

-- -!1
two_signs : ReadsKernel (giving (before "-" (before "!" (constant "1"))))
unfolding tables
two_signs = kernel_reads refl refl refl

-- 1 * 2 / 3 % 4
a_term : ReadsKernel (giving (constant "1" ++ joined "*" (constant "2") ++ joined "/" (constant "3") ++ joined "%" (constant "4")))
unfolding tables
a_term = kernel_reads refl refl refl

-- 1 + 2 - 3
a_sum : ReadsKernel (giving (constant "1" ++ joined "+" (constant "2") ++ joined "-" (constant "3")))
unfolding tables
a_sum = kernel_reads refl refl refl

-- 1 == 2
equal : ReadsKernel (giving (constant "1" ++ joined "==" (constant "2")))
unfolding tables
equal = kernel_reads refl refl refl

-- 1 != 2
not_equal : ReadsKernel (giving (constant "1" ++ joined "!=" (constant "2")))
unfolding tables
not_equal = kernel_reads refl refl refl

-- 1 < 2
less : ReadsKernel (giving (constant "1" ++ joined "<" (constant "2")))
unfolding tables
less = kernel_reads refl refl refl

-- 1 <= 2
less_or_equal : ReadsKernel (giving (constant "1" ++ joined "<=" (constant "2")))
unfolding tables
less_or_equal = kernel_reads refl refl refl

-- 1 > 2
greater : ReadsKernel (giving (constant "1" ++ joined ">" (constant "2")))
unfolding tables
greater = kernel_reads refl refl refl

-- 1 >= 2
greater_or_equal : ReadsKernel (giving (constant "1" ++ joined ">=" (constant "2")))
unfolding tables
greater_or_equal = kernel_reads refl refl refl

-- 1 && 2 && 3
both : ReadsKernel (giving (constant "1" ++ joined "&&" (constant "2") ++ joined "&&" (constant "3")))
unfolding tables
both = kernel_reads refl refl refl

-- 1 || 2 || 3
either : ReadsKernel (giving (constant "1" ++ joined "||" (constant "2") ++ joined "||" (constant "3")))
unfolding tables
either = kernel_reads refl refl refl

-- 1 || 2 && 3 == 4 + 5 * -6: each operator has all that is right of it
rising : ReadsKernel (giving (
    constant "1" ++ joined "||" (constant "2" ++ joined "&&" (constant "3"
    ++ joined "==" (constant "4" ++ joined "+" (constant "5" ++ joined "*" (before "-" (constant "6"))))))))
unfolding tables
rising = kernel_reads refl refl refl

-- -1 * 2 + 3 == 4 && 5 || 6: each operator has all that is left of it
falling : ReadsKernel (giving (
    before "-" (constant "1") ++ joined "*" (constant "2") ++ joined "+" (constant "3") ++ joined "==" (constant "4") ++ joined "&&" (constant "5")
    ++ joined "||" (constant "6")))
unfolding tables
falling = kernel_reads refl refl refl

-- 1 - (2 - 3)
grouped : ReadsKernel (giving (constant "1" ++ joined "-" (word "(" ∷ constant "2" ++ joined "-" (constant "3") ++ word ")" ∷ [])))
unfolding tables
grouped = kernel_reads refl refl refl
