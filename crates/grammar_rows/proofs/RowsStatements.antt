-- The statements of a script, with each of their clauses.
use Prim.Native.String.{String}
use Rattle.std.proofs.Common.{List, [], ◌∷◌, ◌++◌, refl}
use Rattle.frame_grammar.specs.declared.symbols.Action.TheVariants.{StartStatement, ArrayStatement, ColumnStatement, ListStatement, ReferenceStatement, MapStatement, StreamStatement, SliceStatement, ViewStatement, CopyStatement, SetStatement, AddToStatement, PutStatement, RemoveFromStatement, ClearOutStatement, SetCapacityStatement, OpenArguments, CloseArguments, ScheduleStatement, OpenNames, CombineStatement, CompleteStatement, PrintStatement, FlushStatement, FrameStatement, OpenRepeat, RepeatStatement, OpenWhen, WhenStatement, LifeNone, LifeTemp, LifeTempJob, LifePersistent, MinusNumber, PlainNumber, NoNumber, NoValues, OpenValues, CloseValues, NameArgument, NumberArgument, NotAuto, Auto, SizesNone, SizesLength, SizesDefer, WaivedNone, Waived, AfterNone, After, DisposeAutoStatement, DisposeStatement, DisposeAfterStatement}
use Rattle.grammar_rows.proofs.Marks.{Mark, word, name, number, text, operator, line, note, ReadsStatement, statement_reads, tables}

-- a signed number
abbrev plain : String → List Mark
plain n = number n ∷ note PlainNumber ∷ []

abbrev minus : String → List Mark
minus n = operator "-" ∷ number n ∷ note MinusNumber ∷ []

-- array a 3
an_array : ReadsStatement (word "array" ∷ name "a" ∷ number "3" ∷ note LifeNone ∷ note NoValues ∷ note ArrayStatement ∷ [])
unfolding tables
an_array = statement_reads refl refl refl

-- array a 3 tempjob = 1 -2 3
an_array_of_values : ReadsStatement (
    word "array" ∷ name "a" ∷ number "3" ∷ word "tempjob" ∷ note LifeTempJob ∷ word "=" ∷ note OpenValues ∷ plain "1" ++ minus "2" ++ plain "3"
    ++ note CloseValues ∷ note ArrayStatement ∷ [])
unfolding tables
an_array_of_values = statement_reads refl refl refl

-- column c "A b"
a_column : ReadsStatement (word "column" ∷ name "c" ∷ text "A b" ∷ note LifeNone ∷ note ColumnStatement ∷ [])
unfolding tables
a_column = statement_reads refl refl refl

-- column c "A" temp
a_column_of_a_life : ReadsStatement (word "column" ∷ name "c" ∷ text "A" ∷ word "temp" ∷ note LifeTemp ∷ note ColumnStatement ∷ [])
unfolding tables
a_column_of_a_life = statement_reads refl refl refl

-- list l 4 persistent
a_list : ReadsStatement (word "list" ∷ name "l" ∷ number "4" ∷ word "persistent" ∷ note LifePersistent ∷ note ListStatement ∷ [])
unfolding tables
a_list = statement_reads refl refl refl

-- reference r
a_reference : ReadsStatement (word "reference" ∷ name "r" ∷ note LifeNone ∷ note NoNumber ∷ note ReferenceStatement ∷ [])
unfolding tables
a_reference = statement_reads refl refl refl

-- reference r temp = -5
a_reference_of_a_value : ReadsStatement (
    word "reference" ∷ name "r" ∷ word "temp" ∷ note LifeTemp ∷ word "=" ∷ minus "5" ++ note ReferenceStatement ∷ [])
unfolding tables
a_reference_of_a_value = statement_reads refl refl refl

-- map m 4 tempjob
a_map : ReadsStatement (word "map" ∷ name "m" ∷ number "4" ∷ word "tempjob" ∷ note LifeTempJob ∷ note MapStatement ∷ [])
unfolding tables
a_map = statement_reads refl refl refl

-- stream s 2 3 temp
a_stream : ReadsStatement (word "stream" ∷ name "s" ∷ number "2" ∷ number "3" ∷ word "temp" ∷ note LifeTemp ∷ note StreamStatement ∷ [])
unfolding tables
a_stream = statement_reads refl refl refl

-- slice v a 1 2
a_slice : ReadsStatement (word "slice" ∷ name "v" ∷ name "a" ∷ number "1" ∷ number "2" ∷ note SliceStatement ∷ [])
unfolding tables
a_slice = statement_reads refl refl refl

-- view v l
a_view : ReadsStatement (word "view" ∷ name "v" ∷ name "l" ∷ note ViewStatement ∷ [])
unfolding tables
a_view = statement_reads refl refl refl

-- copy b a
a_copy : ReadsStatement (word "copy" ∷ name "b" ∷ name "a" ∷ note CopyStatement ∷ [])
unfolding tables
a_copy = statement_reads refl refl refl

-- set r = 5
a_set : ReadsStatement (word "set" ∷ name "r" ∷ note NoNumber ∷ word "=" ∷ plain "5" ++ note SetStatement ∷ [])
unfolding tables
a_set = statement_reads refl refl refl

-- set a -1 = 5
a_set_of_a_place : ReadsStatement (word "set" ∷ name "a" ∷ minus "1" ++ word "=" ∷ plain "5" ++ note SetStatement ∷ [])
unfolding tables
a_set_of_a_place = statement_reads refl refl refl

-- add l 1
an_add : ReadsStatement (word "add" ∷ name "l" ∷ plain "1" ++ note NoNumber ∷ note AddToStatement ∷ [])
unfolding tables
an_add = statement_reads refl refl refl

-- add m -1 2
an_add_of_a_pair : ReadsStatement (word "add" ∷ name "m" ∷ minus "1" ++ plain "2" ++ note AddToStatement ∷ [])
unfolding tables
an_add_of_a_pair = statement_reads refl refl refl

-- put m 1 -2
a_put : ReadsStatement (word "put" ∷ name "m" ∷ plain "1" ++ minus "2" ++ note PutStatement ∷ [])
unfolding tables
a_put = statement_reads refl refl refl

-- remove l 0
a_remove : ReadsStatement (word "remove" ∷ name "l" ∷ plain "0" ++ note RemoveFromStatement ∷ [])
unfolding tables
a_remove = statement_reads refl refl refl

-- clear l
a_clear : ReadsStatement (word "clear" ∷ name "l" ∷ note ClearOutStatement ∷ [])
unfolding tables
a_clear = statement_reads refl refl refl

-- setcapacity l 8
a_set_of_a_capacity : ReadsStatement (word "setcapacity" ∷ name "l" ∷ number "8" ∷ note SetCapacityStatement ∷ [])
unfolding tables
a_set_of_a_capacity = statement_reads refl refl refl

-- schedule h k()
a_schedule : ReadsStatement (
    word "schedule" ∷ note NotAuto ∷ name "h" ∷ name "k" ∷ word "(" ∷ note OpenArguments ∷ note CloseArguments ∷ word ")"
    ∷ note SizesNone ∷ note WaivedNone ∷ note AfterNone ∷ note ScheduleStatement ∷ [])
unfolding tables
a_schedule = statement_reads refl refl refl

-- schedule h k(a, 1, -2) 10 4 waive p q after g i
a_schedule_of_everything : ReadsStatement (
    word "schedule" ∷ note NotAuto ∷ name "h" ∷ name "k" ∷ word "(" ∷ note OpenArguments
    ∷ name "a" ∷ note NameArgument ∷ word "," ∷ plain "1" ++ note NumberArgument ∷ word "," ∷ minus "2" ++ note NumberArgument
    ∷ note CloseArguments ∷ word ")" ∷ number "10" ∷ number "4" ∷ note SizesLength
    ∷ word "waive" ∷ note OpenNames ∷ name "p" ∷ name "q" ∷ note Waived
    ∷ word "after" ∷ note OpenNames ∷ name "g" ∷ name "i" ∷ note After ∷ note ScheduleStatement ∷ [])
unfolding tables
a_schedule_of_everything = statement_reads refl refl refl

-- schedule auto h k(1) defer l 4
a_deferred_schedule : ReadsStatement (
    word "schedule" ∷ word "auto" ∷ note Auto ∷ name "h" ∷ name "k" ∷ word "(" ∷ note OpenArguments ∷ plain "1" ++ note NumberArgument
    ∷ note CloseArguments ∷ word ")" ∷ word "defer" ∷ name "l" ∷ number "4" ∷ note SizesDefer ∷ note WaivedNone ∷ note AfterNone
    ∷ note ScheduleStatement ∷ [])
unfolding tables
a_deferred_schedule = statement_reads refl refl refl

-- combine h
a_combine_of_none : ReadsStatement (word "combine" ∷ name "h" ∷ note OpenNames ∷ note CombineStatement ∷ [])
unfolding tables
a_combine_of_none = statement_reads refl refl refl

-- combine h g i
a_combine : ReadsStatement (word "combine" ∷ name "h" ∷ note OpenNames ∷ name "g" ∷ name "i" ∷ note CombineStatement ∷ [])
unfolding tables
a_combine = statement_reads refl refl refl

-- complete h
a_complete : ReadsStatement (word "complete" ∷ note NotAuto ∷ name "h" ∷ note CompleteStatement ∷ [])
unfolding tables
a_complete = statement_reads refl refl refl

-- complete auto x
a_complete_of_all : ReadsStatement (word "complete" ∷ word "auto" ∷ note Auto ∷ name "x" ∷ note CompleteStatement ∷ [])
unfolding tables
a_complete_of_all = statement_reads refl refl refl

-- dispose x
a_dispose : ReadsStatement (word "dispose" ∷ name "x" ∷ note DisposeStatement ∷ [])
unfolding tables
a_dispose = statement_reads refl refl refl

-- dispose x after h g as d
a_later_dispose : ReadsStatement (
    word "dispose" ∷ name "x" ∷ word "after" ∷ note OpenNames ∷ name "h" ∷ name "g" ∷ note After ∷ word "as" ∷ name "d"
    ∷ note DisposeAfterStatement ∷ [])
unfolding tables
a_later_dispose = statement_reads refl refl refl

-- dispose auto x as d
an_automatic_dispose : ReadsStatement (word "dispose" ∷ word "auto" ∷ name "x" ∷ word "as" ∷ name "d" ∷ note DisposeAutoStatement ∷ [])
unfolding tables
an_automatic_dispose = statement_reads refl refl refl

-- print x
a_print : ReadsStatement (word "print" ∷ name "x" ∷ note PrintStatement ∷ [])
unfolding tables
a_print = statement_reads refl refl refl

-- flush
a_flush : ReadsStatement (word "flush" ∷ note FlushStatement ∷ [])
unfolding tables
a_flush = statement_reads refl refl refl

-- frame
a_frame : ReadsStatement (word "frame" ∷ note FrameStatement ∷ [])
unfolding tables
a_frame = statement_reads refl refl refl

-- repeat 3 { / / print x / }
a_repeat : ReadsStatement (
    word "repeat" ∷ number "3" ∷ note OpenRepeat ∷ word "{" ∷ line ∷ line
    ∷ note StartStatement ∷ word "print" ∷ name "x" ∷ note PrintStatement ∷ line ∷ word "}" ∷ note RepeatStatement ∷ [])
unfolding tables
a_repeat = statement_reads refl refl refl

-- `when r SIGN 1 { / flush / }`
abbrev test : String → List Mark
test sign =
    word "when" ∷ name "r" ∷ operator sign ∷ plain "1" ++ note OpenWhen ∷ word "{" ∷ line
    ∷ note StartStatement ∷ word "flush" ∷ note FlushStatement ∷ line ∷ word "}" ∷ note WhenStatement ∷ []

when_equal : ReadsStatement (test "==")
unfolding tables
when_equal = statement_reads refl refl refl

when_not_equal : ReadsStatement (test "!=")
unfolding tables
when_not_equal = statement_reads refl refl refl

when_less : ReadsStatement (test "<")
unfolding tables
when_less = statement_reads refl refl refl

when_less_or_equal : ReadsStatement (test "<=")
unfolding tables
when_less_or_equal = statement_reads refl refl refl

when_greater : ReadsStatement (test ">")
unfolding tables
when_greater = statement_reads refl refl refl

when_greater_or_equal : ReadsStatement (test ">=")
unfolding tables
when_greater_or_equal = statement_reads refl refl refl
