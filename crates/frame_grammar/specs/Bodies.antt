-- What productions make their nonterminals of: the grammar.
use Rattle.std.specs.Prelude.{Bool, true, false, List, [], ◌∷◌}
use Rattle.frame_grammar.specs.declared.symbols.Nonterminal.TheVariants as nonterminal
use Rattle.frame_grammar.specs.declared.symbols.Production.{Production}
use Rattle.frame_grammar.specs.declared.symbols.Production.TheVariants as production
use Rattle.frame_grammar.specs.declared.symbols.Symbol.{Symbol}
use Rattle.frame_grammar.specs.declared.symbols.Symbol.TheVariants as symbol
use Rattle.frame_grammar.specs.declared.bodies.file.TheConstants.{FILE, ITEMS_END, ITEMS_LINE, ITEMS_KERNEL, ITEMS_STATEMENT, AFTER_ITEM_END, AFTER_ITEM_LINE, KERNEL, LINES_END, LINES_MORE}
use Rattle.frame_grammar.specs.declared.bodies.kernel.TheConstants.{OPEN_JOB, OPEN_PARALLEL, PARAMETERS_NONE, PARAMETERS_SOME, MORE_PARAMETERS_END, MORE_PARAMETERS, PARAMETER, INT_PARAMETER, READ_PARAMETER, WRITE_PARAMETER, READ_WRITE_PARAMETER, ARRAY_CONTAINER, LIST_CONTAINER, REF_CONTAINER, MAP_CONTAINER, STREAM_CONTAINER, WIDTH_NONE, WIDTH_SOME, BLOCK, STATEMENTS_END, STATEMENTS_MORE, VAR_STATEMENT, NAME_STATEMENT, ADD_STATEMENT, REMOVE_STATEMENT, CLEAR_STATEMENT, WRITE_STATEMENT, BEGIN_STATEMENT, IF_STATEMENT, FOR_STATEMENT, WHILE_STATEMENT, TARGET_NAME, TARGET_PLACE, VALUE_EXPRESSION, VALUE_TRY_ADD, VALUE_REMOVE, ADDED_VALUE_NONE, ADDED_VALUE_SOME, ELSE_NONE, ELSE_SOME}
use Rattle.frame_grammar.specs.declared.bodies.expression.TheConstants.{EXPRESSION, MORE_OR_END, MORE_OR_SOME, BOTH, MORE_AND_END, MORE_AND_SOME, COMPARISON, COMPARED_NONE, COMPARED_EQUAL, COMPARED_NOT_EQUAL, COMPARED_LESS, COMPARED_LESS_EQUAL, COMPARED_GREATER, COMPARED_GREATER_EQUAL, SUM, MORE_SUM_END, MORE_SUM_PLUS, MORE_SUM_MINUS, TERM, MORE_TERM_END, MORE_TERM_TIMES, MORE_TERM_OVER, MORE_TERM_REMAINDER, UNARY_MINUS, UNARY_NOT, UNARY_ATOM, ATOM_NUMBER, ATOM_INDEX, ATOM_NAME, ATOM_PARENS, ATOM_LEN, ATOM_HAS, ATOM_COUNT, ATOM_AT, PLACE_NONE, PLACE_SOME}
use Rattle.frame_grammar.specs.declared.bodies.statement.TheConstants.{ARRAY_STATEMENT, COLUMN_STATEMENT, LIST_STATEMENT, REFERENCE_STATEMENT, MAP_STATEMENT, STREAM_STATEMENT, SLICE_STATEMENT, VIEW_STATEMENT, COPY_STATEMENT, SET_STATEMENT, ADD_TO_STATEMENT, PUT_STATEMENT, REMOVE_FROM_STATEMENT, CLEAR_OUT_STATEMENT, SET_CAPACITY_STATEMENT, SCHEDULE_STATEMENT, COMBINE_STATEMENT, COMPLETE_STATEMENT, DISPOSE_STATEMENT, PRINT_STATEMENT, FLUSH_STATEMENT, FRAME_STATEMENT, REPEAT_STATEMENT, WHEN_STATEMENT}
use Rattle.frame_grammar.specs.declared.bodies.clause.TheConstants.{LIFE_NONE, LIFE_TEMP, LIFE_TEMP_JOB, LIFE_PERSISTENT, SIGNED_MINUS, SIGNED_PLAIN, MAYBE_SIGNED_NONE, MAYBE_SIGNED_SOME, ARRAY_VALUES_NONE, ARRAY_VALUES_SOME, MORE_VALUES_END, MORE_VALUES_SOME, REFERENCE_VALUE_NONE, REFERENCE_VALUE_SOME, ARGUMENTS_NONE, ARGUMENTS_SOME, MORE_ARGUMENTS_END, MORE_ARGUMENTS_SOME, ARGUMENT_NAME, ARGUMENT_SIGNED, AUTO_NONE, AUTO_SOME, SIZES_NONE, SIZES_LENGTH, SIZES_DEFER, WAIVED_NONE, WAIVED_SOME, AFTER_NONE, AFTER_SOME, NAMES_END, NAMES_MORE, DISPOSAL_NAMED, DISPOSAL_AUTO, DISPOSED_NOW, DISPOSED_LATER, TEST_EQUAL, TEST_NOT_EQUAL, TEST_LESS, TEST_LESS_EQUAL, TEST_GREATER, TEST_GREATER_EQUAL, LINED_END, LINED_LINE, LINED_STATEMENT}

-- symbols of a kernel: line ends may follow each terminal
abbrev pub with_lines : List Symbol → List Symbol
with_lines [] = []
with_lines (symbol.Terminal k ∷ ss) = symbol.Terminal k ∷ symbol.Nonterminal nonterminal.Lines ∷ with_lines ss
with_lines (symbol.Nonterminal n ∷ ss) = symbol.Nonterminal n ∷ with_lines ss
with_lines (symbol.Action a ∷ ss) = symbol.Action a ∷ with_lines ss

abbrev pub written : Bool → List Symbol → List Symbol
written true ss = with_lines ss
written false ss = ss

-- what it makes it of
unfoldable pub body_of : Production → List Symbol
body_of production.File = FILE
body_of production.ItemsEnd = ITEMS_END
body_of production.ItemsLine = ITEMS_LINE
body_of production.ItemsKernel = ITEMS_KERNEL
body_of production.ItemsStatement = ITEMS_STATEMENT
body_of production.AfterItemEnd = AFTER_ITEM_END
body_of production.AfterItemLine = AFTER_ITEM_LINE
body_of production.Kernel = KERNEL
body_of production.LinesEnd = LINES_END
body_of production.LinesMore = LINES_MORE
body_of production.OpenJob = with_lines OPEN_JOB
body_of production.OpenParallel = with_lines OPEN_PARALLEL
body_of production.ParametersNone = with_lines PARAMETERS_NONE
body_of production.ParametersSome = with_lines PARAMETERS_SOME
body_of production.MoreParametersEnd = with_lines MORE_PARAMETERS_END
body_of production.MoreParameters = with_lines MORE_PARAMETERS
body_of production.Parameter = with_lines PARAMETER
body_of production.IntParameter = with_lines INT_PARAMETER
body_of production.ReadParameter = with_lines READ_PARAMETER
body_of production.WriteParameter = with_lines WRITE_PARAMETER
body_of production.ReadWriteParameter = with_lines READ_WRITE_PARAMETER
body_of production.ArrayContainer = with_lines ARRAY_CONTAINER
body_of production.ListContainer = with_lines LIST_CONTAINER
body_of production.RefContainer = with_lines REF_CONTAINER
body_of production.MapContainer = with_lines MAP_CONTAINER
body_of production.StreamContainer = with_lines STREAM_CONTAINER
body_of production.WidthNone = with_lines WIDTH_NONE
body_of production.WidthSome = with_lines WIDTH_SOME
body_of production.Block = with_lines BLOCK
body_of production.StatementsEnd = with_lines STATEMENTS_END
body_of production.StatementsMore = with_lines STATEMENTS_MORE
body_of production.VarStatement = with_lines VAR_STATEMENT
body_of production.NameStatement = with_lines NAME_STATEMENT
body_of production.AddStatement = with_lines ADD_STATEMENT
body_of production.RemoveStatement = with_lines REMOVE_STATEMENT
body_of production.ClearStatement = with_lines CLEAR_STATEMENT
body_of production.WriteStatement = with_lines WRITE_STATEMENT
body_of production.BeginStatement = with_lines BEGIN_STATEMENT
body_of production.IfStatement = with_lines IF_STATEMENT
body_of production.ForStatement = with_lines FOR_STATEMENT
body_of production.WhileStatement = with_lines WHILE_STATEMENT
body_of production.TargetName = with_lines TARGET_NAME
body_of production.TargetPlace = with_lines TARGET_PLACE
body_of production.ValueExpression = with_lines VALUE_EXPRESSION
body_of production.ValueTryAdd = with_lines VALUE_TRY_ADD
body_of production.ValueRemove = with_lines VALUE_REMOVE
body_of production.AddedValueNone = with_lines ADDED_VALUE_NONE
body_of production.AddedValueSome = with_lines ADDED_VALUE_SOME
body_of production.ElseNone = with_lines ELSE_NONE
body_of production.ElseSome = with_lines ELSE_SOME
body_of production.Expression = with_lines EXPRESSION
body_of production.MoreOrEnd = with_lines MORE_OR_END
body_of production.MoreOrSome = with_lines MORE_OR_SOME
body_of production.Both = with_lines BOTH
body_of production.MoreAndEnd = with_lines MORE_AND_END
body_of production.MoreAndSome = with_lines MORE_AND_SOME
body_of production.Comparison = with_lines COMPARISON
body_of production.ComparedNone = with_lines COMPARED_NONE
body_of production.ComparedEqual = with_lines COMPARED_EQUAL
body_of production.ComparedNotEqual = with_lines COMPARED_NOT_EQUAL
body_of production.ComparedLess = with_lines COMPARED_LESS
body_of production.ComparedLessEqual = with_lines COMPARED_LESS_EQUAL
body_of production.ComparedGreater = with_lines COMPARED_GREATER
body_of production.ComparedGreaterEqual = with_lines COMPARED_GREATER_EQUAL
body_of production.Sum = with_lines SUM
body_of production.MoreSumEnd = with_lines MORE_SUM_END
body_of production.MoreSumPlus = with_lines MORE_SUM_PLUS
body_of production.MoreSumMinus = with_lines MORE_SUM_MINUS
body_of production.Term = with_lines TERM
body_of production.MoreTermEnd = with_lines MORE_TERM_END
body_of production.MoreTermTimes = with_lines MORE_TERM_TIMES
body_of production.MoreTermOver = with_lines MORE_TERM_OVER
body_of production.MoreTermRemainder = with_lines MORE_TERM_REMAINDER
body_of production.UnaryMinus = with_lines UNARY_MINUS
body_of production.UnaryNot = with_lines UNARY_NOT
body_of production.UnaryAtom = with_lines UNARY_ATOM
body_of production.AtomNumber = with_lines ATOM_NUMBER
body_of production.AtomIndex = with_lines ATOM_INDEX
body_of production.AtomName = with_lines ATOM_NAME
body_of production.AtomParens = with_lines ATOM_PARENS
body_of production.AtomLen = with_lines ATOM_LEN
body_of production.AtomHas = with_lines ATOM_HAS
body_of production.AtomCount = with_lines ATOM_COUNT
body_of production.AtomAt = with_lines ATOM_AT
body_of production.PlaceNone = with_lines PLACE_NONE
body_of production.PlaceSome = with_lines PLACE_SOME
body_of production.ArrayStatement = ARRAY_STATEMENT
body_of production.ColumnStatement = COLUMN_STATEMENT
body_of production.ListStatement = LIST_STATEMENT
body_of production.ReferenceStatement = REFERENCE_STATEMENT
body_of production.MapStatement = MAP_STATEMENT
body_of production.StreamStatement = STREAM_STATEMENT
body_of production.SliceStatement = SLICE_STATEMENT
body_of production.ViewStatement = VIEW_STATEMENT
body_of production.CopyStatement = COPY_STATEMENT
body_of production.SetStatement = SET_STATEMENT
body_of production.AddToStatement = ADD_TO_STATEMENT
body_of production.PutStatement = PUT_STATEMENT
body_of production.RemoveFromStatement = REMOVE_FROM_STATEMENT
body_of production.ClearOutStatement = CLEAR_OUT_STATEMENT
body_of production.SetCapacityStatement = SET_CAPACITY_STATEMENT
body_of production.ScheduleStatement = SCHEDULE_STATEMENT
body_of production.CombineStatement = COMBINE_STATEMENT
body_of production.CompleteStatement = COMPLETE_STATEMENT
body_of production.DisposeStatement = DISPOSE_STATEMENT
body_of production.PrintStatement = PRINT_STATEMENT
body_of production.FlushStatement = FLUSH_STATEMENT
body_of production.FrameStatement = FRAME_STATEMENT
body_of production.RepeatStatement = REPEAT_STATEMENT
body_of production.WhenStatement = WHEN_STATEMENT
body_of production.LifeNone = LIFE_NONE
body_of production.LifeTemp = LIFE_TEMP
body_of production.LifeTempJob = LIFE_TEMP_JOB
body_of production.LifePersistent = LIFE_PERSISTENT
body_of production.SignedMinus = SIGNED_MINUS
body_of production.SignedPlain = SIGNED_PLAIN
body_of production.MaybeSignedNone = MAYBE_SIGNED_NONE
body_of production.MaybeSignedSome = MAYBE_SIGNED_SOME
body_of production.ArrayValuesNone = ARRAY_VALUES_NONE
body_of production.ArrayValuesSome = ARRAY_VALUES_SOME
body_of production.MoreValuesEnd = MORE_VALUES_END
body_of production.MoreValuesSome = MORE_VALUES_SOME
body_of production.ReferenceValueNone = REFERENCE_VALUE_NONE
body_of production.ReferenceValueSome = REFERENCE_VALUE_SOME
body_of production.ArgumentsNone = ARGUMENTS_NONE
body_of production.ArgumentsSome = ARGUMENTS_SOME
body_of production.MoreArgumentsEnd = MORE_ARGUMENTS_END
body_of production.MoreArgumentsSome = MORE_ARGUMENTS_SOME
body_of production.ArgumentName = ARGUMENT_NAME
body_of production.ArgumentSigned = ARGUMENT_SIGNED
body_of production.AutoNone = AUTO_NONE
body_of production.AutoSome = AUTO_SOME
body_of production.SizesNone = SIZES_NONE
body_of production.SizesLength = SIZES_LENGTH
body_of production.SizesDefer = SIZES_DEFER
body_of production.WaivedNone = WAIVED_NONE
body_of production.WaivedSome = WAIVED_SOME
body_of production.AfterNone = AFTER_NONE
body_of production.AfterSome = AFTER_SOME
body_of production.NamesEnd = NAMES_END
body_of production.NamesMore = NAMES_MORE
body_of production.DisposalNamed = DISPOSAL_NAMED
body_of production.DisposalAuto = DISPOSAL_AUTO
body_of production.DisposedNow = DISPOSED_NOW
body_of production.DisposedLater = DISPOSED_LATER
body_of production.TestEqual = TEST_EQUAL
body_of production.TestNotEqual = TEST_NOT_EQUAL
body_of production.TestLess = TEST_LESS
body_of production.TestLessEqual = TEST_LESS_EQUAL
body_of production.TestGreater = TEST_GREATER
body_of production.TestGreaterEqual = TEST_GREATER_EQUAL
body_of production.LinedEnd = LINED_END
body_of production.LinedLine = LINED_LINE
body_of production.LinedStatement = LINED_STATEMENT
