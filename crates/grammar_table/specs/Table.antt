-- The table by which the parser goes on, without a look at what may follow.
use Rattle.std.specs.Prelude.{List, [], Option, Some, None}
use Rattle.frame_grammar.specs.declared.token_kind.TokenKind.{TokenKind}
use Rattle.frame_grammar.specs.declared.symbols.Nonterminal.{Nonterminal}
use Rattle.frame_grammar.specs.declared.symbols.Nonterminal.TheVariants as nonterminal
use Rattle.frame_grammar.specs.declared.symbols.Production.{Production}
use Rattle.frame_grammar.specs.declared.symbols.Production.TheVariants as production
use Rattle.grammar_table.specs.declared.choices.TheConstants.{ITEMS, AFTER_ITEM, LINES, OPEN_KERNEL, PARAMETERS, MORE_PARAMETERS, PARAMETER_KIND, CONTAINER, WIDTH, STATEMENTS, KERNEL_STATEMENT, TARGET, VALUE, ADDED_VALUE, ELSE_PART, MORE_OR, MORE_AND, COMPARED, MORE_SUM, MORE_TERM, UNARY, ATOM, PLACE, STATEMENT, LIFE, SIGNED, MAYBE_SIGNED, ARRAY_VALUES, MORE_VALUES, REFERENCE_VALUE, ARGUMENTS, MORE_ARGUMENTS, ARGUMENT, AUTO, SIZES, WAIVED, AFTER_NAMES, NAMES, DISPOSAL, DISPOSED_AFTER, TEST, LINED}

-- the productions of a nonterminal that begin with certain tokens, each with its first tokens
unfoldable pub choices_of : Nonterminal → List (TokenKind × Production)
choices_of nonterminal.File = []
choices_of nonterminal.Items = ITEMS
choices_of nonterminal.AfterItem = AFTER_ITEM
choices_of nonterminal.Kernel = []
choices_of nonterminal.Lines = LINES
choices_of nonterminal.OpenKernel = OPEN_KERNEL
choices_of nonterminal.Parameters = PARAMETERS
choices_of nonterminal.MoreParameters = MORE_PARAMETERS
choices_of nonterminal.Parameter = []
choices_of nonterminal.ParameterKind = PARAMETER_KIND
choices_of nonterminal.Container = CONTAINER
choices_of nonterminal.Width = WIDTH
choices_of nonterminal.Block = []
choices_of nonterminal.Statements = STATEMENTS
choices_of nonterminal.KernelStatement = KERNEL_STATEMENT
choices_of nonterminal.Target = TARGET
choices_of nonterminal.Value = VALUE
choices_of nonterminal.AddedValue = ADDED_VALUE
choices_of nonterminal.ElsePart = ELSE_PART
choices_of nonterminal.Expression = []
choices_of nonterminal.MoreOr = MORE_OR
choices_of nonterminal.Both = []
choices_of nonterminal.MoreAnd = MORE_AND
choices_of nonterminal.Comparison = []
choices_of nonterminal.Compared = COMPARED
choices_of nonterminal.Sum = []
choices_of nonterminal.MoreSum = MORE_SUM
choices_of nonterminal.Term = []
choices_of nonterminal.MoreTerm = MORE_TERM
choices_of nonterminal.Unary = UNARY
choices_of nonterminal.Atom = ATOM
choices_of nonterminal.Place = PLACE
choices_of nonterminal.Statement = STATEMENT
choices_of nonterminal.Life = LIFE
choices_of nonterminal.Signed = SIGNED
choices_of nonterminal.MaybeSigned = MAYBE_SIGNED
choices_of nonterminal.ArrayValues = ARRAY_VALUES
choices_of nonterminal.MoreValues = MORE_VALUES
choices_of nonterminal.ReferenceValue = REFERENCE_VALUE
choices_of nonterminal.Arguments = ARGUMENTS
choices_of nonterminal.MoreArguments = MORE_ARGUMENTS
choices_of nonterminal.Argument = ARGUMENT
choices_of nonterminal.Auto = AUTO
choices_of nonterminal.Sizes = SIZES
choices_of nonterminal.Waived = WAIVED
choices_of nonterminal.AfterNames = AFTER_NAMES
choices_of nonterminal.Names = NAMES
choices_of nonterminal.Disposal = DISPOSAL
choices_of nonterminal.DisposedAfter = DISPOSED_AFTER
choices_of nonterminal.Test = TEST
choices_of nonterminal.Lined = LINED

-- the production of a nonterminal before any other token
unfoldable pub default_of : Nonterminal → Option Production
default_of nonterminal.File = Some production.File
default_of nonterminal.Items = Some production.ItemsEnd
default_of nonterminal.AfterItem = Some production.AfterItemEnd
default_of nonterminal.Kernel = Some production.Kernel
default_of nonterminal.Lines = Some production.LinesEnd
default_of nonterminal.OpenKernel = None
default_of nonterminal.Parameters = Some production.ParametersNone
default_of nonterminal.MoreParameters = Some production.MoreParametersEnd
default_of nonterminal.Parameter = Some production.Parameter
default_of nonterminal.ParameterKind = None
default_of nonterminal.Container = None
default_of nonterminal.Width = Some production.WidthNone
default_of nonterminal.Block = Some production.Block
default_of nonterminal.Statements = Some production.StatementsEnd
default_of nonterminal.KernelStatement = None
default_of nonterminal.Target = None
default_of nonterminal.Value = Some production.ValueExpression
default_of nonterminal.AddedValue = Some production.AddedValueNone
default_of nonterminal.ElsePart = Some production.ElseNone
default_of nonterminal.Expression = Some production.Expression
default_of nonterminal.MoreOr = Some production.MoreOrEnd
default_of nonterminal.Both = Some production.Both
default_of nonterminal.MoreAnd = Some production.MoreAndEnd
default_of nonterminal.Comparison = Some production.Comparison
default_of nonterminal.Compared = Some production.ComparedNone
default_of nonterminal.Sum = Some production.Sum
default_of nonterminal.MoreSum = Some production.MoreSumEnd
default_of nonterminal.Term = Some production.Term
default_of nonterminal.MoreTerm = Some production.MoreTermEnd
default_of nonterminal.Unary = Some production.UnaryAtom
default_of nonterminal.Atom = None
default_of nonterminal.Place = Some production.PlaceNone
default_of nonterminal.Statement = None
default_of nonterminal.Life = Some production.LifeNone
default_of nonterminal.Signed = None
default_of nonterminal.MaybeSigned = Some production.MaybeSignedNone
default_of nonterminal.ArrayValues = Some production.ArrayValuesNone
default_of nonterminal.MoreValues = Some production.MoreValuesEnd
default_of nonterminal.ReferenceValue = Some production.ReferenceValueNone
default_of nonterminal.Arguments = Some production.ArgumentsNone
default_of nonterminal.MoreArguments = Some production.MoreArgumentsEnd
default_of nonterminal.Argument = Some production.ArgumentSigned
default_of nonterminal.Auto = Some production.AutoNone
default_of nonterminal.Sizes = Some production.SizesNone
default_of nonterminal.Waived = Some production.WaivedNone
default_of nonterminal.AfterNames = Some production.AfterNone
default_of nonterminal.Names = Some production.NamesEnd
default_of nonterminal.Disposal = None
default_of nonterminal.DisposedAfter = Some production.DisposedNow
default_of nonterminal.Test = None
default_of nonterminal.Lined = Some production.LinedEnd
