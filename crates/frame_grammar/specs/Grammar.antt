-- What productions make, and what it means that symbols derive tokens.
use Rattle.std.specs.Prelude.{◌≡◌, ℕ, suc, List, [], ◌∷◌, ◌++◌}
use Rattle.frame_grammar.specs.declared.token_kind.TokenKind.{TokenKind}
use Rattle.frame_grammar.specs.declared.symbols.Nonterminal.{Nonterminal}
use Rattle.frame_grammar.specs.declared.symbols.Nonterminal.TheVariants as nonterminal
use Rattle.frame_grammar.specs.declared.symbols.Production.{Production}
use Rattle.frame_grammar.specs.declared.symbols.Production.TheVariants as production
use Rattle.frame_grammar.specs.declared.symbols.Symbol.{Symbol}
use Rattle.frame_grammar.specs.declared.symbols.Symbol.TheVariants as symbol
use Rattle.frame_grammar.specs.declared.symbols.Action.{Action}
use Rattle.frame_grammar.specs.declared.symbols.Event.{Event}
use Rattle.frame_grammar.specs.Bodies.{body_of}

-- the nonterminal that a production makes
unfoldable pub head_of : Production → Nonterminal
head_of production.File = nonterminal.File
head_of production.ItemsEnd = nonterminal.Items
head_of production.ItemsLine = nonterminal.Items
head_of production.ItemsKernel = nonterminal.Items
head_of production.ItemsStatement = nonterminal.Items
head_of production.AfterItemEnd = nonterminal.AfterItem
head_of production.AfterItemLine = nonterminal.AfterItem
head_of production.Kernel = nonterminal.Kernel
head_of production.LinesEnd = nonterminal.Lines
head_of production.LinesMore = nonterminal.Lines
head_of production.OpenJob = nonterminal.OpenKernel
head_of production.OpenParallel = nonterminal.OpenKernel
head_of production.ParametersNone = nonterminal.Parameters
head_of production.ParametersSome = nonterminal.Parameters
head_of production.MoreParametersEnd = nonterminal.MoreParameters
head_of production.MoreParameters = nonterminal.MoreParameters
head_of production.Parameter = nonterminal.Parameter
head_of production.IntParameter = nonterminal.ParameterKind
head_of production.ReadParameter = nonterminal.ParameterKind
head_of production.WriteParameter = nonterminal.ParameterKind
head_of production.ReadWriteParameter = nonterminal.ParameterKind
head_of production.ArrayContainer = nonterminal.Container
head_of production.ListContainer = nonterminal.Container
head_of production.RefContainer = nonterminal.Container
head_of production.MapContainer = nonterminal.Container
head_of production.StreamContainer = nonterminal.Container
head_of production.WidthNone = nonterminal.Width
head_of production.WidthSome = nonterminal.Width
head_of production.Block = nonterminal.Block
head_of production.StatementsEnd = nonterminal.Statements
head_of production.StatementsMore = nonterminal.Statements
head_of production.VarStatement = nonterminal.KernelStatement
head_of production.NameStatement = nonterminal.KernelStatement
head_of production.AddStatement = nonterminal.KernelStatement
head_of production.RemoveStatement = nonterminal.KernelStatement
head_of production.ClearStatement = nonterminal.KernelStatement
head_of production.WriteStatement = nonterminal.KernelStatement
head_of production.BeginStatement = nonterminal.KernelStatement
head_of production.IfStatement = nonterminal.KernelStatement
head_of production.ForStatement = nonterminal.KernelStatement
head_of production.WhileStatement = nonterminal.KernelStatement
head_of production.TargetName = nonterminal.Target
head_of production.TargetPlace = nonterminal.Target
head_of production.ValueExpression = nonterminal.Value
head_of production.ValueTryAdd = nonterminal.Value
head_of production.ValueRemove = nonterminal.Value
head_of production.AddedValueNone = nonterminal.AddedValue
head_of production.AddedValueSome = nonterminal.AddedValue
head_of production.ElseNone = nonterminal.ElsePart
head_of production.ElseSome = nonterminal.ElsePart
head_of production.Expression = nonterminal.Expression
head_of production.MoreOrEnd = nonterminal.MoreOr
head_of production.MoreOrSome = nonterminal.MoreOr
head_of production.Both = nonterminal.Both
head_of production.MoreAndEnd = nonterminal.MoreAnd
head_of production.MoreAndSome = nonterminal.MoreAnd
head_of production.Comparison = nonterminal.Comparison
head_of production.ComparedNone = nonterminal.Compared
head_of production.ComparedEqual = nonterminal.Compared
head_of production.ComparedNotEqual = nonterminal.Compared
head_of production.ComparedLess = nonterminal.Compared
head_of production.ComparedLessEqual = nonterminal.Compared
head_of production.ComparedGreater = nonterminal.Compared
head_of production.ComparedGreaterEqual = nonterminal.Compared
head_of production.Sum = nonterminal.Sum
head_of production.MoreSumEnd = nonterminal.MoreSum
head_of production.MoreSumPlus = nonterminal.MoreSum
head_of production.MoreSumMinus = nonterminal.MoreSum
head_of production.Term = nonterminal.Term
head_of production.MoreTermEnd = nonterminal.MoreTerm
head_of production.MoreTermTimes = nonterminal.MoreTerm
head_of production.MoreTermOver = nonterminal.MoreTerm
head_of production.MoreTermRemainder = nonterminal.MoreTerm
head_of production.UnaryMinus = nonterminal.Unary
head_of production.UnaryNot = nonterminal.Unary
head_of production.UnaryAtom = nonterminal.Unary
head_of production.AtomNumber = nonterminal.Atom
head_of production.AtomIndex = nonterminal.Atom
head_of production.AtomName = nonterminal.Atom
head_of production.AtomParens = nonterminal.Atom
head_of production.AtomLen = nonterminal.Atom
head_of production.AtomHas = nonterminal.Atom
head_of production.AtomCount = nonterminal.Atom
head_of production.AtomAt = nonterminal.Atom
head_of production.PlaceNone = nonterminal.Place
head_of production.PlaceSome = nonterminal.Place
head_of production.ArrayStatement = nonterminal.Statement
head_of production.ColumnStatement = nonterminal.Statement
head_of production.ListStatement = nonterminal.Statement
head_of production.ReferenceStatement = nonterminal.Statement
head_of production.MapStatement = nonterminal.Statement
head_of production.StreamStatement = nonterminal.Statement
head_of production.SliceStatement = nonterminal.Statement
head_of production.ViewStatement = nonterminal.Statement
head_of production.CopyStatement = nonterminal.Statement
head_of production.SetStatement = nonterminal.Statement
head_of production.AddToStatement = nonterminal.Statement
head_of production.PutStatement = nonterminal.Statement
head_of production.RemoveFromStatement = nonterminal.Statement
head_of production.ClearOutStatement = nonterminal.Statement
head_of production.SetCapacityStatement = nonterminal.Statement
head_of production.ScheduleStatement = nonterminal.Statement
head_of production.CombineStatement = nonterminal.Statement
head_of production.CompleteStatement = nonterminal.Statement
head_of production.DisposeStatement = nonterminal.Statement
head_of production.PrintStatement = nonterminal.Statement
head_of production.FlushStatement = nonterminal.Statement
head_of production.FrameStatement = nonterminal.Statement
head_of production.RepeatStatement = nonterminal.Statement
head_of production.WhenStatement = nonterminal.Statement
head_of production.LifeNone = nonterminal.Life
head_of production.LifeTemp = nonterminal.Life
head_of production.LifeTempJob = nonterminal.Life
head_of production.LifePersistent = nonterminal.Life
head_of production.SignedMinus = nonterminal.Signed
head_of production.SignedPlain = nonterminal.Signed
head_of production.MaybeSignedNone = nonterminal.MaybeSigned
head_of production.MaybeSignedSome = nonterminal.MaybeSigned
head_of production.ArrayValuesNone = nonterminal.ArrayValues
head_of production.ArrayValuesSome = nonterminal.ArrayValues
head_of production.MoreValuesEnd = nonterminal.MoreValues
head_of production.MoreValuesSome = nonterminal.MoreValues
head_of production.ReferenceValueNone = nonterminal.ReferenceValue
head_of production.ReferenceValueSome = nonterminal.ReferenceValue
head_of production.ArgumentsNone = nonterminal.Arguments
head_of production.ArgumentsSome = nonterminal.Arguments
head_of production.MoreArgumentsEnd = nonterminal.MoreArguments
head_of production.MoreArgumentsSome = nonterminal.MoreArguments
head_of production.ArgumentName = nonterminal.Argument
head_of production.ArgumentSigned = nonterminal.Argument
head_of production.AutoNone = nonterminal.Auto
head_of production.AutoSome = nonterminal.Auto
head_of production.SizesNone = nonterminal.Sizes
head_of production.SizesLength = nonterminal.Sizes
head_of production.SizesDefer = nonterminal.Sizes
head_of production.WaivedNone = nonterminal.Waived
head_of production.WaivedSome = nonterminal.Waived
head_of production.AfterNone = nonterminal.AfterNames
head_of production.AfterSome = nonterminal.AfterNames
head_of production.NamesEnd = nonterminal.Names
head_of production.NamesMore = nonterminal.Names
head_of production.DisposalNamed = nonterminal.Disposal
head_of production.DisposalAuto = nonterminal.Disposal
head_of production.DisposedNow = nonterminal.DisposedAfter
head_of production.DisposedLater = nonterminal.DisposedAfter
head_of production.TestEqual = nonterminal.Test
head_of production.TestNotEqual = nonterminal.Test
head_of production.TestLess = nonterminal.Test
head_of production.TestLessEqual = nonterminal.Test
head_of production.TestGreater = nonterminal.Test
head_of production.TestGreaterEqual = nonterminal.Test
head_of production.LinedEnd = nonterminal.Lined
head_of production.LinedLine = nonterminal.Lined
head_of production.LinedStatement = nonterminal.Lined

-- Where n tokens stand before them, these symbols derive these tokens, with these events. A nonterminal derives what
-- the body of one of its productions does. An action derives no token: it is an event, with the number of tokens before
-- it.
pub data Derives : ℕ → List Event → List Symbol → List TokenKind → Type 0 where
  nothing : {n : ℕ} → Derives n [] [] []
  terminal : {n : ℕ} {events : List Event} {ss : List Symbol} {ks : List TokenKind} (k : TokenKind) →
      Derives (suc n) events ss ks → Derives n events (symbol.Terminal k ∷ ss) (k ∷ ks)
  action : {n : ℕ} {events : List Event} {ss : List Symbol} {ks : List TokenKind} (a : Action) →
      Derives n events ss ks → Derives n (record { action = a; place = n } ∷ events) (symbol.Action a ∷ ss) ks
  expanded : {n : ℕ} {events : List Event} {ss : List Symbol} {ks : List TokenKind}
      (p : Production) {head : Nonterminal} →
      head_of p ≡ head → Derives n events (body_of p ++ ss) ks → Derives n events (symbol.Nonterminal head ∷ ss) ks
