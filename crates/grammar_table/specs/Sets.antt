-- For each nonterminal: the tokens that it may begin with, whether it may derive nothing, the tokens that may not
-- follow it, whether all that it derives ends in a terminal of its own, and more than the steps that it may take
-- without a token. The proofs check these tables against the productions.
use Rattle.std.specs.Prelude.{ℕ, Bool, true, false, List, [], ◌∷◌}
use Rattle.frame_grammar.specs.declared.token_kind.TokenKind.{TokenKind}
use Rattle.frame_grammar.specs.declared.token_kind.TokenKind.TheVariants as kind
use Rattle.frame_grammar.specs.declared.symbols.Nonterminal.{Nonterminal}
use Rattle.frame_grammar.specs.declared.symbols.Nonterminal.TheVariants as nonterminal

unfoldable pub firsts_of : Nonterminal → List TokenKind
firsts_of nonterminal.File = kind.Line ∷ kind.End ∷ kind.Job ∷ kind.Parallel ∷ kind.Array ∷ kind.List ∷ kind.Map
    ∷ kind.Stream ∷ kind.Add ∷ kind.Remove ∷ kind.Clear ∷ kind.Column ∷ kind.Reference ∷ kind.Slice ∷ kind.View
    ∷ kind.Copy ∷ kind.Set ∷ kind.Put ∷ kind.SetCapacity ∷ kind.Schedule ∷ kind.Combine ∷ kind.Complete ∷ kind.Dispose
    ∷ kind.Print ∷ kind.Flush ∷ kind.Repeat ∷ kind.Frame ∷ kind.When ∷ []
firsts_of nonterminal.Items = kind.Line ∷ kind.Job ∷ kind.Parallel ∷ kind.Array ∷ kind.List ∷ kind.Map ∷ kind.Stream
    ∷ kind.Add ∷ kind.Remove ∷ kind.Clear ∷ kind.Column ∷ kind.Reference ∷ kind.Slice ∷ kind.View ∷ kind.Copy ∷ kind.Set
    ∷ kind.Put ∷ kind.SetCapacity ∷ kind.Schedule ∷ kind.Combine ∷ kind.Complete ∷ kind.Dispose ∷ kind.Print
    ∷ kind.Flush ∷ kind.Repeat ∷ kind.Frame ∷ kind.When ∷ []
firsts_of nonterminal.AfterItem = kind.Line ∷ []
firsts_of nonterminal.Kernel = kind.Job ∷ kind.Parallel ∷ []
firsts_of nonterminal.Lines = kind.Line ∷ []
firsts_of nonterminal.OpenKernel = kind.Job ∷ kind.Parallel ∷ []
firsts_of nonterminal.Parameters = kind.Name ∷ []
firsts_of nonterminal.MoreParameters = kind.Comma ∷ []
firsts_of nonterminal.Parameter = kind.Name ∷ []
firsts_of nonterminal.ParameterKind = kind.Ro ∷ kind.Wo ∷ kind.Rw ∷ kind.Int ∷ []
firsts_of nonterminal.Container = kind.Array ∷ kind.List ∷ kind.Ref ∷ kind.Map ∷ kind.Stream ∷ []
firsts_of nonterminal.Width = kind.By ∷ []
firsts_of nonterminal.Block = kind.OpenBrace ∷ []
firsts_of nonterminal.Statements = kind.Name ∷ kind.Var ∷ kind.If ∷ kind.For ∷ kind.While ∷ kind.Begin ∷ kind.Write
    ∷ kind.Add ∷ kind.Remove ∷ kind.Clear ∷ []
firsts_of nonterminal.KernelStatement = kind.Name ∷ kind.Var ∷ kind.If ∷ kind.For ∷ kind.While ∷ kind.Begin ∷ kind.Write
    ∷ kind.Add ∷ kind.Remove ∷ kind.Clear ∷ []
firsts_of nonterminal.Target = kind.OpenBracket ∷ kind.Assign ∷ []
firsts_of nonterminal.Value = kind.Name ∷ kind.Number ∷ kind.OpenParen ∷ kind.Minus ∷ kind.Not ∷ kind.Remove
    ∷ kind.TryAdd ∷ kind.Len ∷ kind.Has ∷ kind.Count ∷ kind.At ∷ kind.Index ∷ []
firsts_of nonterminal.AddedValue = kind.Comma ∷ []
firsts_of nonterminal.ElsePart = kind.Else ∷ []
firsts_of nonterminal.Expression = kind.Name ∷ kind.Number ∷ kind.OpenParen ∷ kind.Minus ∷ kind.Not ∷ kind.Len
    ∷ kind.Has ∷ kind.Count ∷ kind.At ∷ kind.Index ∷ []
firsts_of nonterminal.MoreOr = kind.OrOr ∷ []
firsts_of nonterminal.Both = kind.Name ∷ kind.Number ∷ kind.OpenParen ∷ kind.Minus ∷ kind.Not ∷ kind.Len ∷ kind.Has
    ∷ kind.Count ∷ kind.At ∷ kind.Index ∷ []
firsts_of nonterminal.MoreAnd = kind.AndAnd ∷ []
firsts_of nonterminal.Comparison = kind.Name ∷ kind.Number ∷ kind.OpenParen ∷ kind.Minus ∷ kind.Not ∷ kind.Len
    ∷ kind.Has ∷ kind.Count ∷ kind.At ∷ kind.Index ∷ []
firsts_of nonterminal.Compared = kind.Equal ∷ kind.NotEqual ∷ kind.Less ∷ kind.LessEqual ∷ kind.Greater
    ∷ kind.GreaterEqual ∷ []
firsts_of nonterminal.Sum = kind.Name ∷ kind.Number ∷ kind.OpenParen ∷ kind.Minus ∷ kind.Not ∷ kind.Len ∷ kind.Has
    ∷ kind.Count ∷ kind.At ∷ kind.Index ∷ []
firsts_of nonterminal.MoreSum = kind.Plus ∷ kind.Minus ∷ []
firsts_of nonterminal.Term = kind.Name ∷ kind.Number ∷ kind.OpenParen ∷ kind.Minus ∷ kind.Not ∷ kind.Len ∷ kind.Has
    ∷ kind.Count ∷ kind.At ∷ kind.Index ∷ []
firsts_of nonterminal.MoreTerm = kind.Star ∷ kind.Slash ∷ kind.Percent ∷ []
firsts_of nonterminal.Unary = kind.Name ∷ kind.Number ∷ kind.OpenParen ∷ kind.Minus ∷ kind.Not ∷ kind.Len ∷ kind.Has
    ∷ kind.Count ∷ kind.At ∷ kind.Index ∷ []
firsts_of nonterminal.Atom = kind.Name ∷ kind.Number ∷ kind.OpenParen ∷ kind.Len ∷ kind.Has ∷ kind.Count ∷ kind.At
    ∷ kind.Index ∷ []
firsts_of nonterminal.Place = kind.OpenBracket ∷ []
firsts_of nonterminal.Statement = kind.Array ∷ kind.List ∷ kind.Map ∷ kind.Stream ∷ kind.Add ∷ kind.Remove ∷ kind.Clear
    ∷ kind.Column ∷ kind.Reference ∷ kind.Slice ∷ kind.View ∷ kind.Copy ∷ kind.Set ∷ kind.Put ∷ kind.SetCapacity
    ∷ kind.Schedule ∷ kind.Combine ∷ kind.Complete ∷ kind.Dispose ∷ kind.Print ∷ kind.Flush ∷ kind.Repeat ∷ kind.Frame
    ∷ kind.When ∷ []
firsts_of nonterminal.Life = kind.Temp ∷ kind.TempJob ∷ kind.Persistent ∷ []
firsts_of nonterminal.Signed = kind.Number ∷ kind.Minus ∷ []
firsts_of nonterminal.MaybeSigned = kind.Number ∷ kind.Minus ∷ []
firsts_of nonterminal.ArrayValues = kind.Assign ∷ []
firsts_of nonterminal.MoreValues = kind.Number ∷ kind.Minus ∷ []
firsts_of nonterminal.ReferenceValue = kind.Assign ∷ []
firsts_of nonterminal.Arguments = kind.Name ∷ kind.Number ∷ kind.Minus ∷ []
firsts_of nonterminal.MoreArguments = kind.Comma ∷ []
firsts_of nonterminal.Argument = kind.Name ∷ kind.Number ∷ kind.Minus ∷ []
firsts_of nonterminal.Auto = kind.Auto ∷ []
firsts_of nonterminal.Sizes = kind.Number ∷ kind.Defer ∷ []
firsts_of nonterminal.Waived = kind.Waive ∷ []
firsts_of nonterminal.AfterNames = kind.After ∷ []
firsts_of nonterminal.Names = kind.Name ∷ []
firsts_of nonterminal.Disposal = kind.Name ∷ kind.Auto ∷ []
firsts_of nonterminal.DisposedAfter = kind.After ∷ []
firsts_of nonterminal.Test = kind.Equal ∷ kind.NotEqual ∷ kind.Less ∷ kind.LessEqual ∷ kind.Greater ∷ kind.GreaterEqual
    ∷ []
firsts_of nonterminal.Lined = kind.Line ∷ kind.Array ∷ kind.List ∷ kind.Map ∷ kind.Stream ∷ kind.Add ∷ kind.Remove
    ∷ kind.Clear ∷ kind.Column ∷ kind.Reference ∷ kind.Slice ∷ kind.View ∷ kind.Copy ∷ kind.Set ∷ kind.Put
    ∷ kind.SetCapacity ∷ kind.Schedule ∷ kind.Combine ∷ kind.Complete ∷ kind.Dispose ∷ kind.Print ∷ kind.Flush
    ∷ kind.Repeat ∷ kind.Frame ∷ kind.When ∷ []

unfoldable pub is_nullable_of : Nonterminal → Bool
is_nullable_of nonterminal.Items = true
is_nullable_of nonterminal.AfterItem = true
is_nullable_of nonterminal.Lines = true
is_nullable_of nonterminal.Parameters = true
is_nullable_of nonterminal.MoreParameters = true
is_nullable_of nonterminal.Width = true
is_nullable_of nonterminal.Statements = true
is_nullable_of nonterminal.AddedValue = true
is_nullable_of nonterminal.ElsePart = true
is_nullable_of nonterminal.MoreOr = true
is_nullable_of nonterminal.MoreAnd = true
is_nullable_of nonterminal.Compared = true
is_nullable_of nonterminal.MoreSum = true
is_nullable_of nonterminal.MoreTerm = true
is_nullable_of nonterminal.Place = true
is_nullable_of nonterminal.Life = true
is_nullable_of nonterminal.MaybeSigned = true
is_nullable_of nonterminal.ArrayValues = true
is_nullable_of nonterminal.MoreValues = true
is_nullable_of nonterminal.ReferenceValue = true
is_nullable_of nonterminal.Arguments = true
is_nullable_of nonterminal.MoreArguments = true
is_nullable_of nonterminal.Auto = true
is_nullable_of nonterminal.Sizes = true
is_nullable_of nonterminal.Waived = true
is_nullable_of nonterminal.AfterNames = true
is_nullable_of nonterminal.Names = true
is_nullable_of nonterminal.DisposedAfter = true
is_nullable_of nonterminal.Lined = true
is_nullable_of _ = false

unfoldable pub barred_of : Nonterminal → List TokenKind
barred_of nonterminal.File = []
barred_of nonterminal.Items = kind.Name ∷ kind.Number ∷ kind.Line ∷ kind.Assign ∷ kind.Minus ∷ kind.Job ∷ kind.Parallel
    ∷ kind.Array ∷ kind.List ∷ kind.Map ∷ kind.Stream ∷ kind.Add ∷ kind.Remove ∷ kind.Clear ∷ kind.Column
    ∷ kind.Reference ∷ kind.Slice ∷ kind.View ∷ kind.Copy ∷ kind.Set ∷ kind.Put ∷ kind.SetCapacity ∷ kind.Schedule
    ∷ kind.Waive ∷ kind.After ∷ kind.Combine ∷ kind.Complete ∷ kind.Dispose ∷ kind.Print ∷ kind.Flush ∷ kind.Repeat
    ∷ kind.Frame ∷ kind.Temp ∷ kind.TempJob ∷ kind.Persistent ∷ kind.Defer ∷ kind.When ∷ []
barred_of nonterminal.AfterItem = kind.Name ∷ kind.Number ∷ kind.Line ∷ kind.Assign ∷ kind.Minus ∷ kind.Job
    ∷ kind.Parallel ∷ kind.Array ∷ kind.List ∷ kind.Map ∷ kind.Stream ∷ kind.Add ∷ kind.Remove ∷ kind.Clear
    ∷ kind.Column ∷ kind.Reference ∷ kind.Slice ∷ kind.View ∷ kind.Copy ∷ kind.Set ∷ kind.Put ∷ kind.SetCapacity
    ∷ kind.Schedule ∷ kind.Waive ∷ kind.After ∷ kind.Combine ∷ kind.Complete ∷ kind.Dispose ∷ kind.Print ∷ kind.Flush
    ∷ kind.Repeat ∷ kind.Frame ∷ kind.Temp ∷ kind.TempJob ∷ kind.Persistent ∷ kind.Defer ∷ kind.When ∷ []
barred_of nonterminal.Kernel = []
barred_of nonterminal.Lines = kind.Line ∷ []
barred_of nonterminal.OpenKernel = kind.Name ∷ kind.Line ∷ kind.Var ∷ kind.If ∷ kind.Else ∷ kind.For ∷ kind.While
    ∷ kind.Begin ∷ kind.Write ∷ kind.Add ∷ kind.Remove ∷ kind.Clear ∷ []
barred_of nonterminal.Parameters = kind.Name ∷ kind.Line ∷ kind.Comma ∷ kind.By ∷ []
barred_of nonterminal.MoreParameters = kind.Line ∷ kind.Comma ∷ kind.By ∷ []
barred_of nonterminal.Parameter = kind.Line ∷ kind.By ∷ []
barred_of nonterminal.ParameterKind = kind.Line ∷ kind.By ∷ []
barred_of nonterminal.Container = kind.Line ∷ kind.By ∷ []
barred_of nonterminal.Width = kind.Line ∷ kind.By ∷ []
barred_of nonterminal.Block = kind.Line ∷ []
barred_of nonterminal.Statements = kind.Name ∷ kind.Line ∷ kind.Var ∷ kind.If ∷ kind.Else ∷ kind.For ∷ kind.While
    ∷ kind.Begin ∷ kind.Write ∷ kind.Add ∷ kind.Remove ∷ kind.Clear ∷ []
barred_of nonterminal.KernelStatement = kind.Line ∷ kind.Else ∷ []
barred_of nonterminal.Target = kind.Line ∷ kind.OpenBracket ∷ kind.Equal ∷ kind.NotEqual ∷ kind.Less ∷ kind.LessEqual
    ∷ kind.Greater ∷ kind.GreaterEqual ∷ kind.Plus ∷ kind.Minus ∷ kind.Star ∷ kind.Slash ∷ kind.Percent ∷ kind.AndAnd
    ∷ kind.OrOr ∷ []
barred_of nonterminal.Value = kind.Line ∷ kind.OpenBracket ∷ kind.Equal ∷ kind.NotEqual ∷ kind.Less ∷ kind.LessEqual
    ∷ kind.Greater ∷ kind.GreaterEqual ∷ kind.Plus ∷ kind.Minus ∷ kind.Star ∷ kind.Slash ∷ kind.Percent ∷ kind.AndAnd
    ∷ kind.OrOr ∷ []
barred_of nonterminal.AddedValue = kind.Line ∷ kind.OpenBracket ∷ kind.Comma ∷ kind.Equal ∷ kind.NotEqual ∷ kind.Less
    ∷ kind.LessEqual ∷ kind.Greater ∷ kind.GreaterEqual ∷ kind.Plus ∷ kind.Minus ∷ kind.Star ∷ kind.Slash ∷ kind.Percent
    ∷ kind.AndAnd ∷ kind.OrOr ∷ []
barred_of nonterminal.ElsePart = kind.Line ∷ kind.Else ∷ []
barred_of nonterminal.Expression = kind.Line ∷ kind.OpenBracket ∷ kind.Equal ∷ kind.NotEqual ∷ kind.Less
    ∷ kind.LessEqual ∷ kind.Greater ∷ kind.GreaterEqual ∷ kind.Plus ∷ kind.Minus ∷ kind.Star ∷ kind.Slash ∷ kind.Percent
    ∷ kind.AndAnd ∷ kind.OrOr ∷ []
barred_of nonterminal.MoreOr = kind.Line ∷ kind.OpenBracket ∷ kind.Equal ∷ kind.NotEqual ∷ kind.Less ∷ kind.LessEqual
    ∷ kind.Greater ∷ kind.GreaterEqual ∷ kind.Plus ∷ kind.Minus ∷ kind.Star ∷ kind.Slash ∷ kind.Percent ∷ kind.AndAnd
    ∷ kind.OrOr ∷ []
barred_of nonterminal.Both = kind.Line ∷ kind.OpenBracket ∷ kind.Equal ∷ kind.NotEqual ∷ kind.Less ∷ kind.LessEqual
    ∷ kind.Greater ∷ kind.GreaterEqual ∷ kind.Plus ∷ kind.Minus ∷ kind.Star ∷ kind.Slash ∷ kind.Percent ∷ kind.AndAnd
    ∷ []
barred_of nonterminal.MoreAnd = kind.Line ∷ kind.OpenBracket ∷ kind.Equal ∷ kind.NotEqual ∷ kind.Less ∷ kind.LessEqual
    ∷ kind.Greater ∷ kind.GreaterEqual ∷ kind.Plus ∷ kind.Minus ∷ kind.Star ∷ kind.Slash ∷ kind.Percent ∷ kind.AndAnd
    ∷ []
barred_of nonterminal.Comparison = kind.Line ∷ kind.OpenBracket ∷ kind.Equal ∷ kind.NotEqual ∷ kind.Less
    ∷ kind.LessEqual ∷ kind.Greater ∷ kind.GreaterEqual ∷ kind.Plus ∷ kind.Minus ∷ kind.Star ∷ kind.Slash ∷ kind.Percent
    ∷ []
barred_of nonterminal.Compared = kind.Line ∷ kind.OpenBracket ∷ kind.Equal ∷ kind.NotEqual ∷ kind.Less ∷ kind.LessEqual
    ∷ kind.Greater ∷ kind.GreaterEqual ∷ kind.Plus ∷ kind.Minus ∷ kind.Star ∷ kind.Slash ∷ kind.Percent ∷ []
barred_of nonterminal.Sum = kind.Line ∷ kind.OpenBracket ∷ kind.Plus ∷ kind.Minus ∷ kind.Star ∷ kind.Slash
    ∷ kind.Percent ∷ []
barred_of nonterminal.MoreSum = kind.Line ∷ kind.OpenBracket ∷ kind.Plus ∷ kind.Minus ∷ kind.Star ∷ kind.Slash
    ∷ kind.Percent ∷ []
barred_of nonterminal.Term = kind.Line ∷ kind.OpenBracket ∷ kind.Star ∷ kind.Slash ∷ kind.Percent ∷ []
barred_of nonterminal.MoreTerm = kind.Line ∷ kind.OpenBracket ∷ kind.Star ∷ kind.Slash ∷ kind.Percent ∷ []
barred_of nonterminal.Unary = kind.Line ∷ kind.OpenBracket ∷ []
barred_of nonterminal.Atom = kind.Line ∷ kind.OpenBracket ∷ []
barred_of nonterminal.Place = kind.Line ∷ kind.OpenBracket ∷ []
barred_of nonterminal.Statement = kind.Name ∷ kind.Number ∷ kind.Assign ∷ kind.Minus ∷ kind.Waive ∷ kind.After
    ∷ kind.Temp ∷ kind.TempJob ∷ kind.Persistent ∷ kind.Defer ∷ []
barred_of nonterminal.Life = kind.Temp ∷ kind.TempJob ∷ kind.Persistent ∷ []
barred_of nonterminal.Signed = []
barred_of nonterminal.MaybeSigned = kind.Number ∷ kind.Minus ∷ []
barred_of nonterminal.ArrayValues = kind.Number ∷ kind.Assign ∷ kind.Minus ∷ []
barred_of nonterminal.MoreValues = kind.Number ∷ kind.Minus ∷ []
barred_of nonterminal.ReferenceValue = kind.Assign ∷ []
barred_of nonterminal.Arguments = kind.Name ∷ kind.Number ∷ kind.Comma ∷ kind.Minus ∷ []
barred_of nonterminal.MoreArguments = kind.Comma ∷ []
barred_of nonterminal.Argument = []
barred_of nonterminal.Auto = kind.Auto ∷ []
barred_of nonterminal.Sizes = kind.Number ∷ kind.Defer ∷ []
barred_of nonterminal.Waived = kind.Name ∷ kind.Waive ∷ []
barred_of nonterminal.AfterNames = kind.Name ∷ kind.After ∷ []
barred_of nonterminal.Names = kind.Name ∷ []
barred_of nonterminal.Disposal = kind.After ∷ []
barred_of nonterminal.DisposedAfter = kind.After ∷ []
barred_of nonterminal.Test = []
barred_of nonterminal.Lined = kind.Line ∷ kind.Array ∷ kind.List ∷ kind.Map ∷ kind.Stream ∷ kind.Add ∷ kind.Remove
    ∷ kind.Clear ∷ kind.Column ∷ kind.Reference ∷ kind.Slice ∷ kind.View ∷ kind.Copy ∷ kind.Set ∷ kind.Put
    ∷ kind.SetCapacity ∷ kind.Schedule ∷ kind.Combine ∷ kind.Complete ∷ kind.Dispose ∷ kind.Print ∷ kind.Flush
    ∷ kind.Repeat ∷ kind.Frame ∷ kind.When ∷ []

unfoldable pub is_closed_of : Nonterminal → Bool
is_closed_of nonterminal.File = true
is_closed_of nonterminal.Kernel = true
is_closed_of _ = false

unfoldable pub rank_of : Nonterminal → ℕ
rank_of nonterminal.File = 5
rank_of nonterminal.Items = 4
rank_of nonterminal.AfterItem = 1
rank_of nonterminal.Kernel = 3
rank_of nonterminal.Lines = 1
rank_of nonterminal.OpenKernel = 2
rank_of nonterminal.Parameters = 3
rank_of nonterminal.MoreParameters = 1
rank_of nonterminal.Parameter = 2
rank_of nonterminal.ParameterKind = 1
rank_of nonterminal.Container = 2
rank_of nonterminal.Width = 2
rank_of nonterminal.Block = 1
rank_of nonterminal.Statements = 4
rank_of nonterminal.KernelStatement = 2
rank_of nonterminal.Target = 1
rank_of nonterminal.Value = 10
rank_of nonterminal.AddedValue = 2
rank_of nonterminal.ElsePart = 2
rank_of nonterminal.Expression = 9
rank_of nonterminal.MoreOr = 2
rank_of nonterminal.Both = 8
rank_of nonterminal.MoreAnd = 2
rank_of nonterminal.Comparison = 7
rank_of nonterminal.Compared = 2
rank_of nonterminal.Sum = 6
rank_of nonterminal.MoreSum = 2
rank_of nonterminal.Term = 5
rank_of nonterminal.MoreTerm = 2
rank_of nonterminal.Unary = 4
rank_of nonterminal.Atom = 3
rank_of nonterminal.Place = 2
rank_of nonterminal.Statement = 1
rank_of nonterminal.Life = 2
rank_of nonterminal.Signed = 2
rank_of nonterminal.MaybeSigned = 3
rank_of nonterminal.ArrayValues = 2
rank_of nonterminal.MoreValues = 3
rank_of nonterminal.ReferenceValue = 2
rank_of nonterminal.Arguments = 4
rank_of nonterminal.MoreArguments = 1
rank_of nonterminal.Argument = 3
rank_of nonterminal.Auto = 2
rank_of nonterminal.Sizes = 2
rank_of nonterminal.Waived = 2
rank_of nonterminal.AfterNames = 2
rank_of nonterminal.Names = 2
rank_of nonterminal.Disposal = 2
rank_of nonterminal.DisposedAfter = 2
rank_of nonterminal.Test = 2
rank_of nonterminal.Lined = 3
