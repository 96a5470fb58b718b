-- Where the nodes of a tree stand, and what is built of them.
use Rattle.std.specs.Prelude.{◌≡◌, ℕ, ◌+◌, ◌-◌, ◌<◌, ◌≤◌, min, pos, Bool, true, false, IsTrue, if◌then◌else◌, List, [], ◌∷◌, slice_get, Option, Some, None}
use Rattle.frame_ast.specs.declared.kernel.Expr.{Expr}
use Rattle.frame_ast.specs.declared.kernel.Expr.TheVariants.{Number, Index, Local, Value, Element', Length, Has', Count', Negative', Not', And', Or', Binary'}
use Rattle.frame_ast.specs.declared.kernel.Stmt.{Stmt}
use Rattle.frame_ast.specs.declared.kernel.Stmt.TheOpen.{Stmt-F, Assign, SetValue, Store, Add, AddPair, TryAdd, RemoveAt, RemoveKey, Write}
use Rattle.kernel_raw.specs.declared.raw.RawForm.{RawForm}
use Rattle.kernel_raw.specs.declared.raw.RawForm.TheVariants as form
use Rattle.kernel_raw.specs.declared.raw.RawNode.{RawNode}
use Rattle.kernel_raw.specs.declared.raw.RawKernel.{RawKernel}
use Rattle.kernel_code.specs.declared.check.names.Meaning.{Meaning}
use Rattle.kernel_raw.specs.Raw.{RawExpr, Leaf, One, Two, Infix, RawBlock, Nothing, Simple, Nested, Branched, expr_size, parts_size, block_size, expr_node, statement_node}
use Rattle.kernel_code.specs.declared.check.names.Named.{Named}
use Rattle.kernel_code.specs.declared.check.names.Named.TheVariants.{Parameter, Variable, LoopVariable}
use Rattle.kernel_code.specs.StaticFaults.{nodes_fault}
use Rattle.kernel_raw.specs.RawTexts.{kind_at, value_at}
use Rattle.kernel_code.specs.Known.{meanings_from, number_named}
use Rattle.kernel_code.specs.Trees.{Joint, Both, Either, By, Neither, ExprOf, BlockOf, is_minus}

-- FORMS THAT TREES HAVE

abbrev pub is_leaf : RawForm → Bool
is_leaf form.Number = true
is_leaf form.Index = true
is_leaf form.Name = true
is_leaf form.Length = true
is_leaf _ = false

abbrev pub is_one : RawForm → Bool
is_one form.Element = true
is_one form.Has = true
is_one form.Count = true
is_one form.Unary = true
is_one _ = false

abbrev pub is_two : RawForm → Bool
is_two form.Item = true
is_two _ = false

abbrev pub IsFormed : RawExpr → Type 0
IsFormed (Leaf f at name) = IsTrue (is_leaf f)
IsFormed (One f at name e) = IsTrue (is_one f) × IsFormed e
IsFormed (Two f at name e g) = IsTrue (is_two f) × IsFormed e × IsFormed g
IsFormed (Infix at e g) = IsFormed e × IsFormed g

-- WHERE NODES STAND

-- the nodes of an expression stand from node i on
abbrev pub StandsExpr : List RawNode → ℕ → RawExpr → Type 0
StandsExpr nodes i (Leaf f at name) = slice_get nodes i ≡ Some (expr_node f at name 0 0)
StandsExpr nodes i (One f at name e) =
    (slice_get nodes i ≡ Some (expr_node f at name 0 (expr_size e))) × StandsExpr nodes (i + 1) e
StandsExpr nodes i (Two f at name e g) =
    (slice_get nodes i ≡ Some (expr_node f at name 0 (expr_size e + expr_size g)))
    × StandsExpr nodes (i + 1) e × StandsExpr nodes (i + (1 + expr_size e)) g
StandsExpr nodes i (Infix at e g) =
    StandsExpr nodes i e
    × (slice_get nodes (i + expr_size e) ≡ Some (expr_node form.Binary at at (expr_size e) (expr_size g)))
    × StandsExpr nodes (i + (expr_size e + 1)) g

-- node j is no operator whose left side has at most k nodes
abbrev pub Ends : List RawNode → (j k : ℕ) → Type 0
Ends nodes j k = (node : RawNode) → slice_get nodes j ≡ Some node → node.form ≡ form.Binary → k < node.before

-- EXPRESSIONS

-- the names of the nodes are known, and there is no fault
pub record IsResolved (raw : RawKernel) (ms : List Meaning) : Type 0 where
  pub faultless : nodes_fault raw 0 raw.nodes.items ≡ None
  pub meanings : ms ≡ meanings_from raw 0 raw.nodes.items

-- an expression stands from node i on, and no operator behind it takes it as a left side
pub record IsHere (raw : RawKernel) (i : ℕ) (e : RawExpr) : Type 0 where
  pub formed : IsFormed e
  pub stands : StandsExpr raw.nodes.items i e
  pub ends : Ends raw.nodes.items (i + expr_size e) (expr_size e)

abbrev pub is_infix : RawExpr → Bool
is_infix (Infix at e g) = true
is_infix _ = false

-- an expression that is no operator between two sides stands from node i on; an operator behind it may take it as a
-- left side
pub record IsAtomHere (raw : RawKernel) (i : ℕ) (e : RawExpr) : Type 0 where
  pub atom : is_infix e ≡ false
  pub formed : IsFormed e
  pub stands : StandsExpr raw.nodes.items i e
  pub ends : Ends raw.nodes.items (i + expr_size e) (expr_size e - 1)

-- the first expression is the second or a left side in it, of the left side in it, and so on
pub data Begins : RawExpr → RawExpr → Type 0 where
  whole : {e : RawExpr} → Begins e e
  further : {l e : RawExpr} (at : ℕ) (g : RawExpr) → Begins (Infix at l g) e → Begins l e

-- what was built of an expression from node i on, and the node behind it
pub record IsBuilt (raw : RawKernel) (i : ℕ) (e : RawExpr) (x : Expr) (n : ℕ) : Type 0 where
  pub next : n ≡ i + expr_size e
  pub is : ExprOf raw i e x

-- WHAT IS MADE OF ONE NODE

abbrev pub value_named : Option Named → Expr
value_named None = Index
value_named (Some (Parameter x)) = Value x
value_named (Some (Variable k)) = Local k
value_named (Some (LoopVariable k)) = Local k

abbrev pub leaf_of : RawKernel → RawForm → ℕ → Option Named → Expr
leaf_of raw form.Number at named = Number (pos (min 9223372036854775807 (value_at raw at)))
leaf_of raw form.Name at named = value_named named
leaf_of raw form.Length at named = Length (number_named named)
leaf_of raw _ at named = Index

abbrev pub IsOneOf : RawKernel → RawForm → ℕ → Option Named → Expr → Expr → Type 0
IsOneOf raw form.Element at named y x = (p : _) × (x ≡ Element' (number_named named) p y)
IsOneOf raw form.Has at named y x = (p : _) × (x ≡ Has' (number_named named) p y)
IsOneOf raw form.Count at named y x = (p : _) × (x ≡ Count' (number_named named) p y)
IsOneOf raw _ at named y x = (p : _) × (x ≡ (if is_minus (kind_at raw at) then Negative' p y else Not' p y))

-- what joins two sides
abbrev pub IsJoint : Joint → Expr → Expr → Expr → Type 0
IsJoint Both y z x = (p : _) × (x ≡ And' p y z)
IsJoint Either y z x = (p : _) × (x ≡ Or' p y z)
IsJoint (By op) y z x = (p : _) × (x ≡ Binary' op p y z)
IsJoint Neither y z x = ⊥

-- STATEMENTS

-- the expressions of a statement stand behind each other
abbrev pub StandsParts : List RawNode → ℕ → List RawExpr → Type 0
StandsParts nodes i [] = Unit {0}
StandsParts nodes i (e ∷ more) = StandsExpr nodes i e × StandsParts nodes (i + expr_size e) more

-- the nodes of a block stand from node i on
abbrev pub StandsBlock : List RawNode → Option ℕ → ℕ → RawBlock → Type 0
StandsBlock nodes owner i Nothing = Unit {0}
StandsBlock nodes owner i (Simple f at name parts more) =
    (slice_get nodes i ≡ Some (statement_node f at name owner (parts_size parts) 0 0))
    × StandsParts nodes (i + 1) parts
    × StandsBlock nodes owner (i + (1 + parts_size parts)) more
StandsBlock nodes owner i (Nested f at name parts inner more) =
    (slice_get nodes i ≡ Some (statement_node f at name owner (parts_size parts) (block_size inner) 0))
    × StandsParts nodes (i + 1) parts
    × StandsBlock nodes (Some i) (i + (1 + parts_size parts)) inner
    × StandsBlock nodes owner (i + (1 + parts_size parts + block_size inner)) more
StandsBlock nodes owner i (Branched at e first second more) =
    (slice_get nodes i ≡ Some (statement_node form.IfElse at at owner (expr_size e) (block_size first)
    (block_size second)))
    × StandsExpr nodes (i + 1) e
    × StandsBlock nodes (Some i) (i + (1 + expr_size e)) first
    × StandsBlock nodes (Some i) (i + (1 + expr_size e + block_size first)) second
    × StandsBlock nodes owner (i + (1 + expr_size e + block_size first + block_size second)) more

-- forms by what they have under them: statements without a block of no, one or two expressions, and those with blocks
abbrev pub group_of : RawForm → ℕ
group_of form.Clear = 1
group_of form.Var = 2
group_of form.SetName = 2
group_of form.SetRemove = 2
group_of form.AddItem = 2
group_of form.Remove = 2
group_of form.Write = 2
group_of form.SetPlace = 3
group_of form.SetTryAdd = 3
group_of form.AddPair = 3
group_of form.Begin = 4
group_of form.If = 5
group_of form.While = 6
group_of form.For = 7
group_of form.IfElse = 8
group_of _ = 0

abbrev pub FitsSimple : RawForm → List RawExpr → Type 0
FitsSimple f [] = group_of f ≡ 1
FitsSimple f (e ∷ []) = (group_of f ≡ 2) × IsFormed e
FitsSimple f (e ∷ g ∷ []) = (group_of f ≡ 3) × IsFormed e × IsFormed g
FitsSimple f (e ∷ g ∷ h ∷ more) = ⊥

abbrev pub FitsNested : RawForm → List RawExpr → Type 0
FitsNested f [] = ⊥
FitsNested f (e ∷ []) = (4 ≤ group_of f) × (group_of f ≤ 6) × IsFormed e
FitsNested f (e ∷ g ∷ []) = (group_of f ≡ 7) × IsFormed e × IsFormed g
FitsNested f (e ∷ g ∷ h ∷ more) = ⊥

abbrev pub IsFormedBlock : RawBlock → Type 0
IsFormedBlock Nothing = Unit {0}
IsFormedBlock (Simple f at name parts more) = FitsSimple f parts × IsFormedBlock more
IsFormedBlock (Nested f at name parts inner more) = FitsNested f parts × IsFormedBlock inner × IsFormedBlock more
IsFormedBlock (Branched at e first second more) =
    IsFormed e × IsFormedBlock first × IsFormedBlock second × IsFormedBlock more

-- node j is no operator between two sides
abbrev pub NoOperator : List RawNode → ℕ → Type 0
NoOperator nodes j = (node : RawNode) → slice_get nodes j ≡ Some node → node.form ≡ form.Binary → ⊥

-- a block stands from node i on
pub record IsBlockHere (raw : RawKernel) (owner : Option ℕ) (i : ℕ) (b : RawBlock) : Type 0 where
  pub formed : IsFormedBlock b
  pub stands : StandsBlock raw.nodes.items owner i b
  pub after : NoOperator raw.nodes.items (i + block_size b)

-- the statements behind the first
abbrev pub rest_of : RawBlock → RawBlock
rest_of Nothing = Nothing
rest_of (Simple f at name parts more) = more
rest_of (Nested f at name parts inner more) = more
rest_of (Branched at e first second more) = more

abbrev pub first_size : RawBlock → ℕ
first_size Nothing = 0
first_size (Simple f at name parts more) = 1 + parts_size parts
first_size (Nested f at name parts inner more) = 1 + parts_size parts + block_size inner
first_size (Branched at e first second more) = 1 + expr_size e + block_size first + block_size second

abbrev pub has_first : RawBlock → Bool
has_first Nothing = false
has_first _ = true

-- this is the first statement of a block from node i on
pub record IsFirst (raw : RawKernel) (i : ℕ) (b : RawBlock) (s : Stmt) : Type 0 where
  pub before : (others : List Stmt) → BlockOf raw (i + first_size b) (rest_of b) others → BlockOf raw i b (s ∷ others)

-- WHAT IS MADE OF ONE STATEMENT

abbrev pub set_of : Option Named → Expr → Stmt-F Stmt
set_of (Some (Parameter x)) e = SetValue x e
set_of named e = Assign (number_named named) e

abbrev pub statement_with_one : RawForm → Meaning → Expr → Stmt-F Stmt
statement_with_one form.Var m e = Assign (number_named m.name) e
statement_with_one form.SetName m e = set_of m.name e
statement_with_one form.SetRemove m e = RemoveKey (number_named m.answer) (number_named m.name) e
statement_with_one form.AddItem m e = Add (number_named m.name) e
statement_with_one form.Remove m e = RemoveAt (number_named m.name) e
statement_with_one _ m e = Write (number_named m.name) e

abbrev pub statement_with_two : RawForm → Meaning → Expr → Expr → Stmt-F Stmt
statement_with_two form.SetPlace m e f = Store (number_named m.name) e f
statement_with_two form.SetTryAdd m e f = TryAdd (number_named m.answer) (number_named m.name) e f
statement_with_two _ m e f = AddPair (number_named m.name) e f
