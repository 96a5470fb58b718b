-- The kernel that a raw kernel without faults is: the same tree, with numbers by their value and names by what they are
-- where they stand.
use Rattle.std.specs.Prelude.{◌≡◌, ℕ, ◌+◌, pos, Bool, true, false, List, [], ◌∷◌, length, map, Option, Some, None}
use Rattle.std.specs.String.{string_bytes}
use Rattle.job_base.specs.declared.Access.{Access}
use Rattle.frame_grammar.specs.declared.token_kind.TokenKind.{TokenKind}
use Rattle.frame_grammar.specs.declared.token_kind.TokenKind.TheVariants as token
use Rattle.frame_grammar.specs.declared.symbols.Event.{Event}
use Rattle.frame_ast.specs.declared.kernel.ParamKind.{ParamKind}
use Rattle.frame_ast.specs.declared.kernel.Param.{Param}
use Rattle.frame_ast.specs.declared.kernel.Kernel.{Kernel}
use Rattle.frame_ast.specs.declared.kernel.Operator.{Operator}
use Rattle.frame_ast.specs.declared.kernel.Operator.TheVariants as operator
use Rattle.frame_ast.specs.declared.kernel.Expr.{Expr}
use Rattle.frame_ast.specs.declared.kernel.Expr.TheVariants.{Number, Index, Local, Value, Element', Length, Has', Count', Item', Negative', Not', And', Or', Binary'}
use Rattle.frame_ast.specs.declared.kernel.Stmt.{Stmt, out-Stmt}
use Rattle.frame_ast.specs.declared.kernel.Stmt.TheOpen.{Assign, SetValue, Store, Add, AddPair, TryAdd, RemoveAt, RemoveKey, Clear, Write, Begin, If, For, While}
use Rattle.kernel_raw.specs.declared.raw.RawForm.TheVariants as form
use Rattle.kernel_raw.specs.declared.raw.RawParam.{RawParam}
use Rattle.kernel_raw.specs.declared.raw.RawKernel.{RawKernel}
use Rattle.kernel_code.specs.declared.check.names.Named.TheVariants.{Parameter, Variable, LoopVariable}
use Rattle.kernel_raw.specs.RawTexts.{kind_at, text_at, value_at}
use Rattle.kernel_raw.specs.Raw.{RawExpr, Leaf, One, Two, Infix, RawBlock, Nothing, Simple, Nested, Branched, expr_size, block_size}
use Rattle.kernel_raw.specs.RawEvents.{SpellsRaw}
use Rattle.kernel_code.specs.Scopes.{locals_before, locals_of, meaning_of}

-- OPERATORS

-- a unary operator is `-` or `!`
abbrev pub is_minus : TokenKind → Bool
is_minus token.Minus = true
is_minus _ = false

-- the operator that a token is, if it is one that evaluates both sides
abbrev pub operator_of : TokenKind → Option Operator
operator_of token.Equal = Some operator.Equal
operator_of token.NotEqual = Some operator.NotEqual
operator_of token.Less = Some operator.Less
operator_of token.LessEqual = Some operator.LessEqual
operator_of token.Greater = Some operator.Greater
operator_of token.GreaterEqual = Some operator.GreaterEqual
operator_of token.Plus = Some operator.Plus
operator_of token.Minus = Some operator.Minus
operator_of token.Star = Some operator.Times
operator_of token.Slash = Some operator.Divide
operator_of token.Percent = Some operator.Remainder
operator_of _ = None

-- what joins two sides: `&&`, `||`, or an operator that evaluates both; any other token joins neither to the other
pub data Joint : Type 0 where
  Both : Joint
  Either : Joint
  By : Operator → Joint
  Neither : Joint

abbrev pub joint_by : Option Operator → Joint
joint_by None = Neither
joint_by (Some op) = By op

abbrev pub joint_of : TokenKind → Joint
joint_of token.AndAnd = Both
joint_of token.OrOr = Either
joint_of kind = joint_by (operator_of kind)

abbrev pub is_joint : Joint → Bool
is_joint Neither = false
is_joint _ = true

-- whether a token joins two sides
abbrev pub joins : TokenKind → Bool
joins kind = is_joint (joint_of kind)

-- NAMES

-- the name at a place is this parameter, this local of a `var`, or this local at node i
abbrev pub IsParameter : RawKernel → (i at x : ℕ) → Type 0
IsParameter raw i at x = meaning_of raw i (text_at raw at) ≡ Some (Parameter x)

abbrev pub IsVariable : RawKernel → (i at k : ℕ) → Type 0
IsVariable raw i at k = meaning_of raw i (text_at raw at) ≡ Some (Variable k)

abbrev pub IsLoopVariable : RawKernel → (i at k : ℕ) → Type 0
IsLoopVariable raw i at k = meaning_of raw i (text_at raw at) ≡ Some (LoopVariable k)

-- the local that node i declares
abbrev pub Declares : RawKernel → (i k : ℕ) → Type 0
Declares raw i k = k ≡ length (locals_before raw.nodes.items i)

-- EXPRESSIONS: the nodes of the tree stand from node i on

pub data ExprOf (raw : RawKernel) : ℕ → RawExpr → Expr → Type 0 where
  number : {i at name : ℕ} {x : Expr} → x ≡ Number (pos (value_at raw at)) → ExprOf raw i (Leaf form.Number at name) x
  index : {i at name : ℕ} {x : Expr} → x ≡ Index → ExprOf raw i (Leaf form.Index at name) x
  variable : {i at name : ℕ} {x : Expr} (k : ℕ) → IsVariable raw i name k → x ≡ Local k →
      ExprOf raw i (Leaf form.Name at name) x
  loop_variable : {i at name : ℕ} {x : Expr} (k : ℕ) → IsLoopVariable raw i name k → x ≡ Local k →
      ExprOf raw i (Leaf form.Name at name) x
  value : {i at name : ℕ} {x : Expr} (k : ℕ) → IsParameter raw i name k → x ≡ Value k →
      ExprOf raw i (Leaf form.Name at name) x
  size : {i at name : ℕ} {x : Expr} (k : ℕ) → IsParameter raw i name k → x ≡ Length k →
      ExprOf raw i (Leaf form.Length at name) x
  element : {i at name : ℕ} {e : RawExpr} {x y : Expr} {p : _} (k : ℕ) → IsParameter raw i name k →
      ExprOf raw (i + 1) e y →
      x ≡ Element' k p y → ExprOf raw i (One form.Element at name e) x
  has : {i at name : ℕ} {e : RawExpr} {x y : Expr} {p : _} (k : ℕ) → IsParameter raw i name k → ExprOf raw (i + 1) e y →
      x ≡ Has' k p y → ExprOf raw i (One form.Has at name e) x
  count : {i at name : ℕ} {e : RawExpr} {x y : Expr} {p : _} (k : ℕ) → IsParameter raw i name k →
      ExprOf raw (i + 1) e y →
      x ≡ Count' k p y → ExprOf raw i (One form.Count at name e) x
  item : {i at name : ℕ} {e g : RawExpr} {x y z : Expr} {p : _} (k : ℕ) → IsParameter raw i name k →
      ExprOf raw (i + 1) e y →
      ExprOf raw (i + (1 + expr_size e)) g z → x ≡ Item' k p y z → ExprOf raw i (Two form.Item at name e g) x
  negative : {i at name : ℕ} {e : RawExpr} {x y : Expr} {p : _} → is_minus (kind_at raw at) ≡ true →
      ExprOf raw (i + 1) e y →
      x ≡ Negative' p y → ExprOf raw i (One form.Unary at name e) x
  opposite : {i at name : ℕ} {e : RawExpr} {x y : Expr} {p : _} → is_minus (kind_at raw at) ≡ false →
      ExprOf raw (i + 1) e y →
      x ≡ Not' p y → ExprOf raw i (One form.Unary at name e) x
  both : {i at : ℕ} {e g : RawExpr} {x y z : Expr} {p : _} → joint_of (kind_at raw at) ≡ Both → ExprOf raw i e y →
      ExprOf raw (i + (expr_size e + 1)) g z → x ≡ And' p y z → ExprOf raw i (Infix at e g) x
  either : {i at : ℕ} {e g : RawExpr} {x y z : Expr} {p : _} → joint_of (kind_at raw at) ≡ Either → ExprOf raw i e y →
      ExprOf raw (i + (expr_size e + 1)) g z → x ≡ Or' p y z → ExprOf raw i (Infix at e g) x
  between : {i at : ℕ} {e g : RawExpr} {x y z : Expr} {p : _} (op : Operator) → joint_of (kind_at raw at) ≡ By op →
      ExprOf raw i e y →
      ExprOf raw (i + (expr_size e + 1)) g z → x ≡ Binary' op p y z → ExprOf raw i (Infix at e g) x

-- STATEMENTS: the nodes of the block stand from node i on

pub data BlockOf (raw : RawKernel) : ℕ → RawBlock → List Stmt → Type 0 where
  nothing : {i : ℕ} → BlockOf raw i Nothing []
  var : {i at name : ℕ} {e : RawExpr} {y : Expr} {s : Stmt} {more : RawBlock} {others : List Stmt} (k : ℕ) →
      Declares raw i k → ExprOf raw (i + 1) e y → out-Stmt s ≡ Assign k y →
      BlockOf raw (i + (1 + (expr_size e + 0))) more others →
      BlockOf raw i (Simple form.Var at name (e ∷ []) more) (s ∷ others)
  set_local : {i at name : ℕ} {e : RawExpr} {y : Expr} {s : Stmt} {more : RawBlock} {others : List Stmt} (k : ℕ) →
      IsVariable raw i name k → ExprOf raw (i + 1) e y → out-Stmt s ≡ Assign k y →
      BlockOf raw (i + (1 + (expr_size e + 0))) more others →
      BlockOf raw i (Simple form.SetName at name (e ∷ []) more) (s ∷ others)
  set_value : {i at name : ℕ} {e : RawExpr} {y : Expr} {s : Stmt} {more : RawBlock} {others : List Stmt} (x : ℕ) →
      IsParameter raw i name x → ExprOf raw (i + 1) e y → out-Stmt s ≡ SetValue x y →
      BlockOf raw (i + (1 + (expr_size e + 0))) more others →
      BlockOf raw i (Simple form.SetName at name (e ∷ []) more) (s ∷ others)
  set_place : {i at name : ℕ} {e g : RawExpr} {y z : Expr} {s : Stmt} {more : RawBlock} {others : List Stmt} (x : ℕ) →
      IsParameter raw i name x → ExprOf raw (i + 1) e y → ExprOf raw (i + (1 + expr_size e)) g z →
      out-Stmt s ≡ Store x y z →
      BlockOf raw (i + (1 + (expr_size e + (expr_size g + 0)))) more others →
      BlockOf raw i (Simple form.SetPlace at name (e ∷ g ∷ []) more) (s ∷ others)
  set_try_add : {i at name : ℕ} {e g : RawExpr} {y z : Expr} {s : Stmt} {more : RawBlock} {others : List Stmt}
      (k x : ℕ) →
      IsVariable raw i at k → IsParameter raw i name x → ExprOf raw (i + 1) e y →
      ExprOf raw (i + (1 + expr_size e)) g z →
      out-Stmt s ≡ TryAdd k x y z →
      BlockOf raw (i + (1 + (expr_size e + (expr_size g + 0)))) more others →
      BlockOf raw i (Simple form.SetTryAdd at name (e ∷ g ∷ []) more) (s ∷ others)
  set_remove : {i at name : ℕ} {e : RawExpr} {y : Expr} {s : Stmt} {more : RawBlock} {others : List Stmt} (k x : ℕ) →
      IsVariable raw i at k → IsParameter raw i name x → ExprOf raw (i + 1) e y → out-Stmt s ≡ RemoveKey k x y →
      BlockOf raw (i + (1 + (expr_size e + 0))) more others →
      BlockOf raw i (Simple form.SetRemove at name (e ∷ []) more) (s ∷ others)
  add_item : {i at name : ℕ} {e : RawExpr} {y : Expr} {s : Stmt} {more : RawBlock} {others : List Stmt} (x : ℕ) →
      IsParameter raw i name x → ExprOf raw (i + 1) e y → out-Stmt s ≡ Add x y →
      BlockOf raw (i + (1 + (expr_size e + 0))) more others →
      BlockOf raw i (Simple form.AddItem at name (e ∷ []) more) (s ∷ others)
  add_pair : {i at name : ℕ} {e g : RawExpr} {y z : Expr} {s : Stmt} {more : RawBlock} {others : List Stmt} (x : ℕ) →
      IsParameter raw i name x → ExprOf raw (i + 1) e y → ExprOf raw (i + (1 + expr_size e)) g z →
      out-Stmt s ≡ AddPair x y z →
      BlockOf raw (i + (1 + (expr_size e + (expr_size g + 0)))) more others →
      BlockOf raw i (Simple form.AddPair at name (e ∷ g ∷ []) more) (s ∷ others)
  remove : {i at name : ℕ} {e : RawExpr} {y : Expr} {s : Stmt} {more : RawBlock} {others : List Stmt} (x : ℕ) →
      IsParameter raw i name x → ExprOf raw (i + 1) e y → out-Stmt s ≡ RemoveAt x y →
      BlockOf raw (i + (1 + (expr_size e + 0))) more others →
      BlockOf raw i (Simple form.Remove at name (e ∷ []) more) (s ∷ others)
  clear : {i at name : ℕ} {s : Stmt} {more : RawBlock} {others : List Stmt} (x : ℕ) →
      IsParameter raw i name x → out-Stmt s ≡ Clear x →
      BlockOf raw (i + (1 + 0)) more others →
      BlockOf raw i (Simple form.Clear at name [] more) (s ∷ others)
  write : {i at name : ℕ} {e : RawExpr} {y : Expr} {s : Stmt} {more : RawBlock} {others : List Stmt} (x : ℕ) →
      IsParameter raw i name x → ExprOf raw (i + 1) e y → out-Stmt s ≡ Write x y →
      BlockOf raw (i + (1 + (expr_size e + 0))) more others →
      BlockOf raw i (Simple form.Write at name (e ∷ []) more) (s ∷ others)
  begun : {i at name : ℕ} {e : RawExpr} {y : Expr} {s : Stmt} {inner more : RawBlock} {others : List Stmt} {body : _}
      (x : ℕ) →
      IsParameter raw i name x → ExprOf raw (i + 1) e y → out-Stmt s ≡ Begin x y body →
      BlockOf raw (i + (1 + (expr_size e + 0))) inner body.items →
      BlockOf raw (i + (1 + (expr_size e + 0) + block_size inner)) more others →
      BlockOf raw i (Nested form.Begin at name (e ∷ []) inner more) (s ∷ others)
  tested : {i at name : ℕ} {e : RawExpr} {y : Expr} {s : Stmt} {inner more : RawBlock} {others : List Stmt}
      {body other : _} →
      ExprOf raw (i + 1) e y → out-Stmt s ≡ If y body other →
      BlockOf raw (i + (1 + (expr_size e + 0))) inner body.items → other.items ≡ [] →
      BlockOf raw (i + (1 + (expr_size e + 0) + block_size inner)) more others →
      BlockOf raw i (Nested form.If at name (e ∷ []) inner more) (s ∷ others)
  counted : {i at name : ℕ} {e g : RawExpr} {y z : Expr} {s : Stmt} {inner more : RawBlock} {others : List Stmt}
      {body : _} (k : ℕ) →
      Declares raw i k → ExprOf raw (i + 1) e y → ExprOf raw (i + (1 + expr_size e)) g z → out-Stmt s ≡ For k y z body →
      BlockOf raw (i + (1 + (expr_size e + (expr_size g + 0)))) inner body.items →
      BlockOf raw (i + (1 + (expr_size e + (expr_size g + 0)) + block_size inner)) more others →
      BlockOf raw i (Nested form.For at name (e ∷ g ∷ []) inner more) (s ∷ others)
  looped : {i at name : ℕ} {e : RawExpr} {y : Expr} {s : Stmt} {inner more : RawBlock} {others : List Stmt} {body : _} →
      ExprOf raw (i + 1) e y → out-Stmt s ≡ While y body →
      BlockOf raw (i + (1 + (expr_size e + 0))) inner body.items →
      BlockOf raw (i + (1 + (expr_size e + 0) + block_size inner)) more others →
      BlockOf raw i (Nested form.While at name (e ∷ []) inner more) (s ∷ others)
  branched : {i at : ℕ} {e : RawExpr} {y : Expr} {s : Stmt} {first second more : RawBlock} {others : List Stmt}
      {body other : _} →
      ExprOf raw (i + 1) e y → out-Stmt s ≡ If y body other →
      BlockOf raw (i + (1 + expr_size e)) first body.items →
      BlockOf raw (i + (1 + expr_size e + block_size first)) second other.items →
      BlockOf raw (i + (1 + expr_size e + block_size first + block_size second)) more others →
      BlockOf raw i (Branched at e first second more) (s ∷ others)

-- PARAMETERS

-- what a parameter says
pub record ParamText : Type 0 where
  pub name : List ℕ
  pub kind : ParamKind
  pub access : Access
  pub by : ℕ

abbrev pub param_text : Param → ParamText
param_text p = record { name = string_bytes p.name; kind = p.kind; access = p.access; by = p.by }

-- the Number after `by`, or 1 where none is written
abbrev pub width_at : RawKernel → Option ℕ → ℕ
width_at raw None = 1
width_at raw (Some at) = value_at raw at

abbrev pub raw_param_text : RawKernel → RawParam → ParamText
raw_param_text raw p = record { name = text_at raw p.name; kind = p.kind; access = p.access; by = width_at raw p.width }

-- KERNELS

-- this kernel is what the raw kernel says
pub record IsKernelOf (raw : RawKernel) (k : Kernel) : Type 0 where
  pub name : string_bytes k.name ≡ text_at raw raw.name
  pub parallel : k.parallel ≡ raw.parallel
  pub params : map param_text k.params.items ≡ map (raw_param_text raw) raw.params.items
  pub locals : k.locals ≡ length (locals_of raw.nodes.items)
  -- whatever events spell the raw kernel, its statements are those of the tree that they spell
  pub body : (events : List Event) (s : SpellsRaw events raw) → BlockOf raw 0 s.body k.body.statements.items
