-- When two trees are the same but for where their parts lie in memory.
use Rattle.std.specs.Prelude.{◌≡◌, Box, Vec, ℕ, List, [], ◌∷◌, map, string_bytes}
use Rattle.std.specs.declared.alloc.Global.{Global}
use Rattle.frame_ast.specs.declared.kernel.Param.{Param}
use Rattle.frame_ast.specs.declared.kernel.Expr.{Expr}
use Rattle.frame_ast.specs.declared.kernel.Expr.TheVariants.{Element', Has', Count', Item', Negative', Not', And', Or', Binary'}
use Rattle.frame_ast.specs.declared.kernel.Stmt.{Stmt, out-Stmt}
use Rattle.frame_ast.specs.declared.kernel.Stmt.TheOpen.{Assign, SetValue, Store, Add, AddPair, TryAdd, RemoveAt, RemoveKey, Clear, Write, Begin, If, For, While}
use Rattle.frame_ast.specs.declared.kernel.Kernel.{Kernel}
use Rattle.frame_ast.specs.declared.script.NewJob.{NewJob}
use Rattle.frame_ast.specs.declared.script.Order.{Order}
use Rattle.frame_ast.specs.declared.script.Order.TheVariants.{Column, Schedule, Combine, Dispose}
use Rattle.frame_ast.specs.declared.script.Statement.{Statement}
use Rattle.frame_ast.specs.declared.script.Script.{Script}
use Rattle.frame_ast.specs.SameJobs.{SameJob}

-- EXPRESSIONS: the same form with the same numbers and the same parts, in whichever boxes p and q they lie

pub data SameExpr : Expr → Expr → Type 0 where
  -- each is the same as itself, and a form without parts as no other
  itself : {e : Expr} → SameExpr e e
  element : {x p q : _} {e f : Expr} → SameExpr e f → SameExpr (Element' x p e) (Element' x q f)
  has : {x p q : _} {e f : Expr} → SameExpr e f → SameExpr (Has' x p e) (Has' x q f)
  count : {x p q : _} {e f : Expr} → SameExpr e f → SameExpr (Count' x p e) (Count' x q f)
  item : {x p q : _} {e f e2 f2 : Expr} → SameExpr e f → SameExpr e2 f2 → SameExpr (Item' x p e e2) (Item' x q f f2)
  negative : {p q : _} {e f : Expr} → SameExpr e f → SameExpr (Negative' p e) (Negative' q f)
  not : {p q : _} {e f : Expr} → SameExpr e f → SameExpr (Not' p e) (Not' q f)
  both : {p q : _} {e f e2 f2 : Expr} → SameExpr e f → SameExpr e2 f2 → SameExpr (And' p e e2) (And' q f f2)
  either : {p q : _} {e f e2 f2 : Expr} → SameExpr e f → SameExpr e2 f2 → SameExpr (Or' p e e2) (Or' q f f2)
  binary : {op p q : _} {e f e2 f2 : Expr} → SameExpr e f → SameExpr e2 f2 →
      SameExpr (Binary' op p e e2) (Binary' op q f f2)

-- STATEMENTS: the same form with the same numbers, the same expressions and the same blocks

mutual
  pub data SameStmt : Stmt → Stmt → Type 0 where
    assign : {s t : Stmt} {k : ℕ} {e f : Expr} → out-Stmt s ≡ Assign k e → out-Stmt t ≡ Assign k f →
        SameExpr e f → SameStmt s t
    set_value : {s t : Stmt} {x : ℕ} {e f : Expr} → out-Stmt s ≡ SetValue x e → out-Stmt t ≡ SetValue x f →
        SameExpr e f → SameStmt s t
    store : {s t : Stmt} {x : ℕ} {e f e2 f2 : Expr} →
        out-Stmt s ≡ Store x e e2 → out-Stmt t ≡ Store x f f2 → SameExpr e f → SameExpr e2 f2 → SameStmt s t
    add : {s t : Stmt} {x : ℕ} {e f : Expr} → out-Stmt s ≡ Add x e → out-Stmt t ≡ Add x f → SameExpr e f → SameStmt s t
    add_pair : {s t : Stmt} {x : ℕ} {e f e2 f2 : Expr} →
        out-Stmt s ≡ AddPair x e e2 → out-Stmt t ≡ AddPair x f f2 → SameExpr e f → SameExpr e2 f2 → SameStmt s t
    try_add : {s t : Stmt} {y x : ℕ} {e f e2 f2 : Expr} →
        out-Stmt s ≡ TryAdd y x e e2 → out-Stmt t ≡ TryAdd y x f f2 → SameExpr e f → SameExpr e2 f2 → SameStmt s t
    remove_at : {s t : Stmt} {x : ℕ} {e f : Expr} → out-Stmt s ≡ RemoveAt x e → out-Stmt t ≡ RemoveAt x f →
        SameExpr e f → SameStmt s t
    remove_key : {s t : Stmt} {y x : ℕ} {e f : Expr} →
        out-Stmt s ≡ RemoveKey y x e → out-Stmt t ≡ RemoveKey y x f → SameExpr e f → SameStmt s t
    clear : {s t : Stmt} {x : ℕ} → out-Stmt s ≡ Clear x → out-Stmt t ≡ Clear x → SameStmt s t
    write : {s t : Stmt} {x : ℕ} {e f : Expr} → out-Stmt s ≡ Write x e → out-Stmt t ≡ Write x f → SameExpr e f →
        SameStmt s t
    begin : {s t : Stmt} {x : ℕ} {e f : Expr} {body same_body : Vec Stmt Global} →
        out-Stmt s ≡ Begin x e body → out-Stmt t ≡ Begin x f same_body → SameExpr e f →
        SameBody body.items same_body.items → SameStmt s t
    if_ : {s t : Stmt} {e f : Expr} {body same_body other same_other : Vec Stmt Global} →
        out-Stmt s ≡ If e body other → out-Stmt t ≡ If f same_body same_other →
        SameExpr e f → SameBody body.items same_body.items → SameBody other.items same_other.items → SameStmt s t
    for : {s t : Stmt} {k : ℕ} {e f e2 f2 : Expr} {body same_body : Vec Stmt Global} →
        out-Stmt s ≡ For k e e2 body → out-Stmt t ≡ For k f f2 same_body →
        SameExpr e f → SameExpr e2 f2 → SameBody body.items same_body.items → SameStmt s t
    while : {s t : Stmt} {e f : Expr} {body same_body : Vec Stmt Global} →
        out-Stmt s ≡ While e body → out-Stmt t ≡ While f same_body → SameExpr e f →
        SameBody body.items same_body.items → SameStmt s t

  pub data SameBody : List Stmt → List Stmt → Type 0 where
    nothing : SameBody [] []
    followed : {s t : Stmt} {more others : List Stmt} → SameStmt s t → SameBody more others →
        SameBody (s ∷ more) (t ∷ others)

-- LISTS: as many, and each as the one at its place

abbrev pub Pairwise : {A : Type 0} → (A → A → Type 0) → List A → List A → Type 0
Pairwise Same [] [] = Unit {0}
Pairwise Same [] (y ∷ ys) = ⊥
Pairwise Same (x ∷ xs) [] = ⊥
Pairwise Same (x ∷ xs) (y ∷ ys) = Same x y × Pairwise Same xs ys

-- KERNELS

pub record SameParam (p q : Param) : Type 0 where
  pub name : string_bytes p.name ≡ string_bytes q.name
  pub kind : p.kind ≡ q.kind
  pub access : p.access ≡ q.access
  pub by : p.by ≡ q.by

pub record SameKernel (k l : Kernel) : Type 0 where
  pub name : string_bytes k.name ≡ string_bytes l.name
  pub parallel : k.parallel ≡ l.parallel
  pub params : Pairwise SameParam k.params.items l.params.items
  pub locals : k.locals ≡ l.locals
  pub body : SameBody k.body.statements.items l.body.statements.items

-- SCRIPTS

-- the same variant with the same numbers; of a vector, the items
pub data SameOrder : Order → Order → Type 0 where
  -- each is the same as itself, and a variant without a vector as no other
  itself : {x : Order} → SameOrder x x
  column : {name life : _} {bytes same_bytes : Vec ℕ Global} →
      bytes.items ≡ same_bytes.items → SameOrder (Column name bytes life) (Column name same_bytes life)
  schedule : {job other : Box NewJob Global} → SameJob job.value other.value → SameOrder (Schedule job) (Schedule other)
  combine : {name : ℕ} {of same_of : Vec ℕ Global} → of.items ≡ same_of.items →
      SameOrder (Combine name of) (Combine name same_of)
  dispose : {name handle : _} {after same_after : Vec ℕ Global} →
      after.items ≡ same_after.items → SameOrder (Dispose name after handle) (Dispose name same_after handle)

pub record SameStatement (x y : Statement) : Type 0 where
  pub line : x.line ≡ y.line
  pub act : SameOrder x.act y.act

pub record SameScript (s t : Script) : Type 0 where
  pub kernels : Pairwise SameKernel s.kernels.items t.kernels.items
  pub names : s.names ≡ t.names
  pub literals : map (λ v. v.items) s.literals.items ≡ map (λ v. v.items) t.literals.items
  pub statements : Pairwise SameStatement s.statements.items t.statements.items
