-- Kernels as they are written: a tree for each, and any fold over it by computation.
use Prim.Native.String.{String}
use Rattle.std.proofs.Common.{◌≡◌, codes, refl, ap, sym, ◌∙◌, ℕ, pos, Bool, true, false, List, [], ◌∷◌, map, take}
use Rattle.std.proofs.Math.Path.{ap₂}
use Rattle.std.proofs.lemmas.List.{take-map}
use Rattle.job_base.specs.declared.Access.{Access}
use Rattle.frame_ast.specs.declared.kernel.Operator.{Operator}
use Rattle.frame_ast.specs.declared.kernel.ParamKind.{ParamKind}
use Rattle.frame_ast.specs.declared.kernel.Param.{Param}
use Rattle.frame_ast.specs.declared.kernel.Expr.{Expr}
use Rattle.frame_ast.specs.declared.kernel.Stmt.{Stmt, roll-Stmt}
use Rattle.frame_ast.specs.declared.kernel.Stmt.TheOpen.{Stmt-F}
use Rattle.frame_ast.specs.declared.kernel.Stmt.TheFolds.{fold-Stmt, fold-roll-Stmt}
use Rattle.frame_ast.specs.declared.kernel.Kernel.{Kernel}
use Rattle.frame_ast.specs.Arguments.{arguments}
use Rattle.frame_ast.specs.Kernels.{in_turn, statement, fresh}
use Rattle.frame_ast.specs.JobRuns.{Run, run_of, indexes, executes}
use Rattle.ast_rows.proofs.Trees.{Place, vec, same_vec, child, text}

-- A parameter: `ro a_list "l"` is `l: ro list`, `wo_by 2 "a"` is `a: wo array by 2`.

abbrev pub an_array : ParamKind
an_array = ParamKind.Array

abbrev pub a_list : ParamKind
a_list = ParamKind.List

abbrev pub a_ref : ParamKind
a_ref = ParamKind.Ref

abbrev pub a_map : ParamKind
a_map = ParamKind.Map

abbrev pub a_stream : ParamKind
a_stream = ParamKind.Stream

abbrev param : Access → ℕ → ParamKind → String → Place → Param
param access by kind name at = record { name = text at (codes name); kind = kind; access = access; by = by }

abbrev pub ro : ParamKind → String → Place → Param
ro kind name = param Access.Read 1 kind name

abbrev pub wo : ParamKind → String → Place → Param
wo kind name = param Access.Write 1 kind name

abbrev pub rw : ParamKind → String → Place → Param
rw kind name = param Access.Both 1 kind name

abbrev pub an_int : String → Place → Param
an_int name = param Access.Read 1 ParamKind.Int name

abbrev pub wo_by : ℕ → String → Place → Param
wo_by by name = param Access.Write by an_array name

abbrev pub rw_by : ℕ → String → Place → Param
rw_by by name = param Access.Both by an_array name

-- Expressions. `local k` is the k-th `var` or `for` of the kernel, and x a parameter by its number.

abbrev pub Written : Type 0
Written = Place → Expr

abbrev pub number : ℕ → Written
number n at = Expr.Number (pos n)

abbrev pub index : Written
index at = Expr.Index

abbrev pub local : ℕ → Written
local k at = Expr.Local k

-- the value of a `ref` or an `int`
abbrev pub value : ℕ → Written
value x at = Expr.Value x

abbrev pub element : ℕ → Written → Written
element x e at = Expr.Element' x (child at) (e at)

abbrev pub len : ℕ → Written
len x at = Expr.Length x

abbrev binary : Operator → Written → Written → Written
binary op e f at = Expr.Binary' op (child at) (e at) (f at)

abbrev pub has : ℕ → Written → Written
has x e at = Expr.Has' x (child at) (e at)

abbrev pub count : ℕ → Written → Written
count x e at = Expr.Count' x (child at) (e at)

-- `at(x, e, f)`
abbrev pub item : ℕ → Written → Written → Written
item x e f at = Expr.Item' x (child at) (e at) (f at)

abbrev pub negative : Written → Written
negative e at = Expr.Negative' (child at) (e at)

abbrev pub not : Written → Written
not e at = Expr.Not' (child at) (e at)

infixl 30 ◌||◌
infixl 40 ◌&&◌
infix 50 ◌<◌
infix 50 ◌>◌
infix 50 ◌==◌
infixl 60 ◌+◌
infixl 60 ◌-◌
infixl 70 ◌*◌
infixl 70 ◌/◌
infixl 70 ◌%◌
abbrev pub ◌||◌ : Written → Written → Written
◌||◌ e f at = Expr.Or' (child at) (e at) (f at)

abbrev pub ◌&&◌ : Written → Written → Written
◌&&◌ e f at = Expr.And' (child at) (e at) (f at)

abbrev pub ◌>◌ : Written → Written → Written
e > f = binary Operator.Greater e f

abbrev pub ◌==◌ : Written → Written → Written
e == f = binary Operator.Equal e f

abbrev pub ◌-◌ : Written → Written → Written
e - f = binary Operator.Minus e f

abbrev pub ◌+◌ : Written → Written → Written
e + f = binary Operator.Plus e f

abbrev pub ◌*◌ : Written → Written → Written
e * f = binary Operator.Times e f

abbrev pub ◌/◌ : Written → Written → Written
e / f = binary Operator.Divide e f

abbrev pub ◌%◌ : Written → Written → Written
e % f = binary Operator.Remainder e f

abbrev pub ◌<◌ : Written → Written → Written
e < f = binary Operator.Less e f

-- Statements, and blocks of them.

mutual
  pub data Line : Type 0 where
    -- `var x = e;` and `x = e;` of a local
    assign : ℕ → Written → Line
    -- `x = e;` of a `ref`
    set_value : ℕ → Written → Line
    -- `x[e] = f;`
    store : ℕ → Written → Written → Line
    add : ℕ → Written → Line
    add_pair : ℕ → Written → Written → Line
    -- `y = try_add(x, e, f);` with the local y first
    try_add : ℕ → ℕ → Written → Written → Line
    remove_at : ℕ → Written → Line
    -- `y = remove(x, e);` with the local y first
    remove_key : ℕ → ℕ → Written → Line
    clear : ℕ → Line
    write : ℕ → Written → Line
    begin : ℕ → Written → Block → Line
    if_ : Written → Block → Block → Line
    for_ : ℕ → Written → Written → Block → Line
    while : Written → Block → Line

  pub data Block : Type 0 where
    end : Block
    ◌⨾◌ : Line → Block → Block

infixr 30 ◌⨾◌
module _ (at : Place) where
  abbrev mutual
    pub tree : Line → Stmt
    tree (assign k e) = roll-Stmt (Stmt-F.Assign k (e at))
    tree (set_value x e) = roll-Stmt (Stmt-F.SetValue x (e at))
    tree (store x e f) = roll-Stmt (Stmt-F.Store x (e at) (f at))
    tree (add x e) = roll-Stmt (Stmt-F.Add x (e at))
    tree (add_pair x e f) = roll-Stmt (Stmt-F.AddPair x (e at) (f at))
    tree (try_add y x e f) = roll-Stmt (Stmt-F.TryAdd y x (e at) (f at))
    tree (remove_at x e) = roll-Stmt (Stmt-F.RemoveAt x (e at))
    tree (remove_key y x e) = roll-Stmt (Stmt-F.RemoveKey y x (e at))
    tree (clear x) = roll-Stmt (Stmt-F.Clear x)
    tree (write x e) = roll-Stmt (Stmt-F.Write x (e at))
    tree (begin x e body) = roll-Stmt (Stmt-F.Begin x (e at) (vec at (trees body)))
    tree (if_ e body other) = roll-Stmt (Stmt-F.If (e at) (vec at (trees body)) (vec at (trees other)))
    tree (for_ k e f body) = roll-Stmt (Stmt-F.For k (e at) (f at) (vec at (trees body)))
    tree (while e body) = roll-Stmt (Stmt-F.While (e at) (vec at (trees body)))

    pub trees : Block → List Stmt
    trees end = []
    trees (x ⨾ more) = tree x ∷ trees more

  -- A fold over trees, by recursion over what is written.
  module _ {R : Type 0} (step : Stmt-F R → R) where
    abbrev mutual
      pub folded : Line → R
      folded (assign k e) = step (Stmt-F.Assign k (e at))
      folded (set_value x e) = step (Stmt-F.SetValue x (e at))
      folded (store x e f) = step (Stmt-F.Store x (e at) (f at))
      folded (add x e) = step (Stmt-F.Add x (e at))
      folded (add_pair x e f) = step (Stmt-F.AddPair x (e at) (f at))
      folded (try_add y x e f) = step (Stmt-F.TryAdd y x (e at) (f at))
      folded (remove_at x e) = step (Stmt-F.RemoveAt x (e at))
      folded (remove_key y x e) = step (Stmt-F.RemoveKey y x (e at))
      folded (clear x) = step (Stmt-F.Clear x)
      folded (write x e) = step (Stmt-F.Write x (e at))
      folded (begin x e body) = step (Stmt-F.Begin x (e at) (vec at (all_folded body)))
      folded (if_ e body other) = step (Stmt-F.If (e at) (vec at (all_folded body)) (vec at (all_folded other)))
      folded (for_ k e f body) = step (Stmt-F.For k (e at) (f at) (vec at (all_folded body)))
      folded (while e body) = step (Stmt-F.While (e at) (vec at (all_folded body)))

      pub all_folded : Block → List R
      all_folded end = []
      all_folded (x ⨾ more) = folded x ∷ all_folded more

    pub taken : (b : Block) → map (fold-Stmt R step) (trees b) ≡ all_folded b → map (fold-Stmt R step) (take 1000 (trees b)) ≡ take 1000 (all_folded b)
    taken b e = sym (take-map (fold-Stmt R step) 1000 (trees b)) ∙ ap (λ rs. take 1000 rs) e

    mutual
      pub same_fold : (x : Line) → fold-Stmt R step (tree x) ≡ folded x
      same_fold (assign k e) = fold-roll-Stmt R step (Stmt-F.Assign k (e at))
      same_fold (set_value x e) = fold-roll-Stmt R step (Stmt-F.SetValue x (e at))
      same_fold (store x e f) = fold-roll-Stmt R step (Stmt-F.Store x (e at) (f at))
      same_fold (add x e) = fold-roll-Stmt R step (Stmt-F.Add x (e at))
      same_fold (add_pair x e f) = fold-roll-Stmt R step (Stmt-F.AddPair x (e at) (f at))
      same_fold (try_add y x e f) = fold-roll-Stmt R step (Stmt-F.TryAdd y x (e at) (f at))
      same_fold (remove_at x e) = fold-roll-Stmt R step (Stmt-F.RemoveAt x (e at))
      same_fold (remove_key y x e) = fold-roll-Stmt R step (Stmt-F.RemoveKey y x (e at))
      same_fold (clear x) = fold-roll-Stmt R step (Stmt-F.Clear x)
      same_fold (write x e) = fold-roll-Stmt R step (Stmt-F.Write x (e at))
      same_fold (begin x e body) =
          fold-roll-Stmt R step (Stmt-F.Begin x (e at) (vec at (trees body)))
          ∙ ap (λ v. step (Stmt-F.Begin x (e at) v)) (same_vec at _ _ _ _ _ _ _ _ (taken body (same_folds body)))
      same_fold (if_ e body other) =
          fold-roll-Stmt R step (Stmt-F.If (e at) (vec at (trees body)) (vec at (trees other)))
          ∙ ap₂ (λ v w. step (Stmt-F.If (e at) v w)) (same_vec at _ _ _ _ _ _ _ _ (taken body (same_folds body)))
          (same_vec at _ _ _ _ _ _ _ _ (taken other (same_folds other)))
      same_fold (for_ k e f body) =
          fold-roll-Stmt R step (Stmt-F.For k (e at) (f at) (vec at (trees body)))
          ∙ ap (λ v. step (Stmt-F.For k (e at) (f at) v)) (same_vec at _ _ _ _ _ _ _ _ (taken body (same_folds body)))
      same_fold (while e body) =
          fold-roll-Stmt R step (Stmt-F.While (e at) (vec at (trees body)))
          ∙ ap (λ v. step (Stmt-F.While (e at) v)) (same_vec at _ _ _ _ _ _ _ _ (taken body (same_folds body)))

      pub same_folds : (b : Block) → map (fold-Stmt R step) (trees b) ≡ all_folded b
      same_folds end = refl
      same_folds (x ⨾ more) = ap (λ r. r ∷ map (fold-Stmt R step) (trees more)) (same_fold x) ∙ ap (λ rs. folded x ∷ rs) (same_folds more)

-- A kernel: its name, its parameters, the number of its `var` and `for`, and its block.
pub record Text : Type 0 where
  pub name : String
  pub parallel : Bool
  pub params : List (Place → Param)
  pub locals : ℕ
  pub body : Block

abbrev pub job : String → List (Place → Param) → ℕ → Block → Text
job name params locals body = record { name = name; parallel = false; params = params; locals = locals; body = body }

abbrev pub parallel : String → List (Place → Param) → ℕ → Block → Text
parallel name params locals body = record { name = name; parallel = true; params = params; locals = locals; body = body }

abbrev pub kernel : Place → Text → Kernel
kernel at k = record {
  name = text at (codes k.name);
  parallel = k.parallel;
  params = vec at (map (λ p. p at) k.params);
  locals = k.locals;
  body = record { statements = vec at (trees at k.body) };
}

-- What a job of it does, by computation.
abbrev pub run : Place → Text → Run
run at k widths steps n args =
    indexes (λ index s. in_turn (take 1000 (all_folded at (statement (arguments widths index) index) k.body)) (fresh steps s)) (executes k.parallel n) 0 args

pub same_run : (at : Place) (k : Text) → run_of (kernel at k) ≡ run at k
same_run at k = λ i widths steps n args. indexes (λ index s. in_turn (taken at (statement (arguments widths index) index) k.body
    (same_folds at (statement (arguments widths index) index) k.body) i) (fresh steps s)) (executes k.parallel n) 0 args

pub same_runs : (at : Place) (ks : List Text) → map run_of (map (kernel at) ks) ≡ map (run at) ks
same_runs at [] = refl
same_runs at (k ∷ ks) = ap (λ r. r ∷ map run_of (map (kernel at) ks)) (same_run at k) ∙ ap (λ rs. run at k ∷ rs) (same_runs at ks)
