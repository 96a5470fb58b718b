-- A kernel with its statements inside `if index < length[0] { .. }`: what it is, what it does, and which words it uses.
use Rattle.std.specs.Prelude.{◌≡◌, ◌↔◌, ◌⊎◌, ℕ, ◌<◌, true, false, ℤ, pos, int_lt, None}
use Rattle.std.specs.Prelude.{List, [], ◌∷◌, ◌++◌, length, Vec, codes, string_bytes}
use Rattle.std.specs.declared.alloc.Global.{Global}
use Rattle.job_base.specs.declared.Access.TheVariants.{Read}
use Rattle.frame_ast.specs.declared.kernel.ParamKind.TheVariants.{Array as ArrayKind}
use Rattle.frame_ast.specs.declared.kernel.Param.{Param}
use Rattle.frame_ast.specs.declared.kernel.Kernel.{Kernel}
use Rattle.frame_ast.specs.declared.kernel.Operator.TheVariants.{Less}
use Rattle.frame_ast.specs.declared.kernel.Expr.{Expr}
use Rattle.frame_ast.specs.declared.kernel.Expr.TheVariants.{Number, Index, Element', Binary'}
use Rattle.frame_ast.specs.declared.kernel.Stmt.{Stmt, out-Stmt}
use Rattle.frame_ast.specs.declared.kernel.Stmt.TheOpen.{If}
use Rattle.frame_ast.specs.Contents.{Contents, Cells}
use Rattle.frame_ast.specs.Arguments.{arguments}
use Rattle.frame_ast.specs.Kernels.{Outcome, execution, store_after, trap_after}
use Rattle.frame_ast.specs.JobRuns.{full_steps, deferred_steps}
use Rattle.frame_ast.specs.Simulation.{AlikeEnds}
use Rattle.native_array.specs.declared.ArrayAt.{ArrayAt}
use Rattle.tree_laws.specs.Same.{SameBody, SameParam, Pairwise}
use Rattle.kernel_exec.specs.declared.binds.Bind.{Bind}
use Rattle.kernel_exec.specs.declared.binds.Bind.TheVariants.{Array}
use Rattle.kernel_exec.specs.Binds.{IsWordOf}
use Rattle.kernel_exec.specs.Footprint.{IsRead, IsWritten}
use Rattle.kernel_exec.specs.Laws.{at_index}

-- ---- what it is

-- `index < x[0]`, in whichever boxes its parts lie
pub record IsBelow (x : ℕ) (e : Expr) : Type 0 where
  pub sides : _
  pub place : _
  pub is : e ≡ Binary' Less sides Index (Element' x place (Number (pos 0)))

-- one statement, `if index < x[0] { .. }` with the same statements inside
pub record IsGuard (x : ℕ) (old new : List Stmt) : Type 0 where
  pub statement : Stmt
  pub only : new ≡ statement ∷ []
  pub test : Expr
  pub body : Vec Stmt Global
  pub other : Vec Stmt Global
  pub is : out-Stmt statement ≡ If test body other
  pub below : IsBelow x test
  pub same : SameBody old body.items
  pub nothing_else : other.items ≡ []

-- an `ro` array that is named `length`
pub record IsLengthParam (p : Param) : Type 0 where
  pub name : string_bytes p.name ≡ codes "length"
  pub kind : p.kind ≡ ArrayKind
  pub access : p.access ≡ Read
  pub by : p.by ≡ 1

-- The same name, the same parameters and one more `ro` array at the end, and the same statements where the index is
-- below its first element.
pub record IsGuarded (old new : Kernel) : Type 0 where
  pub name : string_bytes new.name ≡ string_bytes old.name
  pub parallel : new.parallel ≡ true
  pub locals : new.locals ≡ old.locals
  pub same : List Param
  pub last : Param
  pub params : new.params.items ≡ same ++ last ∷ []
  pub are_same : Pairwise SameParam old.params.items same
  pub is_length : IsLengthParam last
  pub body : IsGuard (length old.params.items) old.body.statements.items new.body.statements.items

-- ---- what it does

-- nothing was done
pub record DoesNothing {S : Type 0} (s : S) (new : Outcome S) : Type 0 where
  pub trap : trap_after new ≡ None
  pub store : store_after new ≡ s

-- what a kernel does to contents, and one with the length as one more array
abbrev pub on_contents : Kernel → ℕ → List ℕ → ℕ → List Contents → Outcome (List Contents)
on_contents k steps widths index args = execution (arguments widths index) k.body.statements.items steps index args

abbrev pub with_length : Kernel → List ℕ → ℕ → List Contents → List ℤ → Outcome (List Contents)
with_length k widths index args xs = on_contents k full_steps (widths ++ 0 ∷ []) index (args ++ Cells xs ∷ [])

-- contents with those of the length at the end
abbrev pub WithLength : List ℤ → List Contents → List Contents → Type 0
WithLength xs new old = new ≡ old ++ Cells xs ∷ []

-- Of contents: below the first element of the array at the end it is an Execute of the old kernel with one step less;
-- else it does nothing.
pub record GuardsContents (old new : Kernel) : Type 0 where
  pub below : (widths : List ℕ) (index : ℕ) (args : List Contents) (z : ℤ) (xs : List ℤ)
      → length widths ≡ length old.params.items
      → length args ≡ length old.params.items
      → int_lt (pos index) z ≡ true
      → AlikeEnds (WithLength (z ∷ xs)) (with_length new widths index args (z ∷ xs))
      (on_contents old deferred_steps widths index args)
  pub above : (widths : List ℕ) (index : ℕ) (args : List Contents) (z : ℤ) (xs : List ℤ)
      → length widths ≡ length old.params.items
      → length args ≡ length old.params.items
      → int_lt (pos index) z ≡ false
      → DoesNothing (args ++ Cells (z ∷ xs) ∷ []) (with_length new widths index args (z ∷ xs))

-- Of words likewise, by the word that holds the length.
pub record GuardsWords (old new : Kernel) : Type 0 where
  pub below : (binds : List Bind) (at : ArrayAt) (index : ℕ) (cells : ℕ → ℤ)
      → length binds ≡ length old.params.items
      → 0 < at.len
      → int_lt (pos index) (cells at.start) ≡ true
      → AlikeEnds (λ a b. a ≡ b) (at_index new (binds ++ Array at 0 ∷ []) full_steps index cells)
      (at_index old binds deferred_steps index cells)
  pub above : (binds : List Bind) (at : ArrayAt) (index : ℕ) (cells : ℕ → ℤ)
      → length binds ≡ length old.params.items
      → 0 < at.len
      → int_lt (pos index) (cells at.start) ≡ false
      → DoesNothing cells (at_index new (binds ++ Array at 0 ∷ []) full_steps index cells)

-- ---- which words it uses

-- It reads what the old one reads and the words of the length, and writes what the old one writes.
pub record GuardsFootprint (old new : Kernel) : Type 0 where
  pub read : (binds : List Bind) (at : ArrayAt) (from to w : ℕ) → length binds ≡ length old.params.items
      → IsRead new.params.items (binds ++ Array at 0 ∷ []) from to w
      ↔ (IsRead old.params.items binds from to w ⊎ IsWordOf (Array at 0) w)
  pub written : (binds : List Bind) (at : ArrayAt) (from to w : ℕ) → length binds ≡ length old.params.items
      → IsWritten new.params.items (binds ++ Array at 0 ∷ []) from to w
      ↔ IsWritten old.params.items binds from to w
