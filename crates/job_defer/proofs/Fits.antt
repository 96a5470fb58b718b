-- What fits a kernel fits one with more parameters.
use Rattle.std.proofs.Common.{◌≡◌, ℕ, Bool, true, false, ◌&&◌, List, [], ◌∷◌, map, refl, sym, subst, ◌∙◌}
use Rattle.std.specs.Prelude.{not, nat_lt}
use Rattle.frame_ast.specs.declared.kernel.Param.{Param}
use Rattle.frame_ast.specs.declared.kernel.Expr.{Expr}
use Rattle.frame_ast.specs.declared.kernel.Expr.TheVariants.{Number, Index, Local, Value, Element', Length, Has', Count', Item', Negative', Not', And', Or', Binary'}
use Rattle.frame_ast.specs.declared.kernel.Stmt.{Stmt}
use Rattle.frame_ast.specs.declared.kernel.Stmt.TheOpen.{Stmt-F, Assign, SetValue, Store, Add, AddPair, TryAdd, RemoveAt, RemoveKey, Clear, Write, Begin, If, For, While}
use Rattle.frame_ast.specs.declared.kernel.Stmt.TheViews.{roll-Stmt}
use Rattle.frame_ast.specs.declared.kernel.Stmt.TheFolds.{map-Stmt, fold-roll-Stmt, ind-Stmt}
use Rattle.frame_ast.specs.Lists.{member}
use Rattle.frame_ast.specs.Checked.{Demand, a_value, read_elements, measurable, read_map, read_stream, written_value, written_elements, written_list, written_map, changed_map, clearable, written_stream, meets, expr_fits, all_fit, statement_fits, stmt_fits}

-- one test says no more than another
abbrev pub Lets : Bool → Bool → Type 0
Lets a b = a ≡ true → b ≡ true

both_let : (a b : Bool) {c d : Bool} → Lets a b → Lets c d → Lets (a && c) (b && d)
both_let true true f g h = g h
both_let true false f g h = absurd (no (f refl))
  where
    no : false ≡ true → ⊥
    no e = cc
both_let false b f g h = absurd (no h)
  where
    no : false ≡ true → ⊥
    no e = cc

same_lets : (a : Bool) → Lets a a
same_lets a h = h

module _ (parallel : Bool) (params more : List Param) (locals : ℕ)
    (K : (x : ℕ) (d : Demand) → Lets (meets params x d) (meets more x d)) where
  abbrev fits : Expr → Bool
  fits = expr_fits parallel params locals

  abbrev fits_more : Expr → Bool
  fits_more = expr_fits parallel more locals

  kept : (x : ℕ) (d : Demand) {b c : Bool} → Lets b c → Lets (meets params x d && b) (meets more x d && c)
  kept x d f = both_let (meets params x d) (meets more x d) (K x d) f

  two_more : (e f : Expr) → Lets (fits e) (fits_more e) → Lets (fits f) (fits_more f)
      → Lets (fits e && fits f) (fits_more e && fits_more f)
  two_more e f a b = both_let (fits e) (fits_more e) a b

  expr_more : (e : Expr) → Lets (fits e) (fits_more e)
  expr_more (Number n) = λ h. h
  expr_more Index = λ h. h
  expr_more (Local k) = λ h. h
  expr_more (Value x) = K x a_value
  expr_more (Element' x p e) = kept x read_elements (expr_more e)
  expr_more (Length x) = K x measurable
  expr_more (Has' x p e) = kept x read_map (expr_more e)
  expr_more (Count' x p e) = kept x read_stream (expr_more e)
  expr_more (Item' x p e f) = kept x read_stream (two_more e f (expr_more e) (expr_more f))
  expr_more (Negative' p e) = expr_more e
  expr_more (Not' p e) = expr_more e
  expr_more (And' p e f) = two_more e f (expr_more e) (expr_more f)
  expr_more (Or' p e f) = two_more e f (expr_more e) (expr_more f)
  expr_more (Binary' op p e f) = two_more e f (expr_more e) (expr_more f)

  two : (e f : Expr) → Lets (fits e && fits f) (fits_more e && fits_more f)
  two e f = two_more e f (expr_more e) (expr_more f)

  abbrev FitsMore : Stmt → Type 0
  FitsMore s = (open_ : List ℕ)
      → Lets (stmt_fits parallel params locals s open_) (stmt_fits parallel more locals s open_)

  abbrev whole : Stmt-F ((s : Stmt) × FitsMore s) → Stmt-F Stmt
  whole = map-Stmt ((s : Stmt) × FitsMore s) Stmt (λ e. e.0)

  abbrev block_fits : List Param → List ((s : Stmt) × FitsMore s) → List ℕ → Bool
  block_fits ps body = all_fit (map (stmt_fits parallel ps locals) (map (λ e. e.0) body))

  block_more : (body : List ((s : Stmt) × FitsMore s)) (open_ : List ℕ)
      → Lets (block_fits params body open_) (block_fits more body open_)
  block_more [] open_ = λ h. h
  block_more (x ∷ rest) open_ =
      both_let (stmt_fits parallel params locals x.0 open_) (stmt_fits parallel more locals x.0 open_) (x.1 open_)
      (block_more rest open_)

  with_block : (e : Expr) (body : List ((s : Stmt) × FitsMore s)) (open_ : List ℕ)
      → Lets (fits e && block_fits params body open_) (fits_more e && block_fits more body open_)
  with_block e body open_ = both_let (fits e) (fits_more e) (expr_more e) (block_more body open_)

  beside : (b : Bool) {c d : Bool} → Lets c d → Lets (b && c) (b && d)
  beside b f = both_let b b (same_lets b) f

  form_more : (z : Stmt-F ((s : Stmt) × FitsMore s)) (open_ : List ℕ)
      → Lets (statement_fits params locals fits
      (map-Stmt Stmt (List ℕ → Bool) (stmt_fits parallel params locals) (whole z)) open_)
      (statement_fits more locals fits_more
      (map-Stmt Stmt (List ℕ → Bool) (stmt_fits parallel more locals) (whole z)) open_)
  form_more (Assign k e) open_ = beside (nat_lt k locals) (expr_more e)
  form_more (SetValue x e) open_ = kept x written_value (expr_more e)
  form_more (Store x e f) open_ = kept x written_elements (two e f)
  form_more (Add x e) open_ = kept x written_list (expr_more e)
  form_more (AddPair x e f) open_ = kept x written_map (two e f)
  form_more (TryAdd y x e f) open_ = beside (nat_lt y locals) (kept x changed_map (two e f))
  form_more (RemoveAt x e) open_ = kept x written_list (expr_more e)
  form_more (RemoveKey y x e) open_ = beside (nat_lt y locals) (kept x changed_map (expr_more e))
  form_more (Clear x) open_ = K x clearable
  form_more (Write x e) open_ = kept x written_stream (beside (member x open_) (expr_more e))
  form_more (Begin x e body) open_ =
      kept x written_stream (beside (not (member x open_)) (with_block e body.items (x ∷ open_)))
  form_more (If e body other) open_ =
      both_let (fits e) (fits_more e) (expr_more e)
      (both_let (block_fits params body.items open_) (block_fits more body.items open_) (block_more body.items open_)
      (block_more other.items open_))
  form_more (For k e f body) open_ =
      beside (nat_lt k locals) (both_let (fits e) (fits_more e) (expr_more e) (with_block f body.items open_))
  form_more (While e body) open_ = with_block e body.items open_

  at_roll : (z : Stmt-F ((s : Stmt) × FitsMore s)) → FitsMore (roll-Stmt (whole z))
  at_roll z open_ h =
      rw (fold-roll-Stmt (List ℕ → Bool) (statement_fits more locals fits_more) (whole z))
      (form_more z open_ ((λ j. sym
      (fold-roll-Stmt (List ℕ → Bool) (statement_fits params locals fits) (whole z)) j open_) ∙ h))

  statement_more : (s : Stmt) → FitsMore s
  statement_more = ind-Stmt FitsMore (λ x y is. subst (λ z. FitsMore (roll-Stmt z)) is (at_roll y))

  pub body_more : (body : List Stmt) (open_ : List ℕ)
      → Lets (all_fit (map (stmt_fits parallel params locals) body) open_)
      (all_fit (map (stmt_fits parallel more locals) body) open_)
  body_more [] open_ = λ h. h
  body_more (x ∷ rest) open_ =
      both_let (stmt_fits parallel params locals x open_) (stmt_fits parallel more locals x open_)
      (statement_more x open_) (body_more rest open_)
