-- Statements that are the same have the same fold, for steps that see no more of a layer than what is the same.
use Rattle.std.proofs.Common.{◌≡◌, refl, ap, sym, ◌∙◌, ℕ, List, ◌∷◌, map}
use Rattle.std.specs.Prelude.{Vec}
use Rattle.std.specs.declared.alloc.Global.{Global}
use Rattle.frame_ast.specs.declared.kernel.Expr.{Expr}
use Rattle.frame_ast.specs.declared.kernel.Stmt.{Stmt, out-Stmt}
use Rattle.frame_ast.specs.declared.kernel.Stmt.TheOpen.{Stmt-F, Assign, SetValue, Store, Add, AddPair, TryAdd, RemoveAt, RemoveKey, Clear, Write, Begin, If, For, While}
use Rattle.frame_ast.specs.declared.kernel.Stmt.TheFolds.{map-Stmt, fold-Stmt, fold_out-Stmt}
use Rattle.tree_laws.specs.Same.{SameExpr, SameStmt, SameBody}

-- two layers: the same form and numbers, the same expressions, and equal results of the blocks
pub data SameLayer (R : Type 0) : Stmt-F R → Stmt-F R → Type 0 where
  assign : {k : ℕ} {e f : Expr} → SameExpr e f → SameLayer R (Assign k e) (Assign k f)
  set_value : {x : ℕ} {e f : Expr} → SameExpr e f → SameLayer R (SetValue x e) (SetValue x f)
  store : {x : ℕ} {e f e2 f2 : Expr} → SameExpr e f → SameExpr e2 f2 → SameLayer R (Store x e e2) (Store x f f2)
  add : {x : ℕ} {e f : Expr} → SameExpr e f → SameLayer R (Add x e) (Add x f)
  add_pair : {x : ℕ} {e f e2 f2 : Expr} → SameExpr e f → SameExpr e2 f2 → SameLayer R (AddPair x e e2) (AddPair x f f2)
  try_add : {y x : ℕ} {e f e2 f2 : Expr} → SameExpr e f → SameExpr e2 f2 → SameLayer R (TryAdd y x e e2) (TryAdd y x f f2)
  remove_at : {x : ℕ} {e f : Expr} → SameExpr e f → SameLayer R (RemoveAt x e) (RemoveAt x f)
  remove_key : {y x : ℕ} {e f : Expr} → SameExpr e f → SameLayer R (RemoveKey y x e) (RemoveKey y x f)
  clear : {x : ℕ} → SameLayer R (Clear x) (Clear x)
  write : {x : ℕ} {e f : Expr} → SameExpr e f → SameLayer R (Write x e) (Write x f)
  begin : {x : ℕ} {e f : Expr} {b c : Vec R Global} → SameExpr e f → b.items ≡ c.items → SameLayer R (Begin x e b) (Begin x f c)
  if_ : {e f : Expr} {b c b2 c2 : Vec R Global} → SameExpr e f → b.items ≡ c.items → b2.items ≡ c2.items → SameLayer R (If e b b2) (If f c c2)
  for : {k : ℕ} {e f e2 f2 : Expr} {b c : Vec R Global} → SameExpr e f → SameExpr e2 f2 → b.items ≡ c.items → SameLayer R (For k e e2 b) (For k f f2 c)
  while : {e f : Expr} {b c : Vec R Global} → SameExpr e f → b.items ≡ c.items → SameLayer R (While e b) (While f c)

module _ (R : Type 0) (p q : Stmt-F R → R) (respects : (z w : Stmt-F R) → SameLayer R z w → p z ≡ q w) where
  abbrev layer : (Stmt-F R → R) → Stmt-F Stmt → Stmt-F R
  layer step = map-Stmt Stmt R (fold-Stmt R step)

  at_views : (s t : Stmt) (z w : Stmt-F Stmt) → out-Stmt s ≡ z → out-Stmt t ≡ w → SameLayer R (layer p z) (layer q w) → fold-Stmt R p s ≡ fold-Stmt R q t
  at_views s t z w is other same =
      fold_out-Stmt R p s ∙ ap (λ y. p (layer p y)) is ∙ respects (layer p z) (layer q w) same ∙ ap (λ y. q (layer q y)) (sym other) ∙ sym (fold_out-Stmt R q t)

  mutual
    pub same_fold : (s t : Stmt) → SameStmt s t → fold-Stmt R p s ≡ fold-Stmt R q t
    same_fold s t (SameStmt.assign {k = k} {e = e} {f = f} is other same) = at_views s t (Assign k e) (Assign k f) is other (SameLayer.assign same)
    same_fold s t (SameStmt.set_value {x = x} {e = e} {f = f} is other same) = at_views s t (SetValue x e) (SetValue x f) is other (SameLayer.set_value same)
    same_fold s t (SameStmt.store {x = x} {e = e} {f = f} {e2 = e2} {f2 = f2} is other same second) =
        at_views s t (Store x e e2) (Store x f f2) is other (SameLayer.store same second)
    same_fold s t (SameStmt.add {x = x} {e = e} {f = f} is other same) = at_views s t (Add x e) (Add x f) is other (SameLayer.add same)
    same_fold s t (SameStmt.add_pair {x = x} {e = e} {f = f} {e2 = e2} {f2 = f2} is other same second) =
        at_views s t (AddPair x e e2) (AddPair x f f2) is other (SameLayer.add_pair same second)
    same_fold s t (SameStmt.try_add {y = y} {x = x} {e = e} {f = f} {e2 = e2} {f2 = f2} is other same second) =
        at_views s t (TryAdd y x e e2) (TryAdd y x f f2) is other (SameLayer.try_add same second)
    same_fold s t (SameStmt.remove_at {x = x} {e = e} {f = f} is other same) = at_views s t (RemoveAt x e) (RemoveAt x f) is other (SameLayer.remove_at same)
    same_fold s t (SameStmt.remove_key {y = y} {x = x} {e = e} {f = f} is other same) =
        at_views s t (RemoveKey y x e) (RemoveKey y x f) is other (SameLayer.remove_key same)
    same_fold s t (SameStmt.clear {x = x} is other) = at_views s t (Clear x) (Clear x) is other SameLayer.clear
    same_fold s t (SameStmt.write {x = x} {e = e} {f = f} is other same) = at_views s t (Write x e) (Write x f) is other (SameLayer.write same)
    same_fold s t (SameStmt.begin {x = x} {e = e} {f = f} {body = body} {same_body = same_body} is other same inner) =
        at_views s t (Begin x e body) (Begin x f same_body) is other (SameLayer.begin same (same_folds body.items same_body.items inner))
    same_fold s t (SameStmt.if_ {e = e} {f = f} {body = b} {same_body = c} {other = b2} {same_other = c2} is other same inner second) =
        at_views s t (If e b b2) (If f c c2) is other (SameLayer.if_ same (same_folds b.items c.items inner) (same_folds b2.items c2.items second))
    same_fold s t (SameStmt.for {k = k} {e = e} {f = f} {e2 = e2} {f2 = f2} {body = body} {same_body = same_body} is other same second inner) =
        at_views s t (For k e e2 body) (For k f f2 same_body) is other (SameLayer.for same second (same_folds body.items same_body.items inner))
    same_fold s t (SameStmt.while {e = e} {f = f} {body = body} {same_body = same_body} is other same inner) =
        at_views s t (While e body) (While f same_body) is other (SameLayer.while same (same_folds body.items same_body.items inner))

    pub same_folds : (xs ys : List Stmt) → SameBody xs ys → map (fold-Stmt R p) xs ≡ map (fold-Stmt R q) ys
    same_folds xs ys SameBody.nothing = refl
    same_folds xs ys (SameBody.followed {s = s} {t = t} {more = more} {others = others} first rest) =
        λ i. same_fold s t first i ∷ same_folds more others rest i
