-- Each kernel and each script is the same as itself.
use Rattle.std.proofs.Common.{refl, subst, List, [], ◌∷◌, map}
use Rattle.frame_ast.specs.declared.kernel.Stmt.{Stmt}
use Rattle.frame_ast.specs.declared.kernel.Stmt.TheOpen.{Stmt-F, Assign, SetValue, Store, Add, AddPair, TryAdd, RemoveAt, RemoveKey, Clear, Write, Begin, If, For, While}
use Rattle.frame_ast.specs.declared.kernel.Stmt.TheViews.{roll-Stmt, out-roll-Stmt}
use Rattle.frame_ast.specs.declared.kernel.Stmt.TheFolds.{map-Stmt, ind-Stmt}
use Rattle.tree_laws.specs.Same.{SameExpr, SameStmt, SameBody, SameParam, SameKernel, SameOrder, SameStatement, Pairwise}
use Rattle.tree_laws.specs.Laws.{KernelsAreThemselves, ScriptsAreThemselves}

abbrev IsItself : Stmt → Type 0
IsItself s = SameStmt s s

abbrev whole : Stmt-F ((s : Stmt) × IsItself s) → Stmt-F Stmt
whole = map-Stmt ((s : Stmt) × IsItself s) Stmt (λ e. e.0)

block_itself : (body : List ((s : Stmt) × IsItself s)) → SameBody (map (λ e. e.0) body) (map (λ e. e.0) body)
block_itself [] = SameBody.nothing
block_itself (x ∷ more) = SameBody.followed x.1 (block_itself more)

form_itself : (z : Stmt-F ((s : Stmt) × IsItself s)) → IsItself (roll-Stmt (whole z))
form_itself (Assign k e) = let o = out-roll-Stmt (Assign k e) in SameStmt.assign o o SameExpr.itself
form_itself (SetValue x e) = let o = out-roll-Stmt (SetValue x e) in SameStmt.set_value o o SameExpr.itself
form_itself (Store x e f) = let o = out-roll-Stmt (Store x e f) in SameStmt.store o o SameExpr.itself SameExpr.itself
form_itself (Add x e) = let o = out-roll-Stmt (Add x e) in SameStmt.add o o SameExpr.itself
form_itself (AddPair x e f) = let o = out-roll-Stmt (AddPair x e f) in SameStmt.add_pair o o SameExpr.itself SameExpr.itself
form_itself (TryAdd y x e f) = let o = out-roll-Stmt (TryAdd y x e f) in SameStmt.try_add o o SameExpr.itself SameExpr.itself
form_itself (RemoveAt x e) = let o = out-roll-Stmt (RemoveAt x e) in SameStmt.remove_at o o SameExpr.itself
form_itself (RemoveKey y x e) = let o = out-roll-Stmt (RemoveKey y x e) in SameStmt.remove_key o o SameExpr.itself
form_itself (Clear x) = let o = out-roll-Stmt (Clear x) in SameStmt.clear o o
form_itself (Write x e) = let o = out-roll-Stmt (Write x e) in SameStmt.write o o SameExpr.itself
form_itself (Begin x e body) = let o = out-roll-Stmt (whole (Begin x e body)) in SameStmt.begin o o SameExpr.itself (block_itself body.items)
form_itself (If e body other) =
    let o = out-roll-Stmt (whole (If e body other)) in SameStmt.if_ o o SameExpr.itself (block_itself body.items) (block_itself other.items)
form_itself (For k e f body) = let o = out-roll-Stmt (whole (For k e f body)) in SameStmt.for o o SameExpr.itself SameExpr.itself (block_itself body.items)
form_itself (While e body) = let o = out-roll-Stmt (whole (While e body)) in SameStmt.while o o SameExpr.itself (block_itself body.items)

stmt_itself : (s : Stmt) → IsItself s
stmt_itself = ind-Stmt IsItself (λ x y is. subst (λ z. IsItself (roll-Stmt z)) is (form_itself y))

body_itself : (body : List Stmt) → SameBody body body
body_itself [] = SameBody.nothing
body_itself (s ∷ more) = SameBody.followed (stmt_itself s) (body_itself more)

each_itself : {A : Type 0} (Same : A → A → Type 0) → ((x : A) → Same x x) → (xs : List A) → Pairwise Same xs xs
each_itself Same itself [] = tt
each_itself Same itself (x ∷ xs) = (itself x, each_itself Same itself xs)

pub kernels_are_themselves : KernelsAreThemselves
kernels_are_themselves k = record {
  name = refl;
  parallel = refl;
  params = each_itself SameParam (λ p. record { name = refl; kind = refl; access = refl; by = refl }) k.params.items;
  locals = refl;
  body = body_itself k.body.statements.items;
}

pub scripts_are_themselves : ScriptsAreThemselves
scripts_are_themselves s = record {
  kernels = each_itself SameKernel kernels_are_themselves s.kernels.items;
  names = refl;
  literals = refl;
  statements = each_itself SameStatement (λ x. record { line = refl; act = SameOrder.itself }) s.statements.items;
}
