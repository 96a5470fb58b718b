-- Copies that grow by one part after another.
use Rattle.std.proofs.Common.{◌≡◌, ℕ, ◌+◌, ◌<◌, ℤ, List, [], ◌∷◌, ◌++◌, length, take, get_or, sym, subst}
use Rattle.std.proofs.lemmas.List.{take_more}
use Rattle.frame_ast.specs.declared.kernel.Expr.{Expr}
use Rattle.frame_ast.specs.declared.kernel.Expr.TheVariants.{Number}
use Rattle.frame_ast.specs.declared.kernel.Stmt.{Stmt}
use Rattle.frame_ast.specs.declared.kernel.Param.{Param}
use Rattle.tree_laws.specs.Same.{SameExpr, SameStmt, SameBody, SameParam, Pairwise}

pub more_same : {A : Type 0} (Same : A → A → Type 0) (xs ys : List A) (x y : A) → Pairwise Same xs ys → Same x y
    → Pairwise Same (xs ++ x ∷ []) (ys ++ y ∷ [])
more_same Same [] [] x y p s = (s, tt)
more_same Same [] (z ∷ ys) x y p s = absurd p
more_same Same (w ∷ xs) [] x y p s = absurd p
more_same Same (w ∷ xs) (z ∷ ys) x y p s = (p.0, more_same Same xs ys x y p.1 s)

pub one_more : (xs ys : List Stmt) (x y : Stmt) → SameBody xs ys → SameStmt x y → SameBody (xs ++ x ∷ []) (ys ++ y ∷ [])
one_more _ _ x y SameBody.nothing s = SameBody.followed s SameBody.nothing
one_more _ _ x y (SameBody.followed {s = a} {t = b} {more = more} {others = others} p q) s =
    SameBody.followed p (one_more more others x y q s)

pub number_same : {n m : ℤ} → m ≡ n → SameExpr (Number n) (Number m)
number_same {n} {m} e = subst (λ x. SameExpr (Number n) (Number x)) (sym e) SameExpr.itself

-- a copy in a box
pub inner : {p e f g : Expr} → p ≡ e → SameExpr p f → g ≡ f → SameExpr e g
inner {p} {e} {f} {g} a same b = subst (λ x. SameExpr x g) a (subst (λ x. SameExpr p x) (sym b) same)

-- a copy of a block
pub block_inner : {p xs ys : List Stmt} → p ≡ xs → SameBody p ys → SameBody xs ys
block_inner {p} {xs} {ys} e same = subst (λ zs. SameBody zs ys) e same

pub block_more : (body : List Stmt) (i : ℕ) (s : Stmt) (copy more : List Stmt) (new : Stmt) → i < length body
    → s ≡ get_or body i s → SameBody (take i body) copy → SameStmt s new → more ≡ copy ++ new ∷ []
    → SameBody (take (i + 1) body) more
block_more body i s copy more new lt is so_far same grown =
    subst (λ xs. SameBody xs more) (sym (take_more body i s lt))
    (subst (λ ys. SameBody (take i body ++ get_or body i s ∷ []) ys) (sym grown)
    (one_more (take i body) copy (get_or body i s) new so_far (subst (λ x. SameStmt x new) is same)))

pub params_more : (params : List Param) (i : ℕ) (p : Param) (copy more : List Param) (new : Param) → i < length params
    → p ≡ get_or params i p → Pairwise SameParam (take i params) copy → SameParam p new → more ≡ copy ++ new ∷ []
    → Pairwise SameParam (take (i + 1) params) more
params_more params i p copy more new lt is so_far same grown =
    subst (λ xs. Pairwise SameParam xs more) (sym (take_more params i p lt))
    (subst (λ ys. Pairwise SameParam (take i params ++ get_or params i p ∷ []) ys) (sym grown)
    (more_same SameParam (take i params) copy (get_or params i p) new so_far
    (subst (λ x. SameParam x new) is same)))
