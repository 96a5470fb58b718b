-- A raw expression means one expression, but for where its parts lie in memory.
use Rattle.std.proofs.Common.{ℕ, ◌≡◌, pos, Bool, true, false, Some, refl, ap, sym, ◌∙◌, subst}
use Rattle.frame_ast.specs.declared.kernel.Expr.{Expr}
use Rattle.frame_ast.specs.declared.kernel.Expr.TheVariants.{Number, Local, Value, Element', Length, Has', Count', Item', Binary'}
use Rattle.kernel_raw.specs.declared.raw.RawKernel.{RawKernel}
use Rattle.kernel_code.specs.declared.check.names.Named.{Named}
use Rattle.kernel_code.specs.declared.check.names.Named.TheVariants.{Parameter, Variable, LoopVariable}
use Rattle.kernel_raw.specs.Raw.{RawExpr}
use Rattle.kernel_raw.specs.RawTexts.{kind_at, text_at}
use Rattle.kernel_code.specs.Scopes.{meaning_of}
use Rattle.kernel_code.specs.Trees.{Joint, Both, Either, By, joint_of, is_minus, ExprOf, Declares}
use Rattle.kernel_code.specs.Trees as tree
use Rattle.tree_laws.specs.Same.{SameExpr}
use Rattle.text_laws.proofs.Raws.{parts_of, same_value, same_kind, same_meaning, same_before}

-- two trees that are what two trees are that are the same
along : (x y X Y : Expr) → x ≡ X → y ≡ Y → SameExpr X Y → SameExpr x y
along x y X Y a b same = subst (λ z. SameExpr z y) (sym a) (subst (λ z. SameExpr X z) (sym b) same)

equal : (x y X Y : Expr) → x ≡ X → y ≡ Y → X ≡ Y → SameExpr x y
equal x y X Y a b same = subst (λ z. SameExpr x z) (a ∙ same ∙ sym b) SameExpr.itself

module _ (r t : RawKernel) (same : parts_of r ≡ parts_of t) where
  -- a name means one thing
  pub named : (i at : ℕ) (n m : Named) → meaning_of r i (text_at r at) ≡ Some n → meaning_of t i (text_at t at) ≡ Some m → n ≡ m
  named i at n m a b = let e : Some n ≡ Some m = sym a ∙ same_meaning r t same i at ∙ b in cc

  pub parameter : (i at x y : ℕ) → meaning_of r i (text_at r at) ≡ Some (Parameter x) → meaning_of t i (text_at t at) ≡ Some (Parameter y) → x ≡ y
  parameter i at x y a b = let e = named i at (Parameter x) (Parameter y) a b in cc

  pub variable : (i at x y : ℕ) → meaning_of r i (text_at r at) ≡ Some (Variable x) → meaning_of t i (text_at t at) ≡ Some (Variable y) → x ≡ y
  variable i at x y a b = let e = named i at (Variable x) (Variable y) a b in cc

  loop_variable : (i at x y : ℕ) → meaning_of r i (text_at r at) ≡ Some (LoopVariable x) → meaning_of t i (text_at t at) ≡ Some (LoopVariable y) → x ≡ y
  loop_variable i at x y a b = let e = named i at (LoopVariable x) (LoopVariable y) a b in cc

  pub declared : (i x y : ℕ) → Declares r i x → Declares t i y → x ≡ y
  declared i x y a b = a ∙ same_before r t same i ∙ sym b

  joint : (at : ℕ) (j k : Joint) → joint_of (kind_at r at) ≡ j → joint_of (kind_at t at) ≡ k → j ≡ k
  joint at j k a b = sym a ∙ ap joint_of (same_kind r t same at) ∙ b

  sign : (at : ℕ) (a b : Bool) → is_minus (kind_at r at) ≡ a → is_minus (kind_at t at) ≡ b → a ≡ b
  sign at a b x y = sym x ∙ ap is_minus (same_kind r t same at) ∙ y

  pub expr_once : {i : ℕ} {e : RawExpr} {x y : Expr} → ExprOf r i e x → ExprOf t i e y → SameExpr x y
  expr_once (tree.number {at = at} a) (tree.number b) = equal _ _ _ _ a b (ap (λ n. Number (pos n)) (same_value r t same at))
  expr_once (tree.index a) (tree.index b) = equal _ _ _ _ a b refl
  expr_once (tree.variable {i = i} {name = name} k is a) (tree.variable l is' b) = equal _ _ _ _ a b (ap Local (variable i name k l is is'))
  expr_once (tree.variable {i = i} {name = name} k is a) (tree.loop_variable l is' b) = let e = named i name _ _ is is' in absurd cc
  expr_once (tree.variable {i = i} {name = name} k is a) (tree.value l is' b) = let e = named i name _ _ is is' in absurd cc
  expr_once (tree.loop_variable {i = i} {name = name} k is a) (tree.variable l is' b) = let e = named i name _ _ is is' in absurd cc
  expr_once (tree.loop_variable {i = i} {name = name} k is a) (tree.loop_variable l is' b) = equal _ _ _ _ a b (ap Local (loop_variable i name k l is is'))
  expr_once (tree.loop_variable {i = i} {name = name} k is a) (tree.value l is' b) = let e = named i name _ _ is is' in absurd cc
  expr_once (tree.value {i = i} {name = name} k is a) (tree.variable l is' b) = let e = named i name _ _ is is' in absurd cc
  expr_once (tree.value {i = i} {name = name} k is a) (tree.loop_variable l is' b) = let e = named i name _ _ is is' in absurd cc
  expr_once (tree.value {i = i} {name = name} k is a) (tree.value l is' b) = equal _ _ _ _ a b (ap Value (parameter i name k l is is'))
  expr_once (tree.size {i = i} {name = name} k is a) (tree.size l is' b) = equal _ _ _ _ a b (ap Length (parameter i name k l is is'))
  expr_once (tree.element {i = i} {name = name} {y = y} {p = p} k is d a) (tree.element {y = z} {p = q} l is' d' b) =
      along _ _ (Element' k p y) (Element' l q z) a b (subst (λ m. SameExpr (Element' k p y) (Element' m q z)) (parameter i name k l is is')
      (SameExpr.element (expr_once d d')))
  expr_once (tree.has {i = i} {name = name} {y = y} {p = p} k is d a) (tree.has {y = z} {p = q} l is' d' b) =
      along _ _ (Has' k p y) (Has' l q z) a b (subst (λ m. SameExpr (Has' k p y) (Has' m q z)) (parameter i name k l is is') (SameExpr.has (expr_once d d')))
  expr_once (tree.count {i = i} {name = name} {y = y} {p = p} k is d a) (tree.count {y = z} {p = q} l is' d' b) =
      along _ _ (Count' k p y) (Count' l q z) a b (subst (λ m. SameExpr (Count' k p y) (Count' m q z)) (parameter i name k l is is')
      (SameExpr.count (expr_once d d')))
  expr_once (tree.item {i = i} {name = name} {y = y} {z = z} {p = p} k is d c a) (tree.item {y = y'} {z = z'} {p = q} l is' d' c' b) =
      along _ _ (Item' k p y z) (Item' l q y' z') a b
      (subst (λ m. SameExpr (Item' k p y z) (Item' m q y' z')) (parameter i name k l is is') (SameExpr.item (expr_once d d') (expr_once c c')))
  expr_once (tree.negative m d a) (tree.negative m' d' b) = along _ _ _ _ a b (SameExpr.negative (expr_once d d'))
  expr_once (tree.negative {at = at} m d a) (tree.opposite m' d' b) = let e = sign at true false m m' in absurd cc
  expr_once (tree.opposite {at = at} m d a) (tree.negative m' d' b) = let e = sign at false true m m' in absurd cc
  expr_once (tree.opposite m d a) (tree.opposite m' d' b) = along _ _ _ _ a b (SameExpr.not (expr_once d d'))
  expr_once (tree.both j d c a) (tree.both j' d' c' b) = along _ _ _ _ a b (SameExpr.both (expr_once d d') (expr_once c c'))
  expr_once (tree.either j d c a) (tree.either j' d' c' b) = along _ _ _ _ a b (SameExpr.either (expr_once d d') (expr_once c c'))
  expr_once (tree.between {at = at} {y = y} {z = z} {p = p} op j d c a) (tree.between {y = y'} {z = z'} {p = p'} op' j' d' c' b) =
      let e = joint at (By op) (By op') j j' in
      let ops : op ≡ op' = cc in
      along _ _ (Binary' op p y z) (Binary' op' p' y' z') a b
      (subst (λ o. SameExpr (Binary' op p y z) (Binary' o p' y' z')) ops (SameExpr.binary (expr_once d d') (expr_once c c')))
  expr_once (tree.both {at = at} j d c a) (tree.either j' d' c' b) = let e = joint at Both Either j j' in absurd cc
  expr_once (tree.both {at = at} j d c a) (tree.between op j' d' c' b) = let e = joint at Both (By op) j j' in absurd cc
  expr_once (tree.either {at = at} j d c a) (tree.both j' d' c' b) = let e = joint at Either Both j j' in absurd cc
  expr_once (tree.either {at = at} j d c a) (tree.between op j' d' c' b) = let e = joint at Either (By op) j j' in absurd cc
  expr_once (tree.between {at = at} op j d c a) (tree.both j' d' c' b) = let e = joint at (By op) Both j j' in absurd cc
  expr_once (tree.between {at = at} op j d c a) (tree.either j' d' c' b) = let e = joint at (By op) Either j j' in absurd cc
