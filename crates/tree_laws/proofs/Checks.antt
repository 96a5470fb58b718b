-- Where a kernel is checked, so is the same kernel.
use Rattle.std.proofs.Common.{◌≡◌, refl, ap, subst, ◌∙◌, ℕ, zero, suc, ◌+◌, Bool, ◌&&◌, IsTrue, List, [], ◌∷◌, map, nat_lt, nat_le}
use Rattle.std.specs.Prelude.{not, max, length}
use Rattle.std.specs.List.{list_all}
use Rattle.job_base.specs.declared.limits.TheConstants.{MOST_PARAMS, MOST_LOCALS, MOST_NODES, MOST_DEPTH}
use Rattle.frame_ast.specs.declared.kernel.Param.{Param}
use Rattle.frame_ast.specs.declared.kernel.Expr.{Expr}
use Rattle.frame_ast.specs.declared.kernel.Expr.TheVariants.{Number, Index, Local, Value, Element', Length, Has', Count', Item', Negative', Not', And', Or', Binary'}
use Rattle.frame_ast.specs.declared.kernel.Stmt.{Stmt}
use Rattle.frame_ast.specs.declared.kernel.Stmt.TheOpen.{Stmt-F}
use Rattle.frame_ast.specs.declared.kernel.Stmt.TheFolds.{fold-Stmt}
use Rattle.frame_ast.specs.Lists.{member}
use Rattle.frame_ast.specs.Checked.{Demand, a_value, measurable, read_elements, read_map, read_stream, written_value, written_elements, written_list, written_map, changed_map, clearable, written_stream, touch_meets, meets, expr_fits, all_fit, statement_fits, stmt_fits, param_fits, width_fits, all_joined, measured, expr_nodes, expr_depth}
use Rattle.tree_laws.specs.Same.{SameExpr, SameBody, SameParam, Pairwise}
use Rattle.tree_laws.specs.Laws.{SameKernelsAreChecked}
use Rattle.tree_laws.proofs.Folds.{SameLayer, same_folds}

-- numbers of nodes and depths

pub same_nodes : (e f : Expr) → SameExpr e f → expr_nodes e ≡ expr_nodes f
same_nodes e f SameExpr.itself = refl
same_nodes _ _ (SameExpr.element {e = e} {f = f} same) = ap (λ n. 1 + n) (same_nodes e f same)
same_nodes _ _ (SameExpr.has {e = e} {f = f} same) = ap (λ n. 1 + n) (same_nodes e f same)
same_nodes _ _ (SameExpr.count {e = e} {f = f} same) = ap (λ n. 1 + n) (same_nodes e f same)
same_nodes _ _ (SameExpr.item {e = e} {f = f} {e2 = e2} {f2 = f2} same second) = λ i. 1 + (same_nodes e f same i + same_nodes e2 f2 second i)
same_nodes _ _ (SameExpr.negative {e = e} {f = f} same) = ap (λ n. 1 + n) (same_nodes e f same)
same_nodes _ _ (SameExpr.not {e = e} {f = f} same) = ap (λ n. 1 + n) (same_nodes e f same)
same_nodes _ _ (SameExpr.both {e = e} {f = f} {e2 = e2} {f2 = f2} same second) = λ i. 1 + (same_nodes e f same i + same_nodes e2 f2 second i)
same_nodes _ _ (SameExpr.either {e = e} {f = f} {e2 = e2} {f2 = f2} same second) = λ i. 1 + (same_nodes e f same i + same_nodes e2 f2 second i)
same_nodes _ _ (SameExpr.binary {e = e} {f = f} {e2 = e2} {f2 = f2} same second) = λ i. 1 + (same_nodes e f same i + same_nodes e2 f2 second i)

pub same_depth : (e f : Expr) → SameExpr e f → expr_depth e ≡ expr_depth f
same_depth e f SameExpr.itself = refl
same_depth _ _ (SameExpr.element {e = e} {f = f} same) = ap (λ n. 1 + n) (same_depth e f same)
same_depth _ _ (SameExpr.has {e = e} {f = f} same) = ap (λ n. 1 + n) (same_depth e f same)
same_depth _ _ (SameExpr.count {e = e} {f = f} same) = ap (λ n. 1 + n) (same_depth e f same)
same_depth _ _ (SameExpr.item {e = e} {f = f} {e2 = e2} {f2 = f2} same second) = λ i. 1 + max (same_depth e f same i) (same_depth e2 f2 second i)
same_depth _ _ (SameExpr.negative {e = e} {f = f} same) = ap (λ n. 1 + n) (same_depth e f same)
same_depth _ _ (SameExpr.not {e = e} {f = f} same) = ap (λ n. 1 + n) (same_depth e f same)
same_depth _ _ (SameExpr.both {e = e} {f = f} {e2 = e2} {f2 = f2} same second) = λ i. 1 + max (same_depth e f same i) (same_depth e2 f2 second i)
same_depth _ _ (SameExpr.either {e = e} {f = f} {e2 = e2} {f2 = f2} same second) = λ i. 1 + max (same_depth e f same i) (same_depth e2 f2 second i)
same_depth _ _ (SameExpr.binary {e = e} {f = f} {e2 = e2} {f2 = f2} same second) = λ i. 1 + max (same_depth e f same i) (same_depth e2 f2 second i)

module _ (of : Expr → ℕ) (join : ℕ → ℕ → ℕ) (same_of : (e f : Expr) → SameExpr e f → of e ≡ of f) where
  same_measure : (z w : Stmt-F ℕ) → SameLayer ℕ z w → measured of join z ≡ measured of join w
  same_measure _ _ (SameLayer.assign {e = e} {f = f} same) = λ i. 1 + same_of e f same i
  same_measure _ _ (SameLayer.set_value {e = e} {f = f} same) = λ i. 1 + same_of e f same i
  same_measure _ _ (SameLayer.store {e = e} {f = f} {e2 = e2} {f2 = f2} same second) = λ i. 1 + join (same_of e f same i) (same_of e2 f2 second i)
  same_measure _ _ (SameLayer.add {e = e} {f = f} same) = λ i. 1 + same_of e f same i
  same_measure _ _ (SameLayer.add_pair {e = e} {f = f} {e2 = e2} {f2 = f2} same second) = λ i. 1 + join (same_of e f same i) (same_of e2 f2 second i)
  same_measure _ _ (SameLayer.try_add {e = e} {f = f} {e2 = e2} {f2 = f2} same second) = λ i. 1 + join (same_of e f same i) (same_of e2 f2 second i)
  same_measure _ _ (SameLayer.remove_at {e = e} {f = f} same) = λ i. 1 + same_of e f same i
  same_measure _ _ (SameLayer.remove_key {e = e} {f = f} same) = λ i. 1 + same_of e f same i
  same_measure _ _ SameLayer.clear = refl
  same_measure _ _ (SameLayer.write {e = e} {f = f} same) = λ i. 1 + same_of e f same i
  same_measure _ _ (SameLayer.begin {e = e} {f = f} same inner) = λ i. 1 + join (same_of e f same i) (all_joined join (inner i))
  same_measure _ _ (SameLayer.if_ {e = e} {f = f} same inner second) = λ i. 1 + join (same_of e f same i)
      (join (all_joined join (inner i)) (all_joined join (second i)))
  same_measure _ _ (SameLayer.for {e = e} {f = f} {e2 = e2} {f2 = f2} same second inner) =
      λ i. 1 + join (same_of e f same i) (join (same_of e2 f2 second i) (all_joined join (inner i)))
  same_measure _ _ (SameLayer.while {e = e} {f = f} same inner) = λ i. 1 + join (same_of e f same i) (all_joined join (inner i))

  pub same_measures : (xs ys : List Stmt) → SameBody xs ys → all_joined join (map (fold-Stmt ℕ (measured of join)) xs) ≡ all_joined join
      (map (fold-Stmt ℕ (measured of join)) ys)
  same_measures xs ys same = ap (all_joined join) (same_folds ℕ (measured of join) (measured of join) same_measure xs ys same)

-- what forms ask of parameters

same_demand : (ps qs : List Param) → Pairwise SameParam ps qs → (x : ℕ) (d : Demand) → meets ps x d ≡ meets qs x d
same_demand [] [] same x d = refl
same_demand [] (q ∷ qs) same x d = absurd same
same_demand (p ∷ ps) [] same x d = absurd same
same_demand (p ∷ ps) (q ∷ qs) same zero d = λ i. touch_meets (d (same.0.kind i)) (same.0.access i)
same_demand (p ∷ ps) (q ∷ qs) same (suc x) d = same_demand ps qs same.1 x d

module _ (parallel : Bool) (ps qs : List Param) (same : Pairwise SameParam ps qs) (locals : ℕ) where
  ask : (x : ℕ) (d : Demand) → meets ps x d ≡ meets qs x d
  ask = same_demand ps qs same

  abbrev in_p : Expr → Bool
  in_p = expr_fits parallel ps locals

  abbrev in_q : Expr → Bool
  in_q = expr_fits parallel qs locals

  fits_there : (e : Expr) → in_p e ≡ in_q e
  fits_there (Number n) = refl
  fits_there Index = refl
  fits_there (Local k) = refl
  fits_there (Value x) = ask x a_value
  fits_there (Element' x p e) = λ i. ask x read_elements i && fits_there e i
  fits_there (Length x) = ask x measurable
  fits_there (Has' x p e) = λ i. ask x read_map i && fits_there e i
  fits_there (Count' x p e) = λ i. ask x read_stream i && fits_there e i
  fits_there (Item' x p e f) = λ i. ask x read_stream i && (fits_there e i && fits_there f i)
  fits_there (Negative' p e) = fits_there e
  fits_there (Not' p e) = fits_there e
  fits_there (And' p e f) = λ i. fits_there e i && fits_there f i
  fits_there (Or' p e f) = λ i. fits_there e i && fits_there f i
  fits_there (Binary' op p e f) = λ i. fits_there e i && fits_there f i

  same_fits : (e f : Expr) → SameExpr e f → in_p e ≡ in_q f
  same_fits e f SameExpr.itself = fits_there e
  same_fits _ _ (SameExpr.element {x = x} {e = e} {f = f} same) = λ i. ask x read_elements i && same_fits e f same i
  same_fits _ _ (SameExpr.has {x = x} {e = e} {f = f} same) = λ i. ask x read_map i && same_fits e f same i
  same_fits _ _ (SameExpr.count {x = x} {e = e} {f = f} same) = λ i. ask x read_stream i && same_fits e f same i
  same_fits _ _ (SameExpr.item {x = x} {e = e} {f = f} {e2 = e2} {f2 = f2} same second) =
      λ i. ask x read_stream i && (same_fits e f same i && same_fits e2 f2 second i)
  same_fits _ _ (SameExpr.negative {e = e} {f = f} same) = same_fits e f same
  same_fits _ _ (SameExpr.not {e = e} {f = f} same) = same_fits e f same
  same_fits _ _ (SameExpr.both {e = e} {f = f} {e2 = e2} {f2 = f2} same second) = λ i. same_fits e f same i && same_fits e2 f2 second i
  same_fits _ _ (SameExpr.either {e = e} {f = f} {e2 = e2} {f2 = f2} same second) = λ i. same_fits e f same i && same_fits e2 f2 second i
  same_fits _ _ (SameExpr.binary {e = e} {f = f} {e2 = e2} {f2 = f2} same second) = λ i. same_fits e f same i && same_fits e2 f2 second i

  same_layer : (z w : Stmt-F (List ℕ → Bool)) → SameLayer (List ℕ → Bool) z w → statement_fits ps locals in_p z ≡ statement_fits qs locals in_q w
  same_layer _ _ (SameLayer.assign {k = k} {e = e} {f = f} same) = λ i open_. nat_lt k locals && same_fits e f same i
  same_layer _ _ (SameLayer.set_value {x = x} {e = e} {f = f} same) = λ i open_. ask x written_value i && same_fits e f same i
  same_layer _ _ (SameLayer.store {x = x} {e = e} {f = f} {e2 = e2} {f2 = f2} same second) =
      λ i open_. ask x written_elements i && (same_fits e f same i && same_fits e2 f2 second i)
  same_layer _ _ (SameLayer.add {x = x} {e = e} {f = f} same) = λ i open_. ask x written_list i && same_fits e f same i
  same_layer _ _ (SameLayer.add_pair {x = x} {e = e} {f = f} {e2 = e2} {f2 = f2} same second) =
      λ i open_. ask x written_map i && (same_fits e f same i && same_fits e2 f2 second i)
  same_layer _ _ (SameLayer.try_add {y = y} {x = x} {e = e} {f = f} {e2 = e2} {f2 = f2} same second) =
      λ i open_. nat_lt y locals && (ask x changed_map i && (same_fits e f same i && same_fits e2 f2 second i))
  same_layer _ _ (SameLayer.remove_at {x = x} {e = e} {f = f} same) = λ i open_. ask x written_list i && same_fits e f same i
  same_layer _ _ (SameLayer.remove_key {y = y} {x = x} {e = e} {f = f} same) = λ i open_. nat_lt y locals && (ask x changed_map i && same_fits e f same i)
  same_layer _ _ (SameLayer.clear {x = x}) = λ i open_. ask x clearable i
  same_layer _ _ (SameLayer.write {x = x} {e = e} {f = f} same) = λ i open_. ask x written_stream i && (member x open_ && same_fits e f same i)
  same_layer _ _ (SameLayer.begin {x = x} {e = e} {f = f} same inner) = λ i open_. ask x written_stream i
      && (not (member x open_) && (same_fits e f same i && all_fit (inner i) (x ∷ open_)))
  same_layer _ _ (SameLayer.if_ {e = e} {f = f} same inner second) = λ i open_. same_fits e f same i && (all_fit (inner i) open_ && all_fit (second i) open_)
  same_layer _ _ (SameLayer.for {k = k} {e = e} {f = f} {e2 = e2} {f2 = f2} same second inner) =
      λ i open_. nat_lt k locals && (same_fits e f same i && (same_fits e2 f2 second i && all_fit (inner i) open_))
  same_layer _ _ (SameLayer.while {e = e} {f = f} same inner) = λ i open_. same_fits e f same i && all_fit (inner i) open_

  same_bodies : (xs ys : List Stmt) → SameBody xs ys → all_fit (map (stmt_fits parallel ps locals) xs) [] ≡ all_fit (map (stmt_fits parallel qs locals) ys) []
  same_bodies xs ys bodies =
      ap (λ fs. all_fit fs []) (same_folds (List ℕ → Bool) (statement_fits ps locals in_p) (statement_fits qs locals in_q) same_layer xs ys bodies)

same_params_fit : (ps qs : List Param) → Pairwise SameParam ps qs → list_all param_fits ps ≡ list_all param_fits qs
same_params_fit [] [] same = refl
same_params_fit [] (q ∷ qs) same = absurd same
same_params_fit (p ∷ ps) [] same = absurd same
same_params_fit (p ∷ ps) (q ∷ qs) same =
    λ i. param_fits (record p { kind = same.0.kind i; access = same.0.access i; by = same.0.by i }) && same_params_fit ps qs same.1 i

same_widths : (parallel : Bool) (ps qs : List Param) → Pairwise SameParam ps qs → list_all (width_fits parallel) ps ≡ list_all (width_fits parallel) qs
same_widths parallel [] [] same = refl
same_widths parallel [] (q ∷ qs) same = absurd same
same_widths parallel (p ∷ ps) [] same = absurd same
same_widths parallel (p ∷ ps) (q ∷ qs) same =
    λ i. width_fits parallel (record p { kind = same.0.kind i; access = same.0.access i; by = same.0.by i }) && same_widths parallel ps qs same.1 i

pub same_count : (ps qs : List Param) → Pairwise SameParam ps qs → length ps ≡ length qs
same_count [] [] same = refl
same_count [] (q ∷ qs) same = absurd same
same_count (p ∷ ps) [] same = absurd same
same_count (p ∷ ps) (q ∷ qs) same = ap suc (same_count ps qs same.1)

pub same_kernels_are_checked : SameKernelsAreChecked
same_kernels_are_checked k l same is =
    let xs = k.body.statements.items in
    let ys = l.body.statements.items in
    record {
      fits = subst (λ b. IsTrue b) (same_bodies k.parallel k.params.items l.params.items same.params k.locals xs ys same.body
          ∙ (λ i. all_fit (map (stmt_fits (same.parallel i) l.params.items (same.locals i)) ys) [])) is.fits;
      params = subst (λ b. IsTrue b) (same_params_fit k.params.items l.params.items same.params) is.params;
      widths = subst (λ b. IsTrue b) (same_widths k.parallel k.params.items l.params.items same.params
          ∙ (λ i. list_all (width_fits (same.parallel i)) l.params.items)) is.widths;
      count = subst (λ n. IsTrue (nat_le n MOST_PARAMS)) (same_count k.params.items l.params.items same.params) is.count;
      locals = subst (λ n. IsTrue (nat_le n MOST_LOCALS)) same.locals is.locals;
      nodes = subst (λ n. IsTrue (nat_le n MOST_NODES)) (same_measures expr_nodes (λ m n. m + n) same_nodes xs ys same.body) is.nodes;
      depth = subst (λ n. IsTrue (nat_le n MOST_DEPTH)) (same_measures expr_depth max same_depth xs ys same.body) is.depth;
    }
