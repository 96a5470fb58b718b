-- The guarded kernel is checked.
use Rattle.std.proofs.Common.{◌≡◌, ℕ, zero, suc, ◌+◌, ◌-◌, ◌≤◌, Bool, true, false, ◌&&◌, max, List, [], ◌∷◌, ◌++◌, length, length-append, map, Some, refl, sym, ap, subst, ◌∙◌, arith}
use Rattle.std.specs.Prelude.{◌||◌, nat_eq, nat_le}
use Rattle.std.specs.List.{list_all}
use Rattle.std.proofs.lemmas.Bool.{le-leb, leb-true, and_from}
use Rattle.job_base.specs.declared.limits.TheConstants.{MOST_PARAMS, MOST_LOCALS, MOST_NODES, MOST_DEPTH, MOST_WIDTH, GUARD_PARAMS, GUARD_NODES, GUARD_DEPTH}
use Rattle.frame_ast.specs.declared.kernel.Param.{Param}
use Rattle.frame_ast.specs.declared.kernel.Kernel.{Kernel}
use Rattle.frame_ast.specs.declared.kernel.Expr.{Expr}
use Rattle.frame_ast.specs.declared.kernel.Stmt.{Stmt}
use Rattle.frame_ast.specs.declared.kernel.Stmt.TheFolds.{fold-Stmt, fold_out-Stmt, map-Stmt}
use Rattle.frame_ast.specs.Checked.{Demand, meets, param_meets, touch_meets, kind_fits, param_fits, width_fits, expr_fits, expr_nodes, expr_depth, all_fit, statement_fits, stmt_fits, measured, all_joined, body_nodes, body_depth, read_elements, IsChecked}
use Rattle.frame_ast.proofs.Simulation.{and_left, and_right}
use Rattle.frame_ast.specs.Accepted.{guard_fits}
use Rattle.frame_ast.specs.Schedules.{is_array, writes_to}
use Rattle.tree_laws.specs.Same.{SameParam, SameKernel, Pairwise}
use Rattle.tree_laws.proofs.Itself.{kernels_are_themselves}
use Rattle.tree_laws.proofs.Checks.{same_kernels_are_checked, same_count, same_measures, same_nodes, same_depth}
use Rattle.job_defer.specs.Guarded.{IsGuarded, IsGuard, IsLengthParam}
use Rattle.job_defer.proofs.Fits.{Lets, body_more}

-- THE PARAMETERS

same_param_meets : (p q : Param) → SameParam p q → (d : Demand) → param_meets d (Some p) ≡ param_meets d (Some q)
same_param_meets p q S d = λ i. touch_meets (d (S.kind i)) (S.access i)

meets_kept : (ps qs : List Param) (r : Param) → Pairwise SameParam ps qs → (x : ℕ) (d : Demand)
    → Lets (meets ps x d) (meets (qs ++ r ∷ []) x d)
meets_kept [] [] r S zero d h = absurd (no h)
  where
    no : false ≡ true → ⊥
    no e = cc
meets_kept [] [] r S (suc x) d h = absurd (no h)
  where
    no : false ≡ true → ⊥
    no e = cc
meets_kept [] (q ∷ qs) r S x d h = absurd S
meets_kept (p ∷ ps) [] r S x d h = absurd S
meets_kept (p ∷ ps) (q ∷ qs) r S zero d h = sym (same_param_meets p q S.0 d) ∙ h
meets_kept (p ∷ ps) (q ∷ qs) r S (suc x) d h = meets_kept ps qs r S.1 x d h

last_meets : (ps qs : List Param) (r : Param) → Pairwise SameParam ps qs → (d : Demand)
    → meets (qs ++ r ∷ []) (length ps) d ≡ param_meets d (Some r)
last_meets [] [] r S d = refl
last_meets [] (q ∷ qs) r S d = absurd S
last_meets (p ∷ ps) [] r S d = absurd S
last_meets (p ∷ ps) (q ∷ qs) r S d = last_meets ps qs r S.1 d

-- a test that says the same of parameters that are the same
all_kept : (fits : Param → Bool) → ((p q : Param) → SameParam p q → fits p ≡ fits q) → (ps qs : List Param) (r : Param)
    → Pairwise SameParam ps qs → fits r ≡ true → list_all fits ps ≡ true → list_all fits (qs ++ r ∷ []) ≡ true
all_kept fits is [] [] r S f h = and_from (fits r) true f refl
all_kept fits is [] (q ∷ qs) r S f h = absurd S
all_kept fits is (p ∷ ps) [] r S f h = absurd S
all_kept fits is (p ∷ ps) (q ∷ qs) r S f h =
    and_from (fits q) (list_all fits (qs ++ r ∷ [])) (sym (is p q S.0) ∙ and_left (fits p) (list_all fits ps) h)
    (all_kept fits is ps qs r S.1 f (and_right (fits p) (list_all fits ps) h))

same_fits : (p q : Param) → SameParam p q → param_fits p ≡ param_fits q
same_fits p q S = λ i. param_fits (record p { kind = S.kind i; access = S.access i; by = S.by i })

same_widths : (parallel : Bool) (p q : Param) → SameParam p q → width_fits parallel p ≡ width_fits parallel q
same_widths parallel p q S = λ i. nat_eq (S.by i) 1 || (parallel && (is_array (S.kind i) && writes_to (S.access i)))

length_width : (parallel : Bool) (r : Param) → IsLengthParam r → width_fits parallel r ≡ true
length_width parallel r L = λ i. nat_eq (L.by i) 1 || (parallel && (is_array r.kind && writes_to r.access))

length_fits : (r : Param) → IsLengthParam r → param_fits r ≡ true
length_fits r L = λ i. kind_fits r (L.kind i) && (nat_le 1 (L.by i) && nat_le (L.by i) MOST_WIDTH)

length_meets : (r : Param) → IsLengthParam r → param_meets read_elements (Some r) ≡ true
length_meets r L = λ i. touch_meets (read_elements (L.kind i)) (L.access i)

-- THE STATEMENT

module _ (old new : Kernel) (C : IsChecked old) (parallel : old.parallel ≡ true) (room : guard_fits old ≡ true)
    (G : IsGuarded old new) where
  abbrev guard : IsGuard (length old.params.items) old.body.statements.items new.body.statements.items
  guard = G.body

  inside : Kernel
  inside = record old { body = record { statements = guard.body } }

  same_inside : SameKernel old inside
  unfolding inside
  same_inside = record {
    name = refl;
    parallel = refl;
    params = (kernels_are_themselves old).params;
    locals = refl;
    body = guard.same;
  }

  inside_checked : IsChecked inside
  inside_checked = same_kernels_are_checked old inside same_inside C

  abbrev all_params : List Param
  all_params = new.params.items

  more : (x : ℕ) (d : Demand) → Lets (meets old.params.items x d) (meets all_params x d)
  more x d = subst (λ ps. Lets (meets old.params.items x d) (meets ps x d)) (sym G.params)
      (meets_kept old.params.items G.same G.last G.are_same x d)

  body_fits : all_fit (map (stmt_fits old.parallel all_params old.locals) guard.body.items) [] ≡ true
  unfolding inside
  body_fits = body_more old.parallel old.params.items all_params old.locals more guard.body.items [] inside_checked.fits

  abbrev in_new : Stmt → List ℕ → Bool
  in_new = stmt_fits new.parallel all_params new.locals

  abbrev expr_in_new : Expr → Bool
  expr_in_new = expr_fits new.parallel all_params new.locals

  body_fits_new : all_fit (map in_new guard.body.items) [] ≡ true
  body_fits_new = subst (λ n. all_fit (map (stmt_fits new.parallel all_params n) guard.body.items) [] ≡ true)
      (sym G.locals)
      (subst (λ b. all_fit (map (stmt_fits b all_params old.locals) guard.body.items) [] ≡ true)
      (parallel ∙ sym G.parallel) body_fits)

  test_fits : expr_in_new guard.test ≡ true
  test_fits = ap expr_in_new guard.below.is
      ∙ and_from new.parallel (meets all_params (length old.params.items) read_elements && true) G.parallel
      (and_from (meets all_params (length old.params.items) read_elements) true
      (ap (λ ps. meets ps (length old.params.items) read_elements) G.params
      ∙ last_meets old.params.items G.same G.last G.are_same read_elements ∙ length_meets G.last G.is_length) refl)

  form : in_new guard.statement []
      ≡ (expr_in_new guard.test
      && (all_fit (map in_new guard.body.items) [] && all_fit (map in_new guard.other.items) []))
  form = λ i. (fold_out-Stmt (List ℕ → Bool) (statement_fits all_params new.locals expr_in_new) guard.statement
      ∙ ap (λ z. statement_fits all_params new.locals expr_in_new
      (map-Stmt Stmt (List ℕ → Bool) in_new z)) guard.is) i []

  statement_fits_new : in_new guard.statement [] ≡ true
  statement_fits_new = form
      ∙ and_from (expr_in_new guard.test)
      (all_fit (map in_new guard.body.items) [] && all_fit (map in_new guard.other.items) []) test_fits
      (and_from (all_fit (map in_new guard.body.items) []) (all_fit (map in_new guard.other.items) []) body_fits_new
      (ap (λ xs. all_fit (map in_new xs) []) guard.nothing_else))

  -- nodes and depth

  measure : (of : Expr → ℕ) (join : ℕ → ℕ → ℕ) → fold-Stmt ℕ (measured of join) guard.statement
      ≡ 1 + join (of guard.test)
      (join (all_joined join (map (fold-Stmt ℕ (measured of join)) guard.body.items))
      (all_joined join (map (fold-Stmt ℕ (measured of join)) guard.other.items)))
  measure of join = fold_out-Stmt ℕ (measured of join) guard.statement
      ∙ ap (λ z. measured of join (map-Stmt Stmt ℕ (fold-Stmt ℕ (measured of join)) z)) guard.is

  abbrev has_parameter : Bool
  has_parameter = nat_le (length old.params.items) (MOST_PARAMS - GUARD_PARAMS)

  abbrev has_nodes : Bool
  has_nodes = nat_le (body_nodes old.body.statements.items) (MOST_NODES - GUARD_NODES)

  abbrev has_level : Bool
  has_level = nat_le (body_depth old.body.statements.items) (MOST_DEPTH - GUARD_DEPTH)

  few : length old.params.items ≤ MOST_PARAMS - GUARD_PARAMS
  few = leb-true (length old.params.items) (MOST_PARAMS - GUARD_PARAMS)
      (and_left has_parameter (has_nodes && has_level) room)

  small : (has_nodes && has_level) ≡ true
  small = and_right has_parameter (has_nodes && has_level) room

  nodes : body_nodes new.body.statements.items ≤ MOST_NODES
  nodes =
      let test : expr_nodes guard.test ≡ 4 = ap expr_nodes guard.below.is in
      let body : body_nodes guard.body.items
      ≡ body_nodes old.body.statements.items =
      sym (same_measures expr_nodes
      (λ m n. m + n) same_nodes old.body.statements.items guard.body.items guard.same) in
      let other : body_nodes guard.other.items ≡ 0 = ap body_nodes guard.nothing_else in
      let one = measure expr_nodes (λ m n. m + n) in
      let all : body_nodes new.body.statements.items
      ≡ fold-Stmt ℕ (measured expr_nodes (λ m n. m + n)) guard.statement + 0 = ap body_nodes guard.only in
      let high = leb-true (body_nodes old.body.statements.items) (MOST_NODES - GUARD_NODES)
      (and_left has_nodes has_level small) in
      omega (arith, test, body, other, one, all, high)

  depth : body_depth new.body.statements.items ≤ MOST_DEPTH
  depth =
      let test : expr_depth guard.test ≡ 3 = ap expr_depth guard.below.is in
      let body : body_depth guard.body.items
      ≡ body_depth old.body.statements.items =
      sym (same_measures expr_depth max same_depth old.body.statements.items guard.body.items guard.same) in
      let other : body_depth guard.other.items ≡ 0 = ap body_depth guard.nothing_else in
      let one = measure expr_depth max in
      let all : body_depth new.body.statements.items
      ≡ max (fold-Stmt ℕ (measured expr_depth max) guard.statement) 0 = ap body_depth guard.only in
      let high = leb-true (body_depth old.body.statements.items) (MOST_DEPTH - GUARD_DEPTH)
      (and_right has_nodes has_level small) in
      omega (arith, test, body, other, one, all, high)

  pub guarded_checked : IsChecked new
  guarded_checked = record {
    fits = ap (λ xs. all_fit (map in_new xs) []) guard.only
        ∙ and_from (in_new guard.statement []) true statement_fits_new refl;
    params = ap (λ ps. list_all param_fits ps) G.params
        ∙ all_kept param_fits same_fits old.params.items G.same G.last G.are_same
        (length_fits G.last G.is_length) C.params;
    widths = ap (λ ps. list_all (width_fits new.parallel) ps) G.params
        ∙ all_kept (width_fits new.parallel) (same_widths new.parallel) old.params.items G.same G.last G.are_same
        (length_width new.parallel G.last G.is_length)
        (subst (λ b. list_all (width_fits b) old.params.items ≡ true) (parallel ∙ sym G.parallel) C.widths);
    count = le-leb (length new.params.items) MOST_PARAMS
        (let e : length new.params.items ≡ length (G.same ++ G.last ∷ []) = ap length G.params in
        let s : length (G.same ++ G.last ∷ []) ≡ length G.same + 1 = length-append G.same (G.last ∷ []) in
        let c = same_count old.params.items G.same G.are_same in let f = few in omega arith);
    locals = ap (λ n. nat_le n MOST_LOCALS) G.locals ∙ C.locals;
    nodes = le-leb (body_nodes new.body.statements.items) MOST_NODES nodes;
    depth = le-leb (body_depth new.body.statements.items) MOST_DEPTH depth;
  }
