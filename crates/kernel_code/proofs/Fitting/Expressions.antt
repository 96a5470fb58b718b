-- Expressions without faults fit.
use Rattle.std.proofs.Common.{ℕ, ◌≡◌, ◌<◌, Bool, true, false, not, IsTrue, List, map, length, Some, None, slice_get, refl, ap, ◌∙◌, arith}
use Rattle.std.specs.Prelude.{nat_lt}
use Rattle.std.proofs.lemmas.Bool.{and_from}
use Rattle.std.proofs.lemmas.Bool.Decides.{nat_tests}
use Rattle.job_base.specs.declared.Access.{Access}
use Rattle.job_base.specs.declared.Access.TheVariants.{Read, Write as WriteOnly, Both as ReadWrite}
use Rattle.frame_ast.specs.declared.kernel.Param.{Param}
use Rattle.frame_ast.specs.declared.kernel.ParamKind.{ParamKind}
use Rattle.frame_ast.specs.declared.kernel.ParamKind.TheVariants as kind
use Rattle.frame_ast.specs.declared.kernel.Expr.{Expr}
use Rattle.frame_ast.specs.Checked.{written_value, meets, expr_fits}
use Rattle.kernel_raw.specs.declared.raw.RawForm.TheVariants as form
use Rattle.kernel_raw.specs.declared.raw.RawNode.{RawNode}
use Rattle.kernel_raw.specs.declared.raw.RawParam.{RawParam}
use Rattle.kernel_raw.specs.declared.raw.RawKernel.{RawKernel}
use Rattle.kernel_raw.specs.Raw.{RawExpr}
use Rattle.kernel_raw.specs.RawTexts.{text_at}
use Rattle.kernel_code.specs.Scopes.{locals_of}
use Rattle.kernel_code.specs.StaticFaults.{assigned, touch_fault, used_fault, nodes_fault}
use Rattle.kernel_code.specs.Known.{IsFaultless}
use Rattle.kernel_code.specs.Trees.{ExprOf, number, index, variable, loop_variable, value, size, element, has, count, item, negative, opposite, both, either, between, IsParameter, param_text, raw_param_text}
use Rattle.kernel_code.specs.Places.{StandsExpr}
use Rattle.kernel_code.proofs.NoFaults.{some_if-none}
use Rattle.kernel_code.proofs.Built.Expressions.{faultless_at}
use Rattle.kernel_code.proofs.Fitting.Names.{variable-below, loop-below, is-used, demand-met, met}

-- The nodes of a raw kernel have no fault, and these are the parts of the kernel that it is.
pub record IsSound (raw : RawKernel) (parallel : Bool) (params : List Param) (locals : ℕ) : Type 0 where
  pub faultless : nodes_fault raw 0 raw.nodes.items ≡ None
  pub is_parallel : parallel ≡ raw.parallel
  pub same : map param_text params ≡ map (raw_param_text raw) raw.params.items
  pub count : locals ≡ length (locals_of raw.nodes.items)
  -- an `int` is only read
  pub ints : (x : ℕ) (p : RawParam) → slice_get raw.params.items x ≡ Some p → p.kind ≡ kind.Int → p.access ≡ Read

pub lt-test : (k n : ℕ) → k < n → nat_lt k n ≡ true
lt-test k n h = grind (arith, nat_tests)

not-false : (b : Bool) → not b ≡ false → b ≡ true
not-false true h = refl
not-false false h = cc

-- `x = e` isn't for an `int`, which is only read
assigned-met : (k : ParamKind) (a : Access) → (k ≡ kind.Int → a ≡ Read) → touch_fault (assigned k) a ≡ None → touch_fault (written_value k) a ≡ None
assigned-met kind.Int Read read h = cc
assigned-met kind.Int WriteOnly read h = absurd (let e : WriteOnly ≡ Read = read refl in cc)
assigned-met kind.Int ReadWrite read h = absurd (let e : ReadWrite ≡ Read = read refl in cc)
assigned-met kind.Ref Read read h = h
assigned-met kind.Ref WriteOnly read h = h
assigned-met kind.Ref ReadWrite read h = h
assigned-met k a read h = cc

module _ (raw : RawKernel) (parallel : Bool) (params : List Param) (locals : ℕ) (ok : IsSound raw parallel params locals) where
  abbrev fit : Expr → Bool
  fit = expr_fits parallel params locals

  pub fine : (i : ℕ) (node : RawNode) → slice_get raw.nodes.items i ≡ Some node → IsFaultless raw i node
  fine i node s = faultless_at raw _ i node (record { faultless = ok.faultless; meanings = refl }) s

  pub below : (k : ℕ) → k < length (locals_of raw.nodes.items) → nat_lt k locals ≡ true
  below k h = lt-test k locals (let e = ok.count in omega arith)

  pub value-met : (i name x : ℕ) → used_fault raw i form.SetName (text_at raw name) ≡ None → IsParameter raw i name x → IsTrue (meets params x written_value)
  value-met i name x h p =
      let u = is-used raw i name x form.SetName h p in
      demand-met raw params ok.same x u.param written_value u.at (assigned-met u.param.kind u.param.access (ok.ints x u.param u.at) u.demand)

  pub expr-fits : {i : ℕ} {e : RawExpr} {x : Expr} → ExprOf raw i e x → StandsExpr raw.nodes.items i e → IsTrue (expr_fits parallel params locals x)
  expr-fits (number h) st = ap fit h
  expr-fits (index h) st = ap fit h ∙ ok.is_parallel ∙ not-false raw.parallel (some_if-none _ _ (fine _ _ st).token)
  expr-fits (variable {i = i} {name = name} k n h) st = ap fit h ∙ below k (variable-below raw i name k n)
  expr-fits (loop_variable {i = i} {name = name} k n h) st = ap fit h ∙ below k (loop-below raw i name k n)
  expr-fits (value {i = i} {name = name} k n h) st = ap fit h ∙ met raw params ok.same i name k form.Name (fine _ _ st).name n
  expr-fits (size {i = i} {name = name} k n h) st =
      ap fit h ∙ met raw params ok.same i name k form.Length (fine _ _ st).name n
  expr-fits (element {i = i} {name = name} k n s h) st =
      ap fit h ∙ and_from _ _ (met raw params ok.same i name k form.Element (fine _ _ st.0).name n) (expr-fits s st.1)
  expr-fits (has {i = i} {name = name} k n s h) st =
      ap fit h ∙ and_from _ _ (met raw params ok.same i name k form.Has (fine _ _ st.0).name n) (expr-fits s st.1)
  expr-fits (count {i = i} {name = name} k n s h) st =
      ap fit h ∙ and_from _ _ (met raw params ok.same i name k form.Count (fine _ _ st.0).name n) (expr-fits s st.1)
  expr-fits (item {i = i} {name = name} k n s t h) st =
      ap fit h ∙ and_from _ _ (met raw params ok.same i name k form.Item (fine _ _ st.0).name n) (and_from _ _ (expr-fits s st.1) (expr-fits t st.2))
  expr-fits (negative m s h) st = ap fit h ∙ expr-fits s st.1
  expr-fits (opposite m s h) st = ap fit h ∙ expr-fits s st.1
  expr-fits (both j s t h) st = ap fit h ∙ and_from _ _ (expr-fits s st.0) (expr-fits t st.2)
  expr-fits (either j s t h) st = ap fit h ∙ and_from _ _ (expr-fits s st.0) (expr-fits t st.2)
  expr-fits (between op j s t h) st = ap fit h ∙ and_from _ _ (expr-fits s st.0) (expr-fits t st.2)
