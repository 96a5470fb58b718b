-- Statements without faults fit where they stand.
use Rattle.std.proofs.Common.{ℕ, ◌≡◌, ◌≤◌, ◌<◌, ◌+◌, Bool, true, false, not, IsTrue, List, [], ◌∷◌, map, Option, Some, None, slice_get, refl, ap, sym, subst, ◌∙◌, arith}
use Rattle.std.specs.Prelude.{nat_lt}
use Rattle.std.proofs.lemmas.Bool.{and_from}
use Rattle.frame_ast.specs.declared.kernel.Param.{Param}
use Rattle.frame_ast.specs.declared.kernel.Expr.{Expr}
use Rattle.frame_ast.specs.declared.kernel.Stmt.{Stmt, out-Stmt}
use Rattle.frame_ast.specs.declared.kernel.Stmt.TheOpen.{Stmt-F}
use Rattle.frame_ast.specs.declared.kernel.Stmt.TheFolds.{fold_out-Stmt, map-Stmt}
use Rattle.frame_ast.specs.Lists.{member}
use Rattle.frame_ast.specs.Checked.{meets, expr_fits, all_fit, statement_fits, stmt_fits}
use Rattle.kernel_raw.specs.declared.raw.RawForm.{RawForm}
use Rattle.kernel_raw.specs.declared.raw.RawForm.TheVariants as form
use Rattle.kernel_raw.specs.declared.raw.RawNode.{RawNode}
use Rattle.kernel_raw.specs.declared.raw.RawKernel.{RawKernel}
use Rattle.kernel_raw.specs.Raw.{RawExpr, RawBlock, expr_size, block_size}
use Rattle.kernel_raw.specs.RawTexts.{text_at}
use Rattle.kernel_code.specs.Scopes.{declares, is_begun}
use Rattle.kernel_code.specs.StaticFaults.{demand_of, block_fault, used_fault, name_fault}
use Rattle.kernel_code.specs.Trees.{ExprOf, BlockOf, nothing, var, set_local, set_value, set_place, set_try_add, set_remove, add_item, add_pair, remove, clear, write, begun, tested, counted, looped, branched, IsParameter, IsVariable, Declares}
use Rattle.kernel_code.specs.Places.{StandsExpr, StandsParts, StandsBlock}
use Rattle.kernel_code.proofs.Fitting.Names.{variable-below, declared-below, is-used, met}
use Rattle.kernel_code.proofs.Fitting.Streams.{AreOpen, is-open}
use Rattle.kernel_code.proofs.Fitting.Blocks.{simple-behind, nested-behind, nested-inside, begun-inside, first-inside, block-behind}
use Rattle.kernel_code.proofs.Fitting.Expressions.{IsSound, fine, below, value-met, expr-fits}

-- WHAT STREAMS MUST BE

block-write : (b : Bool) → block_fault form.Write b ≡ None → b ≡ true
block-write true h = refl
block-write false h = cc

block-begin : (b : Bool) → block_fault form.Begin b ≡ None → not b ≡ true
block-begin true h = cc
block-begin false h = refl

-- the second of two expressions
second-part : (nodes : List RawNode) (i : ℕ) (e g : RawExpr) → StandsParts nodes (i + 1) (e ∷ g ∷ []) → StandsExpr nodes (i + (1 + expr_size e)) g
second-part nodes i e g st = let same : i + 1 + expr_size e ≡ i + (1 + expr_size e) = omega arith in subst (λ n. StandsExpr nodes n g) same st.1.0

module _ (raw : RawKernel) (parallel : Bool) (params : List Param) (locals : ℕ) (ok : IsSound raw parallel params locals) where
  abbrev stmt : Stmt → List ℕ → Bool
  stmt = stmt_fits parallel params locals

  abbrev form_fits : Stmt-F Stmt → List ℕ → Bool
  form_fits z = statement_fits params locals (expr_fits parallel params locals) (map-Stmt Stmt (List ℕ → Bool) stmt z)

  stmt-is : (s : Stmt) (z : Stmt-F Stmt) (opened : List ℕ) → out-Stmt s ≡ z → stmt s opened ≡ form_fits z opened
  stmt-is s z opened o =
      ap (λ f. f opened) (fold_out-Stmt (List ℕ → Bool) (statement_fits params locals (expr_fits parallel params locals)) s ∙ ap form_fits o)

  part : {i : ℕ} {e : RawExpr} {x : Expr} → ExprOf raw i e x → StandsExpr raw.nodes.items i e → IsTrue (expr_fits parallel params locals x)
  part x st = expr-fits raw parallel params locals ok x st

  name-fine : (i : ℕ) (node : RawNode) → slice_get raw.nodes.items i ≡ Some node → name_fault raw i node.name node.form ≡ None
  name-fine i node s = (fine raw parallel params locals ok i node s).name

  declared : (i k : ℕ) (node : RawNode) → slice_get raw.nodes.items i ≡ Some node → declares node.form ≡ true → Declares raw i k → nat_lt k locals ≡ true
  declared i k node s d h = below raw parallel params locals ok k (let w = declared-below raw i node s d in omega arith)

  local : (i at k : ℕ) → IsVariable raw i at k → nat_lt k locals ≡ true
  local i at k h = below raw parallel params locals ok k (variable-below raw i at k h)

  asked : (i name x : ℕ) (f : RawForm) → used_fault raw i f (text_at raw name) ≡ None → IsParameter raw i name x → IsTrue (meets params x (demand_of f))
  asked i name x f h p = met raw params ok.same i name x f h p

  is-written : (i name x e : ℕ) (opened : List ℕ) → used_fault raw i form.Write (text_at raw name) ≡ None → IsParameter raw i name x → i < e
      → AreOpen raw i i e opened → member x opened ≡ true
  is-written i name x e opened h p l o =
      sym (is-open raw i e opened x l o) ∙ block-write (is_begun raw i x) (is-used raw i name x form.Write h p).block

  is-begun : (i name x e : ℕ) (opened : List ℕ) → used_fault raw i form.Begin (text_at raw name) ≡ None → IsParameter raw i name x → i < e
      → AreOpen raw i i e opened → not (member x opened) ≡ true
  is-begun i name x e opened h p l o =
      ap not (sym (is-open raw i e opened x l o)) ∙ block-begin (is_begun raw i x) (is-used raw i name x form.Begin h p).block

  -- the statements of a block that stands within these nodes fit, where these streams are open
  pub block-fits : {i : ℕ} {b : RawBlock} {ss : List Stmt} → BlockOf raw i b ss → (owner : Option ℕ) (e : ℕ) (opened : List ℕ)
      → StandsBlock raw.nodes.items owner i b → i + block_size b ≤ e →
      AreOpen raw i i e opened → IsTrue (all_fit (map (stmt_fits parallel params locals) ss) opened)
  block-fits nothing owner e opened st l now = refl
  block-fits (var {i = i} {e = a} {s = s} k d x o rest) owner e opened st l now =
      and_from _ _ (stmt-is s _ opened o ∙ and_from _ _ (declared i k _ st.0 refl d) (part x st.1.0))
      (block-fits rest owner e opened st.2 (omega arith) (simple-behind raw i (a ∷ []) e opened st.0 st.1 now))
  block-fits (set_local {i = i} {name = name} {e = a} {s = s} k d x o rest) owner e opened st l now =
      and_from _ _ (stmt-is s _ opened o ∙ and_from _ _ (local i name k d) (part x st.1.0))
      (block-fits rest owner e opened st.2 (omega arith) (simple-behind raw i (a ∷ []) e opened st.0 st.1 now))
  block-fits (set_value {i = i} {name = name} {e = a} {s = s} k p x o rest) owner e opened st l now =
      and_from _ _ (stmt-is s _ opened o ∙ and_from _ _ (value-met raw parallel params locals ok i name k (name-fine i _ st.0) p) (part x st.1.0))
      (block-fits rest owner e opened st.2 (omega arith) (simple-behind raw i (a ∷ []) e opened st.0 st.1 now))
  block-fits (set_place {i = i} {name = name} {e = a} {g = g} {s = s} k p x y o rest) owner e opened st l now =
      and_from _ _ (stmt-is s _ opened o ∙ and_from _ _ (asked i name k form.SetPlace (name-fine i _ st.0) p)
      (and_from _ _ (part x st.1.0) (part y (second-part raw.nodes.items i a g st.1))))
      (block-fits rest owner e opened st.2 (omega arith) (simple-behind raw i (a ∷ g ∷ []) e opened st.0 st.1 now))
  block-fits (set_try_add {i = i} {at = at} {name = name} {e = a} {g = g} {s = s} j k v p x y o rest) owner e opened st l now =
      and_from _ _ (stmt-is s _ opened o ∙ and_from _ _ (local i at j v) (and_from _ _ (asked i name k form.SetTryAdd (name-fine i _ st.0) p)
      (and_from _ _ (part x st.1.0) (part y (second-part raw.nodes.items i a g st.1)))))
      (block-fits rest owner e opened st.2 (omega arith) (simple-behind raw i (a ∷ g ∷ []) e opened st.0 st.1 now))
  block-fits (set_remove {i = i} {at = at} {name = name} {e = a} {s = s} j k v p x o rest) owner e opened st l now =
      and_from _ _ (stmt-is s _ opened o ∙ and_from _ _ (local i at j v) (and_from _ _ (asked i name k form.SetRemove (name-fine i _ st.0) p) (part x st.1.0)))
      (block-fits rest owner e opened st.2 (omega arith) (simple-behind raw i (a ∷ []) e opened st.0 st.1 now))
  block-fits (add_item {i = i} {name = name} {e = a} {s = s} k p x o rest) owner e opened st l now =
      and_from _ _ (stmt-is s _ opened o ∙ and_from _ _ (asked i name k form.AddItem (name-fine i _ st.0) p) (part x st.1.0))
      (block-fits rest owner e opened st.2 (omega arith) (simple-behind raw i (a ∷ []) e opened st.0 st.1 now))
  block-fits (add_pair {i = i} {name = name} {e = a} {g = g} {s = s} k p x y o rest) owner e opened st l now =
      and_from _ _ (stmt-is s _ opened o ∙ and_from _ _ (asked i name k form.AddPair (name-fine i _ st.0) p)
      (and_from _ _ (part x st.1.0) (part y (second-part raw.nodes.items i a g st.1))))
      (block-fits rest owner e opened st.2 (omega arith) (simple-behind raw i (a ∷ g ∷ []) e opened st.0 st.1 now))
  block-fits (remove {i = i} {name = name} {e = a} {s = s} k p x o rest) owner e opened st l now =
      and_from _ _ (stmt-is s _ opened o ∙ and_from _ _ (asked i name k form.Remove (name-fine i _ st.0) p) (part x st.1.0))
      (block-fits rest owner e opened st.2 (omega arith) (simple-behind raw i (a ∷ []) e opened st.0 st.1 now))
  block-fits (clear {i = i} {name = name} {s = s} k p o rest) owner e opened st l now =
      and_from _ _ (stmt-is s _ opened o ∙ asked i name k form.Clear (name-fine i _ st.0) p)
      (block-fits rest owner e opened st.2 (omega arith) (simple-behind raw i [] e opened st.0 st.1 now))
  block-fits (write {i = i} {name = name} {e = a} {s = s} k p x o rest) owner e opened st l now =
      let ok-name = name-fine i _ st.0 in
      and_from _ _ (stmt-is s _ opened o ∙ and_from _ _ (asked i name k form.Write ok-name p)
      (and_from _ _ (is-written i name k e opened ok-name p (omega arith) now) (part x st.1.0)))
      (block-fits rest owner e opened st.2 (omega arith) (simple-behind raw i (a ∷ []) e opened st.0 st.1 now))
  block-fits (begun {i = i} {name = name} {e = a} {s = s} {inner = b} k p x o inner rest) owner e opened st l now =
      let ok-name = name-fine i _ st.0 in
      let body = block-fits inner (Some i) (i + (1 + (expr_size a + 0)) + block_size b) (k ∷ opened) st.2 (omega arith)
      (begun-inside raw i (a ∷ []) e opened b st.0 st.1 k refl p (omega arith) now) in
      and_from _ _ (stmt-is s _ opened o ∙ and_from _ _ (asked i name k form.Begin ok-name p)
      (and_from _ _ (is-begun i name k e opened ok-name p (omega arith) now) (and_from _ _ (part x st.1.0) body)))
      (block-fits rest owner e opened st.3 (omega arith) (nested-behind raw i (a ∷ []) e opened b st.0 st.1 st.2 now))
  block-fits (tested {i = i} {e = a} {s = s} {inner = b} {other = other} x o inner none rest) owner e opened st l now =
      let body = block-fits inner (Some i) e opened st.2 (omega arith) (nested-inside raw i (a ∷ []) e opened b st.0 st.1 refl now) in
      and_from _ _ (stmt-is s _ opened o ∙ and_from _ _ (part x st.1.0) (and_from _ _ body (ap (λ bs. all_fit (map stmt bs) opened) none)))
      (block-fits rest owner e opened st.3 (omega arith) (nested-behind raw i (a ∷ []) e opened b st.0 st.1 st.2 now))
  block-fits (counted {i = i} {e = a} {g = g} {s = s} {inner = b} k d x y o inner rest) owner e opened st l now =
      let body = block-fits inner (Some i) e opened st.2 (omega arith) (nested-inside raw i (a ∷ g ∷ []) e opened b st.0 st.1 refl now) in
      and_from _ _ (stmt-is s _ opened o ∙ and_from _ _ (declared i k _ st.0 refl d)
      (and_from _ _ (part x st.1.0) (and_from _ _ (part y (second-part raw.nodes.items i a g st.1)) body)))
      (block-fits rest owner e opened st.3 (omega arith) (nested-behind raw i (a ∷ g ∷ []) e opened b st.0 st.1 st.2 now))
  block-fits (looped {i = i} {e = a} {s = s} {inner = b} x o inner rest) owner e opened st l now =
      let body = block-fits inner (Some i) e opened st.2 (omega arith) (nested-inside raw i (a ∷ []) e opened b st.0 st.1 refl now) in
      and_from _ _ (stmt-is s _ opened o ∙ and_from _ _ (part x st.1.0) body)
      (block-fits rest owner e opened st.3 (omega arith) (nested-behind raw i (a ∷ []) e opened b st.0 st.1 st.2 now))
  block-fits (branched {i = i} {e = a} {s = s} {first = first} {second = second} x o one two rest) owner e opened st l now =
      let first-open = first-inside raw i e _ a opened st.0 refl st.1 now in
      let second-open = block-behind raw (Some i) _ (i + (1 + expr_size a + block_size first)) e first opened (omega arith) st.2 first-open in
      let rest-open = block-behind raw (Some i) _ (i + (1 + expr_size a + block_size first + block_size second)) e second opened
      (omega arith) st.3 second-open in
      let body = block-fits one (Some i) e opened st.2 (omega arith) first-open in
      let other = block-fits two (Some i) e opened st.3 (omega arith) second-open in
      and_from _ _ (stmt-is s _ opened o ∙ and_from _ _ (part x st.1) (and_from _ _ body other))
      (block-fits rest owner e opened st.4 (omega arith) rest-open)
