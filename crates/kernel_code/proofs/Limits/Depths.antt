-- The depth of a kernel that a raw kernel without faults is.
use Rattle.std.proofs.Common.{ℕ, ◌≡◌, ◌≤◌, ◌<◌, ◌+◌, false, max, inl, inr, List, None, length, refl, sym, ap, subst, ◌∙◌, arith}
use Rattle.std.specs.Prelude.{nat_lt, slice_get, unwrap_or, take}
use Rattle.std.proofs.lemmas.Bool.{or_parts}
use Rattle.std.proofs.lemmas.Bool.Decides.{nat_tests}
use Rattle.frame_grammar.specs.declared.symbols.Event.{Event}
use Rattle.frame_ast.specs.declared.kernel.Expr.{Expr}
use Rattle.frame_ast.specs.declared.kernel.Stmt.{Stmt, out-Stmt}
use Rattle.frame_ast.specs.declared.kernel.Stmt.TheOpen.{Stmt-F}
use Rattle.frame_ast.specs.declared.kernel.Stmt.TheFolds.{fold-Stmt, fold_out-Stmt, map-Stmt}
use Rattle.frame_ast.specs.Checked.{expr_depth, measured, body_depth}
use Rattle.kernel_raw.specs.declared.raw.RawKernel.{RawKernel}
use Rattle.kernel_raw.specs.declared.raw.TheConstants.{MOST_KEPT}
use Rattle.kernel_raw.specs.Raw.{RawExpr, RawBlock, block_size}
use Rattle.kernel_raw.specs.RawEvents.{SpellsRaw}
use Rattle.kernel_raw.specs.Depths.{depth_of, depths_of, kept_depths}
use Rattle.kernel_code.specs.StaticFaults.{nodes_fault}
use Rattle.kernel_raw.specs.RawTexts.{depth_at}
use Rattle.kernel_code.specs.Trees.{ExprOf, number, index, variable, loop_variable, value, size, element, has, count, item, negative, opposite, both, either, between, BlockOf, nothing, var, set_local, set_value, set_place, set_try_add, set_remove, add_item, add_pair, remove, clear, write, begun, tested, counted, looped, branched}
use Rattle.kernel_code.proofs.NoFaults.{some_if-none, node_fault-none}
use Rattle.kernel_code.proofs.Built.Expressions.{none_at}
use Rattle.kernel_code.proofs.Built.Kernels.{body-size}
use Rattle.kernel_code.proofs.Built.Counting.{has-at, node-number, all-kept}
use Rattle.kernel_raw.proofs.Reading.Keeping.{get-take}
use Rattle.kernel_raw.proofs.RunningDepths.{depths-at}
use Rattle.kernel_raw.proofs.KeptDepths.{same-over}
use Rattle.kernel_code.proofs.Limits.Levels.{expr_levels, block_levels, Reaches, block_deep}

-- DEPTHS ARE LEVELS

expr-depth : {raw : RawKernel} {i : ℕ} {e : RawExpr} {x : Expr} → ExprOf raw i e x → expr_depth x ≡ expr_levels e
expr-depth (number h) = ap expr_depth h
expr-depth (index h) = ap expr_depth h
expr-depth (variable k n h) = ap expr_depth h
expr-depth (loop_variable k n h) = ap expr_depth h
expr-depth (value k n h) = ap expr_depth h
expr-depth (size k n h) = ap expr_depth h
expr-depth (element k n s h) = ap expr_depth h ∙ ap (λ z. 1 + z) (expr-depth s)
expr-depth (has k n s h) = ap expr_depth h ∙ ap (λ z. 1 + z) (expr-depth s)
expr-depth (count k n s h) = ap expr_depth h ∙ ap (λ z. 1 + z) (expr-depth s)
expr-depth (item k n s t h) = let a = ap expr_depth h in let b = expr-depth s in let c = expr-depth t in omega arith
expr-depth (negative m s h) = ap expr_depth h ∙ ap (λ z. 1 + z) (expr-depth s)
expr-depth (opposite m s h) = ap expr_depth h ∙ ap (λ z. 1 + z) (expr-depth s)
expr-depth (both j s t h) = let a = ap expr_depth h in let b = expr-depth s in let c = expr-depth t in omega arith
expr-depth (either j s t h) = let a = ap expr_depth h in let b = expr-depth s in let c = expr-depth t in omega arith
expr-depth (between op j s t h) = let a = ap expr_depth h in let b = expr-depth s in let c = expr-depth t in omega arith

abbrev stmt_depth : Stmt → ℕ
stmt_depth = fold-Stmt ℕ (measured expr_depth max)

stmt-depth : (s : Stmt) (z : Stmt-F Stmt) → out-Stmt s ≡ z → stmt_depth s ≡ measured expr_depth max (map-Stmt Stmt ℕ stmt_depth z)
stmt-depth s z o = fold_out-Stmt ℕ (measured expr_depth max) s ∙ ap (λ z. measured expr_depth max (map-Stmt Stmt ℕ stmt_depth z)) o

pub block-depth : {raw : RawKernel} {i : ℕ} {b : RawBlock} {ss : List Stmt} → BlockOf raw i b ss → body_depth ss ≡ block_levels b
block-depth nothing = refl
block-depth (var {s = s} k d x o rest) = let a = stmt-depth s _ o in let b = expr-depth x in let c = block-depth rest in omega arith
block-depth (set_local {s = s} k d x o rest) = let a = stmt-depth s _ o in let b = expr-depth x in let c = block-depth rest in omega arith
block-depth (set_value {s = s} k d x o rest) = let a = stmt-depth s _ o in let b = expr-depth x in let c = block-depth rest in omega arith
block-depth (set_place {s = s} k d x y o rest) = let a = stmt-depth s _ o in let b = expr-depth x in let b' = expr-depth y in let c = block-depth rest in
    omega arith
block-depth (set_try_add {s = s} j k e d x y o rest) = let a = stmt-depth s _ o in let b = expr-depth x in let b' = expr-depth y in let c = block-depth rest in
    omega arith
block-depth (set_remove {s = s} j k e d x o rest) = let a = stmt-depth s _ o in let b = expr-depth x in let c = block-depth rest in omega arith
block-depth (add_item {s = s} k d x o rest) = let a = stmt-depth s _ o in let b = expr-depth x in let c = block-depth rest in omega arith
block-depth (add_pair {s = s} k d x y o rest) = let a = stmt-depth s _ o in let b = expr-depth x in let b' = expr-depth y in let c = block-depth rest in
    omega arith
block-depth (remove {s = s} k d x o rest) = let a = stmt-depth s _ o in let b = expr-depth x in let c = block-depth rest in omega arith
block-depth (clear {s = s} k d o rest) = let a = stmt-depth s _ o in let c = block-depth rest in omega arith
block-depth (write {s = s} k d x o rest) = let a = stmt-depth s _ o in let b = expr-depth x in let c = block-depth rest in omega arith
block-depth (begun {s = s} k d x o inner rest) = let a = stmt-depth s _ o in let b = expr-depth x in let b' = block-depth inner in let c = block-depth rest in
    omega arith
block-depth (tested {s = s} {other = other} x o inner none rest) =
    let a = stmt-depth s _ o in let b = expr-depth x in let b' = block-depth inner in let c = block-depth rest in
    let z : body_depth other.items ≡ 0 = ap body_depth none in omega arith
block-depth (counted {s = s} k d x y o inner rest) = let a = stmt-depth s _ o in let b = expr-depth x in let b' = expr-depth y in let c = block-depth inner in
    let c' = block-depth rest in omega arith
block-depth (looped {s = s} x o inner rest) = let a = stmt-depth s _ o in let b = expr-depth x in let b' = block-depth inner in let c = block-depth rest in
    omega arith
block-depth (branched {s = s} x o one two rest) = let a = stmt-depth s _ o in let b = expr-depth x in let b' = block-depth one in let c = block-depth two in
    let c' = block-depth rest in omega arith

-- THE LIMIT

at_most : (n m : ℕ) → nat_lt n m ≡ false → m ≤ n
at_most n m h = grind (arith, nat_tests)

-- a depth that is no fault by what is kept is none
depth-kept : (raw : RawKernel) (events : List Event) (s : SpellsRaw events raw) (i : ℕ) → nodes_fault raw 0 raw.nodes.items ≡ None → i < length raw.nodes.items
    → nat_lt 64 (depth_at raw i) ≡ nat_lt 64 (depth_of raw.nodes.items i)
depth-kept raw events s i h w =
    let same : 0 + i ≡ i = omega arith in
    let all = all-kept events raw s h in
    let depths : raw.depths.items ≡ kept_depths (take MOST_KEPT (depths_of raw.nodes.items)) = s.depths
    ∙ ap (λ ns. kept_depths (take MOST_KEPT (depths_of ns))) (sym all) in
    ap (λ ds. nat_lt 64 (unwrap_or (slice_get ds i) 0)) depths
    ∙ same-over (take MOST_KEPT (depths_of raw.nodes.items)) i
    ∙ ap (λ d. nat_lt 64 (unwrap_or d 0)) (get-take MOST_KEPT (depths_of raw.nodes.items) i (omega (arith, node-number raw i h w))
    ∙ depths-at raw.nodes.items 0 raw.nodes.items i w)
    ∙ ap (λ k. nat_lt 64 (depth_of raw.nodes.items k)) same

node-depth : (raw : RawKernel) (events : List Event) (s : SpellsRaw events raw) (i : ℕ) → nodes_fault raw 0 raw.nodes.items ≡ None → i < length raw.nodes.items
    → depth_of raw.nodes.items i ≤ 64
node-depth raw events s i h w =
    let same : 0 + i ≡ i = omega arith in
    let q = has-at raw.nodes.items i w in
    let f = node_fault-none raw (0 + i) q.0 (none_at raw 0 i raw.nodes.items q.0 h q.1) in
    let none : nat_lt 64 (depth_at raw (0 + i)) ≡ false = (or_parts _ _ (some_if-none _ _ f.size)).1 in
    at_most 64 (depth_of raw.nodes.items i) (sym (ap (λ k. nat_lt 64 (depth_at raw k)) same ∙ depth-kept raw events s i h w) ∙ none)

few-levels : (raw : RawKernel) (events : List Event) (s : SpellsRaw events raw) (d n : ℕ) → nodes_fault raw 0 raw.nodes.items ≡ None
    → length raw.nodes.items ≡ 0 + n → Reaches 0 n d raw.nodes.items → d ≤ 64
few-levels raw events s d n h whole (inl none) = omega arith
few-levels raw events s d n h whole (inr r) =
    let within = r.within in
    let deep = r.deep in
    let le = node-depth raw events s r.at h (omega arith) in omega arith

-- No node of a kernel without faults is deeper than 64.
pub depth : (raw : RawKernel) (events : List Event) (s : SpellsRaw events raw) (statements : List Stmt) → nodes_fault raw 0 raw.nodes.items ≡ None
    → BlockOf raw 0 s.body statements →
    body_depth statements ≤ 64
depth raw events s statements h b =
    let all = all-kept events raw s h in
    let reaches = subst (λ ns. Reaches 0 (block_size s.body) (block_levels s.body) ns) (sym all) (block_deep None 0 s.body) in
    let le = few-levels raw events s (block_levels s.body) (block_size s.body) h (body-size events raw s all) reaches in
    let same = block-depth b in omega arith
