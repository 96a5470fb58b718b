-- How many nodes a kernel has that a raw kernel is.
use Rattle.std.proofs.Common.{ℕ, zero, suc, ◌≡◌, ◌≤◌, ◌<◌, ◌+◌, Bool, true, false, List, [], ◌∷◌, Some, None, slice_get, length, take_all, refl, ap, ◌∙◌, arith}
use Rattle.std.proofs.lemmas.List.{length-take}
use Rattle.std.specs.Prelude.{◌||◌, nat_le}
use Rattle.std.proofs.lemmas.Bool.Decides.{nat_tests}
use Rattle.frame_ast.specs.declared.kernel.Expr.{Expr}
use Rattle.frame_ast.specs.declared.kernel.Stmt.{Stmt, out-Stmt}
use Rattle.frame_ast.specs.declared.kernel.Stmt.TheOpen.{Stmt-F}
use Rattle.frame_ast.specs.declared.kernel.Stmt.TheFolds.{fold-Stmt, fold_out-Stmt, map-Stmt}
use Rattle.frame_ast.specs.Checked.{expr_nodes, measured, body_nodes}
use Rattle.kernel_raw.specs.declared.raw.RawNode.{RawNode}
use Rattle.kernel_raw.specs.declared.raw.RawKernel.{RawKernel}
use Rattle.kernel_raw.specs.Raw.{RawExpr, RawBlock, expr_size, block_size, block_nodes}
use Rattle.kernel_raw.specs.RawEvents.{SpellsRaw}
use Rattle.kernel_raw.specs.declared.raw.TheConstants.{MOST_KEPT}
use Rattle.frame_grammar.specs.declared.symbols.Event.{Event}
use Rattle.kernel_code.specs.StaticFaults.{nodes_fault}
use Rattle.kernel_code.specs.Trees.{ExprOf, number, index, variable, loop_variable, value, size, element, has, count, item, negative, opposite, both, either, between, BlockOf, nothing, var, set_local, set_value, set_place, set_try_add, set_remove, add_item, add_pair, remove, clear, write, begun, tested, counted, looped, branched}
use Rattle.kernel_code.proofs.NoFaults.{some_if-none, node_fault-none}
use Rattle.kernel_code.proofs.Built.Expressions.{none_at}

pub expr-count : {raw : RawKernel} {i : ℕ} {e : RawExpr} {x : Expr} → ExprOf raw i e x → expr_nodes x ≡ expr_size e
expr-count (number h) = ap expr_nodes h
expr-count (index h) = ap expr_nodes h
expr-count (variable k n h) = ap expr_nodes h
expr-count (loop_variable k n h) = ap expr_nodes h
expr-count (value k n h) = ap expr_nodes h
expr-count (size k n h) = ap expr_nodes h
expr-count (element k n s h) = ap expr_nodes h ∙ ap (λ z. 1 + z) (expr-count s)
expr-count (has k n s h) = ap expr_nodes h ∙ ap (λ z. 1 + z) (expr-count s)
expr-count (count k n s h) = ap expr_nodes h ∙ ap (λ z. 1 + z) (expr-count s)
expr-count (item k n s t h) = let a = ap expr_nodes h in let b = expr-count s in let c = expr-count t in omega arith
expr-count (negative m s h) = ap expr_nodes h ∙ ap (λ z. 1 + z) (expr-count s)
expr-count (opposite m s h) = ap expr_nodes h ∙ ap (λ z. 1 + z) (expr-count s)
expr-count (both j s t h) = let a = ap expr_nodes h in let b = expr-count s in let c = expr-count t in omega arith
expr-count (either j s t h) = let a = ap expr_nodes h in let b = expr-count s in let c = expr-count t in omega arith
expr-count (between op j s t h) = let a = ap expr_nodes h in let b = expr-count s in let c = expr-count t in omega arith

abbrev stmt_nodes : Stmt → ℕ
stmt_nodes = fold-Stmt ℕ (measured expr_nodes (λ m n. m + n))

stmt-count : (s : Stmt) (z : Stmt-F Stmt) → out-Stmt s ≡ z → stmt_nodes s ≡ measured expr_nodes (λ m n. m + n) (map-Stmt Stmt ℕ stmt_nodes z)
stmt-count s z o = fold_out-Stmt ℕ (measured expr_nodes (λ m n. m + n)) s ∙ ap (λ z. measured expr_nodes (λ m n. m + n) (map-Stmt Stmt ℕ stmt_nodes z)) o

pub block-count : {raw : RawKernel} {i : ℕ} {b : RawBlock} {ss : List Stmt} → BlockOf raw i b ss → body_nodes ss ≡ block_size b
block-count nothing = refl
block-count (var {s = s} k d x o rest) = let a = stmt-count s _ o in let b = expr-count x in let c = block-count rest in omega arith
block-count (set_local {s = s} k d x o rest) = let a = stmt-count s _ o in let b = expr-count x in let c = block-count rest in omega arith
block-count (set_value {s = s} k d x o rest) = let a = stmt-count s _ o in let b = expr-count x in let c = block-count rest in omega arith
block-count (set_place {s = s} k d x y o rest) = let a = stmt-count s _ o in let b = expr-count x in let b' = expr-count y in let c = block-count rest in
    omega arith
block-count (set_try_add {s = s} j k e d x y o rest) = let a = stmt-count s _ o in let b = expr-count x in let b' = expr-count y in let c = block-count rest in
    omega arith
block-count (set_remove {s = s} j k e d x o rest) = let a = stmt-count s _ o in let b = expr-count x in let c = block-count rest in omega arith
block-count (add_item {s = s} k d x o rest) = let a = stmt-count s _ o in let b = expr-count x in let c = block-count rest in omega arith
block-count (add_pair {s = s} k d x y o rest) = let a = stmt-count s _ o in let b = expr-count x in let b' = expr-count y in let c = block-count rest in
    omega arith
block-count (remove {s = s} k d x o rest) = let a = stmt-count s _ o in let b = expr-count x in let c = block-count rest in omega arith
block-count (clear {s = s} k d o rest) = let a = stmt-count s _ o in let c = block-count rest in omega arith
block-count (write {s = s} k d x o rest) = let a = stmt-count s _ o in let b = expr-count x in let c = block-count rest in omega arith
block-count (begun {s = s} k d x o inner rest) = let a = stmt-count s _ o in let b = expr-count x in let b' = block-count inner in let c = block-count rest in
    omega arith
block-count (tested {s = s} {other = other} x o inner none rest) =
    let a = stmt-count s _ o in let b = expr-count x in let b' = block-count inner in let c = block-count rest in
    let z : body_nodes other.items ≡ 0 = ap body_nodes none in omega arith
block-count (counted {s = s} k d x y o inner rest) = let a = stmt-count s _ o in let b = expr-count x in let b' = expr-count y in let c = block-count inner in
    let c' = block-count rest in omega arith
block-count (looped {s = s} x o inner rest) = let a = stmt-count s _ o in let b = expr-count x in let b' = block-count inner in let c = block-count rest in
    omega arith
block-count (branched {s = s} x o one two rest) = let a = stmt-count s _ o in let b = expr-count x in let b' = block-count one in let c = block-count two in
    let c' = block-count rest in omega arith

or-left : (a b : Bool) → (a || b) ≡ false → a ≡ false
or-left true b h = cc
or-left false b h = refl

below : (n : ℕ) → nat_le 4096 n ≡ false → n < 4096
below n h = grind (arith, nat_tests)

pub has-at : (ns : List RawNode) (k : ℕ) → k < length ns → (n : RawNode) × (slice_get ns k ≡ Some n)
has-at [] k h = absurd (omega arith)
has-at (n ∷ ns) zero h = (n, refl)
has-at (n ∷ ns) (suc k) h = has-at ns k (omega arith)

pub node-number : (raw : RawKernel) (i : ℕ) → nodes_fault raw 0 raw.nodes.items ≡ None → i < length raw.nodes.items → i < 4096
node-number raw i h w =
    let q = has-at raw.nodes.items i w in
    let f = node_fault-none raw (0 + i) q.0 (none_at raw 0 i raw.nodes.items q.0 h q.1) in
    let lt = below (0 + i) (or-left _ _ (some_if-none _ _ f.size)) in omega arith

pub few-nodes : (raw : RawKernel) → nodes_fault raw 0 raw.nodes.items ≡ None → length raw.nodes.items ≤ 4096
few-nodes raw h = few (length raw.nodes.items) (λ i w. node-number raw i h w)
  where
    few : (n : ℕ) → ((i : ℕ) → i < n → i < 4096) → n ≤ 4096
    few zero f = omega arith
    few (suc n) f = let lt = f n (omega arith) in omega arith

-- Where there is no fault, all nodes are kept.
pub all-kept : (events : List Event) (raw : RawKernel) (s : SpellsRaw events raw) → nodes_fault raw 0 raw.nodes.items ≡ None
    → raw.nodes.items ≡ block_nodes None 0 s.body
all-kept events raw s h =
    let all = block_nodes None 0 s.body in
    s.nodes ∙ take_all MOST_KEPT all (omega (arith, few-nodes raw h, ap length s.nodes, length-take MOST_KEPT all))
