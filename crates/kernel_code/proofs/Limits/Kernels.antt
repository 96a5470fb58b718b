-- A kernel that a raw kernel without faults is is within the limits.
use Rattle.std.proofs.Common.{ℕ, zero, suc, ◌≡◌, ◌≤◌, ◌<◌, ◌+◌, IsTrue, List, [], ◌∷◌, ◌++◌, length, take, take_all, Some, None, slice_get, refl, sym, ap, subst, ◌∙◌, add-one, arith}
use Rattle.std.specs.Prelude.{nat_le}
use Rattle.std.specs.List.{list_all}
use Rattle.std.proofs.lemmas.Bool.{le-leb}
use Rattle.std.proofs.lemmas.List.{length-map, take_more, length-take}
use Rattle.std.proofs.lemmas.Option.{get_or_from_slice_get}
use Rattle.frame_grammar.specs.declared.symbols.Event.{Event}
use Rattle.frame_ast.specs.declared.kernel.Kernel.{Kernel}
use Rattle.frame_ast.specs.Checked.{param_fits, width_fits, body_nodes, body_depth}
use Rattle.kernel_raw.specs.declared.raw.RawNode.{RawNode}
use Rattle.kernel_raw.specs.declared.raw.RawKernel.{RawKernel}
use Rattle.kernel_raw.specs.RawEvents.{SpellsRaw}
use Rattle.kernel_code.specs.Scopes.{declares, local_of, local_if, locals_from, locals_before, locals_of}
use Rattle.kernel_code.specs.StaticFaults.{node_fault, nodes_fault, params_fault, first_fault}
use Rattle.kernel_code.specs.Trees.{param_text, raw_param_text, IsKernelOf}
use Rattle.kernel_code.proofs.NoFaults.{option_or-none}
use Rattle.kernel_code.proofs.Built.Expressions.{none_at}
use Rattle.kernel_code.proofs.Built.Kernels.{body-size, few-params}
use Rattle.kernel_code.proofs.Built.Counting.{block-count, few-nodes, has-at, all-kept}
use Rattle.kernel_code.proofs.Passing.{locals_from-push, room}
use Rattle.kernel_code.proofs.Limits.Depths as depths
use Rattle.kernel_code.proofs.Limits.Params as parameters

-- LOCALS

node-none : (raw : RawKernel) (i : ℕ) (node : RawNode) → nodes_fault raw 0 raw.nodes.items ≡ None → slice_get raw.nodes.items i ≡ Some node
    → node_fault raw i node ≡ None
node-none raw i node h s = let same : 0 + i ≡ i = omega arith in subst (λ n. node_fault raw n node ≡ None) same (none_at raw 0 i raw.nodes.items node h s)

one-more : (nodes : List RawNode) (i : ℕ) (node : RawNode) → i < length nodes → slice_get nodes i ≡ Some node →
    locals_before nodes (suc i) ≡ locals_before nodes i ++ local_if (declares node.form) (local_of nodes i node)
one-more nodes i node h s =
    let len : 0 + length (take i nodes) ≡ i = omega (arith, length-take i nodes) in
    ap (locals_before nodes) (sym (add-one i))
    ∙ ap (locals_from nodes 0) (take_more nodes i node h ∙ ap (λ n. take i nodes ++ n ∷ []) (get_or_from_slice_get nodes i node node s))
    ∙ locals_from-push nodes 0 (take i nodes) node
    ∙ ap (λ n. locals_before nodes i ++ local_if (declares node.form) (local_of nodes n node)) len

few-before : (raw : RawKernel) (i : ℕ) → nodes_fault raw 0 raw.nodes.items ≡ None → i ≤ length raw.nodes.items → length (locals_before raw.nodes.items i) ≤ 64
few-before raw zero h w = omega arith
few-before raw (suc i) h w =
    let q = has-at raw.nodes.items i (omega arith) in
    let l = local_of raw.nodes.items i q.0 in
    subst (λ ls. length ls ≤ 64) (sym (one-more raw.nodes.items i q.0 (omega arith) q.1))
    (room raw i q.0 (declares q.0.form) (locals_before raw.nodes.items i) l refl (node-none raw i q.0 h q.1) refl (few-before raw i h (omega arith)))

pub few-locals : (raw : RawKernel) → nodes_fault raw 0 raw.nodes.items ≡ None → length (locals_of raw.nodes.items) ≤ 64
few-locals raw h =
    subst (λ ns. length (locals_from raw.nodes.items 0 ns) ≤ 64) (take_all (length raw.nodes.items) raw.nodes.items (omega arith))
    (few-before raw (length raw.nodes.items) h (omega arith))

-- KERNELS

-- where the whole kernel has no fault, its parameters and its nodes have none
pub faultless : (raw : RawKernel) (earlier : List Kernel) → first_fault raw earlier ≡ None
    → (params_fault raw 0 raw.params.items ≡ None) × (nodes_fault raw 0 raw.nodes.items ≡ None)
faultless raw earlier h = option_or-none _ _ (option_or-none _ _ h).1

pub params : (events : List Event) (raw : RawKernel) (k : Kernel) (earlier : List Kernel) → SpellsRaw events raw → first_fault raw earlier ≡ None
    → IsKernelOf raw k →
    IsTrue (list_all param_fits k.params.items)
params events raw k earlier s h is = parameters.params raw k.params.items s.with_params (faultless raw earlier h).0 is.params

pub widths : (events : List Event) (raw : RawKernel) (k : Kernel) (earlier : List Kernel) → SpellsRaw events raw → first_fault raw earlier ≡ None
    → IsKernelOf raw k →
    IsTrue (list_all (width_fits k.parallel) k.params.items)
widths events raw k earlier s h is = parameters.widths raw k.parallel k.params.items is.parallel s.with_params (faultless raw earlier h).0 is.params

pub count : (raw : RawKernel) (k : Kernel) (earlier : List Kernel) → first_fault raw earlier ≡ None → IsKernelOf raw k
    → IsTrue (nat_le (length k.params.items) 16)
count raw k earlier h is =
    let same = ap length is.params in
    let few = few-params raw (faultless raw earlier h).0 in
    le-leb (length k.params.items) 16 (omega (arith, length-map k.params.items param_text, length-map raw.params.items (raw_param_text raw)))

pub locals : (raw : RawKernel) (k : Kernel) (earlier : List Kernel) → first_fault raw earlier ≡ None → IsKernelOf raw k → IsTrue (nat_le k.locals 64)
locals raw k earlier h is =
    let same = is.locals in
    let few = few-locals raw (faultless raw earlier h).1 in
    le-leb k.locals 64 (omega arith)

pub nodes : (events : List Event) (raw : RawKernel) (k : Kernel) (earlier : List Kernel) → SpellsRaw events raw → first_fault raw earlier ≡ None
    → IsKernelOf raw k →
    IsTrue (nat_le (body_nodes k.body.statements.items) 4096)
nodes events raw k earlier s h is =
    let count = block-count (is.body events s) in
    let few = few-nodes raw (faultless raw earlier h).1 in
    le-leb (body_nodes k.body.statements.items) 4096 (omega (arith, body-size events raw s (all-kept events raw s (faultless raw earlier h).1)))

pub depth : (events : List Event) (raw : RawKernel) (k : Kernel) (earlier : List Kernel) → SpellsRaw events raw → first_fault raw earlier ≡ None
    → IsKernelOf raw k →
    IsTrue (nat_le (body_depth k.body.statements.items) 64)
depth events raw k earlier s h is =
    le-leb (body_depth k.body.statements.items) 64 (depths.depth raw events s k.body.statements.items (faultless raw earlier h).1 (is.body events s))
