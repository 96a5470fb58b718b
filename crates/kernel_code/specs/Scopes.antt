-- What the names of a kernel are where they stand: parameters, locals and their scopes, and the blocks of streams.
--
-- Nodes, locals and parameters are numbered from 0. A name that several things have is the parameter, else the first
-- local.
use Rattle.std.specs.Prelude.{ℕ, ◌+◌, ◌==◌, nat_lt, nat_le, Bool, true, false, ◌&&◌, ◌||◌, if◌then◌else◌, List, [], ◌∷◌, ◌++◌, length, take, position, slice_get, Option, None, Some, option_map}
use Rattle.std.specs.Option.{option_or}
use Rattle.std.specs.Str.{bytes_eq}
use Rattle.kernel_raw.specs.declared.raw.RawForm.{RawForm}
use Rattle.kernel_raw.specs.declared.raw.RawForm.TheVariants as form
use Rattle.kernel_raw.specs.declared.raw.RawNode.{RawNode}
use Rattle.kernel_raw.specs.declared.raw.RawKernel.{RawKernel}
use Rattle.kernel_code.specs.declared.check.names.Named.{Named}
use Rattle.kernel_code.specs.declared.check.names.Named.TheVariants.{Parameter, Variable, LoopVariable}
use Rattle.kernel_code.specs.declared.check.names.Local.{Local}
use Rattle.kernel_raw.specs.RawTexts.{text_at}

-- SCOPES

-- whether a node is the `var` or the `for` of a local
abbrev pub declares : RawForm → Bool
declares form.Var = true
declares form.For = true
declares _ = false

abbrev pub is_loop : RawForm → Bool
is_loop form.For = true
is_loop _ = false

-- the node behind the block of statement p in which node d stands: its first block, else its second one
abbrev pub end_in : ℕ → ℕ → RawNode → ℕ
end_in d p owner =
    let first = p + 1 + owner.heads + owner.inside in
    if nat_lt d first then first else p + 1 + owner.after

abbrev pub end_within : List RawNode → ℕ → ℕ → Option RawNode → ℕ
end_within nodes d p None = length nodes
end_within nodes d p (Some owner) = end_in d p owner

-- the node behind the block in which node d stands, whose owner is this statement
abbrev pub block_end : List RawNode → ℕ → Option ℕ → ℕ
block_end nodes d None = length nodes
block_end nodes d (Some p) = end_within nodes d p (slice_get nodes p)

-- The local of node d. A loop variable is in scope in the block of its `for`, any other local from the statement behind
-- its `var` to the end of the block.
abbrev pub local_of : List RawNode → ℕ → RawNode → Local
local_of nodes d node =
    let inner = d + 1 + node.heads in
    if is_loop node.form
    then record { name = node.name; start = inner; end = inner + node.inside; is_loop = true }
    else record { name = node.name; start = d + 1 + node.after; end = block_end nodes d node.owner; is_loop = false }

abbrev pub local_if : Bool → Local → List Local
local_if b l = if b then l ∷ [] else []

-- the locals of these nodes, from node d on
abbrev pub locals_from : List RawNode → ℕ → List RawNode → List Local
locals_from nodes d [] = []
locals_from nodes d (node ∷ more) =
    local_if (declares node.form) (local_of nodes d node) ++ locals_from nodes (d + 1) more

-- the locals that are declared before node i, in and out of scope
abbrev pub locals_before : List RawNode → ℕ → List Local
locals_before nodes i = locals_from nodes 0 (take i nodes)

-- the locals of a kernel
abbrev pub locals_of : List RawNode → List Local
locals_of nodes = locals_from nodes 0 nodes

-- NAMES

-- the parameter that a name is
abbrev pub parameter : RawKernel → List ℕ → Option ℕ
parameter raw text = position (λ p. bytes_eq (text_at raw p.name) text) raw.params.items

-- what local k is
abbrev pub as_local : Local → ℕ → Named
as_local l k = if l.is_loop then LoopVariable k else Variable k

abbrev pub in_scope : ℕ → Local → Bool
in_scope i l = nat_le l.start i && nat_lt i l.end

-- the local in scope at node i that a name is, among these from local k on
abbrev pub local_among : RawKernel → ℕ → List ℕ → ℕ → List Local → Option Named
local_among raw i text k [] = None
local_among raw i text k (l ∷ more) =
    if in_scope i l && bytes_eq (text_at raw l.name) text then Some (as_local l k)
    else local_among raw i text (k + 1) more

abbrev pub meaning_among : RawKernel → List Local → ℕ → List ℕ → Option Named
meaning_among raw locals i text =
    option_or (option_map (λ x. Parameter x) (parameter raw text)) (local_among raw i text 0 locals)

-- what a name is at node i
abbrev pub meaning_of : RawKernel → ℕ → List ℕ → Option Named
meaning_of raw i text = meaning_among raw (locals_before raw.nodes.items i) i text

-- STREAMS

abbrev pub is_begin : RawForm → Bool
is_begin form.Begin = true
is_begin _ = false

-- whether node i stands in the block of node b
abbrev pub is_inside : ℕ → ℕ → RawNode → Bool
is_inside i b node = nat_le (b + 1 + node.heads) i && nat_lt i (b + 1 + node.heads + node.inside)

abbrev pub is_number : ℕ → Option ℕ → Bool
is_number x None = false
is_number x (Some y) = x == y

-- whether node i stands in the block of a `begin` of parameter x, among these nodes from node b on
abbrev pub begun_among : RawKernel → ℕ → ℕ → ℕ → List RawNode → Bool
begun_among raw x i b [] = false
begun_among raw x i b (node ∷ more) =
    (is_begin node.form && (is_inside i b node && is_number x (parameter raw (text_at raw node.name))))
    || begun_among raw x i (b + 1) more

abbrev pub is_begun : RawKernel → ℕ → ℕ → Bool
is_begun raw i x = begun_among raw x i 0 (take i raw.nodes.items)
