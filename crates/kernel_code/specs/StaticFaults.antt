-- The static faults of a kernel: what each form needs of its name, the faults of one token, and which fault comes
-- first.
--
-- Nodes, locals and parameters are numbered from 0.
use Rattle.std.specs.Prelude.{◌≡◌, ℕ, ◌+◌, ◌==◌, nat_lt, nat_le, Bool, ◌||◌, not, is_some, if◌then◌else◌, List, [], ◌∷◌, length, take, slice_get, Option, None, Some}
use Rattle.std.specs.Option.{option_or}
use Rattle.std.specs.List.{list_any}
use Rattle.std.specs.Str.{bytes_eq}
use Rattle.std.specs.String.{string_bytes}
use Rattle.job_base.specs.declared.Access.{Access}
use Rattle.job_base.specs.declared.Access.TheVariants.{Read, Write as WriteOnly, Both}
use Rattle.job_base.specs.declared.limits.TheConstants.{MOST_NAME_BYTES, MOST_LOCALS, MOST_NODES, MOST_DEPTH, MOST_PARAMS, MOST_WIDTH, MOST_KERNELS}
use Rattle.frame_ast.specs.declared.kernel.FaultKind.{FaultKind}
use Rattle.frame_ast.specs.declared.kernel.FaultKind.TheVariants.{Syntax, UnknownName, DuplicateName, KindMismatch, ReadOfWriteOnly, WriteOfReadOnly, Limit, TooLong}
use Rattle.frame_ast.specs.declared.kernel.ParamKind.{ParamKind}
use Rattle.frame_ast.specs.declared.kernel.ParamKind.TheVariants as kind
use Rattle.frame_ast.specs.declared.kernel.Kernel.{Kernel}
use Rattle.frame_ast.specs.Lists.{some_if}
use Rattle.frame_ast.specs.Checked.{Touch, Demand, written, nothing, a_value, read_elements, measurable, read_map, read_stream, written_elements, written_list, written_map, changed_map, clearable, written_stream}
use Rattle.kernel_raw.specs.declared.fault.KernelFault.{KernelFault}
use Rattle.kernel_raw.specs.declared.fault.KernelFault.TheVariants.{Refused, NoMemory}
use Rattle.kernel_raw.specs.declared.raw.RawForm.{RawForm}
use Rattle.kernel_raw.specs.declared.raw.RawForm.TheVariants as form
use Rattle.kernel_raw.specs.declared.raw.RawNode.{RawNode}
use Rattle.kernel_raw.specs.declared.raw.RawParam.{RawParam}
use Rattle.kernel_raw.specs.declared.raw.RawKernel.{RawKernel}
use Rattle.kernel_code.specs.declared.check.names.Named.{Named}
use Rattle.kernel_code.specs.declared.check.names.Named.TheVariants.{Parameter, Variable, LoopVariable}
use Rattle.kernel_raw.specs.declared.fault.StaticFault.{StaticFault}
use Rattle.kernel_raw.specs.RawTexts.{kind_at, text_at, line_at, value_at, depth_at}
use Rattle.kernel_code.specs.Scopes.{meaning_of, locals_before, is_begun}
use Rattle.kernel_code.specs.Trees.{joins}

-- WHAT FORMS NEED

-- what `x = e` asks of a parameter: only a `ref` can be written, and an `int` only read
abbrev pub assigned : Demand
assigned kind.Int = written
assigned kind.Ref = written
assigned _ = None

-- what a form asks of the parameter that is its name
abbrev pub demand_of : RawForm → Demand
demand_of form.Name = a_value
demand_of form.Element = read_elements
demand_of form.Length = measurable
demand_of form.Has = read_map
demand_of form.Count = read_stream
demand_of form.Item = read_stream
demand_of form.SetName = assigned
demand_of form.SetPlace = written_elements
demand_of form.SetTryAdd = changed_map
demand_of form.SetRemove = changed_map
demand_of form.AddItem = written_list
demand_of form.AddPair = written_map
demand_of form.Remove = written_list
demand_of form.Clear = clearable
demand_of form.Write = written_stream
demand_of form.Begin = written_stream
demand_of _ = nothing

-- why a parameter of this kind and access doesn't meet a demand
abbrev pub access_fault : Touch → Access → Option FaultKind
access_fault t Read = some_if t.writes WriteOfReadOnly
access_fault t WriteOnly = some_if t.reads ReadOfWriteOnly
access_fault t Both = None

abbrev pub touch_fault : Option Touch → Access → Option FaultKind
touch_fault None a = Some KindMismatch
touch_fault (Some t) a = access_fault t a

abbrev pub demand_fault : Demand → RawParam → Option FaultKind
demand_fault d p = touch_fault (d p.kind) p.access

-- a `write` stands in a `begin` block of its stream, a `begin` doesn't
abbrev pub block_fault : RawForm → Bool → Option FaultKind
block_fault form.Write begun = some_if (not begun) KindMismatch
block_fault form.Begin begun = some_if begun KindMismatch
block_fault _ begun = None

-- where a local can stand
abbrev pub variable_fault : RawForm → Option FaultKind
variable_fault form.Name = None
variable_fault form.SetName = None
variable_fault _ = Some KindMismatch

abbrev pub loop_variable_fault : RawForm → Option FaultKind
loop_variable_fault form.Name = None
loop_variable_fault form.SetName = Some WriteOfReadOnly
loop_variable_fault _ = Some KindMismatch

-- before an effect only a local of a `var` can stand; an `int` can't be written
abbrev pub answer_kind_fault : ParamKind → Option FaultKind
answer_kind_fault kind.Int = Some WriteOfReadOnly
answer_kind_fault _ = Some KindMismatch

-- FAULTS OF ONE TOKEN

-- faults have numbers, and where a token has several the lowest counts
abbrev pub number_of : FaultKind → ℕ
number_of Syntax = 1
number_of UnknownName = 2
number_of DuplicateName = 3
number_of KindMismatch = 4
number_of ReadOfWriteOnly = 5
number_of WriteOfReadOnly = 6
number_of Limit = 7
number_of TooLong = 8

abbrev pub lowest : Option FaultKind → Option FaultKind → Option FaultKind
lowest None b = b
lowest (Some a) None = Some a
lowest (Some a) (Some b) = if nat_le (number_of a) (number_of b) then Some a else Some b

-- a name isn't too long
abbrev pub length_fault : List ℕ → Option FaultKind
length_fault text = some_if (nat_lt MOST_NAME_BYTES (length text)) Limit

abbrev pub param_fault_of : RawForm → Bool → Option RawParam → Option FaultKind
param_fault_of f begun None = Some KindMismatch
param_fault_of f begun (Some p) = lowest (demand_fault (demand_of f) p) (block_fault f begun)

-- the fault of the name of a form at node i, by what the name is
abbrev pub use_fault : RawKernel → ℕ → RawForm → Option Named → Option FaultKind
use_fault raw i f None = Some UnknownName
use_fault raw i f (Some (Variable k)) = variable_fault f
use_fault raw i f (Some (LoopVariable k)) = loop_variable_fault f
use_fault raw i f (Some (Parameter x)) = param_fault_of f (is_begun raw i x) (slice_get raw.params.items x)

abbrev pub param_answer_fault : Option RawParam → Option FaultKind
param_answer_fault None = Some KindMismatch
param_answer_fault (Some p) = answer_kind_fault p.kind

-- the fault of the name before an effect
abbrev pub answer_fault : RawKernel → Option Named → Option FaultKind
answer_fault raw None = Some UnknownName
answer_fault raw (Some (Variable k)) = None
answer_fault raw (Some (LoopVariable k)) = Some WriteOfReadOnly
answer_fault raw (Some (Parameter x)) = param_answer_fault (slice_get raw.params.items x)

-- the fault of the name that node i declares: no parameter or local in scope has it, and there aren't too many locals
abbrev pub declared_fault : RawKernel → ℕ → List ℕ → Option FaultKind
declared_fault raw i text =
    lowest (some_if (is_some (meaning_of raw i text)) DuplicateName)
    (lowest (some_if (nat_le MOST_LOCALS (length (locals_before raw.nodes.items i))) Limit) (length_fault text))

-- What a node's own token says, its number and depth aside. By the grammar each operator between two sides joins them;
-- a token that doesn't is what a text without a derivation has, a fault of syntax.
abbrev pub token_fault : RawKernel → ℕ → ℕ → RawForm → Option FaultKind
token_fault raw i at form.Number = some_if (nat_lt 9223372036854775807 (value_at raw at)) Limit
token_fault raw i at form.Index = some_if (not raw.parallel) UnknownName
token_fault raw i at form.Binary = some_if (not (joins (kind_at raw at))) Syntax
token_fault raw i at form.SetTryAdd =
    lowest (answer_fault raw (meaning_of raw i (text_at raw at))) (length_fault (text_at raw at))
token_fault raw i at form.SetRemove =
    lowest (answer_fault raw (meaning_of raw i (text_at raw at))) (length_fault (text_at raw at))
token_fault raw i at _ = None

-- whether node i is one too many, or too deep
abbrev pub is_over_limit : RawKernel → ℕ → Bool
is_over_limit raw i = nat_le MOST_NODES i || nat_lt MOST_DEPTH (depth_at raw i)

abbrev pub size_fault : RawKernel → ℕ → Option FaultKind
size_fault raw i = some_if (is_over_limit raw i) Limit

abbrev pub used_fault : RawKernel → ℕ → RawForm → List ℕ → Option FaultKind
used_fault raw i f text = lowest (use_fault raw i f (meaning_of raw i text)) (length_fault text)

-- what a node's name says
abbrev pub name_fault : RawKernel → ℕ → ℕ → RawForm → Option FaultKind
name_fault raw i name form.Number = None
name_fault raw i name form.Index = None
name_fault raw i name form.Unary = None
name_fault raw i name form.Binary = None
name_fault raw i name form.If = None
name_fault raw i name form.IfElse = None
name_fault raw i name form.While = None
name_fault raw i name form.Var = declared_fault raw i (text_at raw name)
name_fault raw i name form.For = declared_fault raw i (text_at raw name)
name_fault raw i name f = used_fault raw i f (text_at raw name)

-- THE FIRST FAULT

abbrev pub fault_at : ℕ → Option FaultKind → Option StaticFault
fault_at at None = None
fault_at at (Some kind) = Some (record { at = at; kind = kind })

-- the first fault of two tokens, the first of which stands before the second or is the same
abbrev pub first_of_two : (first : ℕ) → Option FaultKind → (second : ℕ) → Option FaultKind → Option StaticFault
first_of_two first a second b =
    if first == second then fault_at first (lowest a b) else option_or (fault_at first a) (fault_at second b)

-- the first fault of node i, in its own token and its name
abbrev pub node_fault : RawKernel → ℕ → RawNode → Option StaticFault
node_fault raw i node =
    first_of_two node.at (lowest (token_fault raw i node.at node.form) (size_fault raw i)) node.name
    (name_fault raw i node.name node.form)

abbrev pub nodes_fault : RawKernel → ℕ → List RawNode → Option StaticFault
nodes_fault raw i [] = None
nodes_fault raw i (node ∷ more) = option_or (node_fault raw i node) (nodes_fault raw (i + 1) more)

-- the name of parameter k: no earlier parameter has it, and there aren't too many
abbrev pub param_name_fault : RawKernel → ℕ → List ℕ → Option FaultKind
param_name_fault raw k text =
    lowest (some_if (list_any (λ p. bytes_eq (text_at raw p.name) text) (take k raw.params.items)) DuplicateName)
    (lowest (some_if (nat_le MOST_PARAMS k) Limit) (length_fault text))

-- a stream isn't `rw`
abbrev pub stream_fault : ParamKind → Access → Option FaultKind
stream_fault kind.Stream Both = Some KindMismatch
stream_fault _ _ = None

-- a width is written for a `wo` or `rw` array of a parallel kernel, and is at least 1
abbrev pub width_word_fault : Bool → Access → Option FaultKind
width_word_fault parallel Read = Some KindMismatch
width_word_fault parallel WriteOnly = some_if (not parallel) KindMismatch
width_word_fault parallel Both = some_if (not parallel) KindMismatch

abbrev pub width_fault : ℕ → Option FaultKind
width_fault width = some_if (width == 0 || nat_lt MOST_WIDTH width) Limit

-- what stands behind the name of a parameter
abbrev pub param_kind_fault : RawKernel → RawParam → Option ℕ → Option StaticFault
param_kind_fault raw p None = fault_at p.word (stream_fault p.kind p.access)
param_kind_fault raw p (Some at) =
    option_or (fault_at p.word (width_word_fault raw.parallel p.access)) (fault_at at (width_fault (value_at raw at)))

-- the first fault of parameter k
abbrev pub param_fault : RawKernel → ℕ → RawParam → Option StaticFault
param_fault raw k p =
    option_or (fault_at p.name (param_name_fault raw k (text_at raw p.name))) (param_kind_fault raw p p.width)

abbrev pub params_fault : RawKernel → ℕ → List RawParam → Option StaticFault
params_fault raw k [] = None
params_fault raw k (p ∷ more) = option_or (param_fault raw k p) (params_fault raw (k + 1) more)

-- the kernel's own name: no earlier kernel has it, and there aren't too many
abbrev pub kernel_name_fault : List Kernel → List ℕ → Option FaultKind
kernel_name_fault earlier text =
    lowest (some_if (list_any (λ k. bytes_eq (string_bytes k.name) text) earlier) DuplicateName)
    (lowest (some_if (nat_le MOST_KERNELS (length earlier)) Limit) (length_fault text))

-- The first fault of a kernel behind earlier ones. Names, parameters and nodes stand in the order of their tokens.
abbrev pub first_fault : RawKernel → List Kernel → Option StaticFault
first_fault raw earlier =
    option_or (fault_at raw.name (kernel_name_fault earlier (text_at raw raw.name)))
    (option_or (params_fault raw 0 raw.params.items) (nodes_fault raw 0 raw.nodes.items))

-- a refusal tells this fault, by its line
abbrev pub TellsFault : RawKernel → Option StaticFault → KernelFault → Type 0
TellsFault raw fault NoMemory = Unit {0}
TellsFault raw None (Refused line kind) = ⊥
TellsFault raw (Some fault) (Refused line kind) = (line ≡ line_at raw fault.at) × (kind ≡ fault.kind)
