-- The static faults of a statement, in the order of their tokens, and where one token has several, in the order of
-- their numbers.
use Rattle.std.specs.Prelude.{ℕ, Bool, true, false, ◌&&◌, not, nat_eq, nat_le, nat_lt, if◌then◌else◌, List, [], ◌∷◌, ◌++◌, length, map, Option, None, Some, find, string_bytes}
use Rattle.std.specs.Str.{bytes_eq}
use Rattle.job_base.specs.declared.limits.TheConstants.{MOST_NAME_BYTES, MOST_COLUMN_BYTES, MOST_INDEXES, MOST_ELEMENTS, MOST_PAIRS, MOST_STREAM_INDEXES, MOST_STREAM_ITEMS, MOST_BLOCKS, MOST_REPEATS}
use Rattle.frame_ast.specs.declared.kernel.FaultKind.{FaultKind}
use Rattle.frame_ast.specs.declared.kernel.FaultKind.TheVariants.{UnknownName, KindMismatch, Limit}
use Rattle.frame_ast.specs.declared.kernel.ParamKind.{ParamKind}
use Rattle.frame_ast.specs.declared.kernel.Param.{Param}
use Rattle.frame_ast.specs.declared.kernel.Kernel.{Kernel}
use Rattle.frame_ast.specs.Schedules.{is_array, writes_to}
use Rattle.frame_ast.specs.Lists.{first_some, some_if}
use Rattle.frame_ast.specs.Accepted.{is_among, kinds_for, is_int, guard_fits}
use Rattle.kernel_raw.specs.declared.fault.StaticFault.{StaticFault}
use Rattle.frame_ast.specs.declared.name_kind.NameKind.{NameKind}
use Rattle.frame_ast.specs.declared.name_kind.TheConstants.{SLICEABLE, HAS_ELEMENTS, REMOVABLE, CLEARABLE, DISPOSABLE, CONTAINERS}
use Rattle.frame_ast.specs.declared.name_kind.NameKind.TheVariants as kind
use Rattle.script_text.specs.declared.raw.RawNumber.{RawNumber}
use Rattle.script_text.specs.declared.raw.RawArg.{RawArg}
use Rattle.script_text.specs.declared.raw.RawArg.TheVariants.{Name, Number}
use Rattle.script_text.specs.declared.raw.RawSizes.{RawSizes}
use Rattle.script_text.specs.declared.raw.RawSizes.TheVariants as sizes
use Rattle.script_text.specs.declared.source.Source.{Source}
use Rattle.script_text.specs.Sources.{text_at, column_at, number_at, fits_signed}
use Rattle.script_text.specs.Raw.{OrderForm, NewArray, NewColumn, NewList, NewReference, NewMap, NewStream, Slice, View, Copy, Set, Add, Put, Remove, Clear, SetCapacity, Schedule, Combine, Complete, Dispose, DisposeAuto, Print, Flush, Frame, Repeat, When}
use Rattle.script_names.specs.Names.{Name as Known, kind_in}

-- this fault at this token, where what is asked doesn't hold
abbrev pub unless : Bool → FaultKind → ℕ → Option StaticFault
unless asked kind at = some_if (not asked) (record { at = at; kind = kind })

-- NUMBERS AND NAMES

abbrev pub limit_fault : Source → (least most at : ℕ) → Option StaticFault
limit_fault s least most at = unless (nat_le least (number_at s at) && nat_le (number_at s at) most) Limit at

abbrev pub signed_fault : Source → RawNumber → Option StaticFault
signed_fault s n = unless (fits_signed n.minus (number_at s n.at)) Limit n.at

abbrev pub long_fault : Source → ℕ → Option StaticFault
long_fault s at = unless (nat_le (length (text_at s at)) MOST_NAME_BYTES) Limit at

abbrev pub column_fault : Source → ℕ → Option StaticFault
column_fault s at = unless (nat_le (length (column_at s at)) MOST_COLUMN_BYTES) Limit at

-- a name that is used must be known, and of a kind that fits; a known name is short
abbrev pub misfit : Option NameKind → List NameKind → ℕ → Option StaticFault
misfit None kinds at = Some (record { at = at; kind = UnknownName })
misfit (Some k) kinds at = unless (is_among k kinds) KindMismatch at

abbrev pub use_fault : Source → List Known → List NameKind → ℕ → Option StaticFault
use_fault s names kinds at = misfit (kind_in names (text_at s at)) kinds at

-- a name that is made isn't known, or of the same kind
abbrev pub agrees : Option NameKind → NameKind → Bool
agrees None kind = true
agrees (Some k) kind = is_among k (kind ∷ [])

abbrev pub remake_fault : Source → List Known → NameKind → ℕ → Option StaticFault
remake_fault s names kind at = unless (agrees (kind_in names (text_at s at)) kind) KindMismatch at

abbrev pub make_fault : Source → List Known → NameKind → ℕ → Option StaticFault
make_fault s names kind at = first_some (remake_fault s names kind at ∷ long_fault s at ∷ [])

-- a copy is made in the kind of its source, where that can be copied
abbrev pub copy_fault : Source → List Known → Option NameKind → ℕ → Option StaticFault
copy_fault s names None at = long_fault s at
copy_fault s names (Some k) at = if is_among k CONTAINERS then make_fault s names k at else long_fault s at

-- the values of an array are as many as its length says
abbrev pub count_fault : Source → ℕ → Option (List RawNumber) → Option StaticFault
count_fault s at None = None
count_fault s at (Some values) = unless (nat_eq (length values) (number_at s at)) KindMismatch at

abbrev pub values_faults : Source → Option (List RawNumber) → List (Option StaticFault)
values_faults s None = []
values_faults s (Some values) = map (signed_fault s) values

abbrev pub value_fault : Source → Option RawNumber → Option StaticFault
value_fault s None = None
value_fault s (Some n) = signed_fault s n

-- with an index, or with a second number, a statement takes other kinds than without

abbrev pub set_kinds : Option RawNumber → List NameKind
set_kinds None = kind.Reference ∷ []
set_kinds (Some at) = HAS_ELEMENTS

abbrev pub add_kinds : Option RawNumber → List NameKind
add_kinds None = kind.List ∷ []
add_kinds (Some second) = kind.Map ∷ []

abbrev pub complete_kinds : Bool → List NameKind
complete_kinds false = kind.Handle ∷ []
complete_kinds true = CONTAINERS

-- SCHEDULES

abbrev pub kernel_in : List Kernel → List ℕ → Option Kernel
kernel_in kernels text = find (λ k. bytes_eq text (string_bytes k.name)) kernels

abbrev pub param_in : List Param → List ℕ → Option Param
param_in params text = find (λ p. bytes_eq text (string_bytes p.name)) params

-- a job has neither the two Numbers nor `defer`, a parallel kernel has one of them
abbrev pub sizes_fit : Bool → RawSizes → Bool
sizes_fit parallel sizes.None = not parallel
sizes_fit parallel (sizes.Length len batch) = parallel
sizes_fit parallel (sizes.Defer list batch) = parallel

-- a kernel whose length is that of a list runs behind a guard, for which it must have room
abbrev pub room_fits : Bool → RawSizes → Bool
room_fits room sizes.None = true
room_fits room (sizes.Length len batch) = true
room_fits room (sizes.Defer list batch) = room

-- the kernel takes so many arguments and these sizes
abbrev pub takes : Kernel → List RawArg → RawSizes → Bool
takes k args sizes = nat_eq (length args) (length k.params.items) && sizes_fit k.parallel sizes

abbrev pub kernel_fault : Kernel → ℕ → List RawArg → RawSizes → Option StaticFault
kernel_fault k at args sizes =
    first_some (unless (takes k args sizes) KindMismatch at
    ∷ unless (room_fits (guard_fits k) sizes) Limit at
    ∷ [])

-- whether a name is that of the list after `defer`
abbrev pub is_deferred : Source → RawSizes → ℕ → Bool
is_deferred s sizes.None at = false
is_deferred s (sizes.Length len batch) at = false
is_deferred s (sizes.Defer list batch) at = bytes_eq (text_at s list) (text_at s at)

abbrev pub arg_fault : Source → List Known → RawSizes → ParamKind → RawArg → Option StaticFault
arg_fault s names sizes p (Name at) = use_fault s names (kinds_for p (is_deferred s sizes at)) at
arg_fault s names sizes p (Number n) = first_some (unless (is_int p) KindMismatch n.at ∷ signed_fault s n ∷ [])

abbrev pub args_faults : Source → List Known → RawSizes → List Param → List RawArg → List (Option StaticFault)
args_faults s names sizes [] args = []
args_faults s names sizes (p ∷ params) [] = []
args_faults s names sizes (p ∷ params) (a ∷ args) =
    arg_fault s names sizes p.kind a ∷ args_faults s names sizes params args

-- a batch is at least 1
abbrev pub sizes_faults : Source → List Known → RawSizes → List (Option StaticFault)
sizes_faults s names sizes.None = []
sizes_faults s names (sizes.Length len batch) =
    limit_fault s 0 MOST_INDEXES len ∷ limit_fault s 1 MOST_INDEXES batch ∷ []
sizes_faults s names (sizes.Defer list batch) =
    use_fault s names (kind.List ∷ []) list ∷ limit_fault s 1 MOST_INDEXES batch ∷ []

-- a waived name is that of an array parameter of a parallel kernel that is written
abbrev pub waived_fault : Bool → Option Param → ℕ → Option StaticFault
waived_fault parallel None at = Some (record { at = at; kind = UnknownName })
waived_fault parallel (Some p) at = unless (parallel && (is_array p.kind && writes_to p.access)) KindMismatch at

abbrev pub waive_fault : Source → Kernel → ℕ → Option StaticFault
waive_fault s k at = waived_fault k.parallel (param_in k.params.items (text_at s at)) at

abbrev pub handles_faults : Source → List Known → List ℕ → List (Option StaticFault)
handles_faults s names handles = map (use_fault s names (kind.Handle ∷ [])) handles

abbrev pub scheduled_faults : Source → List Known → Option Kernel → ℕ → List RawArg → RawSizes →
    (waive after : List ℕ) → List (Option StaticFault)
scheduled_faults s names None at args sizes waive after = Some (record { at = at; kind = UnknownName }) ∷ []
scheduled_faults s names (Some k) at args sizes waive after =
    kernel_fault k at args sizes
    ∷ args_faults s names sizes k.params.items args
    ++ (sizes_faults s names sizes ++ (map (waive_fault s k) waive ++ handles_faults s names after))

abbrev pub as_faults : Source → List Known → Option ℕ → List (Option StaticFault)
as_faults s names None = []
as_faults s names (Some handle) = make_fault s names kind.Handle handle ∷ []

-- STATEMENTS

-- what is known before a statement: the names made and the kernels; so many blocks are open there, one of them a `when`
-- or none
pub record Scope : Type 0 where
  pub names : List Known
  pub kernels : List Kernel
  pub blocks : ℕ
  pub tested : Bool

-- the faults of a statement, whose first token is at this place; of a block, those of what stands before its brace
abbrev pub order_faults : Source → Scope → ℕ → OrderForm → List (Option StaticFault)
order_faults s c at (NewArray name len life values) =
    make_fault s c.names kind.Array name ∷ count_fault s len values ∷ limit_fault s 0 MOST_ELEMENTS len
    ∷ values_faults s values
order_faults s c at (NewColumn name column life) =
    make_fault s c.names kind.Array name ∷ column_fault s column ∷ []
order_faults s c at (NewList name cap life) =
    make_fault s c.names kind.List name ∷ limit_fault s 0 MOST_ELEMENTS cap ∷ []
order_faults s c at (NewReference name life value) = make_fault s c.names kind.Reference name ∷ value_fault s value ∷ []
order_faults s c at (NewMap name cap life) = make_fault s c.names kind.Map name ∷ limit_fault s 0 MOST_PAIRS cap ∷ []
order_faults s c at (NewStream name count room life) =
    make_fault s c.names kind.Stream name ∷ limit_fault s 0 MOST_STREAM_INDEXES count
    ∷ limit_fault s 0 MOST_STREAM_ITEMS room ∷ []
order_faults s c at (Slice name of start len) =
    make_fault s c.names kind.Slice name ∷ use_fault s c.names SLICEABLE of ∷ limit_fault s 0 MOST_ELEMENTS start
    ∷ limit_fault s 0 MOST_ELEMENTS len ∷ []
order_faults s c at (View name of) = make_fault s c.names kind.View name ∷ use_fault s c.names (kind.List ∷ []) of ∷ []
order_faults s c at (Copy name of) =
    copy_fault s c.names (kind_in c.names (text_at s of)) name ∷ use_fault s c.names CONTAINERS of ∷ []
order_faults s c at (Set name index value) =
    use_fault s c.names (set_kinds index) name ∷ value_fault s index ∷ signed_fault s value ∷ []
order_faults s c at (Add name one two) =
    use_fault s c.names (add_kinds two) name ∷ signed_fault s one ∷ value_fault s two ∷ []
order_faults s c at (Put name key value) =
    use_fault s c.names (kind.Map ∷ []) name ∷ signed_fault s key ∷ signed_fault s value ∷ []
order_faults s c at (Remove name index) = use_fault s c.names REMOVABLE name ∷ signed_fault s index ∷ []
order_faults s c at (Clear name) = use_fault s c.names CLEARABLE name ∷ []
order_faults s c at (SetCapacity name cap) =
    use_fault s c.names (kind.List ∷ []) name ∷ limit_fault s 0 MOST_ELEMENTS cap ∷ []
order_faults s c at (Schedule auto handle kernel args sizes waive after) =
    make_fault s c.names kind.Handle handle
    ∷ scheduled_faults s c.names (kernel_in c.kernels (text_at s kernel)) kernel args sizes waive after
order_faults s c at (Combine name of) = make_fault s c.names kind.Handle name ∷ handles_faults s c.names of
order_faults s c at (Complete auto name) = use_fault s c.names (complete_kinds auto) name ∷ []
order_faults s c at (Dispose name after handle) =
    use_fault s c.names DISPOSABLE name ∷ handles_faults s c.names after ++ as_faults s c.names handle
order_faults s c at (DisposeAuto name handle) =
    use_fault s c.names DISPOSABLE name ∷ make_fault s c.names kind.Handle handle ∷ []
order_faults s c at (Print name) = use_fault s c.names CONTAINERS name ∷ []
order_faults s c at Flush = []
order_faults s c at Frame = []
order_faults s c at (Repeat count) =
    unless (nat_lt c.blocks MOST_BLOCKS) Limit at ∷ limit_fault s 1 MOST_REPEATS count ∷ []
order_faults s c at (When name sign value) =
    unless (nat_lt c.blocks MOST_BLOCKS && not c.tested) Limit at ∷ use_fault s c.names (kind.Reference ∷ []) name
    ∷ signed_fault s value ∷ []

-- the name that a statement makes, and what it then stands for

abbrev pub made : ℕ → NameKind → Option (ℕ × NameKind)
made at kind = Some (at, kind)

abbrev pub made_alike : ℕ → Option NameKind → Option (ℕ × NameKind)
made_alike at None = None
made_alike at (Some kind) = Some (at, kind)

abbrev pub made_as : Option ℕ → Option (ℕ × NameKind)
made_as None = None
made_as (Some handle) = Some (handle, kind.Handle)

abbrev pub made_by : Source → List Known → OrderForm → Option (ℕ × NameKind)
made_by s names (NewArray name len life values) = made name kind.Array
made_by s names (NewColumn name column life) = made name kind.Array
made_by s names (NewList name cap life) = made name kind.List
made_by s names (NewReference name life value) = made name kind.Reference
made_by s names (NewMap name cap life) = made name kind.Map
made_by s names (NewStream name count room life) = made name kind.Stream
made_by s names (Slice name of start len) = made name kind.Slice
made_by s names (View name of) = made name kind.View
made_by s names (Copy name of) = made_alike name (kind_in names (text_at s of))
made_by s names (Schedule auto handle kernel args sizes waive after) = made handle kind.Handle
made_by s names (Combine name of) = made name kind.Handle
made_by s names (Dispose name after handle) = made_as handle
made_by s names (DisposeAuto name handle) = made handle kind.Handle
made_by s names _ = None
