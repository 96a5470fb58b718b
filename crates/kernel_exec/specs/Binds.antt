-- What a bind is: its kind, its words and its own-index rule.
use Rattle.std.specs.Prelude.{◌≡◌, ℕ, zero, suc, ◌+◌, ◌≤◌, ◌<◌, Bool, true, false, List, get_or, map}
use Rattle.frame_ast.specs.declared.kernel.ParamKind.{ParamKind}
use Rattle.frame_ast.specs.declared.kernel.ParamKind.TheVariants.{Int as IntKind, Array as ArrayKind, List as ListKind, Ref as RefKind, Map as MapKind, Stream as StreamKind}
use Rattle.native_array.specs.declared.array.ArrayAt.{ArrayAt}
use Rattle.native_array.specs.Layout.{end_of as array_end}
use Rattle.native_list.specs.Layout.{end_of as list_end}
use Rattle.native_map.specs.Table.{end_of as map_end}
use Rattle.native_stream.specs.Layout.{end_of as stream_end}
use Rattle.kernel_exec.specs.declared.binds.Bind.{Bind}
use Rattle.kernel_exec.specs.declared.binds.Bind.TheVariants.{Int, Array, View, List as WholeList, Ref, Map, Stream}

-- the kind of parameter that it is for
abbrev pub kind_of : Bind → ParamKind
kind_of (Int z) = IntKind
kind_of (Array at own) = ArrayKind
kind_of (View at own) = ArrayKind
kind_of (WholeList at) = ListKind
kind_of (Ref at) = RefKind
kind_of (Map at) = MapKind
kind_of (Stream at own) = StreamKind

-- its first word, and the word behind its last one; an `int` has none
abbrev pub start_of : Bind → ℕ
start_of (Int z) = 0
start_of (Array at own) = at.start
start_of (View at own) = at.start
start_of (WholeList at) = at.start
start_of (Ref at) = at.start
start_of (Map at) = at.start
start_of (Stream at own) = at.start

abbrev pub end_of : Bind → ℕ
end_of (Int z) = 0
end_of (Array at own) = array_end at
end_of (View at own) = list_end at
end_of (WholeList at) = list_end at
end_of (Ref at) = at.start + 1
end_of (Map at) = map_end at
end_of (Stream at own) = stream_end at

-- a word of a bind
pub record IsWordOf (b : Bind) (w : ℕ) : Type 0 where
  pub from : start_of b ≤ w
  pub below : w < end_of b

-- the width of its own-index rule, 0 where that doesn't hold
abbrev pub width_if : Bool → ℕ
width_if true = 1
width_if false = 0

abbrev pub own_of : Bind → ℕ
own_of (Int z) = 0
own_of (Array at own) = own
own_of (View at own) = own
own_of (WholeList at) = 0
own_of (Ref at) = 0
own_of (Map at) = 0
own_of (Stream at own) = width_if own

abbrev pub widths : List Bind → List ℕ
widths binds = map own_of binds

-- The bind of a parameter. A parameter without one has no place.
abbrev pub no_bind : Bind
no_bind = Array (record { start = 0; len = 0 }) 0

abbrev pub bind_at : List Bind → ℕ → Bind
bind_at binds x = get_or binds x no_bind

-- The array of a bind where each index owns the place that is the index itself: there the width is 0 or 1, and the
-- element at the index needs no other test than that there is one. Else an array of no length.
abbrev pub no_array : ArrayAt
no_array = record { start = 0; len = 0 }

abbrev pub own_array_if : ArrayAt → ℕ → ArrayAt
own_array_if at zero = at
own_array_if at (suc zero) = at
own_array_if at (suc (suc n)) = no_array

abbrev pub own_array : Bind → ArrayAt
own_array (Array at own) = own_array_if at own
own_array _ = no_array

-- a table of them, by the numbers of parameters
abbrev pub IsTable : List ArrayAt → List Bind → Type 0
IsTable own binds = (x : ℕ) → get_or own x no_array ≡ own_array (bind_at binds x)
