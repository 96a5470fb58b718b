-- Which contents the words of arguments stand for.
use Rattle.std.specs.Prelude.{◌≡◌, ℕ, ℤ, List, length, Some, slice_get}
use Rattle.frame_ast.specs.Contents.{Contents, Cells, Single}
use Rattle.frame_ast.specs.Arguments.{argument}
use Rattle.native_array.specs.Layout.{StandsFor as ArrayStandsFor, RefStandsFor}
use Rattle.native_list.specs.declared.ListAt.{ListAt}
use Rattle.native_list.specs.Layout.{HoldsItems, StandsFor as ListStandsFor}
use Rattle.native_map.specs.Layout.{StandsFor as MapStandsFor}
use Rattle.native_stream.specs.Layout.{StandsFor as StreamStandsFor}
use Rattle.kernel_exec.specs.declared.binds.Bind.{Bind}
use Rattle.kernel_exec.specs.declared.binds.Bind.TheVariants.{Int, Array, View, List as WholeList, Ref, Map, Stream}

-- A view is the array of the elements that its list has.
abbrev pub ViewStandsFor : ListAt → (ℕ → ℤ) → Contents → Type 0
ViewStandsFor at cells contents = (xs : List ℤ) × (contents ≡ Cells xs) × HoldsItems at cells xs

-- the words of a bind stand for contents; an `int` has no words, and stands for its value
abbrev pub Holds : (ℕ → ℤ) → Bind → Contents → Type 0
Holds cells (Int z) contents = contents ≡ Single z
Holds cells (Array at own) contents = ArrayStandsFor at cells contents
Holds cells (View at own) contents = ViewStandsFor at cells contents
Holds cells (WholeList at) contents = ListStandsFor at cells contents
Holds cells (Ref at) contents = RefStandsFor at cells contents
Holds cells (Map at) contents = MapStandsFor at cells contents
Holds cells (Stream at own) contents = StreamStandsFor at cells contents

-- the words of each bind stand for the contents of its parameter
pub record StandFor (binds : List Bind) (cells : ℕ → ℤ) (contents : List Contents) : Type 0 where
  pub count : length contents ≡ length binds
  pub each : (x : ℕ) (b : Bind) → slice_get binds x ≡ Some b → Holds cells b (argument contents x)
