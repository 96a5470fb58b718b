-- The effect of each call on contents: its answer, and the contents after. `get` and `set` have the effects of an
-- array's.
use Rattle.std.specs.Prelude.{ℕ, ◌+◌, ℤ, Result}
use Rattle.job_base.specs.declared.Trap.{Trap}
use Rattle.frame_ast.specs.Contents.{Contents, add_item, swap_back, cleared}
use Rattle.frame_ast.specs.Arguments.{length_of, on_items}
use Rattle.native_array.specs.declared.array.ArrayAt.{ArrayAt}
use Rattle.native_array.specs.Effects.{done}
use Rattle.native_list.specs.declared.ListAt.{ListAt}

abbrev pub len_effect : Contents → ℕ × Contents
len_effect c = (length_of c, c)

abbrev pub array_effect : ListAt → Contents → ArrayAt × Contents
array_effect at c = (record { start = at.start + 1; len = length_of c }, c)

abbrev pub add_effect : ℤ → Contents → Result (Unit {0}) Trap × Contents
add_effect v c = done tt c (on_items (λ cap xs. add_item cap xs v) c)

abbrev pub remove_effect : ℤ → Contents → Result (Unit {0}) Trap × Contents
remove_effect i c = done tt c (on_items (λ cap xs. swap_back xs i) c)

abbrev pub clear_effect : Contents → Unit {0} × Contents
clear_effect c = (tt, cleared c)
