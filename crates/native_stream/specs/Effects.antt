-- The effect of each call on contents: its answer, and the contents after.
use Rattle.std.specs.Prelude.{ℕ, ℤ, pos, length, Result, Ok}
use Rattle.job_base.specs.declared.Trap.{Trap}
use Rattle.frame_ast.specs.Contents.{Contents, then_value, item_at, cleared}
use Rattle.frame_ast.specs.Arguments.{items_in, begin_in, write_place}
use Rattle.native_array.specs.Effects.{done}

-- No index is another's own here, which is width 0.
abbrev pub begin_effect : ℤ → Contents → Result (Unit {0}) Trap × Contents
begin_effect i c = done tt c (begin_in 0 0 i c)

-- An unwritten index gets its first item.
abbrev pub write_effect : ℕ → ℤ → Contents → Result (Unit {0}) Trap × Contents
write_effect k v c = done tt c (write_place (pos k) c v)

abbrev pub items_effect : ℤ → Contents → Result ℕ Trap × Contents
items_effect i c = (then_value (items_in i c) (λ xs. Ok (length xs)), c)

abbrev pub at_effect : ℤ → ℤ → Contents → Result ℤ Trap × Contents
at_effect i k c = (then_value (items_in i c) (λ xs. item_at xs k), c)

abbrev pub clear_effect : Contents → Unit {0} × Contents
clear_effect c = (tt, cleared c)
