-- The effect of each call on contents: its answer, and the contents after.
use Rattle.std.specs.Prelude.{ℤ, Result, Ok, Err}
use Rattle.job_base.specs.declared.Trap.{Trap}
use Rattle.frame_ast.specs.Contents.{Contents, elements, with_elements, with_single, then_value, item_at, set_at}
use Rattle.frame_ast.specs.Arguments.{value_in}

-- an operation has an answer where it succeeds, and its trap leaves the contents as they were
abbrev pub done : {A : Type 0} → A → Contents → Result Contents Trap → Result A Trap × Contents
done answer before (Ok after) = (Ok answer, after)
done answer before (Err trap) = (Err trap, before)

abbrev pub get_effect : ℤ → Contents → Result ℤ Trap × Contents
get_effect i c = (item_at (elements c) i, c)

abbrev pub set_effect : ℤ → ℤ → Contents → Result (Unit {0}) Trap × Contents
set_effect i v c = done tt c (then_value (set_at (elements c) i v) (λ ys. Ok (with_elements ys c)))

abbrev pub value_effect : Contents → ℤ × Contents
value_effect c = (value_in c, c)

abbrev pub set_value_effect : ℤ → Contents → Unit {0} × Contents
set_value_effect v c = (tt, with_single v c)
