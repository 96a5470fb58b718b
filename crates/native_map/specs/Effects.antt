-- The effect of each call on contents: its answer, and the contents after.
use Rattle.std.specs.Prelude.{ℕ, ℤ, Bool, true, false, if◌then◌else◌, Option, Some, None, List, [], ◌∷◌, Result, Ok}
use Rattle.job_base.specs.declared.Trap.{Trap}
use Rattle.frame_ast.specs.Contents.{Contents, value_of_key, has_key, present_value, put_key, add_key, cleared}
use Rattle.frame_ast.specs.Arguments.{length_of, pairs_of, on_pairs, without}
use Rattle.native_array.specs.Effects.{done}
use Rattle.native_map.specs.Words.{is_above}

abbrev pub put_effect : ℤ → ℤ → Contents → Result (Unit {0}) Trap × Contents
put_effect k v c = done tt c (on_pairs (λ cap ps. put_key cap ps k v) c)

abbrev pub add_effect : ℤ → ℤ → Contents → Result (Unit {0}) Trap × Contents
add_effect k v c = done tt c (on_pairs (λ cap ps. add_key cap ps k v) c)

abbrev pub try_add_effect : ℤ → ℤ → Contents → Result Bool Trap × Contents
try_add_effect k v c =
    if has_key (pairs_of c) k then (Ok false, c) else done true c (on_pairs (λ cap ps. add_key cap ps k v) c)

abbrev pub get_effect : ℤ → Contents → Result ℤ Trap × Contents
get_effect k c = (present_value (value_of_key (pairs_of c) k), c)

abbrev pub has_effect : ℤ → Contents → Bool × Contents
has_effect k c = (has_key (pairs_of c) k, c)

abbrev pub remove_effect : ℤ → Contents → Bool × Contents
remove_effect k c = (has_key (pairs_of c) k, without k c)

abbrev pub clear_effect : Contents → Unit {0} × Contents
clear_effect c = (tt, cleared c)

abbrev pub count_effect : Contents → ℕ × Contents
count_effect c = (length_of c, c)

-- the first of the pairs whose key is above
abbrev pub first_above : Option ℤ → List (ℤ × ℤ) → Option (ℤ × ℤ)
first_above k [] = None
first_above k (p ∷ ps) = if is_above k p.0 then Some p else first_above k ps

abbrev pub next_effect : Option ℤ → Contents → Option (ℤ × ℤ) × Contents
next_effect k c = (first_above k (pairs_of c), c)
