-- What is read of a container at the script's end.
use Rattle.std.specs.Prelude.{ℕ, suc, if◌then◌else◌, ℤ, List, [], ◌∷◌, length, Option, None, Some, option_and_then}
use Rattle.std.specs.Str.{bytes_eq}
use Rattle.frame_ast.specs.declared.script.Script.{Script}
use Rattle.frame_ast.specs.Contents.{Contents, Cells, Single, Items, Pairs, Entries}
use Rattle.frame_ast.specs.Orders.{Table}
use Rattle.frame_ast.specs.States.{ScriptState, contents_at}
use Rattle.frame_plan.specs.Bindings.{can_be_read}
use Rattle.plan_state.specs.Steps.{state_at}

-- The numbers that contents are, one after another. The contents of a map and of a stream are more than that.
abbrev pub numbers_of : Contents → Option (List ℤ)
numbers_of (Cells xs) = Some xs
numbers_of (Single z) = Some (z ∷ [])
numbers_of (Items cap xs) = Some xs
numbers_of (Pairs cap ps) = None
numbers_of (Entries room es) = None

-- those of a name that stands for a whole container, while that isn't disposed
abbrev pub numbers_at : ScriptState → ℕ → Option (List ℤ)
numbers_at s name = if can_be_read s name then numbers_of (contents_at s name) else None

-- the place of the first of some names that has these bytes, of names that begin at place n
abbrev pub place_from : ℕ → List ℕ → List (List ℕ) → Option ℕ
place_from n bytes [] = None
place_from n bytes (x ∷ more) = if bytes_eq x bytes then Some n else place_from (suc n) bytes more

abbrev pub place_named : Script → List ℕ → Option ℕ
place_named script bytes = place_from 0 bytes script.names

-- The numbers of the container that a name stands for in the script's final state.
abbrev pub numbers_named : Script → Table → List ℕ → Option (List ℤ)
numbers_named script table bytes =
    option_and_then (numbers_at (state_at script table (length script.statements.items))) (place_named script bytes)
