-- The name that a statement of a script makes.
use Rattle.std.specs.Prelude.{ℕ, Option, None, Some}
use Rattle.frame_ast.specs.declared.script.Order.{Order}
use Rattle.frame_ast.specs.declared.script.Order.TheVariants as order

-- the place of the name that a statement makes, where it makes one
abbrev pub made_place : Order → Option ℕ
made_place (order.Array name len life values) = Some name
made_place (order.Column name bytes life) = Some name
made_place (order.List name cap life) = Some name
made_place (order.Reference name life value) = Some name
made_place (order.Map name cap life) = Some name
made_place (order.Stream name indexes room life) = Some name
made_place (order.Slice name of start len) = Some name
made_place (order.View name of) = Some name
made_place (order.Copy name of) = Some name
made_place (order.Schedule job) = Some job.value.handle
made_place (order.Combine name of) = Some name
made_place (order.Dispose name after handle) = handle
made_place (order.DisposeAuto name handle) = Some handle
made_place _ = None
