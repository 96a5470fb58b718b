-- What the statements say that are read at once.
use Rattle.std.specs.Prelude.{ℕ, false, [], None, Some}
use Rattle.frame_ast.specs.declared.script.Life.TheVariants.{Persistent}
use Rattle.script_text.specs.declared.raw.RawNumber.{RawNumber}
use Rattle.script_text.specs.declared.known_orders.KnownOrder.{KnownOrder}
use Rattle.script_text.specs.declared.known_orders.KnownOrder.TheVariants as known
use Rattle.script_text.specs.Raw.{OrderForm, NewArray, NewList, NewReference, NewMap, Slice, View, Set, Add, Put, Remove, Dispose, Print, Flush}

-- a number without a `-`
abbrev pub plain : ℕ → RawNumber
plain at = record { minus = false; at = at }

-- the form of such a statement
abbrev pub known_form : KnownOrder → OrderForm
known_form (known.Array name len) = NewArray name len Persistent None
known_form (known.List name cap) = NewList name cap Persistent
known_form (known.Reference name value) = NewReference name Persistent (Some (plain value))
known_form (known.Map name cap) = NewMap name cap Persistent
known_form (known.Slice name of start len) = Slice name of start len
known_form (known.View name of) = View name of
known_form (known.Set name at value) = Set name (Some (plain at)) (plain value)
known_form (known.Add name value) = Add name (plain value) None
known_form (known.Put name key value) = Put name (plain key) (plain value)
known_form (known.Remove name at) = Remove name (plain at)
known_form (known.Dispose name) = Dispose name [] None
known_form (known.Print name) = Print name
known_form known.Flush = Flush
