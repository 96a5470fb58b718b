-- A name whose container is alive is usable.
use Rattle.std.proofs.Common.{◌≡◌, ◌<◌, true, refl}
use Rattle.frame_ast.specs.declared.name_kind.NameKind.{NameKind}
use Rattle.frame_ast.specs.Kinds.{IsOfKind}
use Rattle.frame_ast.specs.States.{ScriptState, Value, is_alive, container_of}
use Rattle.frame_core.proofs.Small.{not_both}
use Rattle.plan_laws.specs.Printing.{FitsContents, NamesAreUsable}

value_below : (s : ScriptState) (k : NameKind) (v : Value) → IsOfKind s k v → is_alive s v ≡ true → container_of v < s.made
value_below s k Value.Dead h alive = absurd (not_both alive refl)
value_below s k (Value.Whole c) h alive = h.1
value_below s k (Value.Slice c from len) h alive = h.1
value_below s k (Value.View c number) h alive = h.1
value_below s k (Value.Handle jobs) h alive = absurd (not_both alive refl)

value_fits : (s : ScriptState) (k : NameKind) (v : Value) → IsOfKind s k v → is_alive s v ≡ true → FitsContents v (s.contents (container_of v))
value_fits s k Value.Dead h alive = absurd (not_both alive refl)
value_fits s k (Value.Whole c) h alive = tt
value_fits s k (Value.Slice c from len) h alive = (h.2, h.3)
value_fits s k (Value.View c number) h alive = h.2
value_fits s k (Value.Handle jobs) h alive = absurd (not_both alive refl)

pub names_are_usable : NamesAreUsable
names_are_usable kinds s name k holds is alive =
    let h = holds.names name k is in
    record { below = value_below s k (s.values name) h alive; fits = value_fits s k (s.values name) h alive }
