-- `print`: the container's line.
use Rattle.std.specs.Prelude.{ℕ, ◌+◌, ◌≡◌, ◌<◌, ◌≤◌, ◌^◌, [], ◌∷◌, length, None, true, List, Some, slice_get}
use Rattle.frame_ast.specs.declared.name_kind.NameKind.{NameKind}
use Rattle.frame_ast.specs.declared.name_kind.NameKind.TheVariants as kind
use Rattle.frame_ast.specs.declared.script.Order.TheVariants.{Print as PrintOf}
use Rattle.frame_ast.specs.Checks.{refusal}
use Rattle.frame_ast.specs.Contents.{Contents, elements}
use Rattle.frame_ast.specs.Effects.{effect}
use Rattle.frame_ast.specs.Kinds.{kind_of, HoldsKinds}
use Rattle.frame_ast.specs.Laws.{IsKnown}
use Rattle.frame_ast.specs.Orders.{Setting, name_text}
use Rattle.frame_ast.specs.Ranges.{Starts}
use Rattle.frame_ast.specs.States.{ScriptState, Value, is_alive, container_at, contents_at}
use Rattle.frame_core.specs.declared.plan.Act.TheVariants.{Print}
use Rattle.frame_core.specs.declared.plan.Op.{Op}
use Rattle.frame_core.specs.Names.{name_of}
use Rattle.plan_laws.specs.Binds.{bind_at}
use Rattle.plan_laws.specs.Drafts.{Draft}
use Rattle.plan_laws.specs.Planned.{Outline, IsPlanned, Adds}

-- What a name may stand for where it is used: a whole container, a slice that lies in its array, a view of a list.
abbrev pub FitsContents : Value → Contents → Type 0
FitsContents Value.Dead c = ⊥
FitsContents (Value.Whole n) c = Unit {0}
FitsContents (Value.Slice n from len) c = (kind_of c ≡ kind.Array) × (from + len ≤ length (elements c))
FitsContents (Value.View n number) c = kind_of c ≡ kind.List
FitsContents (Value.Handle jobs) c = ⊥

-- the container of a name is there, and the value fits its contents
pub record IsUsable (s : ScriptState) (name : ℕ) : Type 0 where
  pub below : container_at s name < s.made
  pub fits : FitsContents (s.values name) (contents_at s name)

-- Along an accepted script a name whose container is alive is usable.
abbrev pub NamesAreUsable : Type 0
NamesAreUsable = (kinds : List NameKind) (s : ScriptState) (name : ℕ) (k : NameKind)
    → HoldsKinds kinds s
    → slice_get kinds name ≡ Some k
    → is_alive s (s.values name) ≡ true
    → IsUsable s name

abbrev pub print_op : Starts → ScriptState → (line name : ℕ) → Op
print_op starts s line name = record { line = line; name = name; act = Print (bind_at starts s name) }

abbrev pub PrintsArePlanned : Type 0
PrintsArePlanned = (x : Outline) (g : Setting) (s : ScriptState) (line name : ℕ) (d e : Draft)
    → x.plan.cells < 2 ^ 32
    → IsKnown s
    → IsPlanned x s d
    → refusal g s (PrintOf name) ≡ None
    → IsUsable s name
    → name < length x.plan.names
    → name_of x.plan name ≡ name_text g name
    → Adds d e (print_op x.starts s line name ∷ [])
    → IsPlanned x (effect g line s (PrintOf name)) e
