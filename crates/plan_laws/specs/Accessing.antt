-- `set`, `add`, `put`, `remove` and `clear` of a container that the script may write.
--
-- Decided here is that the operation on words is the statement: it is refused for the same cause, and where it isn't,
-- the words of the container stand for its changed contents. That something else blocks the statement, as a job that
-- isn't completed, is a matter of `Refusing`.
use Rattle.std.specs.Prelude.{ℕ, ◌≡◌, ◌<◌, ◌^◌, true, ℤ, pos, List, [], ◌∷◌, length, take, Option, None, Some, unwrap_or, slice_get}
use Rattle.frame_ast.specs.declared.name_kind.NameKind.{NameKind}
use Rattle.frame_ast.specs.declared.name_kind.NameKind.TheVariants as kind
use Rattle.frame_ast.specs.declared.name_kind.TheConstants.{REMOVABLE, CLEARABLE}
use Rattle.frame_ast.specs.declared.script.Order.{Order}
use Rattle.frame_ast.specs.declared.script.Order.TheVariants as order
use Rattle.frame_ast.specs.declared.script.Script.{Script}
use Rattle.frame_ast.specs.declared.script.Statement.{Statement}
use Rattle.frame_ast.specs.Accepted.{IsAccepted, is_among, kind_in, set_kinds, add_kinds}
use Rattle.frame_ast.specs.Contents.{Contents}
use Rattle.frame_ast.specs.Kinds.{kind_of, HoldsKinds}
use Rattle.frame_ast.specs.Laws.{IsKnown}
use Rattle.frame_ast.specs.Orders.{Table, Setting, setting, name_text}
use Rattle.frame_ast.specs.Refusals.{access}
use Rattle.frame_ast.specs.Schedules.{need_of}
use Rattle.frame_ast.specs.Scripts.{act, final}
use Rattle.frame_ast.specs.States.{ScriptState, Value, contents_at}
use Rattle.kernel_exec.specs.declared.binds.Bind.{Bind}
use Rattle.frame_core.specs.declared.plan.Act.{Act}
use Rattle.frame_core.specs.declared.plan.Act.TheVariants.{Set, AddTo, Put, Remove, Clear}
use Rattle.frame_core.specs.Names.{name_of}
use Rattle.plan_laws.specs.Binds.{bind_at}
use Rattle.plan_laws.specs.Drafts.{Draft}
use Rattle.plan_laws.specs.Planned.{Outline, IsPlanned, Adds}
use Rattle.plan_laws.specs.Printing.{IsUsable}

-- The kind of a name that stands for a container or a part of one.
abbrev pub kind_seen : Value → Contents → Option NameKind
kind_seen Value.Dead c = None
kind_seen (Value.Whole n) c = Some (kind_of c)
kind_seen (Value.Slice n from len) c = Some kind.Slice
kind_seen (Value.View n number) c = Some kind.View
kind_seen (Value.Handle jobs) c = None

-- The script may write through a name now, which is of one of these kinds.
pub record IsWritable (x : Outline) (g : Setting) (s : ScriptState) (name : ℕ) (kinds : List NameKind) : Type 0 where
  -- nothing blocks it
  pub unblocked : access s name (need_of s name true) [] ≡ None
  pub usable : IsUsable s name
  pub kind : kind_in (kind_seen (s.values name) (contents_at s name)) kinds ≡ true
  -- the plan has the name
  pub below : name < length x.plan.names
  pub named : name_of x.plan name ≡ name_text g name

-- A statement on a name of these kinds, refused or not, is planned by one operation on the words of the name.
abbrev pub IsPlannedBy : List NameKind → (ℕ → Order) → (Bind → Act) → Type 0
IsPlannedBy kinds statement operation = (x : Outline) (g : Setting) (s : ScriptState) (st : Statement) (name : ℕ)
    (d e : Draft)
    → x.plan.cells < 2 ^ 32
    → IsKnown s
    → IsPlanned x s d
    → s.passing ≡ 0
    → IsWritable x g s name kinds
    → st.act ≡ statement name
    → Adds d e (record { line = st.line; name = name; act = operation (bind_at x.starts s name) } ∷ [])
    → IsPlanned x (act g s st) e

-- `set x i = v`, and `set x = v` of a reference, where the place says nothing
abbrev pub SetsArePlanned : Type 0
SetsArePlanned = (at : Option ℤ) (v : ℤ)
    → IsPlannedBy (set_kinds at) (λ name. order.Set name at v) (λ b. Set b (unwrap_or at (pos 0)) v)

-- `add m k v`, and `add l v`, where the key says nothing
abbrev pub add_act : ℤ → Option ℤ → Bind → Act
add_act first None b = AddTo b (pos 0) first
add_act first (Some second) b = AddTo b first second

abbrev pub AddsArePlanned : Type 0
AddsArePlanned = (first : ℤ) (second : Option ℤ)
    → IsPlannedBy (add_kinds second) (λ name. order.Add name first second) (add_act first second)

-- `put m k v`
abbrev pub PutsArePlanned : Type 0
PutsArePlanned = (k v : ℤ) → IsPlannedBy (kind.Map ∷ []) (λ name. order.Put name k v) (λ b. Put b k v)

-- `remove l i` and `remove m k`
abbrev pub RemovesArePlanned : Type 0
RemovesArePlanned = (i : ℤ) → IsPlannedBy REMOVABLE (λ name. order.Remove name i) (λ b. Remove b i)

-- `clear x`
abbrev pub ClearsArePlanned : Type 0
ClearsArePlanned = IsPlannedBy CLEARABLE (λ name. order.Clear name) (λ b. Clear b)

-- WHERE THE SCRIPT MAY WRITE

-- The plan has the script's names.
abbrev pub AreNamesOf : Setting → Outline → Type 0
AreNamesOf g x = x.plan.names ≡ g.names

-- Where names hold values of their kinds, the script may write through a name that nothing blocks, if it is of one of
-- these kinds.
abbrev pub NamesAreWritable : Type 0
NamesAreWritable = (x : Outline) (g : Setting) (s : ScriptState) (name : ℕ) (k : NameKind) (all kinds : List NameKind)
    → AreNamesOf g x
    → length all ≡ length g.names
    → HoldsKinds all s
    → slice_get all name ≡ Some k
    → is_among k kinds ≡ true
    → access s name (need_of s name true) [] ≡ None
    → IsWritable x g s name kinds

-- the name that a statement writes through, with the kinds that it takes
abbrev pub written_by : Order → Option (ℕ × List NameKind)
written_by (order.Set name at v) = Some (name, set_kinds at)
written_by (order.Add name first second) = Some (name, add_kinds second)
written_by (order.Put name k v) = Some (name, kind.Map ∷ [])
written_by (order.Remove name i) = Some (name, REMOVABLE)
written_by (order.Clear name) = Some (name, CLEARABLE)
written_by _ = None

-- So it is in an accepted script, before each statement that writes through a name.
abbrev pub AcceptedNamesAreWritable : Type 0
AcceptedNamesAreWritable = (script : Script) → IsAccepted script → (table : Table) (n : ℕ) (st : Statement)
    → slice_get script.statements.items n ≡ Some st
    → (name : ℕ) (kinds : List NameKind)
    → written_by st.act ≡ Some (name, kinds)
    → (x : Outline)
    → let g = setting script table in
    let s = final g (take n script.statements.items) in
    AreNamesOf g x
    → access s name (need_of s name true) [] ≡ None
    → IsWritable x g s name kinds
