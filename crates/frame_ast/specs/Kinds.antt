-- The kinds of what names stand for along a script.
use Rattle.std.specs.Prelude.{◌≡◌, ℕ, ◌+◌, ◌<◌, ◌≤◌, List, [], ◌∷◌, length, take, None, Some, slice_get}
use Rattle.frame_ast.specs.declared.kernel.ParamKind.{ParamKind}
use Rattle.frame_ast.specs.declared.kernel.ParamKind.TheVariants.{Int, Array, List as KindList, Ref, Map, Stream}
use Rattle.frame_ast.specs.declared.kernel.Param.{Param}
use Rattle.frame_ast.specs.declared.script.Order.{Order}
use Rattle.frame_ast.specs.declared.script.Order.TheVariants.{Schedule}
use Rattle.frame_ast.specs.declared.script.Statement.{Statement}
use Rattle.frame_ast.specs.declared.script.Script.{Script}
use Rattle.frame_ast.specs.Contents.{Contents, Cells, Single, Items, Pairs, Entries, IsHeld, elements}
use Rattle.frame_ast.specs.States.{Value, ScriptState}
use Rattle.frame_ast.specs.Schedules.{arguments_of}
use Rattle.frame_ast.specs.Orders.{Table, Setting, setting, params_of}
use Rattle.frame_ast.specs.Checks.{refusal}
use Rattle.frame_ast.specs.Scripts.{final}
use Rattle.frame_ast.specs.declared.name_kind.NameKind.{NameKind}
use Rattle.frame_ast.specs.declared.name_kind.NameKind.TheVariants.{Array as ArrayName, Slice as SliceName, View as ViewName, List as ListName, Reference as RefName, Map as MapName, Stream as StreamName, Handle as HandleName}
use Rattle.frame_ast.specs.Accepted.{IsAccepted}

-- the kind of the names that stand for a whole container
abbrev pub kind_of : Contents → NameKind
kind_of (Cells xs) = ArrayName
kind_of (Single z) = RefName
kind_of (Items cap xs) = ListName
kind_of (Pairs cap ps) = MapName
kind_of (Entries room es) = StreamName

-- ALONG AN ACCEPTED SCRIPT EACH NAME HOLDS A VALUE OF ITS KIND, AND EACH CONTAINER WHAT IT CAN HOLD

-- A name of any kind may stand for a dead value. Beside that, a slice lies within an array, a view is one of a list, a
-- handle name stands for jobs, and a name of any other kind for a whole container of that kind.
abbrev pub IsOfKind : ScriptState → NameKind → Value → Type 0
IsOfKind s kind Value.Dead = Unit {0}
IsOfKind s kind (Value.Whole c) = (kind ≡ kind_of (s.contents c)) × (c < s.made)
IsOfKind s kind (Value.Slice c start len) =
    (kind ≡ SliceName) × (c < s.made) × (kind_of (s.contents c) ≡ ArrayName)
    × (start + len ≤ length (elements (s.contents c)))
IsOfKind s kind (Value.View c number) = (kind ≡ ViewName) × (c < s.made) × (kind_of (s.contents c) ≡ ListName)
IsOfKind s kind (Value.Handle jobs) = kind ≡ HandleName

-- each name a value of its kind, and each container what it can hold; a number that no container has yet stands for no
-- elements
pub record HoldsKinds (kinds : List NameKind) (s : ScriptState) : Type 0 where
  pub names : (n : ℕ) (kind : NameKind) → slice_get kinds n ≡ Some kind → IsOfKind s kind (s.values n)
  pub containers : (c : ℕ) → IsHeld (s.contents c)

-- at the start, and after each of its statements
abbrev pub NamesKeepTheirKinds : Type 0
NamesKeepTheirKinds = (script : Script) (is : IsAccepted script) (table : Table) (n : ℕ)
    → HoldsKinds is.kinds (final (setting script table) (take n script.statements.items))

-- THE ARGUMENTS OF AN ACCEPTED SCHEDULE FIT THE PARAMETERS

-- Each kind of parameter is given contents of one kind: an array its elements, whatever they are elements of, and an
-- `int` a single value.
abbrev pub kind_given : ParamKind → NameKind
kind_given Int = RefName
kind_given Array = ArrayName
kind_given KindList = ListName
kind_given Ref = RefName
kind_given Map = MapName
kind_given Stream = StreamName

-- as many contents as parameters, each of the kind that its parameter is given
abbrev pub FitKinds : List Param → List Contents → Type 0
FitKinds [] [] = Unit {0}
FitKinds [] (c ∷ cs) = ⊥
FitKinds (p ∷ ps) [] = ⊥
FitKinds (p ∷ ps) (c ∷ cs) = (kind_of c ≡ kind_given p.kind) × FitKinds ps cs

-- of a statement that is a schedule
abbrev pub ArgumentsFit : Setting → ScriptState → Order → Type 0
ArgumentsFit g s (Schedule job) =
    FitKinds (params_of g job.value.kernel) (arguments_of s (params_of g job.value.kernel) job.value.args.items)
ArgumentsFit g s _ = Unit {0}

-- What holds of each statement of an accepted script that isn't refused, in the state before it.
abbrev pub OfAccepted : (Setting → ScriptState → Order → Type 0) → Type 0
OfAccepted Holds = (script : Script) → IsAccepted script → (table : Table) (n : ℕ) (x : Statement)
    → slice_get script.statements.items n ≡ Some x
    → let g = setting script table in
    let s = final g (take n script.statements.items) in
    refusal g s x.act ≡ None → Holds g s x.act

abbrev pub SchedulesFit : Type 0
SchedulesFit = OfAccepted ArgumentsFit
