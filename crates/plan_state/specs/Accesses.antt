-- The uses of names by the script's own statements, in the code's terms.
use Rattle.std.specs.Prelude.{ℕ, suc, ◌+◌, pos, ◌≡◌, ◌≢◌, ◌<◌, ◌⊎◌, Bool, true, false, not, ◌||◌, List, [], ◌∷◌, ◌++◌, length, Option, None, Some, option_map, slice_get, slice_set, Result}
use Rattle.std.specs.Result.{result_err}
use Rattle.job_base.specs.declared.Refusal.{Refusal}
use Rattle.job_base.specs.declared.Refusal.TheVariants.{Disposed, StaleView, Pending}
use Rattle.frame_ast.specs.Jobs.{Jobs as JobSet, nobody}
use Rattle.frame_ast.specs.Refusals.{Refused}
use Rattle.job_handle.specs.declared.handle.Handle.{Handle}
use Rattle.job_handle.specs.Sets.{jobs_of}
use Rattle.safety_handle.specs.declared.tag.Tag.{Tag}
use Rattle.safety_handle.specs.declared.tag.Blocked.{Blocked}
use Rattle.safety_handle.specs.declared.tag.Blocked.TheVariants.{Disposed as NotLive, StaleView as Broken, Pending as Waits}
use Rattle.frame_core.specs.declared.plan.Op.{Op}
use Rattle.kernel_exec.specs.declared.binds.Bind.{Bind}
use Rattle.kernel_exec.specs.declared.binds.Bind.TheVariants.{Int, Array, View as ViewBind, List as WholeList, Ref, Map, Stream}
use Rattle.plan_state.specs.declared.state.Value.{Value}
use Rattle.plan_state.specs.declared.state.Value.TheVariants.{Dead, Whole, Slice, View, Jobs}
use Rattle.plan_state.specs.declared.state.Container.{Container}
use Rattle.plan_state.specs.declared.state.Planner.{Planner}
use Rattle.plan_state.specs.declared.state.World.{World}
use Rattle.frame_ast.specs.declared.script.Script.{Script}
use Rattle.frame_ast.specs.declared.script.Statement.{Statement}
use Rattle.frame_ast.specs.Checks.{refusal}
use Rattle.frame_ast.specs.Orders.{Table, Setting, setting}
use Rattle.frame_ast.specs.Refusals.{access}
use Rattle.frame_ast.specs.Schedules.{need_of}
use Rattle.frame_ast.specs.States.{ScriptState, is_alive}
use Rattle.safety_handle.specs.declared.book.SafetyBook.{SafetyBook}
use Rattle.safety_handle.specs.Checks.{IsAnswer}
use Rattle.safety_handle.specs.Entries.{state_of}
use Rattle.plan_state.specs.Stands.{tag_of, IsThere, Knows}
use Rattle.plan_state.specs.Steps.{state_at, IsBefore}

abbrev pub tag_by : Option ℕ → Option Container → Option Tag
tag_by view None = None
tag_by view (Some it) = Some (tag_of it view)

abbrev pub tag_in : List Container → ℕ → Option ℕ → Option Tag
tag_in containers c view = tag_by view (slice_get containers c)

abbrev pub tag_for : List Container → Value → Option Tag
tag_for containers Dead = None
tag_for containers (Whole c) = tag_in containers c None
tag_for containers (Slice c start len) = tag_in containers c None
tag_for containers (View c number) = tag_in containers c (Some number)
tag_for containers (Jobs k) = None

-- the jobs that a value stands for
abbrev pub jobs_in : Option Handle → JobSet
jobs_in None = nobody
jobs_in (Some h) = jobs_of h

abbrev pub jobs_of_value : List Handle → Value → JobSet
jobs_of_value handles (Jobs k) = jobs_in (slice_get handles k)
jobs_of_value handles _ = nobody

abbrev pub jobs_for : List Handle → Option Value → JobSet
jobs_for handles None = nobody
jobs_for handles (Some v) = jobs_of_value handles v

-- the words that a value stands for
abbrev pub slice_in : ℕ → ℕ → Bind → Bind
slice_in from len (Int z) = Int z
slice_in from len (Array at own) = Array (record { start = at.start + from; len = len }) 0
slice_in from len (ViewBind at own) = ViewBind at own
slice_in from len (WholeList at) = WholeList at
slice_in from len (Ref at) = Ref at
slice_in from len (Map at) = Map at
slice_in from len (Stream at own) = Stream at own

abbrev pub view_in : Bind → Bind
view_in (WholeList at) = ViewBind at 0
view_in b = b

abbrev pub no_words : Bind
no_words = Int (pos 0)

abbrev pub bind_from : Option Container → (Bind → Bind) → Bind
bind_from None f = no_words
bind_from (Some it) f = f it.bind

abbrev pub bind_in : List Container → ℕ → (Bind → Bind) → Bind
bind_in containers c f = bind_from (slice_get containers c) f

abbrev pub bind_by : List Container → Value → Bind
bind_by containers Dead = no_words
bind_by containers (Whole c) = bind_in containers c (λ b. b)
bind_by containers (Slice c start len) = bind_in containers c (slice_in start len)
bind_by containers (View c number) = bind_in containers c view_in
bind_by containers (Jobs k) = no_words

-- a refusal, with the name that the statement names
abbrev pub refused_as : Option Refusal → ℕ → Option Refused
refused_as None name = None
refused_as (Some cause) name = Some (record { cause = cause; name = name })

abbrev pub cause_of : Option Blocked → Option Refusal
cause_of None = None
cause_of (Some NotLive) = Some Disposed
cause_of (Some Broken) = Some StaleView
cause_of (Some (Waits j)) = Some (Pending j)

-- The segment at hand has one operation more, and all else is as it was.
pub record IsPushed (old new : Planner) (op : Op) : Type 0 where
  pub ops : new.draft.ops.items ≡ old.draft.ops.items ++ op ∷ []
  pub rest : new ≡ record old { draft = record old.draft { ops = new.draft.ops } }

-- A name stands for something else, and all else is as it was.
pub record IsRenamed (old new : World) (name : ℕ) (value : Value) : Type 0 where
  pub values : new.values.items ≡ slice_set old.values.items name value
  pub rest : new ≡ record old { values = new.values }

-- A name stands for these jobs: it has a place of its own among the handles. All else is as it was.
pub record HasHandle (old new : World) (name : ℕ) (jobs : JobSet) : Type 0 where
  pub place : ℕ
  pub values : new.values.items ≡ slice_set old.values.items name (Jobs place)
  pub here : Some jobs ≡ option_map jobs_of (slice_get new.handles.items place)
  pub others : (k : ℕ) → k ≢ place → k < length old.handles.items
      → slice_get new.handles.items k ≡ slice_get old.handles.items k
  -- the place is the name's already, or a new one
  pub own : (slice_get old.values.items name ≡ Some (Jobs place))
      × (length new.handles.items ≡ length old.handles.items)
      ⊎ (place ≡ length old.handles.items) × (length new.handles.items ≡ suc place)
  pub rest : new ≡ record old { values = new.values; handles = new.handles }

-- the jobs of some names of handles together
abbrev pub jobs_by : List Handle → List Value → List ℕ → JobSet
jobs_by handles values [] j = false
jobs_by handles values (n ∷ more) j = jobs_for handles (slice_get values n) j || jobs_by handles values more j

-- each name stands for something that is there
abbrev pub AreThere : ℕ → ℕ → List Value → Type 0
AreThere made handles values = (n : ℕ) (v : Value) → slice_get values n ≡ Some v → IsThere made handles v

-- An answer is the cause for which a statement on a container is refused, before it is asked what its words hold.
abbrev pub MayUse : World → ℕ → Bool → Option Refusal → Type 0
MayUse w name writes answer = (g : Setting) (s : ScriptState) (found : List ℕ)
    → Knows w g s found
    → refused_as answer name ≡ access s name (need_of s name writes) []

-- A cause is what the safety book answers to a use of a container that waits for nothing.
abbrev pub IsCause : World → Tag → Bool → Option Refusal → Type 0
IsCause w tag writes cause = (r : Result (Unit {0}) Blocked)
    × IsAnswer (state_of w.safety tag.slot.0) tag w.jobs nobody writes r
    × (cause ≡ cause_of (result_err r))

-- the cause is that there is no container
abbrev pub is_gone : Refusal → Bool
is_gone Disposed = true
is_gone _ = false

-- An answer is whether a name stands for no container, or for one that was disposed.
abbrev pub IsGone : World → ℕ → Bool → Type 0
IsGone w name answer = (g : Setting) (s : ScriptState) (found : List ℕ)
    → Knows w g s found
    → answer ≡ not (is_alive s (s.values name))

-- An answer is the refusal of a statement, which names this name.
abbrev pub IsRefusal : Planner → Statement → ℕ → Option Refusal → Type 0
IsRefusal p x name answer = (script : Script) (table : Table) (b : IsBefore script table p x)
    → refused_as answer name ≡ refusal (setting script table) (state_at script table b.n) x.act

-- how many elements an array's words hold
abbrev pub length_in : Bind → Option ℕ
length_in (Array at own) = Some at.len
length_in _ = None

-- the element at which a slice starts, and a part of what a value stands for from one of its elements on
abbrev pub start_of : Value → ℕ
start_of (Slice c start len) = start
start_of _ = 0

abbrev pub part_by : Value → ℕ → ℕ → Value
part_by Dead from len = Dead
part_by (Whole c) from len = Slice c from len
part_by (Slice c start old) from len = Slice c (start + from) len
part_by (View c number) from len = Slice c from len
part_by (Jobs k) from len = Dead

-- A VIEW OF A LIST, as its views are now

abbrev pub view_number : SafetyBook → Option Container → Option ℕ
view_number safety None = None
view_number safety (Some it) = Some (state_of safety it.slot.0).view

abbrev pub view_of : ℕ → Option ℕ → Value
view_of c None = Dead
view_of c (Some number) = View c number

abbrev pub view_by : SafetyBook → List Container → Value → Value
view_by safety containers (Whole c) = view_of c (view_number safety (slice_get containers c))
view_by safety containers _ = Dead

-- it is that of a container that is live
abbrev pub IsLiveSlot : SafetyBook → Option Container → Type 0
IsLiveSlot safety None = ⊥
IsLiveSlot safety (Some it) = (state_of safety it.slot.0).live ≡ true

abbrev pub IsWholeAlive : SafetyBook → List Container → Value → Type 0
IsWholeAlive safety containers (Whole c) = IsLiveSlot safety (slice_get containers c)
IsWholeAlive safety containers _ = ⊥
