-- The uses of containers by a job: one for each name among the arguments of its schedule.
use Rattle.std.specs.Prelude.{ℕ, ◌≡◌, ◌<◌, Bool, false, List, [], ◌∷◌, Option, None, Some, slice_get, All, Result}
use Rattle.std.specs.Result.{result_err}
use Rattle.job_base.specs.declared.Access.{Access}
use Rattle.frame_ast.specs.declared.kernel.Param.{Param}
use Rattle.frame_ast.specs.declared.script.Arg.{Arg}
use Rattle.frame_ast.specs.declared.script.Arg.TheVariants.{Name, Number}
use Rattle.frame_ast.specs.Jobs.{Jobs as JobSet}
use Rattle.frame_ast.specs.Refusals.{is_temp}
use Rattle.frame_ast.specs.Schedules.{Given, writes_to}
use Rattle.safety_handle.specs.declared.tag.Tag.{Tag}
use Rattle.safety_handle.specs.declared.tag.Blocked.{Blocked}
use Rattle.safety_handle.specs.declared.tag.Blocked.TheVariants.{Disposed as NotLive}
use Rattle.safety_handle.specs.Checks.{IsAnswer}
use Rattle.safety_handle.specs.Entries.{state_of}
use Rattle.plan_state.specs.declared.state.Value.{Value}
use Rattle.plan_state.specs.declared.state.Value.TheVariants.{Dead, Whole, Slice, View, Jobs}
use Rattle.plan_state.specs.declared.state.Container.{Container}
use Rattle.plan_state.specs.declared.state.World.{World}
use Rattle.plan_schedules.specs.declared.uses.NamedUse.{NamedUse}
use Rattle.plan_state.specs.Accesses.{tag_for}

-- the number of the container of a value; 0 where it stands for none
abbrev pub number_of_value : Value → ℕ
number_of_value Dead = 0
number_of_value (Whole c) = c
number_of_value (Slice c start len) = c
number_of_value (View c number) = c
number_of_value (Jobs k) = 0

abbrev pub is_temp_by : Option Container → Bool
is_temp_by None = false
is_temp_by (Some it) = is_temp it.life

-- whether a value stands for a container that lives for one frame
abbrev pub is_temp_in : List Container → Value → Bool
is_temp_in containers Dead = false
is_temp_in containers (Whole c) = is_temp_by (slice_get containers c)
is_temp_in containers (Slice c start len) = is_temp_by (slice_get containers c)
is_temp_in containers (View c number) = is_temp_by (slice_get containers c)
is_temp_in containers (Jobs k) = false

-- Why a use through a tag is refused to what waits for some jobs; without a tag there is no container.
abbrev pub IsBlockedBy : World → JobSet → Option Tag → Bool → Option Blocked → Type 0
IsBlockedBy w after None writes blocked = blocked ≡ Some NotLive
IsBlockedBy w after (Some tag) writes blocked = (r : Result (Unit {0}) Blocked)
    × IsAnswer (state_of w.safety tag.slot.0) tag w.jobs after writes r
    × (blocked ≡ result_err r)

-- A use of the container of a name, as a parameter makes it, by a job that waits for some jobs.
pub record IsUse (w : World) (after : JobSet) (param : Param) (name : ℕ) (u : NamedUse) : Type 0 where
  pub value : Value
  pub has : slice_get w.values.items name ≡ Some value
  pub named : u.name ≡ name
  pub container : u.container ≡ number_of_value value
  pub kind : u.kind ≡ param.kind
  pub access : u.access ≡ param.access
  pub temp : u.is_temp ≡ is_temp_in w.containers.items value
  pub tag : u.tag ≡ tag_for w.containers.items value
  pub blocked : IsBlockedBy w after u.tag (writes_to u.access) u.blocked

-- something of each name among the arguments, with its parameter, in their order
abbrev pub ForNames : (Param → ℕ → NamedUse → Type 0) → List Param → List Arg → List NamedUse → Type 0
ForNames Is [] args uses = uses ≡ []
ForNames Is (p ∷ ps) [] uses = uses ≡ []
ForNames Is (p ∷ ps) (Number z ∷ as_) uses = ForNames Is ps as_ uses
ForNames Is (p ∷ ps) (Name n ∷ as_) [] = ⊥
ForNames Is (p ∷ ps) (Name n ∷ as_) (u ∷ us) = Is p n u × ForNames Is ps as_ us

abbrev pub IsNameBelow : ℕ → Arg → Type 0
IsNameBelow n (Name name) = name < n
IsNameBelow n (Number z) = Unit {0}

abbrev pub AreNamesBelow : ℕ → List Arg → Type 0
AreNamesBelow n args = All (IsNameBelow n) args

-- A use as a value of the schedule.
abbrev pub given_of : NamedUse → Given
given_of u = record {
  need = record { name = u.name; container = u.container; writes = writes_to u.access };
  kind = u.kind;
  is_length = false;
}

-- how the safety book knows the containers of uses, and how they are used

abbrev pub tags_by : Option Tag → Access → List (Tag × Access) → List (Tag × Access)
tags_by None access more = more
tags_by (Some tag) access more = (tag, access) ∷ more

abbrev pub tags_of : List NamedUse → List (Tag × Access)
tags_of [] = []
tags_of (u ∷ more) = tags_by u.tag u.access (tags_of more)
