-- Where the contents of names lie at the end of a section.
--
-- Decided here is which names have words of their own there: those of a whole container that isn't disposed. A slice
-- and a view are other names for words that such a one has. That the words are right is a field of `IsNext`.
use Rattle.std.specs.Prelude.{ℕ, ◌≡◌, ◌≤◌, Bool, true, false, if◌then◌else◌, Option, None, Some, slice_get}
use Rattle.frame_ast.specs.States.{ScriptState, contents_at}
use Rattle.frame_ast.specs.States as states
use Rattle.kernel_exec.specs.declared.binds.Bind.{Bind}
use Rattle.kernel_exec.specs.Binds.{end_of}
use Rattle.kernel_exec.specs.Layout.{Holds}
use Rattle.merge_laws.specs.Graph.{Cells}
use Rattle.plan_laws.specs.Binds.{bind_of}
use Rattle.safety_handle.specs.Checks.{is_current}
use Rattle.safety_handle.specs.Entries.{state_of}
use Rattle.plan_state.specs.declared.state.Container.{Container}
use Rattle.plan_state.specs.declared.state.Planner.{Planner}
use Rattle.plan_state.specs.declared.state.Value.{Value}
use Rattle.plan_state.specs.declared.state.Value.TheVariants.{Whole}
use Rattle.plan_state.specs.Stands.{tag_of}
use Rattle.frame_plan.specs.declared.sections.SectionBook.{SectionBook}

-- BY THE STATE of the script

-- a value is a whole container that isn't disposed
abbrev pub is_whole : ScriptState → states.Value → Bool
is_whole s (states.Whole c) = s.alive c
is_whole s _ = false

-- a name stands for one
abbrev pub can_be_read : ScriptState → ℕ → Bool
can_be_read s name = is_whole s (s.values name)

-- The cells hold the contents of the name in these words, which have the form of the contents and end at a word at
-- most; or it has none.
abbrev pub IsBindAt : ScriptState → Cells → ℕ → ℕ → Option Bind → Type 0
IsBindAt s cells last name None = can_be_read s name ≡ false
IsBindAt s cells last name (Some bind) =
    (can_be_read s name ≡ true)
    × ((start : ℕ) × (bind ≡ bind_of start (contents_at s name)))
    × Holds cells bind (contents_at s name)
    × (end_of bind ≤ last)

-- BY THE PLANNER

-- the words of a container, while its slot is live with its version
abbrev pub bind_made : Planner → Option Container → Option Bind
bind_made p None = None
bind_made p (Some it) = if is_current (state_of p.world.safety it.slot.0) (tag_of it None) then Some it.bind else None

abbrev pub bind_valued : Planner → Option Value → Option Bind
bind_valued p (Some (Whole c)) = bind_made p (slice_get p.world.containers.items c)
bind_valued p _ = None

abbrev pub bind_named : Planner → ℕ → Option Bind
bind_named p name = bind_valued p (slice_get p.world.values.items name)

abbrev pub bind_in : SectionBook → ℕ → Option Bind
bind_in book name = bind_named book.planner name
