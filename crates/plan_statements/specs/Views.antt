-- The views of a list that are broken, in the code's terms.
use Rattle.std.specs.Prelude.{ℕ, ◌+◌, ◌≡◌, ◌<◌, nat_eq, true, if◌then◌else◌, List, Option, None, Some, slice_get}
use Rattle.job_base.specs.declared.limits.TheConstants.{MOST_STATEMENTS}
use Rattle.kernel_exec.specs.declared.binds.Bind.{Bind}
use Rattle.kernel_exec.specs.declared.binds.Bind.TheVariants.{List as WholeList}
use Rattle.slot_store.specs.declared.slot.Slot.{Slot}
use Rattle.safety_handle.specs.declared.book.SafetyBook.{SafetyBook}
use Rattle.safety_handle.specs.Entries.{SlotState, state_of}
use Rattle.plan_state.specs.declared.state.Value.{Value}
use Rattle.plan_state.specs.declared.state.Value.TheVariants.{Whole}
use Rattle.plan_state.specs.declared.state.Container.{Container}
use Rattle.plan_state.specs.declared.state.World.{World}

-- the slot of a list, and none of another container
abbrev pub slot_by : Bind → Slot → Option Slot
slot_by (WholeList at) slot = Some slot
slot_by _ slot = None

abbrev pub slot_from : Option Container → Option Slot
slot_from None = None
slot_from (Some it) = slot_by it.bind it.slot

abbrev pub list_slot : List Container → Value → Option Slot
list_slot containers (Whole c) = slot_from (slice_get containers c)
list_slot containers _ = None

-- the views of the list with this slot are broken once more
abbrev pub with_break : Option Slot → ℕ → SlotState → SlotState
with_break None k state = state
with_break (Some slot) k state = if nat_eq k slot.0 then record state { view = state.view + 1 } else state

-- The views of the list that a value stands for are broken, where it stands for a list, and all else is as it was.
pub record IsBroken (old new : World) (value : Value) : Type 0 where
  pub slots : (k : ℕ) → state_of new.safety k ≡ with_break (list_slot old.containers.items value) k
      (state_of old.safety k)
  pub rest : new ≡ record old { safety = new.safety }

-- a list's views can be broken once more
abbrev pub IsBreakable : SafetyBook → Option Slot → Type 0
IsBreakable safety None = Unit {0}
IsBreakable safety (Some slot) =
    ((state_of safety slot.0).live ≡ true) × ((state_of safety slot.0).view < MOST_STATEMENTS)
