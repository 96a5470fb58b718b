-- What `setcapacity` changes in the world.
use Rattle.std.specs.Prelude.{ℕ, ◌+◌, ◌≡◌, ◌≢◌, ◌≤◌, max, nat_eq, if◌then◌else◌, slice_set}
use Rattle.job_base.specs.declared.Span.{Span}
use Rattle.frame_ast.specs.Ranges.{IsFirstFit}
use Rattle.kernel_exec.specs.declared.binds.Bind.{Bind}
use Rattle.kernel_exec.specs.declared.binds.Bind.TheVariants.{List as WholeList}
use Rattle.slot_store.specs.declared.store.SlotStore.{SlotStore}
use Rattle.slot_store.specs.Stores.{place_of, peak_of, is_live_word, live_words_of, slots_in_use, taken}
use Rattle.safety_handle.specs.declared.book.SafetyBook.{SafetyBook}
use Rattle.safety_handle.specs.Entries.{state_of}
use Rattle.plan_state.specs.declared.state.Value.{Value}
use Rattle.plan_state.specs.declared.state.Value.TheVariants.{Whole}
use Rattle.plan_state.specs.declared.state.Container.{Container}
use Rattle.plan_state.specs.declared.state.World.{World}

-- a name that stands for a whole container, and the words of a list
abbrev pub IsWhole : Value → Type 0
IsWhole (Whole c) = Unit {0}
IsWhole _ = ⊥

abbrev pub IsList : Bind → Type 0
IsList (WholeList at) = Unit {0}
IsList _ = ⊥

-- A slot has a new range: the first fit while the old one is live.
pub record HasRegrown (old new : SlotStore) (slot len : ℕ) (span : Span) : Type 0 where
  pub fit : IsFirstFit (is_live_word old) len span.start
  pub low : span.start ≤ peak_of old
  pub len_is : span.len ≡ len
  pub places : (k : ℕ) → place_of new k
      ≡ (if nat_eq k slot then taken (place_of old slot).version span else place_of old k)
  pub live : live_words_of new + (place_of old slot).span.len ≡ live_words_of old + len
  pub used : slots_in_use new ≡ slots_in_use old
  pub peak : peak_of new ≡ max (peak_of old) (span.start + len)

-- The views of a slot's list are broken, and all other slots are as they were.
pub record HasBroken (old new : SafetyBook) (slot : ℕ) : Type 0 where
  pub slot_is : state_of new slot ≡ record (state_of old slot) { view = (state_of old slot).view + 1 }
  pub others : (k : ℕ) → k ≢ slot → state_of new k ≡ state_of old k

-- A list has a new range, and its views are broken.
pub record IsMoved (old new : World) (number : ℕ) (it : Container) (cap : ℕ) (span : Span) : Type 0 where
  pub now : Container
  pub bind_is : now.bind ≡ WholeList (record { start = span.start; cap = cap })
  pub slot_is : now.slot ≡ it.slot
  pub version_is : now.version ≡ it.version
  pub life_is : now.life ≡ it.life
  pub frame_is : now.frame ≡ it.frame
  pub name_is : now.name ≡ it.name
  pub line_is : now.line ≡ it.line
  pub regrown : HasRegrown old.store new.store it.slot.0 (cap + 1) span
  pub broken : HasBroken old.safety new.safety it.slot.0
  pub containers : new.containers.items ≡ slice_set old.containers.items number now
  pub created : new.created ≡ old.created + (cap + 1)
  pub rest : new ≡ record old {
    store = new.store;
    safety = new.safety;
    containers = new.containers;
    created = new.created;
  }
