-- What making a container changes in the world, as each of its steps says it.
use Rattle.std.specs.Prelude.{ℕ, ◌+◌, ◌≡◌, ◌≢◌, ◌<◌, ◌≤◌, Bool, true, false, max, nat_eq, if◌then◌else◌, ℤ, List, [], ◌∷◌, ◌++◌, length, Option, None, Some, slice_set, Vec}
use Rattle.std.specs.declared.alloc.Global.{Global}
use Rattle.job_base.specs.declared.limits.TheConstants.{MOST_LIVE_WORDS, MOST_CREATED_WORDS}
use Rattle.frame_ast.specs.declared.script.Life.{Life}
use Rattle.frame_ast.specs.Effects.{is_tempjob}
use Rattle.frame_ast.specs.Ranges.{IsFirstFit}
use Rattle.frame_ast.specs.Refusals.{is_temp}
use Rattle.kernel_exec.specs.declared.binds.Bind.{Bind}
use Rattle.slot_store.specs.declared.slot.Taken.{Taken}
use Rattle.slot_store.specs.declared.store.SlotStore.{SlotStore}
use Rattle.slot_store.specs.Places.{in_use}
use Rattle.slot_store.specs.Stores.{place_of, peak_of, is_live_word, live_words_of, slots_in_use, taken}
use Rattle.safety_handle.specs.Entries.{state_of, fresh}
use Rattle.plan_state.specs.declared.state.Value.TheVariants.{Whole}
use Rattle.plan_state.specs.declared.state.Container.{Container}
use Rattle.plan_state.specs.declared.state.PlanFault.{PlanFault}
use Rattle.plan_state.specs.declared.state.PlanFault.TheVariants.{Jobs, Words, NoMemory}
use Rattle.plan_state.specs.declared.state.World.{World}

-- WORDS

-- Words that the store gave: the first fit, in a slot that was free.
pub record TakesWords (old new : SlotStore) (len : ℕ) (t : Taken) : Type 0 where
  pub fit : IsFirstFit (is_live_word old) len t.span.start
  pub low : t.span.start ≤ peak_of old
  pub len_is : t.span.len ≡ len
  pub free : in_use (place_of old t.slot.0).state ≡ false
  pub version : t.version.0 ≡ (place_of old t.slot.0).version
  pub places : (k : ℕ) → place_of new k ≡ (if nat_eq k t.slot.0 then taken t.version.0 t.span else place_of old k)
  pub live : live_words_of new ≡ live_words_of old + len
  pub used : slots_in_use new ≡ slots_in_use old + 1
  pub peak : peak_of new ≡ max (peak_of old) (t.span.start + len)

-- Words were taken for a new container, and no limit is passed by it.
pub record HasWords (old new : World) (len : ℕ) (t : Taken) : Type 0 where
  pub few : live_words_of old.store + len ≤ MOST_LIVE_WORDS
  pub small : old.created + len ≤ MOST_CREATED_WORDS
  pub taken : TakesWords old.store new.store len t
  pub created : new.created ≡ old.created + len
  pub rest : new ≡ record old { store = new.store; created = new.created }

-- words were taken, or the statement is to be refused since so many words more are too many
abbrev pub TakesUnlessFull : World → World → ℕ → Option Taken → Type 0
TakesUnlessFull old new len None = (MOST_LIVE_WORDS < live_words_of old.store + len) × (new ≡ old)
TakesUnlessFull old new len (Some t) = HasWords old new len t

-- the faults of taking so many words: too many in all, where the store has room for them, and want of memory
abbrev pub FailsToTake : PlanFault → World → ℕ → Type 0
FailsToTake NoMemory old len = Unit {0}
FailsToTake Jobs old len = ⊥
FailsToTake Words old len =
    (live_words_of old.store + len ≤ MOST_LIVE_WORDS) × (MOST_CREATED_WORDS < old.created + len)

-- LITERALS: the elements of one, where there is one

abbrev pub elements_of : Option (Vec ℤ Global) → Option (List ℤ)
elements_of None = None
elements_of (Some literal) = Some literal.items

-- THE BOOKS

-- a number more, where that holds
abbrev pub and_if : Bool → List ℕ → ℕ → List ℕ
and_if true xs c = xs ++ c ∷ []
and_if false xs c = xs

-- The lists of `temp` and `tempjob` containers have a container more, by its life.
pub record HasLife (old new : World) (life : Life) (c : ℕ) : Type 0 where
  pub temps : new.temps.items ≡ and_if (is_temp life) old.temps.items c
  pub tempjobs : new.tempjobs.items ≡ and_if (is_tempjob life) old.tempjobs.items c
  pub rest : new ≡ record old { temps = new.temps; tempjobs = new.tempjobs }

-- A container whose words were taken is known by its name, to the safety book and to the list of its life.
pub record IsEntered (old new : World) (line name : ℕ) (life : Life) (t : Taken) (bind : Bind) : Type 0 where
  pub it : Container
  pub bind_is : it.bind ≡ bind
  pub slot_is : it.slot ≡ t.slot
  pub version_is : it.version ≡ t.version
  pub life_is : it.life ≡ life
  pub frame_is : it.frame ≡ old.frame
  pub name_is : it.name ≡ name
  pub line_is : it.line ≡ line
  pub enrolled : state_of new.safety t.slot.0 ≡ fresh t.version.0
  pub others : (k : ℕ) → k ≢ t.slot.0 → state_of new.safety k ≡ state_of old.safety k
  pub containers : new.containers.items ≡ old.containers.items ++ it ∷ []
  pub values : new.values.items ≡ slice_set old.values.items name (Whole (length old.containers.items))
  pub temps : new.temps.items ≡ and_if (is_temp life) old.temps.items (length old.containers.items)
  pub tempjobs : new.tempjobs.items ≡ and_if (is_tempjob life) old.tempjobs.items (length old.containers.items)
  pub rest : new ≡ record old {
    safety = new.safety;
    containers = new.containers;
    values = new.values;
    temps = new.temps;
    tempjobs = new.tempjobs;
  }
