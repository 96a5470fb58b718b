-- A new frame, in the code's terms.
use Rattle.std.specs.Prelude.{ℕ, ◌+◌, ◌-◌, ◌^◌, ◌≡◌, ◌<◌, ◌≤◌, ◌⊎◌, Bool, true, false, ◌&&◌, not, nat_eq, if◌then◌else◌, List, [], ◌∷◌, ◌++◌, length, Option, None, Some, slice_get}
use Rattle.frame_ast.specs.Orders.{Setting}
use Rattle.frame_ast.specs.Refusals.{is_temp}
use Rattle.frame_ast.specs.States.{ScriptState}
use Rattle.slot_store.specs.Places.{is_taken}
use Rattle.slot_store.specs.Stores.{place_of, peak_of, slots_in_use}
use Rattle.frame_core.specs.declared.plan.Act.TheVariants.{Report}
use Rattle.frame_core.specs.declared.plan.Op.{Op}
use Rattle.plan_laws.specs.Disposing.{with_alive}
use Rattle.plan_laws.specs.Frames.{report_ops}
use Rattle.plan_state.specs.declared.state.Container.{Container}
use Rattle.plan_state.specs.declared.state.World.{World}
use Rattle.plan_statements.specs.Endings.{IsGiven}
use Rattle.plan_state.specs.Stands.{AreContainers, AreTemps, Knows}

-- the store has the slot of a container with its version
abbrev pub is_kept : World → Container → Bool
is_kept w it = is_taken (place_of w.store it.slot.0).state && nat_eq
    (place_of w.store it.slot.0).version it.version.0

-- numbers that are small enough to go on
abbrev pub AreSmall : List Container → Type 0
AreSmall containers = (c : ℕ) (it : Container)
    → slice_get containers c ≡ Some it
    → (it.version.0 < 2 ^ 32 - 1) × (it.frame + 3 < 2 ^ 32)

-- the places of a list can be counted past
abbrev pub HaveRoom : List ℕ → Type 0
HaveRoom places = (k c : ℕ) → slice_get places k ≡ Some c → k + 1 < 2 ^ 32

-- OVERDUE CONTAINERS

-- The container was made so long ago, and is the next of these.
pub record IsDue (w : World) (it : Container) : Type 0 where
  pub number : ℕ
  pub at : slice_get w.tempjobs.items w.overdue ≡ Some number
  pub has : slice_get w.containers.items number ≡ Some it
  pub old : it.frame + 3 ≤ w.frame

-- No container is: all were seen, or the next is younger.
pub record IsYoung (w : World) : Type 0 where
  pub number : ℕ
  pub it : Container
  pub at : slice_get w.tempjobs.items w.overdue ≡ Some number
  pub has : slice_get w.containers.items number ≡ Some it
  pub young : w.frame < it.frame + 3

abbrev pub IsNextDue : World → Option Container → Type 0
IsNextDue w None = (length w.tempjobs.items ≤ w.overdue) ⊎ IsYoung w
IsNextDue w (Some it) = IsDue w it

-- It is reported, where it is alive.
abbrev pub IsReported : World → List Op → List Op → ℕ → Container → Type 0
IsReported w old new line it = new
    ≡ old ++ (if is_kept w it then record { line = line; name = it.name; act = Report it.line } ∷ [] else [])

-- those seen so far, in a frame from the one before
pub record AreSeen (w : World) (s : ScriptState) (overdue : ℕ) : Type 0 where
  pub within : overdue ≤ length w.tempjobs.items
  pub past : (k c : ℕ) → k < overdue → slice_get w.tempjobs.items k ≡ Some c
      → (s.making c).frame + 4 ≤ s.frame + 1
  pub ahead : (k c : ℕ) → overdue ≤ k → slice_get w.tempjobs.items k ≡ Some c
      → s.frame + 1 < (s.making c).frame + 4

-- Each container that is overdue now has its report, in the order of their making.
pub record AreReported (old new : World) (line : ℕ) (ops : List Op) : Type 0 where
  pub said : (g : Setting) (s : ScriptState) (found : List ℕ)
      → Knows old g s found
      → old.frame ≡ s.frame
      → (ops ≡ report_ops s line s.made) × AreSeen old s new.overdue
  pub count : length ops + old.overdue ≤ new.overdue
  pub rest : new ≡ record old { overdue = new.overdue }

-- CONTAINERS THAT LIVE FOR ONE FRAME

-- One ends, where it is alive.
abbrev pub IsOver : World → World → ℕ → Container → Type 0
IsOver old new number it =
    (is_kept old it ≡ false) × (new ≡ old)
    ⊎ (is_kept old it ≡ true) × IsGiven old new number

abbrev pub stays : ScriptState → ℕ → Bool
stays s c = s.alive c && not (is_temp (s.life c))

-- They have no users.
abbrev pub AreUnused : ScriptState → Type 0
AreUnused s = (c j : ℕ) → is_temp (s.life c) ≡ true → (s.uses c).users j ≡ false

-- Those that were made in this frame end.
pub record AreOver (old new : World) : Type 0 where
  pub containers : (s : ScriptState) (found : List ℕ)
      → AreContainers old s found
      → AreTemps old.temps.items s
      → AreUnused s
      → AreContainers new (with_alive (stays s) s) found
  pub used : slots_in_use new.store ≤ slots_in_use old.store
  pub peak : peak_of new.store ≡ peak_of old.store
  pub temps : new.temps.items ≡ []
  pub rest : new ≡ record old { temps = new.temps; safety = new.safety; store = new.store }
