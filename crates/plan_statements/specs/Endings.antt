-- Containers that end, in the code's terms: what may be disposed, and what the books keep of it afterwards.
use Rattle.std.specs.Prelude.{ℕ, ◌-◌, ◌^◌, ◌≡◌, ◌≢◌, ◌<◌, ◌≤◌, true, false, nat_eq, if◌then◌else◌, List, [], ◌∷◌, length, Option, None, Some, slice_get, Result, Vec}
use Rattle.std.specs.declared.alloc.Global.{Global}
use Rattle.std.specs.Result.{IfOk, result_err}
use Rattle.job_base.specs.declared.Refusal.{Refusal}
use Rattle.frame_ast.specs.declared.script.Order.TheVariants.{Dispose}
use Rattle.frame_ast.specs.Jobs.{Jobs as JobSet, Book}
use Rattle.frame_ast.specs.Laws.{AreUpTo}
use Rattle.frame_ast.specs.Lists.{first_some}
use Rattle.frame_ast.specs.Orders.{Setting}
use Rattle.frame_ast.specs.Refusals.{Refused, disposed, pending}
use Rattle.frame_ast.specs.Schedules.{need_of}
use Rattle.frame_ast.specs.States.{ScriptState, container_at}
use Rattle.job_handle.specs.Sets.{jobs_of}
use Rattle.job_handle.specs.Books.{StandsFor, count_of}
use Rattle.job_handle.specs.declared.handle.Handle.{Handle}
use Rattle.slot_store.specs.Places.{is_taken, users_of}
use Rattle.slot_store.specs.Stores.{place_of, peak_of, slots_in_use, given, held, settled}
use Rattle.safety_handle.specs.Entries.{state_of}
use Rattle.safety_handle.specs.Uses.{users_of as latest_users}
use Rattle.plan_state.specs.declared.state.Value.{Value}
use Rattle.plan_state.specs.declared.state.Value.TheVariants.{Whole, Slice, View}
use Rattle.plan_state.specs.declared.state.Container.{Container}
use Rattle.plan_state.specs.declared.answer.Answer.{Answer}
use Rattle.plan_state.specs.declared.state.World.{World}
use Rattle.plan_state.specs.Accesses.{refused_as}
use Rattle.plan_state.specs.Stands.{Knows}
use Rattle.plan_state.specs.Answers.{Answers, IsReadyFor}

-- A `dispose` without `after`, whose text has no names of handles: what it needs, and what it answers.

abbrev pub IsReadyToDispose : World → ℕ → Type 0
IsReadyToDispose w name = (after : Vec ℕ Global) × IsReadyFor w (Dispose name after None)

abbrev pub Disposes : World → World → ℕ → Answer → Type 0
Disposes old new name answer = (after : Vec ℕ Global) → Answers old new (Dispose name after None) answer

-- the container that a value stands for, or is a part of
abbrev pub number_of : Value → Option ℕ
number_of (Whole c) = Some c
number_of (Slice c start len) = Some c
number_of (View c number) = Some c
number_of _ = None

-- the causes for which a disposal is refused that waits for some jobs
abbrev pub disposal : ScriptState → ℕ → JobSet → Option Refused
disposal s name after = first_some (disposed s (name ∷ []) ∷ pending s after (need_of s name true ∷ []) ∷ [])

-- An answer is the container of a name, which may be disposed once some jobs ended, or why it may not.
abbrev pub IsDisposable : World → ℕ → JobSet → Result ℕ Refusal → Type 0
IsDisposable w name after answer = (g : Setting) (s : ScriptState) (found : List ℕ)
    → Knows w g s found
    → (refused_as (result_err answer) name ≡ disposal s name after)
    × IfOk answer (λ c. (container_at s name ≡ c) × (c < length w.containers.items))

-- A container is taken in the store, with a version that can rise.
abbrev pub CanEnd : World → Option Container → Type 0
CanEnd w None = ⊥
CanEnd w (Some it) =
    (is_taken (place_of w.store it.slot.0).state ≡ true)
    × ((place_of w.store it.slot.0).version < 2 ^ 32 - 1)

-- Beside that, the book of jobs knows its users, and those for whom ranges are held.
abbrev pub CanHold : World → Option Container → Type 0
CanHold w None = ⊥
CanHold w (Some it) =
    CanEnd w (Some it)
    × AreUpTo (count_of w.jobs) (latest_users (state_of w.safety it.slot.0).latest)
    × ((k : ℕ) → AreUpTo (count_of w.jobs) (users_of (place_of w.store k).state))

-- The safety book knows a container no longer.
pub record IsReleased (old new : World) (slot : ℕ) : Type 0 where
  pub here : state_of new.safety slot ≡ record (state_of old.safety slot) { live = false }
  pub others : (k : ℕ) → k ≢ slot → state_of new.safety k ≡ state_of old.safety k

-- A container ends, and its words come back at once.
pub record IsGiven (old new : World) (number : ℕ) : Type 0 where
  pub it : Container
  pub has : slice_get old.containers.items number ≡ Some it
  pub released : IsReleased old new it.slot.0
  pub places : (k : ℕ) → place_of new.store k
      ≡ (if nat_eq k it.slot.0 then given (place_of old.store it.slot.0) else place_of old.store k)
  pub used : slots_in_use new.store ≤ slots_in_use old.store
  pub peak : peak_of new.store ≡ peak_of old.store
  pub rest : new ≡ record old { safety = new.safety; store = new.store }

-- A container ends, and its words come back once its users are completed, as the book has them.
pub record IsHeldBack (old new : World) (number : ℕ) : Type 0 where
  pub it : Container
  pub has : slice_get old.containers.items number ≡ Some it
  pub released : IsReleased old new it.slot.0
  pub users : Handle
  pub users_are : jobs_of users ≡ latest_users (state_of old.safety it.slot.0).latest
  pub places : (b : Book) → StandsFor old.jobs b → (k : ℕ) → place_of new.store k
      ≡ settled b (if nat_eq k it.slot.0 then held
      (place_of old.store it.slot.0) users else place_of old.store k)
  pub used : slots_in_use new.store ≤ slots_in_use old.store
  pub peak : peak_of new.store ≡ peak_of old.store
  pub rest : new ≡ record old { safety = new.safety; store = new.store }
