-- What a planner stands for: the state that the script is in, where ranges start, and the plan so far.
--
-- Decided here is one relation, `Stands`, with a field for each table that a planner keeps. What the plan so far does
-- is said by `IsPlanned` of plan_laws, for every whole plan that goes on from here. How statements keep it is said in
-- `Steps`.
use Rattle.std.specs.Prelude.{ℕ, suc, ◌+◌, ◌≡◌, ◌<◌, ◌≤◌, ◌^◌, true, false, ◌&&◌, nat_eq, List, ◌++◌, length, get_or, Option, None, Some, slice_get, ℤ, Vec}
use Rattle.std.specs.declared.alloc.Global.{Global}
use Rattle.job_base.specs.declared.limits.TheConstants.{MOST_CREATED_WORDS, MOST_ELEMENTS}
use Rattle.frame_ast.specs.declared.kernel.Kernel.{Kernel}
use Rattle.frame_ast.specs.Checked.{IsChecked}
use Rattle.frame_ast.specs.Conflicts.{Uses}
use Rattle.frame_ast.specs.Contents.{words_of}
use Rattle.frame_ast.specs.Effects.{is_tempjob}
use Rattle.frame_ast.specs.Jobs.{Book}
use Rattle.frame_ast.specs.Laws.{IsKnown}
use Rattle.frame_ast.specs.Orders.{Setting}
use Rattle.frame_ast.specs.Refusals.{is_temp}
use Rattle.frame_ast.specs.States.{ScriptState, is_live, live_words}
use Rattle.frame_ast.specs.States as states
use Rattle.tree_laws.specs.Same.{SameKernel}
use Rattle.job_handle.specs.declared.handle.Handle.{Handle}
use Rattle.job_handle.specs.Sets.{jobs_of}
use Rattle.job_handle.specs.Books.{StandsFor}
use Rattle.job_defer.specs.Guarded.{IsGuarded, GuardsContents, GuardsWords, GuardsFootprint}
use Rattle.slot_store.specs.declared.place.State.{State}
use Rattle.slot_store.specs.Places.{in_use, is_held, is_taken, users_of}
use Rattle.slot_store.specs.Stores.{place_of, peak_of, live_words_of, slots_in_use}
use Rattle.safety_handle.specs.declared.tag.Tag.{Tag}
use Rattle.safety_handle.specs.Uses.{Latest, StandForUses, users_of as latest_users}
use Rattle.safety_handle.specs.Entries.{state_of}
use Rattle.safety_handle.specs.Checks.{is_current}
use Rattle.frame_core.specs.declared.plan.JobPlan.{JobPlan}
use Rattle.frame_core.specs.Names.{pieces_before}
use Rattle.frame_core.specs.Ordered.{AreCodesOf, ops_count}
use Rattle.plan_laws.specs.Binds.{bind_of}
use Rattle.plan_laws.specs.Drafts.{Draft}
use Rattle.plan_laws.specs.Planned.{Outline, IsPlanned}
use Rattle.plan_state.specs.declared.state.Value.{Value}
use Rattle.plan_state.specs.declared.state.Value.TheVariants.{Dead, Whole, Slice, View, Jobs}
use Rattle.plan_state.specs.declared.state.Container.{Container}
use Rattle.plan_state.specs.declared.state.Planner.{Planner}
use Rattle.plan_state.specs.declared.state.World.{World}

-- NAMES

abbrev pub jobs_at : Option Handle → states.Value
jobs_at None = states.Dead
jobs_at (Some h) = states.Handle (jobs_of h)

abbrev pub value_for : List Handle → Value → states.Value
value_for handles Dead = states.Dead
value_for handles (Whole c) = states.Whole c
value_for handles (Slice c start len) = states.Slice c start len
value_for handles (View c number) = states.View c number
value_for handles (Jobs k) = jobs_at (slice_get handles k)

-- what a value names is there: so many containers were made, and so many names of handles have a place
abbrev pub IsThere : ℕ → ℕ → Value → Type 0
IsThere made handles Dead = Unit {0}
IsThere made handles (Whole c) = c < made
IsThere made handles (Slice c start len) = (c < made) × (start ≤ MOST_ELEMENTS)
IsThere made handles (View c number) = c < made
IsThere made handles (Jobs k) = k < handles

-- Each name stands for what it does in the script, and no two names of handles share a place.
pub record AreNames (values : List Value) (handles : List Handle) (made : ℕ) (s : ScriptState) : Type 0 where
  pub are : (n : ℕ) (v : Value) → slice_get values n ≡ Some v → value_for handles v ≡ s.values n
  pub there : (n : ℕ) (v : Value) → slice_get values n ≡ Some v → IsThere made (length handles) v
  pub apart : (n m k : ℕ) → slice_get values n ≡ Some (Jobs k) → slice_get values m ≡ Some (Jobs k) → n ≡ m

-- CONTAINERS. What the books know of one, by the slot and the version that it was made with.

abbrev pub tag_of : Container → Option ℕ → Tag
tag_of c view = record { slot = c.slot; version = c.version; view = view }

-- a range is held for jobs that stand for all users
pub record IsHeldFor (b : Book) (state : State) (u : Uses) : Type 0 where
  pub held : is_held state ≡ true
  pub latest : Latest
  pub stands : StandForUses b latest u
  pub users : (j : ℕ) → users_of state j ≡ latest_users latest j

pub record IsContainer (w : World) (s : ScriptState) (found : List ℕ) (c : ℕ) (it : Container) : Type 0 where
  -- the bind rests on where its range starts, and on the form of its contents
  pub bind : it.bind ≡ bind_of (get_or found (s.range c) 0) (s.contents c)
  pub range : s.range c < s.takes
  pub life : it.life ≡ s.life c
  pub making : (it.frame ≡ (s.making c).frame) × (it.name ≡ (s.making c).name) × (it.line ≡ (s.making c).line)
  pub named : it.name < length w.values.items
  -- it is alive exactly where its slot is live with its version
  pub alive : is_current (state_of w.safety it.slot.0) (tag_of it None) ≡ s.alive c
  pub uses : s.alive c ≡ true → StandForUses s.book (state_of w.safety it.slot.0).latest (s.uses c)
  pub view : s.alive c ≡ true → (state_of w.safety it.slot.0).view ≡ s.view c
  -- its slot has its words as long as these are live: taken while it is alive, and then held for its users
  pub in_use : is_live s c ≡ true → in_use (place_of w.store it.slot.0).state ≡ true
  pub span : is_live s c ≡ true → (place_of w.store it.slot.0).span
      ≡ record { start = get_or found (s.range c) 0; len = words_of (s.contents c) }
  pub taken : (is_taken (place_of w.store it.slot.0).state
      && nat_eq (place_of w.store it.slot.0).version it.version.0) ≡ s.alive c
  -- a slot is given again with a later version
  pub older : s.alive c ≡ false → it.version.0 < (place_of w.store it.slot.0).version
  -- and no version is above the number of the container that has it
  pub low : it.version.0 ≤ c
  pub held : s.alive c ≡ false → is_live s c ≡ true → IsHeldFor s.book (place_of w.store it.slot.0).state (s.uses c)

-- each slot in use has one live container
pub record IsOwned (w : World) (s : ScriptState) (slot : ℕ) : Type 0 where
  pub container : ℕ
  pub it : Container
  pub has : slice_get w.containers.items container ≡ Some it
  pub slot_is : it.slot.0 ≡ slot
  pub live : is_live s container ≡ true

pub record AreContainers (w : World) (s : ScriptState) (found : List ℕ) : Type 0 where
  pub made : length w.containers.items ≡ s.made
  pub each : (c : ℕ) (it : Container) → slice_get w.containers.items c ≡ Some it → IsContainer w s found c it
  pub slots : (slot : ℕ) → in_use (place_of w.store slot).state ≡ true → IsOwned w s slot
  pub once : (c d : ℕ) (it other : Container)
      → slice_get w.containers.items c ≡ Some it
      → slice_get w.containers.items d ≡ Some other
      → is_live s c ≡ true
      → is_live s d ≡ true
      → it.slot.0 ≡ other.slot.0
      → c ≡ d
  pub versions : (slot : ℕ) → (place_of w.store slot).version ≤ s.made

-- FRAMES. The `temp` containers that are alive, and the `tempjob` containers by the frame of their making.

pub record AreTemps (temps : List ℕ) (s : ScriptState) : Type 0 where
  pub all : (c : ℕ)
      → c < s.made
      → is_temp (s.life c) ≡ true
      → s.alive c ≡ true
      → (k : ℕ) × (slice_get temps k ≡ Some c)
  pub each : (k c : ℕ) → slice_get temps k ≡ Some c → (c < s.made) × (is_temp (s.life c) ≡ true)

-- The first of them, up to a place, were made four frames ago or earlier.
pub record AreTempJobs (tempjobs : List ℕ) (overdue : ℕ) (s : ScriptState) : Type 0 where
  pub all : (c : ℕ) → c < s.made → is_tempjob (s.life c) ≡ true → (k : ℕ) × (slice_get tempjobs k ≡ Some c)
  pub each : (k c : ℕ) → slice_get tempjobs k ≡ Some c → (c < s.made) × (is_tempjob (s.life c) ≡ true)
  pub rising : (k l c d : ℕ) → k < l → slice_get tempjobs k ≡ Some c → slice_get tempjobs l ≡ Some d → c < d
  pub within : overdue ≤ length tempjobs
  pub past : (k c : ℕ) → k < overdue → slice_get tempjobs k ≡ Some c → (s.making c).frame + 4 ≤ s.frame
  pub ahead : (k c : ℕ) → overdue ≤ k → slice_get tempjobs k ≡ Some c → s.frame < (s.making c).frame + 4

-- containers are made in the order of frames
pub record AreFrames (s : ScriptState) : Type 0 where
  pub order : (c d : ℕ) → c ≤ d → d < s.made → (s.making c).frame ≤ (s.making d).frame
  pub past : (c : ℕ) → c < s.made → (s.making c).frame ≤ s.frame

-- KERNELS. The plan has copies of those that its jobs have used, and the code of each copy.

-- the copy of a kernel, at a place among the plan's
pub record IsCopy (p : Planner) (g : Setting) (k place : ℕ) : Type 0 where
  pub old : Kernel
  pub new : Kernel
  pub is_old : slice_get g.kernels k ≡ Some old
  pub is_new : slice_get p.draft.kernels.items place ≡ Some new
  pub same : SameKernel old new

-- the guarded copy of one
pub record IsGuardedCopy (p : Planner) (g : Setting) (k place : ℕ) : Type 0 where
  pub old : Kernel
  pub new : Kernel
  pub is_old : slice_get g.kernels k ≡ Some old
  pub is_new : slice_get p.draft.kernels.items place ≡ Some new
  pub guarded : IsGuarded old new
  pub contents : GuardsContents old new
  pub words : GuardsWords old new
  pub footprint : GuardsFootprint old new

pub record AreKernels (p : Planner) (g : Setting) : Type 0 where
  pub each : length p.draft.copies_of.items ≡ length g.kernels
  pub each_guard : length p.draft.guards_of.items ≡ length g.kernels
  pub copies : (k place : ℕ) → slice_get p.draft.copies_of.items k ≡ Some (Some place) → IsCopy p g k place
  pub guards : (k place : ℕ) → slice_get p.draft.guards_of.items k ≡ Some (Some place) → IsGuardedCopy p g k place
  pub checked : (place : ℕ) (k : Kernel) → slice_get p.draft.kernels.items place ≡ Some k → IsChecked k
  pub coded : AreCodesOf p.draft.kernels.items p.draft.codes.items

-- NUMBERS: those that are kept, and what keeps them small. So many statements were gone through.

pub record AreNumbers (p : Planner) (begun : ScriptState) (n : ℕ) (s : ScriptState) : Type 0 where
  pub frame : p.world.frame ≡ s.frame
  pub passing : p.world.passing ≡ s.passing
  pub created : p.world.created ≡ s.created
  pub before : p.world.jobs_before ≡ begun.book.count
  pub pieces : p.draft.pieces ≡ pieces_before p.draft.jobs.items (length p.draft.jobs.items)
  pub live_words : live_words_of p.world.store ≡ live_words s
  -- what is small
  pub frames_few : s.frame ≤ n
  pub made_few : s.made ≤ n
  pub created_few : s.created ≤ MOST_CREATED_WORDS
  pub peak_low : peak_of p.world.store ≤ s.created
  pub slots_few : slots_in_use p.world.store ≤ s.made
  pub ops_few : ops_count p.draft.segments.items + length p.draft.ops.items ≤ suc (n + p.world.overdue)
  pub segments_few : length p.draft.segments.items ≤ n
  pub literals_few : length p.draft.literals.items ≤ suc n
  pub kernels_few : length p.draft.kernels.items ≤ n
  pub handles_few : length p.world.handles.items ≤ n

-- THE PLAN SO FAR

abbrev pub draft_of : Planner → Draft
draft_of p = record {
  segments = p.draft.segments.items;
  jobs = p.draft.jobs.items;
  waits = p.draft.waits.items;
  ops = p.draft.ops.items;
}

-- A whole plan that goes on from what was found so far: its names are those of the script, its kernels, literals and
-- jobs begin with those so far, ranges start where they were found, its words hold all ranges, and it begins with the
-- same cells.
pub record Agrees (p : Planner) (g : Setting) (begun : ScriptState) (found : List ℕ) (x : Outline) : Type 0 where
  pub begins : x.begun ≡ begun
  pub names : x.plan.names ≡ g.names
  pub kernels : (later : List Kernel) × (x.plan.kernels.items ≡ p.draft.kernels.items ++ later)
  pub literals : (later : List (Vec ℤ Global)) × (x.plan.literals.items ≡ p.draft.literals.items ++ later)
  pub jobs : (later : List JobPlan) × (x.plan.jobs.items ≡ p.draft.jobs.items ++ later)
  pub starts : (k : ℕ) → k < length found → x.starts k ≡ get_or found k 0
  pub cells : peak_of p.world.store ≤ x.plan.cells
  pub first : x.plan.first.items ≡ p.draft.first.items
  pub small : x.plan.cells < 2 ^ 32

-- WHAT STATEMENTS SEE. A world is that of a script in this state, where the ranges taken so far start at these words.
pub record Knows (w : World) (g : Setting) (s : ScriptState) (found : List ℕ) : Type 0 where
  pub known : IsKnown s
  pub names : AreNames w.values.items w.handles.items (length w.containers.items) s
  pub each : length w.values.items ≡ length g.names
  pub containers : AreContainers w s found
  pub takes : length found ≡ s.takes
  pub temps : AreTemps w.temps.items s
  pub tempjobs : AreTempJobs w.tempjobs.items w.overdue s
  pub frames : AreFrames s
  pub jobs : StandsFor w.jobs s.book

-- A planner stands for the state of the script after n statements, of a section that began in another state: its world
-- is that of the script, and its draft does what the script did.
pub record Stands (p : Planner) (g : Setting) (begun : ScriptState) (n : ℕ) (s : ScriptState)
    (found : List ℕ) : Type 0 where
  pub knows : Knows p.world g s found
  pub numbers : AreNumbers p begun n s
  pub kernels : AreKernels p g
  -- for every whole plan that goes on from here
  pub planned : (x : Outline) → Agrees p g begun found x → IsPlanned x s (draft_of p)
