-- What slots stand for, and which words are live by it.
use Rattle.std.specs.Prelude.{ℕ, suc, Bool, true, false, ◌&&◌, ◌||◌, if◌then◌else◌, nat_eq, List, [], ◌∷◌, slice_index_or, count_by}
use Rattle.frame_ast.specs.Jobs.{Jobs, nobody}
use Rattle.job_handle.specs.Sets.{jobs_of}
use Rattle.slot_store.specs.declared.place.State.{State}
use Rattle.slot_store.specs.declared.place.State.TheVariants.{Free, Taken, Held}
use Rattle.slot_store.specs.declared.place.Place.{Place}
use Rattle.slot_store.specs.declared.lot.Lot.{Lot}
use Rattle.slot_store.specs.declared.lot.Standing.{Standing}
use Rattle.slot_store.specs.declared.lot.Standing.TheVariants.{Free as Unused, Taken as Used, Held as Waits}
use Rattle.job_handle.specs.declared.handle.Handle.{Handle}
use Rattle.slot_store.specs.declared.place.Waiting.{Waiting}
use Rattle.slot_store.specs.Spaces.{no_span, has_word}

-- what a lot says with the set of its slot: its jobs count where the range is held
abbrev pub state_by : Standing → Handle → State
state_by Unused users = Free
state_by Used users = Taken
state_by Waits users = Held users

abbrev pub placed : Lot → Handle → Place
placed x users = record { state = state_by x.standing users; version = x.version; span = x.span }

-- the places of slots that have these lots, and these sets by their numbers
abbrev pub places_in : List Lot → (ℕ → Handle) → List Place
places_in [] sets = []
places_in (x ∷ more) sets = placed x (sets 0) ∷ places_in more (λ s. sets (suc s))

-- the set of a slot: those past the last set have the one without jobs
abbrev pub set_at : List Handle → Handle → ℕ → Handle
set_at users none s = slice_index_or users s none

-- a slot that was never taken
abbrev pub unused : Place
unused = record { state = Free; version = 0; span = no_span }

abbrev pub in_use : State → Bool
in_use Free = false
in_use Taken = true
in_use (Held users) = true

abbrev pub is_taken : State → Bool
is_taken Free = false
is_taken Taken = true
is_taken (Held users) = false

abbrev pub is_held : State → Bool
is_held Free = false
is_held Taken = false
is_held (Held users) = true

abbrev pub place_at : List Place → ℕ → Place
place_at places s = slice_index_or places s unused

-- the jobs for whose sake a range is held
abbrev pub users_of : State → Jobs
users_of Free = nobody
users_of Taken = nobody
users_of (Held users) = jobs_of users

-- the words of a range are live while its slot is taken or held
abbrev pub has_live : Place → ℕ → Bool
has_live p w = in_use p.state && has_word p.span w

abbrev pub some_live : List Place → ℕ → Bool
some_live [] w = false
some_live (p ∷ more) w = has_live p w || some_live more w

abbrev pub live_len : Place → ℕ
live_len p = if in_use p.state then p.span.len else 0

abbrev pub used_once : Place → ℕ
used_once p = if in_use p.state then 1 else 0

abbrev pub taken_once : Place → ℕ
taken_once p = if is_taken p.state then 1 else 0

abbrev pub held_once : Place → ℕ
held_once p = if is_held p.state then 1 else 0

-- how often a slot is on the list of those that are held
abbrev pub times : List Waiting → ℕ → ℕ
times held s = count_by (λ (x : Waiting). nat_eq x.slot s) held

abbrev pub slot_in : List Waiting → ℕ → ℕ
slot_in held k = (slice_index_or held k (record { slot = 0; job = 0 })).slot

-- the job that it was last seen to wait for, or 0
abbrev pub job_in : List Waiting → ℕ → ℕ
job_in held k = (slice_index_or held k (record { slot = 0; job = 0 })).job
