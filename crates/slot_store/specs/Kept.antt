-- What the lists of a store keep.
use Rattle.std.specs.Prelude.{◌≡◌, ℕ, ◌+◌, ◌<◌, ◌≤◌, true, false, List, length, sum_by, vec_len, vec_capacity, Vec}
use Rattle.std.specs.declared.alloc.Global.{Global}
use Rattle.job_base.specs.declared.limits.TheConstants.{MOST_LIVE_WORDS}
use Rattle.job_handle.specs.declared.handle.Handle.{Handle}
use Rattle.job_handle.specs.Sets.{jobs_of}
use Rattle.slot_store.specs.declared.place.Place.{Place}
use Rattle.slot_store.specs.declared.place.Waiting.{Waiting}
use Rattle.slot_store.specs.declared.space.FreeSpace.{FreeSpace}
use Rattle.slot_store.specs.Spaces.{is_live}
use Rattle.slot_store.specs.Places.{place_at, in_use, users_of, held_once, has_live, some_live, live_len, used_once, taken_once, times, slot_in, job_in}

-- The free list of words (`space`), that of slots (`numbers`) and the list of held slots (`waiting`) say what the
-- slots' places say, and no word is in two ranges.
pub record AreKept (places : List Place) (space numbers : FreeSpace) (waiting : List Waiting)
    (count peak : ℕ) : Type 0 where
  pub words : (w : ℕ) → is_live space.holes.items space.top w ≡ some_live places w
  pub slots : (s : ℕ) → is_live numbers.holes.items numbers.top s ≡ in_use (place_at places s).state
  pub apart : (s t w : ℕ) → has_live (place_at places s) w ≡ true → has_live (place_at places t) w ≡ true → s ≡ t
  pub live : count ≡ sum_by live_len places
  pub few : count ≤ MOST_LIVE_WORDS
  pub below : space.top ≤ peak
  pub known : numbers.top ≤ length places
  pub held : (s : ℕ) → times waiting s ≡ held_once (place_at places s)

-- Room for all that is taken or held to come back, and for all that is taken to be held.
pub record HaveRoom (places : List Place) (space numbers : FreeSpace) (waiting : Vec Waiting Global) : Type 0 where
  pub words : vec_len space.holes + sum_by used_once places ≤ vec_capacity space.holes
  pub slots : vec_len numbers.holes + sum_by used_once places ≤ vec_capacity numbers.holes
  pub held : vec_len waiting + sum_by taken_once places ≤ vec_capacity waiting

-- A job that is noted with a held slot is one of its users; with the first n slots one is noted that isn't among those
-- that were completed when these slots were looked at.
pub record AreWaiting (places : List Place) (held : List Waiting) (n : ℕ) (completed : Handle) : Type 0 where
  pub within : n ≤ length held
  pub users : (k : ℕ) → k < length held → 0 < job_in held k
      → users_of (place_at places (slot_in held k)).state (job_in held k) ≡ true
  pub noted : (k : ℕ) → k < n → 0 < job_in held k
  pub pending : (k : ℕ) → k < n → jobs_of completed (job_in held k) ≡ false

-- the same numbers, with as much room or more
pub record IsGrown (old new : FreeSpace) : Type 0 where
  pub holes : new.holes.items ≡ old.holes.items
  pub top : new.top ≡ old.top
  pub size : vec_len new.holes ≡ vec_len old.holes
  pub room : vec_capacity old.holes ≤ vec_capacity new.holes
