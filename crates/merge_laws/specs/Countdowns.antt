-- The countdowns between two atomic steps. Each piece has a state. Each job has the word `rest`, which counts down its
-- pieces, and the word
-- `wait`, which counts down its predecessors.
use Rattle.std.specs.Prelude.{◌≡◌, ◌≢◌, ℕ, suc, ◌+◌, ◌<◌, Bool, true, false, not, ◌&&◌, ◌⊎◌, List, nat_eq, if◌then◌else◌, Some, slice_get}
use Rattle.merge_laws.specs.Numbers.{has, tally}
use Rattle.merge_laws.specs.Jobs.{JobGraph}
use Rattle.merge_laws.specs.Claims.{Claims, IsFirst, total, owes, dues, has_segment_duty}

-- The states of a piece, in the order in which it goes through them.
abbrev pub closed_state : ℕ
closed_state = 0

abbrev pub open_state : ℕ
open_state = 1

abbrev pub begun_state : ℕ
begun_state = 2

abbrev pub ended_state : ℕ
ended_state = 3

abbrev pub is_unended : ℕ → Bool
is_unended n = not (nat_eq n ended_state)

-- how many pieces of the job aren't ended
abbrev pub unended_parts : JobGraph → (ℕ → ℕ) → ℕ → ℕ
unended_parts h state j = tally (λ p. h.is_part p j && is_unended (state p)) h.pieces

-- How many predecessors of the job aren't finished. A segment is finished when it is ended, a job when nothing of it is
-- left to count.
abbrev pub unfinished : JobGraph → (ℕ → ℕ) → (ℕ → ℕ) → ℕ → ℕ
unfinished h state rest j = (if is_unended (state (h.segment_at (h.starter j))) then 1 else 0)
    + tally (λ i. h.is_dependency i j && not (nat_eq (rest i) 0)) h.jobs

-- what has to be finished before the piece is opened is finished
pub record IsUnblocked (h : JobGraph) (state rest : ℕ → ℕ) (p : ℕ) : Type 0 where
  pub starter : (j : ℕ) → j < h.jobs → h.is_part p j ≡ true → state (h.segment_at (h.starter j)) ≡ ended_state
  pub dependencies : (i j : ℕ) → j < h.jobs → h.is_part p j ≡ true → h.is_dependency i j ≡ true → rest i ≡ 0
  pub before : (k : ℕ) → suc k < h.segments → p ≡ h.segment_at (suc k) → state (h.segment_at k) ≡ ended_state
  pub waits : (i k : ℕ) → k < h.segments → p ≡ h.segment_at k → h.waits k i ≡ true → rest i ≡ 0

-- The segments, as the first participant knows them: those below the number that it ended are ended, the next one is
-- open or begun where it says that it opened it and else closed, and all later ones are closed.
pub record IsLed (h : JobGraph) (state : ℕ → ℕ) (claims : List Claims) : Type 0 where
  pub place : ℕ
  pub first : Claims
  pub there : slice_get claims place ≡ Some first
  pub is_first : IsFirst first
  pub only : (k : ℕ) (v : Claims) → slice_get claims k ≡ Some v → IsFirst v → k ≡ place
  pub below : (k : ℕ) → k < h.segments → k < first.ended → state (h.segment_at k) ≡ ended_state
  pub next_opened : first.ended < h.segments → first.opened ≡ true
      → (state (h.segment_at first.ended) ≡ open_state) ⊎ (state (h.segment_at first.ended) ≡ begun_state)
  pub next_closed : first.ended < h.segments → first.opened ≡ false → state (h.segment_at first.ended) ≡ closed_state
  pub later : (k : ℕ) → k < h.segments → first.ended < k → state (h.segment_at k) ≡ closed_state

-- What holds between any two steps.
pub record AreExact (h : JobGraph) (state rest wait : ℕ → ℕ) (claims : List Claims) : Type 0 where
  -- REST: the pieces of the job that aren't ended, and those that are ended and for which a count is owed
  pub rest_is : (j : ℕ) → j < h.jobs → rest j ≡ unended_parts h state j + total (owes j) claims
  -- WAIT: the predecessors of the job that aren't finished, and those that are finished and for which there is a duty
  pub wait_is : (j : ℕ) → j < h.jobs → wait j ≡ unfinished h state rest j + total (dues j) claims
  -- A right to open is one to a closed piece of a job that waits for nothing. No two participants have a right to the
  -- same piece, and each closed piece of such a job may be opened by someone.
  pub rights_are : (k p : ℕ) (v : Claims) → slice_get claims k ≡ Some v → has p v.rights ≡ true
      → (state p ≡ closed_state) × (p < h.pieces) × ((j : ℕ) × (j < h.jobs) × (h.is_part p j ≡ true) × (wait j ≡ 0))
  pub rights_once : (i k p : ℕ) (u v : Claims) → slice_get claims i ≡ Some u → slice_get claims k ≡ Some v
      → has p u.rights ≡ true → has p v.rights ≡ true → i ≡ k
  pub rights_all : (p j : ℕ) → p < h.pieces → j < h.jobs → h.is_part p j ≡ true → wait j ≡ 0 → state p ≡ closed_state
      → (k : ℕ) × (v : Claims) × (slice_get claims k ≡ Some v) × (has p v.rights ≡ true)
  -- a piece that isn't closed is unblocked, and its job waits for nothing
  pub unblocked : (p : ℕ) → state p ≢ closed_state → IsUnblocked h state rest p
  pub started : (p j : ℕ) → p < h.pieces → j < h.jobs → h.is_part p j ≡ true → state p ≢ closed_state → wait j ≡ 0
  -- of a job that someone saw finished nothing is left to count
  pub seen : (k j : ℕ) (v : Claims) → slice_get claims k ≡ Some v → has j v.seen ≡ true → (j < h.jobs) × (rest j ≡ 0)
  -- segments are the first participant's, and so are the duties that come from them
  pub led : IsLed h state claims
  pub segment_duties : (k : ℕ) (v : Claims) → slice_get claims k ≡ Some v → has_segment_duty v.duties ≡ true → IsFirst v
