-- What the seats of a pool know between two of its steps.
use Rattle.std.specs.Prelude.{◌≡◌, ℕ, ◌+◌, ◌≤◌, true, false, Some, None, List}
use Rattle.job_base.specs.declared.JobId.{JobId}
use Rattle.frame_core.specs.declared.plan.Plan.{Plan}
use Rattle.frame_core.specs.Know.{Know, begun, is_of, less_once}
use Rattle.frame_core.specs.Names.{job_pieces}
use Rattle.piece_claims.specs.Followers.{times}
use Rattle.steal_pool.specs.declared.place.Place.{Place}

-- It may open no piece. Who may open the pieces of a job and may open none any more has opened them all.
abbrev pub MayOpenNone : Know → Type 0
MayOpenNone k = (q : ℕ) → k.rights q ≡ false

-- no lease, no count owed, no duty and no piece to open
pub record IsIdle (k : Know) : Type 0 where
  pub lease : k.lease ≡ None
  pub owed : k.owed ≡ None
  pub dues : (j : ℕ) → k.dues j ≡ 0
  pub rights : MayOpenNone k

-- what a seat says of segments stays, and it forgets no job that it saw finished
pub record IsOn (old k : Know) : Type 0 where
  pub first : k.first ≡ old.first
  pub ended : k.ended ≡ old.ended
  pub opened : k.opened ≡ old.opened
  pub seen : (j : ℕ) → old.seen j ≡ true → k.seen j ≡ true

-- the lease, the owed count and the duties stay too
pub record IsSteady (old k : Know) : Type 0 where
  pub lease : k.lease ≡ old.lease
  pub owed : k.owed ≡ old.owed
  pub dues : (j : ℕ) → k.dues j ≡ old.dues j
  pub on : IsOn old k

-- one duty to release the job of that number ended, and nothing else
pub record IsReleased (j : ℕ) (old k : Know) : Type 0 where
  pub lease : k.lease ≡ old.lease
  pub owed : k.owed ≡ old.owed
  pub dues : (i : ℕ) → k.dues i ≡ less_once old.dues j i
  pub on : IsOn old k

-- it may open the pieces of the job of that number, from one on, and no others
pub record MayOpenFrom (plan : Plan) (j p : ℕ) (k : Know) : Type 0 where
  pub these : (q : ℕ) → p ≤ q → is_of plan j q ≡ true → k.rights q ≡ true
  pub low : (q : ℕ) → k.rights q ≡ true → p ≤ q
  pub of_job : (q : ℕ) → k.rights q ≡ true → is_of plan j q ≡ true

-- its duties are to release these jobs, each as often as it stands there
abbrev pub HasDues : List JobId → Know → Type 0
HasDues jobs k = (j : ℕ) → k.dues j ≡ times j jobs

-- the first seat, after some segments
pub record IsAt (i : ℕ) (k : Know) : Type 0 where
  pub idle : IsIdle k
  pub first : k.first ≡ true
  pub ended : k.ended ≡ i
  pub opened : k.opened ≡ false

-- the first seat, after some segments, where it opened the next one
pub record IsOpenAt (i : ℕ) (k : Know) : Type 0 where
  pub idle : IsIdle k
  pub first : k.first ≡ true
  pub ended : k.ended ≡ i
  pub opened : k.opened ≡ true

-- the same, where it began that segment, and has the lease of it
abbrev pub IsBegun : Plan → ℕ → Know → Type 0
IsBegun plan i k = (before : Know) × IsOpenAt i before × (k ≡ begun plan before (job_pieces plan + i) true)

-- a place whose seat is one of the board's, and idle
pub record IsReady {S : Type 0} (home : S → List ℕ) (know : S → Know) (name : List ℕ) (place : Place S) : Type 0 where
  pub held : S
  pub is : place.seat ≡ Some held
  pub at_home : home held ≡ name
  pub idle : IsIdle (know held)

-- a place whose seat is the first one of the board, after some segments
pub record IsFirst {S : Type 0} (home : S → List ℕ) (know : S → Know) (name : List ℕ) (i : ℕ)
    (place : Place S) : Type 0 where
  pub held : S
  pub is : place.seat ≡ Some held
  pub at_home : home held ≡ name
  pub after : IsAt i (know held)
