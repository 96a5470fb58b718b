-- Which pieces of a plan are given to whom.
use Rattle.std.specs.Prelude.{◌≡◌, ℕ, ◌+◌, ◌-◌, ◌<◌, ◌≤◌, ◌↔◌, IsTrue, length}
use mathlib.Core.Option.{some}
use lib.ListN.{get_elem?}
use Rattle.atomic_table.specs.Table.{State}
use Rattle.atomic_table.specs.declared.shared.Seat.{Seat}
use Rattle.frame_core.specs.declared.piece.Piece.TheVariants.{OfJob}
use Rattle.frame_core.specs.declared.plan.Plan.{Plan}
use Rattle.frame_core.specs.Names.{job_pieces, IsJobOf}
use Rattle.frame_core.specs.Ordered.{IsWellOrderedPlan}
use Rattle.frame_core.specs.Pieces.{number_of, IsPieceOf}
use Rattle.job_base.specs.declared.JobId.{JobId}
use Rattle.piece_claims.specs.declared.claims.Claimed.{Claimed}
use Rattle.piece_claims.specs.declared.claims.Claims.{Claims}
use Rattle.piece_claims.specs.declared.claims.Spent.{Spent}
use Rattle.piece_claims.specs.declared.claims.Spent.TheVariants.{NoJob, AllGiven}
use Rattle.piece_claims.specs.declared.view.View.{View}
use Rattle.piece_claims.specs.declared.view.View.TheVariants.{Saw, Given}
use Rattle.piece_claims.specs.Given.{AreGiven, IsGivenTo}

-- There is a count for each job.
abbrev pub AreClaimsOf : Plan → Claims → Type 0
AreClaimsOf plan claims = claims.table.shared.key ≡ length plan.jobs.items

-- The token is given so many places of the job, from the first one on.
pub record HasPlaces (claims : Claims) (job first count : ℕ) (token : Seat ℕ View) : Type 0 where
  pub home : token.table_id ≡ claims.table.shared.table_id
  pub given : token.me.0 ≡ Given job first count

-- The token saw so many places of the job given, or more.
pub record SawAll (claims : Claims) (job count : ℕ) (token : Seat ℕ View) : Type 0 where
  pub home : token.table_id ≡ claims.table.shared.table_id
  pub seen : ℕ
  pub saw : token.me.0 ≡ Saw job seen
  pub all : count ≤ seen

-- The pieces, one at least, are those of their job and places, and just these places are given to who has them.
pub record IsOwn (plan : Plan) (claims : Claims) (claimed : Claimed) : Type 0 where
  pub some : 0 < claimed.count
  pub there : (k : ℕ) → k < claimed.count → IsPieceOf plan (OfJob claimed.job (claimed.place + k))
  pub number : (k : ℕ) → k < claimed.count
      → claimed.piece.0 + k ≡ number_of plan (OfJob claimed.job (claimed.place + k))
  pub token : HasPlaces claims claimed.job claimed.place claimed.count claimed.token
  pub more : IsTrue claimed.more ↔ IsPieceOf plan (OfJob claimed.job (claimed.place + claimed.count))

-- The pieces are some of a job, and given to who has them.
pub record IsGiven (plan : Plan) (claims : Claims) (claimed : Claimed) : Type 0 where
  pub pieces : claimed.piece.0 + claimed.count ≤ job_pieces plan
  pub own : IsOwn plan claims claimed

-- There is no such job, or the token saw all its pieces given.
abbrev pub IsSpent : Plan → Claims → JobId → Spent → Type 0
IsSpent plan claims job NoJob = ¬ IsJobOf plan job
IsSpent plan claims job (AllGiven token) =
    (count : ℕ) × SawAll claims (job.0 - 1) count token × ((i : ℕ) → IsPieceOf plan (OfJob (job.0 - 1) i) → i < count)

-- LAWS of the rule, between any two steps

-- No piece of a job is given to two tokens.
abbrev pub PiecesAreGivenOnce : Type 0
PiecesAreGivenOnce = (plan : Plan) → IsWellOrderedPlan plan → (jobs : ℕ) (s : State ℕ View) → AreGiven jobs s
    → (a b j i k l : ℕ) → IsPieceOf plan (OfJob j i) → IsPieceOf plan (OfJob k l)
    → number_of plan (OfJob j i) ≡ number_of plan (OfJob k l)
    → IsGivenTo s.views a j i → IsGivenTo s.views b k l → a ≡ b

-- What a token saw given is given to a token each.
abbrev pub SeenPiecesAreGiven : Type 0
SeenPiecesAreGiven = (jobs : ℕ) (s : State ℕ View) → AreGiven jobs s → (a j n : ℕ)
    → get_elem? s.views a ≡ some (Saw j n)
    → (i : ℕ) → i < n → (b : ℕ) × IsGivenTo s.views b j i
