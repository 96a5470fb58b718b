-- Rounds: which pieces of jobs may run at once.
--
-- Decided here: when a numbering of the pieces is a plan of rounds, how many rounds it has, and how many pieces a
-- round. Chains of jobs are in `Chains`, and what the report says of both is in `Depths`. How a plan of rounds is found
-- is said nowhere.
--
-- p and q are numbers of pieces of jobs, j is the place of a job among the plan's jobs, from 0, and r is a round, from
-- 1.
use Rattle.std.specs.Prelude.{ℕ, zero, suc, ◌+◌, ◌≡◌, ◌≤◌, ◌<◌, Bool, nat_eq, if◌then◌else◌, List, get_or}
use Rattle.std.specs.Int.{div_ceil}
use Rattle.merge_laws.specs.Graph.{LeadsTo}
use Rattle.frame_core.specs.declared.plan.Plan.{Plan}
use Rattle.frame_core.specs.declared.piece.Piece.{Piece}
use Rattle.frame_core.specs.declared.piece.Piece.TheVariants.{OfScript, OfJob}
use Rattle.frame_core.specs.Names.{job_pieces}
use Rattle.frame_core.specs.Pieces.{place_of, piece_numbered}
use Rattle.frame_core.specs.Graphs.{graph_of}

-- Piece p leads to piece q through predecessors.
abbrev pub Leads : Plan → ℕ → ℕ → Type 0
Leads plan p q = LeadsTo (graph_of plan) (place_of plan (piece_numbered plan p)) (place_of plan (piece_numbered plan q))

-- A plan of rounds: each piece of a job has a round, which is greater than that of every piece that leads to it.
pub record IsRoundsPlan (plan : Plan) (round : ℕ → ℕ) : Type 0 where
  pub from_one : (p : ℕ) → p < job_pieces plan → 1 ≤ round p
  pub later : (p q : ℕ) → p < job_pieces plan → q < job_pieces plan → Leads plan p q → round p < round q

-- Its number of rounds is the greatest round, or 0 where there is no job.
pub record HasRounds (plan : Plan) (round : ℕ → ℕ) (n : ℕ) : Type 0 where
  pub most : (p : ℕ) → p < job_pieces plan → round p ≤ n
  pub reached : 0 < n → (p : ℕ) × (p < job_pieces plan) × (round p ≡ n)

-- how many numbers below another one pass a test
abbrev pub count_below : (ℕ → Bool) → ℕ → ℕ
count_below f zero = 0
count_below f (suc p) = count_below f p + (if f p then 1 else 0)

-- The pieces of a round.
abbrev pub pieces_in : Plan → (ℕ → ℕ) → ℕ → ℕ
pieces_in plan round r = count_below (λ p. nat_eq (round p) r) (job_pieces plan)

-- So many workers suffice: no round has more pieces.
abbrev pub Suffice : ℕ → Plan → (ℕ → ℕ) → Type 0
Suffice workers plan round = (r : ℕ) → pieces_in plan round r ≤ workers

-- The rounds that so many workers take for the first rounds, one round after another.
abbrev pub rounds_taken : ℕ → Plan → (ℕ → ℕ) → ℕ → ℕ
rounds_taken workers plan round zero = 0
rounds_taken workers plan round (suc r) = rounds_taken workers plan round r + div_ceil
    (pieces_in plan round (suc r)) workers

-- The level plan: each piece has the level of its job as its round.
abbrev pub level_of_piece : List ℕ → Piece → ℕ
level_of_piece levels (OfScript k) = 0
level_of_piece levels (OfJob j i) = get_or levels j 0

abbrev pub level_plan : Plan → List ℕ → ℕ → ℕ
level_plan plan levels p = level_of_piece levels (piece_numbered plan p)
