-- The ledger of a plan that is made: what the laws of planning know of the script's state.
use Rattle.std.specs.Prelude.{ℕ, zero, suc, ◌+◌, Bool, false, ◌&&◌, nat_le, nat_lt}
use Rattle.frame_ast.specs.Jobs.{Jobs, only}
use Rattle.frame_ast.specs.Ranges.{Starts, has_word}
use Rattle.frame_ast.specs.States.{ScriptState, is_live}
use Rattle.merge_laws.specs.Ledger.{Ledger}
use Rattle.frame_core.specs.declared.plan.Plan.{Plan}
use Rattle.frame_core.specs.Names.{job_at}
use Rattle.frame_core.specs.Pieces.{own_word}
use Rattle.frame_core.specs.Output.{pieces_in}

-- Who has words: a container, or a job's pieces, which have words of their own.
pub data Owner : Type 0 where
  Held : ℕ → Owner
  Own : ℕ → Owner

abbrev pub next_owner : Owner → Owner
next_owner (Held c) = Held (suc c)
next_owner (Own j) = Own (suc j)

-- an owner has a number: containers the even ones, jobs the odd ones
abbrev pub owner : ℕ → Owner
owner zero = Held 0
owner (suc zero) = Own 0
owner (suc (suc n)) = next_owner (owner n)

abbrev pub number_of : Owner → ℕ
number_of (Held c) = c + c
number_of (Own j) = suc (j + j)

-- Jobs of a section are numbered anew. So many were there before, and all of them are completed.
abbrev pub later : ℕ → Jobs → Jobs
later before jobs j = nat_lt 0 j && jobs (before + j)

-- the own words of the pieces of the job of a number in the plan
abbrev pub is_own_word : Plan → ℕ → ℕ → Bool
is_own_word plan zero w = false
is_own_word plan (suc j) w = nat_le (own_word plan j 0) w && nat_lt w (own_word plan j (pieces_in (job_at plan j)))

abbrev pub owner_live : ScriptState → ℕ → Owner → Bool
owner_live s n (Held c) = is_live s c
owner_live s n (Own j) = nat_lt 0 j && nat_le j n

abbrev pub owner_words : Plan → Starts → ScriptState → Owner → ℕ → Bool
owner_words plan starts s (Held c) w = has_word starts s c w
owner_words plan starts s (Own j) w = is_own_word plan j w

abbrev pub owner_users : ℕ → ScriptState → Owner → Jobs
owner_users before s (Held c) = later before (s.uses c).users
owner_users before s (Own j) = only j

abbrev pub owner_writers : ℕ → ScriptState → Owner → Jobs
owner_writers before s (Held c) = later before (s.uses c).writers
owner_writers before s (Own j) = only j

-- with n jobs in the plan so far
abbrev pub ledger_of : Plan → Starts → ℕ → ℕ → ScriptState → Ledger
ledger_of plan starts before n s = record {
  jobs = n;
  depends = λ j. later before (λ k. nat_lt 0 j && s.book.deps (before + j) k);
  completed = later before s.book.completed;
  live = λ c. owner_live s n (owner c);
  words = λ c. owner_words plan starts s (owner c);
  users = λ c. owner_users before s (owner c);
  writers = λ c. owner_writers before s (owner c);
}
