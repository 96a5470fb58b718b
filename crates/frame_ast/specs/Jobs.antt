-- Sets of jobs, and what a set of jobs leads to. Jobs are numbered from 1, and each depends on older ones alone.
use Rattle.std.specs.Prelude.{◌≡◌, ℕ, zero, suc, Bool, true, false, ◌&&◌, ◌||◌, not, nat_eq, if◌then◌else◌}

abbrev pub Jobs : Type 0
Jobs = ℕ → Bool

abbrev pub nobody : Jobs
nobody j = false

abbrev pub only : ℕ → Jobs
only k j = nat_eq j k

abbrev pub both : Jobs → Jobs → Jobs
both a b j = a j || b j

-- The jobs that a set leads to: from the newest of n jobs down, where a job is wanted, its dependency set is wanted
-- too.
abbrev pub ancestors : (ℕ → Jobs) → ℕ → Jobs → Jobs
ancestors deps zero wanted = wanted
ancestors deps (suc n) wanted = ancestors deps n (λ k. wanted k || (wanted (suc n) && deps (suc n) k))

-- The least set that contains a given one and, with each job, its dependency set.
pub data Ancestor (deps : ℕ → Jobs) (given : Jobs) : ℕ → Type 0 where
  own : {j : ℕ} → given j ≡ true → Ancestor deps given j
  older : {j k : ℕ} → Ancestor deps given j → deps j k ≡ true → Ancestor deps given k

-- the greatest of the jobs 1 to n that are in a set, or 0 where there is none
abbrev pub greatest : Jobs → ℕ → ℕ
greatest set zero = 0
greatest set (suc n) = if set (suc n) then suc n else greatest set n

-- whether one of the jobs 1 to n is in a set
abbrev pub any_job : Jobs → ℕ → Bool
any_job set n = not (nat_eq (greatest set n) 0)

-- What the script thread knows of jobs: how many were scheduled, the dependency set of each, and which it has
-- completed.
pub record Book : Type 0 where
  pub count : ℕ
  pub deps : ℕ → Jobs
  pub completed : Jobs

abbrev pub empty_book : Book
empty_book = record { count = 0; deps = λ j. nobody; completed = nobody }

abbrev pub ancestors_in : Book → Jobs → Jobs
ancestors_in b given = ancestors b.deps b.count given

-- the book with one more job
abbrev pub with_job : Book → Jobs → Book
with_job b after = record b { count = suc b.count; deps = λ j k. b.deps j k || (nat_eq j (suc b.count) && after k) }

-- the book where the jobs of a handle and their ancestors are completed too
abbrev pub with_completed : Book → Jobs → Book
with_completed b handle = record b { completed = both b.completed (ancestors_in b handle) }

-- A job happens before what waits for some jobs: it was completed, or it is an ancestor of those.
abbrev pub happens_before : Book → Jobs → Jobs
happens_before b after = both b.completed (ancestors_in b after)
