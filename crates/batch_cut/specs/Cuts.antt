-- Cuts of the indexes 0 to n - 1 into pieces.
use Rattle.std.specs.Prelude.{◌≡◌, ℕ, zero, suc, ◌+◌, ◌-◌, ◌*◌, max, min, nat_eq, if◌then◌else◌, List, [], ◌∷◌, ◌++◌}
use Rattle.std.specs.Int.{div_ceil}
use Rattle.job_base.specs.declared.Span.{Span}
use Rattle.job_base.specs.declared.limits.TheConstants.{MOST_PIECES}

-- the batch, or n divided by the most pieces, rounded up, where that is more
abbrev pub step_of : ℕ → ℕ → ℕ
step_of n batch = max batch (div_ceil n MOST_PIECES)

abbrev pub count_of : ℕ → ℕ → ℕ
count_of n step = if nat_eq n 0 then 1 else div_ceil n step

-- piece k has the indexes from k * step up to the lesser of (k + 1) * step and n
abbrev pub piece_of : ℕ → ℕ → ℕ → Span
piece_of n step k = record { start = k * step; len = min ((k + 1) * step) n - k * step }

-- `len` numbers, from `start` on
abbrev pub numbers_from : ℕ → ℕ → List ℕ
numbers_from start zero = []
numbers_from start (suc len) = start ∷ numbers_from (suc start) len

abbrev pub indexes : Span → List ℕ
indexes s = numbers_from s.start s.len

-- the indexes of the first pieces, one piece after another
abbrev pub indexes_of : ℕ → ℕ → ℕ → List ℕ
indexes_of n step zero = []
indexes_of n step (suc k) = indexes_of n step k ++ indexes (piece_of n step k)

-- so many pieces, one after another, are the indexes 0 to n - 1: each once, in order
abbrev pub IsCovered : ℕ → ℕ → ℕ → Type 0
IsCovered n step count = indexes_of n step count ≡ numbers_from 0 n
