-- The diamond on a board without locks, step by step from its opening to its end, by one participant.
use Rattle.std.specs.Prelude.{ℕ, zero, suc, Bool, false, List, [], ◌∷◌, nat_eq, if◌then◌else◌, ℤ, pos, Option, None}
use Rattle.merge_laws.specs.Graph.{Cells}
use Rattle.merge_laws.specs.Core.{Lease}
use Rattle.merge_laws.specs.Claims.{Duty, Claims}
use Rattle.merge_laws.specs.Rule.{Moment, IsOpening, IsOver}
use Rattle.merge_laws.specs.BoardSteps.{Reaches}
use Rattle.merge_laws.specs.Diamond.{diamond, diamond_jobs}

-- the states of the four pieces, and the four cells
abbrev pub states : (a b c d : ℕ) → ℕ → ℕ
states a b c d zero = a
states a b c d (suc zero) = b
states a b c d (suc (suc zero)) = c
states a b c d (suc (suc (suc zero))) = d
states a b c d (suc (suc (suc (suc p)))) = 0

abbrev pub cells_of : (a b c d : ℤ) → Cells
cells_of a b c d zero = a
cells_of a b c d (suc zero) = b
cells_of a b c d (suc (suc zero)) = c
cells_of a b c d (suc (suc (suc zero))) = d
cells_of a b c d (suc (suc (suc (suc w)))) = pos 5

-- what the one participant holds: the segments that it ended, whether it opened the next one, and what it owes, has to
-- release, may open and saw finished
abbrev pub holding : ℕ → Bool → Option ℕ → List Duty → List ℕ → List ℕ → Claims
holding ended opened owed duties rights seen = record {
  spent = false;
  number = 0;
  owed = owed;
  duties = duties;
  rights = rights;
  seen = seen;
  ended = ended;
  opened = opened;
}

abbrev pub at_0 : ℕ → ℕ → ℕ
at_0 n j = if nat_eq j 0 then n else 0

abbrev pub lease_at_0 : Option Lease → ℕ → Option Lease
lease_at_0 l k = if nat_eq k 0 then l else None

abbrev pub board : (state : ℕ → ℕ) (rest wait : ℕ) (cells : Cells) (lease : Option Lease) (v : Claims) → Moment
board state rest wait cells lease v = record {
  state = state;
  rest = at_0 rest;
  wait = at_0 wait;
  cells = cells;
  lease = lease_at_0 lease;
  claims = v ∷ [];
}

abbrev pub board_at_first : Moment
board_at_first = board (states 0 0 0 0) 2 1 (cells_of (pos 5) (pos 5) (pos 5) (pos 5)) None
    (holding 0 false None [] [] [])

abbrev pub board_at_last : Moment
board_at_last = board (states 3 3 3 3) 0 0 (cells_of (pos 7) (pos 8) (pos 9) (pos 17)) None
    (holding 2 false None [] [] (0 ∷ []))

pub record DiamondIsRun : Type 0 where
  pub opening : IsOpening diamond diamond_jobs board_at_first
  pub reaches : Reaches diamond diamond_jobs board_at_first board_at_last
  pub over : IsOver diamond_jobs board_at_last
