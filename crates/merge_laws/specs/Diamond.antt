-- A worked plan: segment 0 makes a number, the two pieces of a job each make one of it, and the last segment adds these
-- up. The pieces of the job commute. All cells are 5 at first.
use Rattle.std.specs.Prelude.{ℕ, zero, suc, Bool, true, false, ◌&&◌, ◌||◌, nat_eq, nat_lt, if◌then◌else◌, List, [], ◌∷◌, ℤ, pos, ◌+ℤ◌, None}
use Rattle.merge_laws.specs.Graph.{Cells, PieceGraph}
use Rattle.merge_laws.specs.Runs.{Event, take, steal, finish}
use Rattle.merge_laws.specs.Jobs.{JobGraph}
use Rattle.merge_laws.specs.Rule.{Moment, first_claims}

-- piece p writes word p
abbrev pub diamond_writes : ℕ → ℕ → Bool
diamond_writes p w = nat_eq w p && nat_lt p 4

abbrev pub diamond_reads : ℕ → ℕ → Bool
diamond_reads zero w = nat_eq w 0
diamond_reads (suc zero) w = nat_eq w 1 || nat_eq w 0
diamond_reads (suc (suc zero)) w = nat_eq w 2 || nat_eq w 0
diamond_reads (suc (suc (suc zero))) w = nat_eq w 3 || (nat_eq w 1 || nat_eq w 2)
diamond_reads (suc (suc (suc (suc p)))) w = false

abbrev pub diamond_precedes : ℕ → ℕ → Bool
diamond_precedes zero (suc zero) = true
diamond_precedes zero (suc (suc zero)) = true
diamond_precedes zero (suc (suc (suc zero))) = true
diamond_precedes (suc zero) (suc (suc (suc zero))) = true
diamond_precedes (suc (suc zero)) (suc (suc (suc zero))) = true
diamond_precedes q p = false

-- 7, one more, two more, and the sum
abbrev pub diamond_value : ℕ → Cells → ℤ
diamond_value zero c = pos 7
diamond_value (suc zero) c = c 0 +ℤ pos 1
diamond_value (suc (suc zero)) c = c 0 +ℤ pos 2
diamond_value (suc (suc (suc p))) c = c 1 +ℤ c 2

abbrev pub diamond : PieceGraph
diamond = record {
  first = λ w. pos 5;
  count = 4;
  reads = diamond_reads;
  writes = diamond_writes;
  precedes = diamond_precedes;
  is_segment = λ p. nat_eq p 0 || nat_eq p 3;
  effect = λ p c w. if diamond_writes p w then diamond_value p c else c w;
}

-- its one job has the pieces 1 and 2
abbrev pub diamond_jobs : JobGraph
diamond_jobs = record {
  pieces = 4;
  jobs = 1;
  segments = 2;
  is_part = λ p j. (nat_eq p 1 || nat_eq p 2) && nat_eq j 0;
  segment_at = λ k. if nat_eq k 0 then 0 else 3;
  starter = λ j. 0;
  is_dependency = λ i j. false;
  waits = λ k j. nat_eq k 1 && nat_eq j 0;
}

abbrev pub new_diamond : Moment
new_diamond = record {
  state = λ p. 0;
  rest = λ j. 2;
  wait = λ j. 1;
  cells = λ w. pos 5;
  lease = λ k. None;
  claims = first_claims ∷ [];
}

-- one seat runs all pieces in script order
abbrev pub straight : List Event
straight = take 0 0 ∷ finish 0 0 ∷ take 0 1 ∷ finish 0 1 ∷ take 0 2 ∷ finish 0 2 ∷ take 0 3 ∷ finish 0 3 ∷ []

-- two seats run the pieces of the job at once, the later one first
abbrev pub crossed : List Event
crossed = take 0 0 ∷ finish 0 0 ∷ take 2 2 ∷ steal 1 2 1 ∷ finish 2 2 ∷ finish 1 1 ∷ take 0 3 ∷ finish 0 3 ∷ []
