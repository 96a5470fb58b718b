-- Worked examples on the diamond. Each would fail if a definition were turned.
use Rattle.std.specs.Prelude.{◌≡◌, ℕ, Bool, true, false, ◌||◌, nat_eq, if◌then◌else◌, [], ◌∷◌, ℤ, pos, Some, None}
use Rattle.job_base.specs.declared.limits.TheConstants.{MOST_WORKERS}
use Rattle.merge_laws.specs.Graph.{Cells, cells_before, IsWellOrdered, LeadsTo}
use Rattle.merge_laws.specs.Core.{Lease, Core, IsSound}
use Rattle.merge_laws.specs.Merge.{merged_cells, IsMerged, IsInPlace}
use Rattle.merge_laws.specs.Runs.{start, run, take, steal, finish, IsLegalRun, IsEnded}
use Rattle.merge_laws.specs.Jobs.{IsJobGraph, HasParts, IsOf}
use Rattle.merge_laws.specs.Claims.{by_segment, Duty, Claims}
use Rattle.merge_laws.specs.Countdowns.{AreExact}
use Rattle.merge_laws.specs.Rule.{IsOpening, first_claims}
use Rattle.merge_laws.specs.Diamond.{diamond, diamond_jobs, new_diamond, straight, crossed}

-- The premises are met.
pub record DiamondIsAPlan : Type 0 where
  pub well_ordered : IsWellOrdered diamond
  pub jobs : IsJobGraph diamond_jobs
  pub parts : HasParts diamond_jobs
  pub of : IsOf diamond_jobs diamond
  pub opening : IsOpening diamond diamond_jobs new_diamond
  -- the pieces of the job commute: none leads to the other
  pub commutes : LeadsTo diamond 1 2 → ⊥

-- RUNS

abbrev pub HasCells : Cells → ℤ → ℤ → ℤ → ℤ → Type 0
HasCells c a b d e = (c 0 ≡ a) × (c 1 ≡ b) × (c 2 ≡ d) × (c 3 ≡ e)

pub record DiamondRuns : Type 0 where
  -- in script order, and with the pieces of the job crossed
  pub script_order : HasCells (cells_before diamond 4) (pos 7) (pos 8) (pos 9) (pos 17)
  pub in_order : HasCells (run diamond (start diamond) straight).cells (pos 7) (pos 8) (pos 9) (pos 17)
  pub out_of_order : HasCells (run diamond (start diamond) crossed).cells (pos 7) (pos 8) (pos 9) (pos 17)
  pub legal : IsLegalRun diamond (start diamond) crossed
  pub ended : IsEnded diamond (run diamond (start diamond) crossed)
  -- a piece that runs changes no cell before it is finished, and after the begin of another one the first finish is
  -- seen alone
  pub half : HasCells
      (run diamond (start diamond) (take 0 0 ∷ finish 0 0 ∷ take 2 2 ∷ steal 1 2 1 ∷ finish 2 2 ∷ [])).cells
      (pos 7) (pos 5) (pos 9) (pos 5)

pub record IllegalRuns : Type 0 where
  -- a piece before its predecessor, and while it is only leased
  pub too_early : IsLegalRun diamond (start diamond) (take 0 1 ∷ []) → ⊥
  pub too_early_still : IsLegalRun diamond (start diamond) (take 0 0 ∷ take 1 1 ∷ []) → ⊥
  -- a piece that is leased, and one that is ended
  pub twice_at_once : IsLegalRun diamond (start diamond) (take 0 0 ∷ take 0 0 ∷ []) → ⊥
  pub twice : IsLegalRun diamond (start diamond) (take 0 0 ∷ finish 0 0 ∷ take 0 0 ∷ []) → ⊥
  -- a seat that is busy, a seat past the last, and a segment at another seat, also where it is stolen
  pub busy : IsLegalRun diamond (start diamond) (take 0 0 ∷ finish 0 0 ∷ take 1 1 ∷ take 1 2 ∷ []) → ⊥
  pub past : IsLegalRun diamond (start diamond) (take 0 0 ∷ finish 0 0 ∷ take MOST_WORKERS 1 ∷ []) → ⊥
  pub segment_elsewhere : IsLegalRun diamond (start diamond) (take 1 0 ∷ []) → ⊥
  pub segment_stolen : IsLegalRun diamond (start diamond) (steal 1 0 0 ∷ []) → ⊥
  -- a finish of what isn't leased, and by another seat
  pub unleased : IsLegalRun diamond (start diamond) (finish 0 0 ∷ []) → ⊥
  pub by_another : IsLegalRun diamond (start diamond) (take 0 0 ∷ finish 1 0 ∷ []) → ⊥
  -- a piece that isn't of the plan
  pub no_piece : IsLegalRun diamond (start diamond) (take 0 4 ∷ []) → ⊥

-- THE MERGE

-- only the pieces 0 and 1 are ended
abbrev pub two_ended : ℕ → Bool
two_ended p = nat_eq p 0 || nat_eq p 1

-- the two pieces of the job are leased, under the keys 1 and 2, and segment 0 is ended
abbrev pub both_leased : Cells → Cells → Core
both_leased local cells = record {
  ended = λ p. nat_eq p 0;
  lease = λ k. if nat_eq k 1 then Some record { piece = 1; local = local } else if nat_eq k 2 then Some
      record { piece = 2; local = local } else None;
  cells = cells;
}

pub record DiamondMerges : Type 0 where
  -- a word that an ended piece wrote has its value, one that only an unended piece writes has its first one
  pub written : merged_cells diamond two_ended 1 ≡ pos 8
  pub unwritten : merged_cells diamond two_ended 2 ≡ pos 5
  pub nothing_ended : merged_cells diamond (λ p. false) 0 ≡ pos 5
  pub all_ended : merged_cells diamond (λ p. true) 3 ≡ pos 17
  -- the pieces of the job may be leased at once
  pub both_sound : IsSound diamond (both_leased (λ w. pos 7) (λ w. pos 7))
  -- but no lease reads a word that another one writes
  pub reads_a_written_word : (c : Core) (l m : Lease) → c.lease 1 ≡ Some l → l.piece ≡ 1 → c.lease 3 ≡ Some m
      → m.piece ≡ 3 → IsSound diamond c → ⊥
  -- a word that a lease only reads has its value of script order; a word that a lease writes is its own until the end
  pub reads_a_wrong_cell : IsMerged diamond (both_leased (λ w. pos 7) (λ w. pos 5)) → ⊥
  pub not_in_place : IsInPlace diamond (both_leased (λ w. pos 7) (λ w. pos 5)) → ⊥

-- COUNTDOWNS

-- Segment 0 and piece 1 are ended and piece 2 runs.
abbrev pub one_left : ℕ → ℕ
one_left p = if nat_eq p 0 then 3 else if nat_eq p 1 then 3 else if nat_eq p 2 then 2 else 0

-- the first participant has ended one segment
abbrev pub one_segment : Claims
one_segment = record first_claims { ended = 1 }

-- another participant, who owes a count of the job
abbrev pub owing : Claims
owing = record first_claims { number = 1; owed = Some 0 }

-- the duty to release the job from segment 0, and the first participant with it, or another one
abbrev pub duty : Duty
duty = record { predecessor = by_segment 0; job = 0 }

abbrev pub releasing : ℕ → Claims
releasing n = record first_claims { number = n; ended = 1; duties = duty ∷ [] }

-- Segment 0 is ended, and nothing else is open.
abbrev pub segment_ended : ℕ → ℕ
segment_ended p = if nat_eq p 0 then 3 else 0

-- another participant, with a right to piece 1
abbrev pub rightful : ℕ → Claims
rightful n = record first_claims { number = n; rights = 1 ∷ [] }

pub record DiamondCounts : Type 0 where
  -- while the count of piece 1 is owed, both pieces are left to count; afterwards one is
  pub owed : (rest : ℕ → ℕ) → AreExact diamond_jobs one_left rest (λ j. 0) (one_segment ∷ owing ∷ []) → rest 0 ≡ 2
  pub counted : (rest : ℕ → ℕ) → AreExact diamond_jobs one_left rest (λ j. 0) (one_segment ∷ []) → rest 0 ≡ 1
  -- a count that falls twice, and one that is taken and still owed
  pub falls_twice : AreExact diamond_jobs one_left (λ j. 0) (λ j. 0) (one_segment ∷ []) → ⊥
  pub counted_and_owed : AreExact diamond_jobs one_left (λ j. 1) (λ j. 0) (one_segment ∷ owing ∷ []) → ⊥
  -- the job waits for its segment, then for the release from it, and then for nothing
  pub waiting : (wait : ℕ → ℕ) → AreExact diamond_jobs (λ p. 0) (λ j. 2) wait (first_claims ∷ []) → wait 0 ≡ 1
  pub due : (wait : ℕ → ℕ) → AreExact diamond_jobs segment_ended (λ j. 2) wait (releasing 0 ∷ []) → wait 0 ≡ 1
  pub released : (wait : ℕ → ℕ) → AreExact diamond_jobs segment_ended (λ j. 2) wait (one_segment ∷ rightful 1 ∷ [])
      → wait 0 ≡ 0
  -- the duty of a segment at another participant, and a job seen finished while a piece of it is left to count
  pub duty_elsewhere : (state rest wait : ℕ → ℕ) → AreExact diamond_jobs state rest wait
      (one_segment ∷ releasing 1 ∷ []) → ⊥
  pub seen_too_early : (state wait : ℕ → ℕ) → AreExact diamond_jobs state (λ j. 1) wait
      (record one_segment { seen = 0 ∷ [] } ∷ []) → ⊥
  -- a piece that runs although its job waits
  pub runs_too_early : AreExact diamond_jobs one_left (λ j. 1) (λ j. 1) (one_segment ∷ []) → ⊥
  -- one right for two, and a right to what is open
  pub right_twice : (state rest wait : ℕ → ℕ) → AreExact diamond_jobs state rest wait
      (one_segment ∷ rightful 1 ∷ rightful 2 ∷ []) → ⊥
  pub right_to_open : (state rest wait : ℕ → ℕ) → state 1 ≡ 1
      → AreExact diamond_jobs state rest wait (one_segment ∷ rightful 1 ∷ []) → ⊥
  -- a closed piece of a job that waits for nothing, which nobody may open
  pub right_lost : (state rest wait : ℕ → ℕ) → state 1 ≡ 0 → wait 0 ≡ 0
      → AreExact diamond_jobs state rest wait (one_segment ∷ []) → ⊥
  -- the last segment is open before the job is counted
  pub opened_too_early : (state wait : ℕ → ℕ) → state 3 ≡ 1
      → AreExact diamond_jobs state (λ j. 1) wait (one_segment ∷ []) → ⊥
  -- two participants with the number 0
  pub two_first : (state rest wait : ℕ → ℕ) → AreExact diamond_jobs state rest wait (one_segment ∷ one_segment ∷ []) → ⊥
