-- A worked plan in which a word is used again. Container 0 has word 0; a job writes it; the script completes the job
-- and disposes the container, and makes container 1, which gets word 0 again.
use Rattle.std.specs.Prelude.{◌≡◌, ℕ, Bool, true, false, ◌&&◌, nat_eq, if◌then◌else◌, List, [], ◌∷◌, ℤ, pos, ◌+ℤ◌}
use Rattle.merge_laws.specs.Graph.{Cells, IsWellOrdered}
use Rattle.merge_laws.specs.Pieces.{Piece, Jobs, Words, graph_from, precedes_in, cells_after}
use Rattle.merge_laws.specs.Ledger.{Ledger, AreInOrder}

abbrev pub word_0 : Words
word_0 w = nat_eq w 0

abbrev pub no_word : Words
no_word w = false

abbrev pub only_1 : Jobs
only_1 j = nat_eq j 1

abbrev pub no_job : Jobs
no_job j = false

-- a piece that gives word 0 a value, and one that touches nothing
abbrev pub giving : ℕ → Jobs → (Cells → ℤ) → Piece
giving job after value = record {
  job = job;
  after = after;
  reads = word_0;
  writes = word_0;
  effect = λ c w. if nat_eq w 0 then value c else c w;
}

abbrev pub idle : Jobs → Piece
idle after = record { job = 0; after = after; reads = no_word; writes = no_word; effect = λ c. c }

-- how many jobs, whether the job is completed, and which container is live; each container has word 0
abbrev pub ledger : ℕ → Bool → (ℕ → Bool) → Ledger
ledger jobs completed live = record {
  jobs = jobs;
  depends = λ j k. false;
  completed = λ j. completed && nat_eq j 1;
  live = live;
  words = λ c. word_0;
  users = λ c j. nat_eq c 0 && (nat_eq j 1 && nat_eq jobs 1);
  writers = λ c j. nat_eq c 0 && (nat_eq j 1 && nat_eq jobs 1);
}

abbrev pub nothing_live : ℕ → Bool
nothing_live c = false

-- the ledgers in turn: at first, container 0 made, the job enrolled, the job completed, container 1 made
abbrev pub at_first : Ledger
at_first = ledger 0 false nothing_live

abbrev pub with_container_0 : Ledger
with_container_0 = ledger 0 false (λ c. nat_eq c 0)

abbrev pub with_job : Ledger
with_job = ledger 1 false (λ c. nat_eq c 0)

abbrev pub with_job_completed : Ledger
with_job_completed = ledger 1 true (λ c. nat_eq c 0)

abbrev pub with_container_1 : Ledger
with_container_1 = ledger 1 true (λ c. nat_eq c 1)

-- the pieces, the latest first: the segment that makes container 1, the job's piece, the segment that makes container 0
abbrev pub reusing : List Piece
reusing = giving 0 only_1 (λ c. pos 0) ∷ giving 1 no_job (λ c. c 0 +ℤ pos 1) ∷ giving 0 no_job (λ c. pos 7) ∷ []

-- the same, but the last segment doesn't come after the job
abbrev pub not_waiting : List Piece
not_waiting = giving 0 no_job (λ c. pos 0) ∷ giving 1 no_job (λ c. c 0 +ℤ pos 1) ∷ giving 0 no_job (λ c. pos 7) ∷ []

-- the cells at first
abbrev pub fives : Cells
fives w = pos 5

pub record ReuseIsInOrder : Type 0 where
  pub in_order : AreInOrder with_container_1 reusing
  pub well_ordered : IsWellOrdered (graph_from fives reusing)
  -- each piece precedes the next
  pub first : precedes_in reusing 0 1 ≡ true
  pub second : precedes_in reusing 1 2 ≡ true
  pub not_back : precedes_in reusing 2 1 ≡ false
  -- the cells before the run, and after it; a word that no piece writes stays
  pub cells_at_first : cells_after fives [] 0 ≡ pos 5
  pub cells : cells_after fives reusing 0 ≡ pos 0
  pub other_cells : cells_after fives reusing 1 ≡ pos 5
  pub before_reuse : cells_after fives (giving 1 no_job (λ c. c 0 +ℤ pos 1) ∷ giving 0 no_job (λ c. pos 7) ∷ []) 0
      ≡ pos 8
  -- a word that is used again without waiting for the job isn't in order
  pub not_waited : precedes_in not_waiting 1 2 ≡ false
  pub out_of_order : AreInOrder with_container_1 not_waiting → ⊥
