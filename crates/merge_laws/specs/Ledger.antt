-- The ledger of who touches and uses what: what the script thread knows while it makes a plan, and what that says of
-- the pieces so far. It knows no language: a container is any owner of words.
use Rattle.std.specs.Prelude.{◌≡◌, ℕ, ◌<◌, ◌≤◌, Bool, true, ◌||◌, ◌⊎◌, nat_eq, List, length}
use Rattle.merge_laws.specs.Graph.{LeadsTo, Conflicts}
use Rattle.merge_laws.specs.Pieces.{Jobs, Words, Piece, piece_at, latest_segment, graph_of}

pub record Ledger : Type 0 where
  -- how many jobs were scheduled, what each depends on, and which the script has completed
  pub jobs : ℕ
  pub depends : ℕ → Jobs
  pub completed : Jobs
  -- The containers whose words are live, and the words of each. The words of a container that isn't live may be another
  -- one's.
  pub live : ℕ → Bool
  pub words : ℕ → Words
  -- the jobs that use a container, and those of them that write it
  pub users : ℕ → Jobs
  pub writers : ℕ → Jobs

pub record IsLedger (l : Ledger) : Type 0 where
  -- jobs depend on older ones
  pub older : (j k : ℕ) → l.depends j k ≡ true → (j ≤ l.jobs) × (k < j)
  -- who writes a container uses it
  pub written : (c j : ℕ) → l.writers c j ≡ true → l.users c j ≡ true
  -- no word is of two live containers
  pub apart : (c d w : ℕ) → l.live c ≡ true → l.live d ≡ true → l.words c w ≡ true → l.words d w ≡ true → c ≡ d

-- The ancestors of a set of jobs: the least set that contains it and, with each job, what that depends on.
pub data Ancestor (depends : ℕ → Jobs) (given : Jobs) : ℕ → Type 0 where
  own : {j : ℕ} → given j ≡ true → Ancestor depends given j
  older : {j k : ℕ} → Ancestor depends given j → depends j k ≡ true → Ancestor depends given k

-- The job needn't be waited for by who comes after the given jobs: it is completed, or an ancestor of theirs.
abbrev pub IsFree : Ledger → Jobs → ℕ → Type 0
IsFree l given j = (l.completed j ≡ true) ⊎ Ancestor l.depends given j

-- a segment, or a piece of a job that the script completed
abbrev pub is_done : Ledger → Jobs
is_done l j = nat_eq j 0 || l.completed j

-- The job uses, or writes, a live container that has the word.
pub record IsUsedBy (l : Ledger) (j w : ℕ) : Type 0 where
  pub container : ℕ
  pub live : l.live container ≡ true
  pub word : l.words container w ≡ true
  pub user : l.users container j ≡ true

pub record IsWrittenBy (l : Ledger) (j w : ℕ) : Type 0 where
  pub container : ℕ
  pub live : l.live container ≡ true
  pub word : l.words container w ≡ true
  pub writer : l.writers container j ≡ true

-- What the pieces so far keep. The two clauses `reads_held` and `writes_held` carry the reuse of words: nothing is said
-- of the containers that had a word before, since it comes back only when all their users are completed, and then the
-- first case holds.
pub record AreInOrder (l : Ledger) (pieces : List Piece) : Type 0 where
  pub known : (p : ℕ) → p < length pieces → (piece_at pieces p).job ≤ l.jobs
  -- the pieces of a job stand after those of older jobs
  pub rising : (p q : ℕ) → p < q → q < length pieces → (piece_at pieces q).job ≡ 0
      ⊎ (piece_at pieces p).job ≤ (piece_at pieces q).job
  -- a piece comes after what its job depends on
  pub waits : (p j : ℕ) → p < length pieces → l.depends (piece_at pieces p).job j ≡ true
      → (piece_at pieces p).after j ≡ true
  -- there is a segment
  pub segment_below : latest_segment pieces < length pieces
  pub segment : (piece_at pieces (latest_segment pieces)).job ≡ 0
  -- segments and the pieces of completed jobs lead to the latest segment
  pub arrived : (p : ℕ) → p < length pieces → is_done l (piece_at pieces p).job ≡ true
      → p ≡ latest_segment pieces ⊎ LeadsTo (graph_of pieces) p (latest_segment pieces)
  -- a piece that reads, or writes, a word is done, or its job uses, or writes, a live container that has the word
  pub reads_held : (p w : ℕ) → p < length pieces → (piece_at pieces p).reads w ≡ true
      → is_done l (piece_at pieces p).job ≡ true ⊎ IsUsedBy l (piece_at pieces p).job w
  pub writes_held : (p w : ℕ) → p < length pieces → (piece_at pieces p).writes w ≡ true
      → is_done l (piece_at pieces p).job ≡ true ⊎ IsWrittenBy l (piece_at pieces p).job w
  pub reads_written : (p w : ℕ) → (piece_at pieces p).writes w ≡ true → (piece_at pieces p).reads w ≡ true
  -- of two pieces with conflicting footprints the earlier leads to the later
  pub conflicts_lead : (p q w : ℕ) → p < q → q < length pieces → Conflicts (graph_of pieces) p q w
      → LeadsTo (graph_of pieces) p q

-- each job but the newest has a piece
abbrev pub HasOlderParts : Ledger → List Piece → Type 0
HasOlderParts l pieces = (j : ℕ) → 0 < j → j < l.jobs → (p : ℕ) × (p < length pieces) × ((piece_at pieces p).job ≡ j)
