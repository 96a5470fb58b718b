-- The ways in which a plan goes on.
use Rattle.std.specs.Prelude.{◌≡◌, ℕ, ◌<◌, ◌≤◌, true, false, ◌⊎◌, nat_eq, if◌then◌else◌, List, [], ◌∷◌, length}
use Rattle.merge_laws.specs.Pieces.{Jobs, Words, Piece, piece_at}
use Rattle.merge_laws.specs.Ledger.{Ledger, IsFree, IsUsedBy, IsWrittenBy}

-- A live container has the word, and all its jobs, of these for each container, are completed.
pub record IsSettled (l : Ledger) (jobs : ℕ → Jobs) (w : ℕ) : Type 0 where
  pub container : ℕ
  pub live : l.live container ≡ true
  pub word : l.words container w ≡ true
  pub completed : (j : ℕ) → jobs container j ≡ true → l.completed j ≡ true

-- The segment at hand, x, does more and becomes y: it reads a word only where it did before or all writers of the
-- word's container are completed, and writes one only where it did before or all its users are.
pub record DoesMore (l : Ledger) (x y : Piece) : Type 0 where
  pub segment : x.job ≡ 0
  pub job : y.job ≡ x.job
  pub after : (j : ℕ) → y.after j ≡ x.after j
  pub reads : (w : ℕ) → y.reads w ≡ true → x.reads w ≡ true ⊎ IsSettled l l.writers w
  pub writes : (w : ℕ) → y.writes w ≡ true → x.writes w ≡ true ⊎ IsSettled l l.users w
  pub reads_written : (w : ℕ) → y.writes w ≡ true → y.reads w ≡ true

-- y is a piece of the newest job, which the script hasn't completed. It touches only words of live containers that the
-- job uses, or writes, and each older job with a conflicting use of one of these containers is free.
pub record IsPartOfNewest (l : Ledger) (y : Piece) : Type 0 where
  pub job : y.job ≡ l.jobs
  pub is_job : 0 < l.jobs
  pub uncompleted : l.completed l.jobs ≡ false
  pub after : (j : ℕ) → l.depends l.jobs j ≡ true → y.after j ≡ true
  pub after_older : (j : ℕ) → y.after j ≡ true → j < l.jobs
  pub reads : (w : ℕ) → y.reads w ≡ true → IsUsedBy l l.jobs w
  pub writes : (w : ℕ) → y.writes w ≡ true → IsWrittenBy l l.jobs w
  pub reads_written : (w : ℕ) → y.writes w ≡ true → y.reads w ≡ true
  pub writers_free : (c j : ℕ) → l.live c ≡ true → l.users c l.jobs ≡ true → l.writers c j ≡ true → j < l.jobs
      → IsFree l y.after j
  pub users_free : (c j : ℕ) → l.live c ≡ true → l.writers c l.jobs ≡ true → l.users c j ≡ true → j < l.jobs
      → IsFree l y.after j

-- what one of two pieces writes the other doesn't touch
pub record AreApart (x y : Piece) : Type 0 where
  pub first : (w : ℕ) → x.writes w ≡ true → y.reads w ≡ false
  pub second : (w : ℕ) → y.writes w ≡ true → x.reads w ≡ false

-- y is apart from the pieces of its job that are listed already
abbrev pub IsApartFromJob : Ledger → List Piece → Piece → Type 0
IsApartFromJob l pieces y = (p : ℕ) → p < length pieces → (piece_at pieces p).job ≡ l.jobs
    → AreApart (piece_at pieces p) y

abbrev pub IsApartFrom : Piece → List Piece → Type 0
IsApartFrom y [] = Unit {0}
IsApartFrom y (x ∷ xs) = AreApart x y × IsApartFrom y xs

-- all pieces of the newest job, the last one first
abbrev pub ArePartsOfNewest : Ledger → List Piece → Type 0
ArePartsOfNewest l [] = Unit {0}
ArePartsOfNewest l (y ∷ ys) = IsPartOfNewest l y × IsApartFrom y ys × ArePartsOfNewest l ys

-- A new segment z begins. It touches nothing yet, and comes after what the script completed between the ledgers l and
-- m.
pub record BeginsSegment (l m : Ledger) (z : Piece) : Type 0 where
  pub segment : z.job ≡ 0
  pub reads : (w : ℕ) → z.reads w ≡ false
  pub writes : (w : ℕ) → z.writes w ≡ false
  pub jobs : m.jobs ≡ l.jobs
  pub depends : (j k : ℕ) → m.depends j k ≡ true → l.depends j k ≡ true
  pub no_depends : (k : ℕ) → m.depends 0 k ≡ false
  pub completed : (j : ℕ) → m.completed j ≡ true → l.completed j ≡ true ⊎ z.after j ≡ true
  pub still_completed : (j : ℕ) → l.completed j ≡ true → m.completed j ≡ true
  pub live : (c : ℕ) → m.live c ≡ l.live c
  pub words : (c w : ℕ) → m.words c w ≡ l.words c w
  pub users : (c j : ℕ) → m.users c j ≡ l.users c j
  pub writers : (c j : ℕ) → m.writers c j ≡ l.writers c j

-- a live container stays live, and keeps at least its words, users and writers
pub record StaysLive (l m : Ledger) (c : ℕ) : Type 0 where
  pub live : m.live c ≡ true
  pub words : (w : ℕ) → l.words c w ≡ true → m.words c w ≡ true
  pub users : (j : ℕ) → l.users c j ≡ true → m.users c j ≡ true
  pub writers : (j : ℕ) → l.writers c j ≡ true → m.writers c j ≡ true

-- The ledger goes on and no piece does: a job is enrolled, a container is made, or the words of one come back, all of
-- whose users are completed.
pub record GoesOn (l m : Ledger) : Type 0 where
  pub jobs : l.jobs ≤ m.jobs
  pub depends : (j k : ℕ) → j ≤ l.jobs → m.depends j k ≡ true → l.depends j k ≡ true
  pub completed : (j : ℕ) → m.completed j ≡ l.completed j
  pub containers : (c : ℕ) → l.live c ≡ true → ((j : ℕ) → l.users c j ≡ true → l.completed j ≡ true) ⊎ StaysLive l m c

-- the ledger where one container has other words
abbrev pub with_words : Ledger → ℕ → Words → Ledger
with_words l c new = record l { words = λ d w. if nat_eq d c then new w else l.words d w }

-- The segment at hand, x, moves a live container, all of whose users are completed, to words of no live container, and
-- becomes y. Both the old words and the new ones are live while it does.
pub record MovesContainer (l : Ledger) (x y : Piece) (c : ℕ) (new : Words) : Type 0 where
  pub segment : x.job ≡ 0
  pub job : y.job ≡ x.job
  pub after : (j : ℕ) → y.after j ≡ x.after j
  pub live : l.live c ≡ true
  pub completed : (j : ℕ) → l.users c j ≡ true → l.completed j ≡ true
  pub unused : (d w : ℕ) → l.live d ≡ true → l.words d w ≡ true → new w ≡ true → ⊥
  pub reads : (w : ℕ) → y.reads w ≡ true → x.reads w ≡ true ⊎ (l.words c w ≡ true ⊎ new w ≡ true)
  pub writes : (w : ℕ) → y.writes w ≡ true → x.writes w ≡ true ⊎ (l.words c w ≡ true ⊎ new w ≡ true)
  pub reads_written : (w : ℕ) → y.writes w ≡ true → y.reads w ≡ true
