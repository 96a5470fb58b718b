-- An accepted schedule, as the ledger sees it: the pieces of the new job are in order.
use Rattle.std.specs.Prelude.{ℕ, suc, ◌≡◌, ◌<◌, ◌≤◌, ◌⊎◌, Bool, true, ◌&&◌, ◌||◌, nat_eq, ◌++◌, length, Some}
use Rattle.frame_ast.specs.Contents.{words_of}
use Rattle.frame_ast.specs.Jobs.{Jobs, happens_before, with_job}
use Rattle.frame_ast.specs.Laws.{IsKnown, AreUpTo}
use Rattle.frame_ast.specs.Ranges.{has_word}
use Rattle.frame_ast.specs.States.{ScriptState}
use Rattle.merge_laws.specs.Ledger.{Ledger, IsLedger, AreInOrder}
use Rattle.merge_laws.specs.Planning.{IsApartFrom}
use Rattle.frame_core.specs.declared.plan.JobPlan.{JobPlan}
use Rattle.frame_core.specs.declared.piece.Piece.TheVariants.{OfJob}
use Rattle.frame_core.specs.Names.{job_at, has_job, pieces_of as pieces_of_job}
use Rattle.frame_core.specs.Touches.{reads_in, writes_in}
use Rattle.frame_core.specs.Effects.{touches}
use Rattle.plan_laws.specs.Drafts.{Draft, part_piece, parts, pieces_of}
use Rattle.plan_laws.specs.Ledgers.{later, is_own_word, ledger_of}
use Rattle.plan_laws.specs.Planned.{Outline, jobs_before, IsPlanned}

-- a word of a container that is alive and that a job uses, or that it writes
pub record IsOfArgument (x : Outline) (s : ScriptState) (of : ℕ → Bool) (w : ℕ) : Type 0 where
  pub container : ℕ
  pub below : container < s.made
  pub alive : s.alive container ≡ true
  pub is_of : of container ≡ true
  pub word : has_word x.starts s container w ≡ true

-- the state after the schedule of a job that is given containers and may write some of them, and what the job touches
pub record IsEnrolled (x : Outline) (s t : ScriptState) (n : ℕ) (job : JobPlan) (given writable : ℕ → Bool)
    (deps : Jobs) : Type 0 where
  pub has : job_at x.plan n ≡ Some job
  pub made : t.made ≡ s.made
  pub alive : t.alive ≡ s.alive
  pub range : t.range ≡ s.range
  pub words : (c : ℕ) → words_of (t.contents c) ≡ words_of (s.contents c)
  pub book : t.book ≡ with_job s.book deps
  pub users : (c k : ℕ)
      → (t.uses c).users k ≡ ((s.uses c).users k || (nat_eq k (suc s.book.count) && given c))
  pub writers : (c k : ℕ)
      → (t.uses c).writers k ≡ ((s.uses c).writers k || (nat_eq k (suc s.book.count) && writable c))
  pub deps_up : AreUpTo s.book.count deps
  pub deps_are : (k : ℕ) → has_job job.deps.items k ≡ later (jobs_before x) deps k
  pub writable_given : (c : ℕ) → writable c ≡ true → given c ≡ true
  pub used_alive : (c : ℕ) → given c ≡ true → (c < s.made) × (s.alive c ≡ true)
  -- each older job with a conflicting use happens before it
  pub readers : (c k : ℕ)
      → given c ≡ true
      → (s.uses c).writers k ≡ true
      → happens_before s.book deps k ≡ true
  pub writers_too : (c k : ℕ)
      → writable c ≡ true
      → (s.uses c).users k ≡ true
      → happens_before s.book deps k ≡ true
  -- its pieces touch their own words, and words of those containers
  pub reads : (i w : ℕ)
      → i < pieces_of_job job
      → reads_in (touches x.plan (OfJob n i)) w ≡ true
      → (is_own_word x.plan (suc n) w ≡ true) ⊎ IsOfArgument x s given w
  pub writes : (i w : ℕ)
      → i < pieces_of_job job
      → writes_in (touches x.plan (OfJob n i)) w ≡ true
      → (is_own_word x.plan (suc n) w ≡ true) ⊎ IsOfArgument x s writable w

-- the pieces of a job are apart
abbrev pub ArePartsApart : Outline → ℕ → ℕ → Type 0
ArePartsApart x n m = (i : ℕ) → i < m → IsApartFrom (part_piece x.plan n i) (parts x.plan n i)

-- the ledger with one job more
abbrev pub ledger_with_job : Outline → ScriptState → Draft → Ledger
ledger_with_job x t d = ledger_of x.plan x.starts (jobs_before x) (suc (length d.jobs)) t

-- The pieces of the job, or some of them, are in order after those so far.
abbrev pub EnrolledJobsAreInOrder : Type 0
EnrolledJobsAreInOrder = (x : Outline) (s t : ScriptState) (d : Draft) (job : JobPlan)
    (given writable : ℕ → Bool) (deps : Jobs) (m : ℕ)
    → IsKnown s
    → IsPlanned x s d
    → IsEnrolled x s t (length d.jobs) job given writable deps
    → m ≤ pieces_of_job job
    → ArePartsApart x (length d.jobs) m
    → IsLedger (ledger_with_job x t d)
    × AreInOrder (ledger_with_job x t d) (parts x.plan (length d.jobs) m ++ pieces_of x.plan d)
