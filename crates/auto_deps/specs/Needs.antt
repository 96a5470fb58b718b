-- Which needs of a statement a list of uses is.
use Rattle.std.specs.Prelude.{◌≡◌, ℕ, true, false, ◌||◌, nat_eq, List, [], ◌∷◌}
use Rattle.job_base.specs.declared.Access.{Access}
use Rattle.frame_ast.specs.Jobs.{Jobs, only, both, Ancestor, Book}
use Rattle.frame_ast.specs.Conflicts.{Uses, Need, blocker, blocking, automatic}
use Rattle.frame_ast.specs.Laws.{AreUpTo, AreUses}
use Rattle.frame_ast.specs.Schedules.{writes_to}
use Rattle.job_handle.specs.declared.book.JobBook.{JobBook}
use Rattle.job_handle.specs.Books.{StandsFor}
use Rattle.safety_handle.specs.declared.tag.Tag.{Tag}
use Rattle.safety_handle.specs.declared.book.SafetyBook.{SafetyBook}
use Rattle.safety_handle.specs.Uses.{StandForUses, users_of}
use Rattle.safety_handle.specs.Entries.{state_of, conflicting_in}

-- the jobs that the safety book keeps for those whose use conflicts with one of some uses
abbrev pub conflicting_with : SafetyBook → List (Tag × Access) → Jobs
conflicting_with book [] j = false
conflicting_with book (x ∷ more) j =
    conflicting_in (state_of book x.0.slot.0).latest (writes_to x.1) j || conflicting_with book more j

-- each job that the safety book keeps is one of the first n
abbrev pub AreNoted : ℕ → SafetyBook → Type 0
AreNoted n book = (slot : ℕ) → AreUpTo n (users_of (state_of book slot).latest)

-- A use is a need of a container: both write or neither does, and what the safety book keeps of the slot stands for all
-- uses of the container.
pub record IsNeed (b : Book) (uses : ℕ → Uses) (book : SafetyBook) (x : Tag × Access) (n : Need) : Type 0 where
  pub writes : n.writes ≡ writes_to x.1
  pub latest : StandForUses b (state_of book x.0.slot.0).latest (uses n.container)

-- the needs are the uses, one by one
abbrev pub AreNeeds : Book → (ℕ → Uses) → SafetyBook → List (Tag × Access) → List Need → Type 0
AreNeeds b uses book [] [] = Unit {0}
AreNeeds b uses book [] (n ∷ rest) = ⊥
AreNeeds b uses book (x ∷ more) [] = ⊥
AreNeeds b uses book (x ∷ more) (n ∷ rest) = IsNeed b uses book x n × AreNeeds b uses book more rest

-- THE PROMISES

-- something is so for each book of jobs, all uses of the containers and the needs that are stood for
abbrev pub ForNeeds : JobBook → SafetyBook → List (Tag × Access) → (Book → (ℕ → Uses) → List Need → Type 0) → Type 0
ForNeeds jobs book given IsSo =
    (b : Book) (uses : ℕ → Uses) (needs : List Need)
    → StandsFor jobs b
    → ((c : ℕ) → AreUses b (uses c))
    → AreNeeds b uses book given needs
    → IsSo b uses needs

-- no job blocks one of the needs of a statement that waits for `after`
abbrev pub NoneIsBlocked : Book → (ℕ → Uses) → Jobs → List Need → Type 0
NoneIsBlocked b uses after [] = Unit {0}
NoneIsBlocked b uses after (n ∷ more) =
    (blocker b (uses n.container) after n.writes ≡ 0) × NoneIsBlocked b uses after more

-- the answer is the automatic set
abbrev pub IsAutomatic : Jobs → Jobs → Book → (ℕ → Uses) → List Need → Type 0
IsAutomatic after answer b uses needs = (j : ℕ) → answer j ≡ automatic b uses after needs j

-- each job of the answer blocks one of the needs, where the statement waits for `after` alone
abbrev pub AreBlockers : Jobs → Jobs → Book → (ℕ → Uses) → List Need → Type 0
AreBlockers after answer b uses needs = (j : ℕ) → answer j ≡ true → blocking b uses after needs j ≡ true

-- where the statement waits for the answer too, no job blocks it
abbrev pub LeavesNone : Jobs → Jobs → Book → (ℕ → Uses) → List Need → Type 0
LeavesNone after answer b uses needs = NoneIsBlocked b uses (both after answer) needs

-- no job of the answer is an ancestor of another
abbrev pub AreApart : Jobs → Book → (ℕ → Uses) → List Need → Type 0
AreApart answer b uses needs =
    (j k : ℕ) → answer j ≡ true → answer k ≡ true → nat_eq k j ≡ false → Ancestor b.deps (only k) j → ⊥
