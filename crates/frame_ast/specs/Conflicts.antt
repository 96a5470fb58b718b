-- When jobs block the use of a container.
--
-- Decided here is which jobs conflict with a use of a container, which of them block it because nothing orders them
-- before it, which of them a refusal names, and what the automatic set of a statement is. Which uses a statement has is
-- a matter of `Schedules` and `Checks`; that a blocked statement is refused, and in which order causes are asked, of
-- `Refusals`. Jobs, their ancestors and completions stand in `Jobs`.
use Rattle.std.specs.Prelude.{ℕ, Bool, false, ◌&&◌, ◌||◌, not, nat_eq, if◌then◌else◌, List, [], ◌∷◌}
use Rattle.frame_ast.specs.Jobs.{Jobs, nobody, only, ancestors_in, greatest, any_job, Book, happens_before}

-- the jobs that use a container, and those of them that write it
pub record Uses : Type 0 where
  pub users : Jobs
  pub writers : Jobs

abbrev pub unused : Uses
unused = record { users = nobody; writers = nobody }

-- Two uses of one container conflict where at least one of them writes: the jobs whose use conflicts with a reading or
-- a writing one.
abbrev pub conflicts : Uses → Bool → Jobs
conflicts u writes j = u.writers j || (writes && u.users j)

-- the jobs whose use conflicts and that don't happen before what waits for `after`
abbrev pub blockers : Book → Uses → Jobs → Bool → Jobs
blockers b u after writes j = conflicts u writes j && not (happens_before b after j)

-- the greatest of them, or 0
abbrev pub blocker : Book → Uses → Jobs → Bool → ℕ
blocker b u after writes = greatest (blockers b u after writes) b.count

-- whether some user wasn't completed
abbrev pub has_pending : Book → Uses → Bool
has_pending b u = any_job (λ j. u.users j && not (b.completed j)) b.count

-- Those of a set of which no other one is a descendant: the jobs that no other job of the set leads to.
abbrev pub leads_to : Book → ℕ → ℕ → Bool
leads_to b k j = not (nat_eq k j) && ancestors_in b (only k) j

abbrev pub latest : Book → Jobs → Jobs
latest b set j = set j && not (any_job (λ k. set k && leads_to b k j) b.count)

-- A STATEMENT WITH SEVERAL USES

-- one use of a container, and the name by which the statement uses it
pub record Need : Type 0 where
  pub name : ℕ
  pub container : ℕ
  pub writes : Bool

-- the jobs that block one of the uses
abbrev pub blocking : Book → (ℕ → Uses) → Jobs → List Need → Jobs
blocking b uses after [] j = false
blocking b uses after (n ∷ more) j = blockers b (uses n.container) after n.writes j || blocking b uses after more j

-- the name of the first use that conflicts with a use by that job
abbrev pub name_in_conflict : (ℕ → Uses) → List Need → ℕ → ℕ
name_in_conflict uses [] j = 0
name_in_conflict uses (n ∷ more) j =
    if conflicts (uses n.container) n.writes j then n.name else name_in_conflict uses more j

-- The automatic set: the blockers that are no ancestors of another blocker.
abbrev pub automatic : Book → (ℕ → Uses) → Jobs → List Need → Jobs
automatic b uses after needs = latest b (blocking b uses after needs)

-- whether one of the uses is of container c, and whether one of these writes
abbrev pub uses_it : List Need → ℕ → Bool
uses_it [] c = false
uses_it (n ∷ more) c = nat_eq c n.container || uses_it more c

abbrev pub writes_it : List Need → ℕ → Bool
writes_it [] c = false
writes_it (n ∷ more) c = (n.writes && nat_eq c n.container) || writes_it more c

-- the uses of all containers, with those of one more job
abbrev pub with_uses : (ℕ → Uses) → ℕ → List Need → ℕ → Uses
with_uses uses job needs c = record {
  users = λ j. (uses c).users j || (nat_eq j job && uses_it needs c);
  writers = λ j. (uses c).writers j || (nat_eq j job && writes_it needs c);
}
