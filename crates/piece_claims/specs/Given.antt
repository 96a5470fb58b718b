-- Which pieces of jobs are given to which tokens. Jobs go by their places, and so do the pieces of a job, from 0.
use Rattle.std.specs.Prelude.{◌≡◌, ℕ, ◌+◌, ◌-◌, ◌<◌, ◌≤◌, nat_eq, if◌then◌else◌, List, length, slice_index}
use mathlib.Core.Option.{some}
use lib.ListN.{get_elem?}
use Rattle.atomic_table.specs.Table.{State, Me, Step}
use Rattle.piece_claims.specs.declared.view.View.{View}
use Rattle.piece_claims.specs.declared.view.View.TheVariants.{Saw, Given}

-- The token is given this place of the job: one of the places that it has, which follow one another.
pub record IsGivenTo (views : List View) (token job place : ℕ) : Type 0 where
  pub first : ℕ
  pub count : ℕ
  pub has : get_elem? views token ≡ some (Given job first count)
  pub from : first ≤ place
  pub below : place < first + count

-- THE RULE, between any two steps. The words are counts, one for each of so many jobs: each place below the count of a
-- job is given to just one token, and no other place is. What tokens saw of a count is no more than the count.
pub record AreGiven (jobs : ℕ) (s : State ℕ View) : Type 0 where
  pub size : length s.words ≡ jobs
  pub once : (a b j i : ℕ) → IsGivenTo s.views a j i → IsGivenTo s.views b j i → a ≡ b
  pub below : (a j i : ℕ) → IsGivenTo s.views a j i → i < slice_index s.words j
  pub all : (j i : ℕ) → i < slice_index s.words j → (a : ℕ) × IsGivenTo s.views a j i
  pub seen : (a j n : ℕ) → get_elem? s.views a ≡ some (Saw j n) → n ≤ slice_index s.words j

-- THE STEPS, each of which finds n in the word of its job.

-- A new token saw n.
abbrev pub Looks : Step ℕ → Me ℕ View → ℕ → Me ℕ View → Type 0
Looks t me n me' = me'.0 ≡ Saw t.word n

-- Where the count is what was expected, the places from there up to the new count are given to the token. Else the
-- token saw n. Either way n is no less than what the token had seen.
abbrev pub Takes : Step ℕ → Me ℕ View → ℕ → Me ℕ View → Type 0
Takes t me n me' = (me'.0 ≡ (if nat_eq n t.first then Given t.word n (t.second - n) else Saw t.word n))
    × ((k : ℕ) → me.0 ≡ Saw t.word k → k ≤ n)
