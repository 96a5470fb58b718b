-- Marks: where there was room for the first of them, the first excess is that of the others.
use Rattle.std.proofs.Common.{arith, ◌≡◌, ◌≤◌, ◌+◌, ◌-◌, ◌∙◌, ℕ, zero, suc, Bool, true, false, cond, None, List, [], ◌∷◌, ◌++◌, sym, ap, length}
use Rattle.std.proofs.lemmas.List.{append-nil}
use Rattle.frame_script.specs.Files.{Mark, excess}
use Rattle.frame_script.specs.Writing.{tests_in}

abbrev Behind : (room left : ℕ) → (more back : List Mark) → Type 0
Behind room left more back = (tests few : ℕ) → tests ≡ few + tests_in more → excess room tests (more ++ back) ≡ excess left few back

behind_mark : (room left tests few at : ℕ) (tested : Bool) (more back : List Mark) → tests ≡ few + cond tested (1 + tests_in more) (tests_in more)
    → Behind room left more back →
    excess (suc room) tests (record { at = at; tested = tested } ∷ more ++ back) ≡ excess left few back
behind_mark room left tests few at false more back is known = known tests few is
behind_mark room left zero few at true more back is known = absurd (omega (arith, is))
behind_mark room left (suc tests) few at true more back is known = known tests few (omega (arith, is))

-- behind so many marks, of which so many are `when`, there is as much less room
pub excess_behind : (room left tests few : ℕ) (front back : List Mark) → room ≡ left + length front → tests ≡ few + tests_in front →
    excess room tests (front ++ back) ≡ excess left few back
excess_behind room left tests few [] back r t =
    let same : room ≡ left = omega (arith, r) in
    let same_tests : tests ≡ few = omega (arith, t) in
    ap (λ n. excess n tests back) same ∙ ap (λ n. excess left n back) same_tests
excess_behind zero left tests few (m ∷ more) back r t = absurd (omega (arith, r))
excess_behind (suc room) left tests few (m ∷ more) back r t =
    behind_mark room left tests few m.at m.tested more back t
    (λ tests' few' is. excess_behind room left tests' few' more back (omega (arith, r)) is)

-- where there was room for all there is no excess
pub no_excess : (room tests : ℕ) (marks : List Mark) → length marks ≤ room → tests_in marks ≤ tests → excess room tests marks ≡ None
no_excess room tests marks few few_tests =
    ap (excess room tests) (sym (append-nil marks))
    ∙ excess_behind room (room - length marks) tests (tests - tests_in marks) marks [] (omega (arith, few)) (omega (arith, few_tests))

with_first : (tested : Bool) (both front back : ℕ) → both ≡ front + back → cond tested (1 + both) both ≡ cond tested (1 + front) front + back
with_first true both front back e = omega (arith, e)
with_first false both front back e = e

pub tests_in_both : (front back : List Mark) → tests_in (front ++ back) ≡ tests_in front + tests_in back
tests_in_both [] back = omega arith
tests_in_both (m ∷ more) back = with_first m.tested (tests_in (more ++ back)) (tests_in more) (tests_in back) (tests_in_both more back)

pub tests_within : (marks : List Mark) → tests_in marks ≤ length marks
tests_within [] = omega arith
tests_within (m ∷ more) = with_one m.tested (tests_within more) where
  with_one : (tested : Bool) → tests_in more ≤ length more → cond tested (1 + tests_in more) (tests_in more) ≤ length (m ∷ more)
  with_one true h = omega (arith, h)
  with_one false h = omega (arith, h)
