-- Statements that are put one after another, up to the first for which there is no room.
use Rattle.std.proofs.Common.{arith, ◌≡◌, ◌≤◌, ◌<◌, ◌+◌, ◌-◌, ◌∙◌, ◌⊎◌, inl, inr, ℕ, zero, suc, Bool, true, false, cond, Some, List, [], ◌∷◌, ◌++◌, refl, sym, ap, subst, length, length-append, append_assoc}
use Rattle.std.specs.List.{AllZip}
use Rattle.std.specs.Prelude.{◌&&◌, ◌||◌, not, nat_lt}
use Rattle.std.proofs.lemmas.List.{append-nil}
use Rattle.std.proofs.lemmas.Bool.Decides.{nat_tests}
use Rattle.frame_ast.specs.declared.script.Statement.{Statement}
use Rattle.script_text.specs.declared.source.Source.{Source}
use Rattle.script_text.specs.Sources.{line_at}
use Rattle.frame_script.specs.Files.{Mark, excess}
use Rattle.frame_ast.specs.Accepted.{is_when}
use Rattle.frame_script.specs.Writing.{Writing, HadRoom, HasMark, tests_in, fits_in, put, put_in, put_unless, put_all}
use Rattle.frame_script.proofs.Writing.Marks.{excess_behind, tests_in_both}

-- What is left of a writing when these statements are put behind it: there was room for all, or this is the first excess of the whole,
-- whatever comes behind.
pub data Puts (s : Source) (w : Writing) (xs : List Statement) (marks more : List Mark) (v : Writing) : Type 0 where
  all_put : HadRoom v (marks ++ more) → v.statements ≡ w.statements ++ xs → v.blocks ≡ w.blocks → Puts s w xs marks more v
  stopped : (line at : ℕ) → v.over ≡ Some line → line ≡ line_at s at →
      ((behind : List Mark) → excess 65536 1024 ((marks ++ more) ++ behind) ≡ Some at) → v.blocks ≡ w.blocks →
      Puts s w xs marks more v

-- without room for a mark, it is the first excess
stops : (room tests at : ℕ) (tested : Bool) (behind : List Mark) → (room ≡ 0) ⊎ ((tested ≡ true) × (tests ≡ 0)) →
    excess room tests (record { at = at; tested = tested } ∷ behind) ≡ Some at
stops zero tests at tested behind h = refl
stops (suc room) tests at tested behind (inl h) = absurd (omega (arith, h))
stops (suc room) zero at true behind (inr h) = refl
stops (suc room) (suc tests) at true behind (inr h) = absurd (omega (arith, h.1))
stops (suc room) tests at false behind (inr h) = absurd cc

full : (statements tests : ℕ) (tested : Bool) → false ≡ (nat_lt statements 65536 && (not tested || nat_lt tests 1024)) →
    (65536 ≤ statements) ⊎ ((tested ≡ true) × (1024 ≤ tests))
full statements tests tested h = by_first (nat_lt statements 65536) refl h where
  by_second : (t : Bool) → false ≡ (not t || nat_lt tests 1024) → (t ≡ true) × (1024 ≤ tests)
  by_second true e = (refl, grind (arith, nat_tests))
  by_second false e = absurd cc

  by_first : (b : Bool) → b ≡ nat_lt statements 65536 → false ≡ (b && (not tested || nat_lt tests 1024))
      → (65536 ≤ statements) ⊎ ((tested ≡ true) × (1024 ≤ tests))
  by_first false e h = inl (grind (arith, nat_tests))
  by_first true e h = inr (by_second tested h)

room_for : (statements tests : ℕ) (tested : Bool) → tests ≤ 1024 → true ≡ (nat_lt statements 65536 && (not tested || nat_lt tests 1024)) →
    (statements < 65536) × (cond tested (tests + 1) tests ≤ 1024)
room_for statements tests tested few h = by_first (nat_lt statements 65536) refl h where
  by_second : (t : Bool) → true ≡ (not t || nat_lt tests 1024) → cond t (tests + 1) tests ≤ 1024
  by_second true e = grind (arith, nat_tests)
  by_second false e = few

  by_first : (b : Bool) → b ≡ nat_lt statements 65536 → true ≡ (b && (not tested || nat_lt tests 1024))
      → (statements < 65536) × (cond tested (tests + 1) tests ≤ 1024)
  by_first false e h = absurd cc
  by_first true e h = (grind (arith, nat_tests), by_second tested h)

one_test : (tested : Bool) (marks : List Mark) (at tests : ℕ) → tests_in marks ≡ tests →
    tests_in (marks ++ record { at = at; tested = tested } ∷ []) ≡ cond tested (tests + 1) tests
one_test true marks at tests e = omega (arith, e, tests_in_both marks (record { at = at; tested = true } ∷ []))
one_test false marks at tests e = omega (arith, e, tests_in_both marks (record { at = at; tested = false } ∷ []))

put_by : (s : Source) (w : Writing) (x : Statement) (marks : List Mark) (at : ℕ) (room : Bool) → HadRoom w marks → x.line ≡ line_at s at →
    room ≡ fits_in (length w.statements) w.tests x.act →
    Puts s w (x ∷ []) marks (record { at = at; tested = is_when x.act } ∷ []) (put_in room w x)
put_by s w x marks at true had line fits =
    let fitting = room_for (length w.statements) w.tests (is_when x.act) (subst (λ n. n ≤ 1024) had.tests_are had.few_tests) fits in
    let count = one_test (is_when x.act) marks at w.tests had.tests_are in
    let len : length (marks ++ record { at = at; tested = is_when x.act } ∷ []) ≡ length marks + 1 = length-append marks _ in
    let len_statements : length (w.statements ++ x ∷ []) ≡ length w.statements + 1 = length-append w.statements _ in
    all_put (record {
      within = had.within;
      statements_are = omega (arith, len, len_statements, had.statements_are);
      tests_are = count;
      few_statements = omega (arith, len, fitting.0, had.statements_are);
      few_tests = subst (λ n. n ≤ 1024) (sym count) fitting.1;
    }) refl refl
put_by s w x marks at false had line fits =
    let m : Mark = record { at = at; tested = is_when x.act } in
    stopped x.line at refl line (λ behind.
    ap (excess 65536 1024) (append_assoc marks (m ∷ []) behind)
    ∙ excess_behind 65536 (65536 - length marks) 1024 (1024 - tests_in marks) marks (m ∷ behind) (omega (arith, had.few_statements))
    (omega (arith, had.few_tests))
    ∙ stops (65536 - length marks) (1024 - tests_in marks) at (is_when x.act) behind (no_room (full (length w.statements) w.tests (is_when x.act) fits)))
    refl where
      no_room : (65536 ≤ length w.statements) ⊎ ((is_when x.act ≡ true) × (1024 ≤ w.tests)) →
          (65536 - length marks ≡ 0) ⊎ ((is_when x.act ≡ true) × (1024 - tests_in marks ≡ 0))
      no_room (inl h) = inl (omega (arith, h, had.statements_are))
      no_room (inr h) = inr (h.0, omega (arith, h.1, had.tests_are))

pub put_one : (s : Source) (w : Writing) (x : Statement) (marks : List Mark) (m : Mark) → HadRoom w marks → HasMark s x m →
    Puts s w (x ∷ []) marks (m ∷ []) (put w x)
put_one s w x marks m had has =
    subst (λ o. Puts s w (x ∷ []) marks (m ∷ []) (put_unless o w x)) (sym had.within)
    (subst (λ t. Puts s w (x ∷ []) marks (record { at = m.at; tested = t } ∷ []) (put_in (fits_in (length w.statements) w.tests x.act) w x)) has.1
    (put_by s w x marks m.at (fits_in (length w.statements) w.tests x.act) had has.0 refl))

-- once there was no room, nothing more is put
pub nothing_put : (w : Writing) (xs : List Statement) (line : ℕ) → w.over ≡ Some line → put_all w xs ≡ w
nothing_put w [] line e = refl
nothing_put w (x ∷ more) line e =
    let same : put w x ≡ w = ap (λ o. put_unless o w x) e in
    ap (λ v. put_all v more) same ∙ nothing_put w more line e

pub puts : (s : Source) (w : Writing) (xs : List Statement) (marks more : List Mark) → HadRoom w marks → AllZip (HasMark s) xs more →
    Puts s w xs marks more (put_all w xs)
puts s w [] marks [] had have =
    all_put (subst (HadRoom w) (sym (append-nil marks)) had) (sym (append-nil w.statements)) refl
puts s w [] marks (m ∷ more) had have = absurd have
puts s w (x ∷ xs) marks [] had have = absurd have
puts s w (x ∷ xs) marks (m ∷ more) had have = behind_one (put w x) (put_one s w x marks m had have.0)
    (λ v had'. puts s v xs (marks ++ m ∷ []) more had' have.1) where
      behind_all : (v u : Writing) → v.statements ≡ w.statements ++ x ∷ [] → v.blocks ≡ w.blocks → Puts s v xs (marks ++ m ∷ []) more u
          → Puts s w (x ∷ xs) marks (m ∷ more) u
      behind_all v u statements blocks (all_put had' statements' blocks') =
          all_put (subst (HadRoom u) (append_assoc marks (m ∷ []) more) had')
          (statements' ∙ ap (λ ys. ys ++ xs) statements ∙ append_assoc w.statements (x ∷ []) xs) (blocks' ∙ blocks)
      behind_all v u statements blocks (stopped line at over line_is first blocks') =
          stopped line at over line_is
          (λ behind. ap (λ ms. excess 65536 1024 (ms ++ behind)) (sym (append_assoc marks (m ∷ []) more)) ∙ first behind) (blocks' ∙ blocks)

      behind_one : (v : Writing) → Puts s w (x ∷ []) marks (m ∷ []) v → ((u : Writing) → HadRoom u (marks ++ m ∷ [])
          → Puts s u xs (marks ++ m ∷ []) more (put_all u xs)) →
          Puts s w (x ∷ xs) marks (m ∷ more) (put_all v xs)
      behind_one v (all_put had' statements blocks) others = behind_all v (put_all v xs) statements blocks (others v had')
      behind_one v (stopped line at over line_is first blocks) others =
          subst (Puts s w (x ∷ xs) marks (m ∷ more)) (sym (nothing_put v xs line over))
          (stopped line at over line_is
          (λ behind. ap (excess 65536 1024) (ap (λ ms. ms ++ behind) (sym (append_assoc marks (m ∷ []) more)) ∙ append_assoc (marks ++ m ∷ []) more behind)
          ∙ first (more ++ behind)) blocks)
