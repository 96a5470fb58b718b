-- What the safety book keeps covers all blockers.
use Rattle.std.proofs.Common.{◌≡◌, ℕ, suc, ◌+◌, ◌<◌, ◌≤◌, ⊎_elim, Bool, true, false, ◌&&◌, ◌||◌, List, [], ◌∷◌, length, drop, get_or, drop-cons, add-one, refl, sym, ap, subst, ◌∙◌, arith}
use Rattle.std.specs.Prelude.{not, nat_eq, nat_lt}
use Rattle.std.proofs.lemmas.Bool.{or_left, or_right, or_cases, and_parts, and_from, eq-eqb, eqb-true, lt-ltb, ltb-true, cases_eq, cases_lt, not-true, not_from_false, false_from_ne_true}
use Rattle.job_base.specs.declared.Access.{Access}
use Rattle.frame_ast.specs.Jobs.{Jobs, only, both, ancestors_in, greatest, Book, happens_before}
use Rattle.frame_ast.specs.Conflicts.{Uses, Need, conflicts, blockers, blocking}
use Rattle.frame_ast.specs.Laws.{IsBook, AreUses}
use Rattle.frame_ast.specs.Schedules.{writes_to}
use Rattle.frame_ast.proofs.Ancestry.{contains, greatest_in, greatest_above}
use Rattle.frame_ast.proofs.Blocking.{conflict_uses}
use Rattle.job_handle.proofs.Booleans.{not_both}
use Rattle.safety_handle.specs.declared.tag.Tag.{Tag}
use Rattle.safety_handle.specs.declared.book.SafetyBook.{SafetyBook}
use Rattle.safety_handle.specs.Uses.{Latest, StandForUses}
use Rattle.safety_handle.specs.Entries.{state_of, conflicting_in}
use Rattle.safety_handle.proofs.Latest.{before_down}
use Rattle.auto_deps.specs.Needs.{conflicting_with, AreNeeds, NoneIsBlocked}

-- ONE CONTAINER

-- the last writer and the readers since are among those whose use conflicts
kept_conflicts : (b : Book) (l : Latest) (u : Uses) → StandForUses b l u → (writes : Bool) (j : ℕ) → conflicting_in l writes j ≡ true
    → conflicts u writes j ≡ true
kept_conflicts b l u S writes j t =
    let p = and_parts (nat_lt 0 j) (nat_eq j l.writer || (writes && l.readers j)) t in
    let low = ltb-true 0 j p.0 in
    ⊎_elim
    (λ q. let e : j ≡ greatest u.writers b.count = eqb-true j l.writer q ∙ S.writer in
    or_left (u.writers j) (writes && u.users j) (subst (λ x. u.writers x ≡ true) (sym e) (greatest_in u.writers b.count (subst (λ x. 0 < x) e low))))
    (λ r. let w = and_parts writes (l.readers j) r in
    or_right (u.writers j) (writes && u.users j) (and_from writes (u.users j) w.0 (and_parts (u.users j) (nat_lt l.writer j) (sym (S.readers j) ∙ w.1)).0))
    (or_cases (nat_eq j l.writer) (writes && l.readers j) p.1)

-- a job that leads to a given one, that is kept and doesn't happen before what waits for `after`
abbrev pub Leads : Book → Jobs → Jobs → ℕ → Type 0
Leads b kept after j = (c : ℕ) × (kept c ≡ true) × (happens_before b after c ≡ false) × (ancestors_in b (only c) j ≡ true)

module _ (b : Book) (B : IsBook b) (after : Jobs) where
  itself : (j : ℕ) → ancestors_in b (only j) j ≡ true
  itself j = contains b.deps b.count (only j) j (eq-eqb j j refl)

  -- one of them leads to each job that blocks
  one_leads : (l : Latest) (u : Uses) → AreUses b u → StandForUses b l u → (writes : Bool) (j : ℕ) → blockers b u after writes j ≡ true
      → Leads b (conflicting_in l writes) after j
  one_leads l u U S writes j t =
      let p = and_parts (conflicts u writes j) (not (happens_before b after j)) t in
      let late : happens_before b after j ≡ false = not-true (happens_before b after j) p.1 in
      let used : u.users j ≡ true = conflict_uses b u U writes j p.0 in
      let range = U.users j used in
      ⊎_elim
      (λ q. (
        j,
        and_from (nat_lt 0 j) (nat_eq j l.writer || (writes && l.readers j)) (lt-ltb 0 j range.0)
            (or_left (nat_eq j l.writer) (writes && l.readers j) (eq-eqb j l.writer q)),
        late,
        itself j,
      ))
      (λ ne. ⊎_elim
      (λ less. let settled = S.settled j used less in (
        l.writer,
        and_from (nat_lt 0 l.writer) (nat_eq l.writer l.writer || (writes && l.readers l.writer)) (lt-ltb 0 l.writer (omega arith))
            (or_left (nat_eq l.writer l.writer) (writes && l.readers l.writer) (eq-eqb l.writer l.writer refl)),
        false_from_ne_true (happens_before b after l.writer) (λ f. not_both (before_down b B after l.writer f j (led j settled late)) late),
        led j settled late,
      ))
      (λ ge. let more : l.writer < j = omega arith in
      let w : writes ≡ true = ⊎_elim
      (λ t. let h : j ≤ l.writer = subst (λ x. j ≤ x) (sym S.writer) (greatest_above u.writers b.count j range.1 t) in absurd (omega arith))
      (λ t. (and_parts writes (u.users j) t).0) (or_cases (u.writers j) (writes && u.users j) p.0) in (
        j,
        and_from (nat_lt 0 j) (nat_eq j l.writer || (writes && l.readers j)) (lt-ltb 0 j range.0)
            (or_right (nat_eq j l.writer) (writes && l.readers j) (and_from writes (l.readers j) w
            (S.readers j ∙ and_from (u.users j) (nat_lt l.writer j) used (lt-ltb l.writer j more)))),
        late,
        itself j,
      ))
      (cases_lt j l.writer))
      (cases_eq j l.writer)
    where
      led : (j : ℕ) → happens_before b (only l.writer) j ≡ true → happens_before b after j ≡ false → ancestors_in b (only l.writer) j ≡ true
      led j settled late = ⊎_elim
          (λ c. absurd (not_both (or_left (b.completed j) (ancestors_in b after j) c) late))
          (λ a. a)
          (or_cases (b.completed j) (ancestors_in b (only l.writer) j) settled)

  -- ALL USES OF A STATEMENT

  module _ (uses : ℕ → Uses) (known : (c : ℕ) → AreUses b (uses c)) (book : SafetyBook) where
    -- what is kept and doesn't happen before blocks
    pub kept_blocks : (given : List (Tag × Access)) (needs : List Need) → AreNeeds b uses book given needs → (j : ℕ) → conflicting_with book given j ≡ true
        → happens_before b after j ≡ false
        → blocking b uses after needs j ≡ true
    kept_blocks [] [] N j t late = absurd (not_both t refl)
    kept_blocks [] (n ∷ rest) N j t late = absurd N
    kept_blocks (x ∷ more) [] N j t late = absurd N
    kept_blocks (x ∷ more) (n ∷ rest) N j t late =
        let l = (state_of book x.0.slot.0).latest in
        let u = uses n.container in
        ⊎_elim
        (λ a. or_left (blockers b u after n.writes j) (blocking b uses after rest j) (and_from (conflicts u n.writes j) (not (happens_before b after j))
        (kept_conflicts b l u N.0.latest n.writes j (subst (λ w. conflicting_in l w j ≡ true) (sym N.0.writes) a))
        (not_from_false (happens_before b after j) late)))
        (λ a. or_right (blockers b u after n.writes j) (blocking b uses after rest j) (kept_blocks more rest N.1 j a late))
        (or_cases (conflicting_in l (writes_to x.1) j) (conflicting_with book more j) t)

    pub each_is_led : (given : List (Tag × Access)) (needs : List Need) → AreNeeds b uses book given needs → (j : ℕ) → blocking b uses after needs j ≡ true
        → Leads b (conflicting_with book given) after j
    each_is_led [] [] N j t = absurd (not_both t refl)
    each_is_led [] (n ∷ rest) N j t = absurd N
    each_is_led (x ∷ more) [] N j t = absurd N
    each_is_led (x ∷ more) (n ∷ rest) N j t =
        let l = (state_of book x.0.slot.0).latest in
        let u = uses n.container in
        ⊎_elim
        (λ a. let c = one_leads l u (known n.container) N.0.latest n.writes j a in (
          c.0,
          or_left (conflicting_in l (writes_to x.1) c.0) (conflicting_with book more c.0) (subst (λ w. conflicting_in l w c.0 ≡ true) N.0.writes c.1),
          c.2,
          c.3,
        ))
        (λ a. let c = each_is_led more rest N.1 j a in (c.0, or_right (conflicting_in l (writes_to x.1) c.0) (conflicting_with book more c.0) c.1, c.2, c.3))
        (or_cases (blockers b u after n.writes j) (blocking b uses after rest j) t)

-- NOTHING BLOCKS

no_greatest : (set : Jobs) (n : ℕ) → ((j : ℕ) → set j ≡ false) → greatest set n ≡ 0
no_greatest set n none = ⊎_elim
    (λ z. z)
    (λ ne. absurd (not_both (greatest_in set n (omega arith)) (none (greatest set n))))
    (cases_eq (greatest set n) 0)

pub none_blocked : (b : Book) (uses : ℕ → Uses) (after : Jobs) (needs : List Need) → ((j : ℕ) → blocking b uses after needs j ≡ false)
    → NoneIsBlocked b uses after needs
none_blocked b uses after [] none = tt
none_blocked b uses after (n ∷ more) none = (
  no_greatest (blockers b (uses n.container) after n.writes) b.count (λ j. false_from_ne_true (blockers b (uses n.container) after n.writes j)
      (λ t. not_both (or_left (blockers b (uses n.container) after n.writes j) (blocking b uses after more j) t) (none j))),
  none_blocked b uses after more (λ j. false_from_ne_true (blocking b uses after more j)
      (λ t. not_both (or_right (blockers b (uses n.container) after n.writes j) (blocking b uses after more j) t) (none j))),
)

-- ONE USE AFTER ANOTHER

pub one_passed : (book : SafetyBook) (given : List (Tag × Access)) (i : ℕ) (d : Tag × Access) (all here more : Jobs) (w : Bool) → i < length given
    → w ≡ writes_to (get_or given i d).1 → here ≡ conflicting_in (state_of book (get_or given i d).0.slot.0).latest w → more ≡ both all here
    → (j : ℕ) → (all j || conflicting_with book (drop i given) j) ≡ conflicting_with book given j
    → (more j || conflicting_with book (drop (i + 1) given) j) ≡ conflicting_with book given j
one_passed book given i d all here more w lt is_write is_here is_more j so =
    let one = get_or given i d in
    let rest = conflicting_with book (drop (suc i) given) j in
    ap (λ k. more j || conflicting_with book (drop k given) j) (add-one i)
    ∙ ap (λ x. x || rest) (λ t. is_more t j)
    ∙ ap (λ x. (all j || x) || rest) ((λ t. is_here t j) ∙ ap (λ v. conflicting_in (state_of book one.0.slot.0).latest v j) is_write)
    ∙ or_assoc (all j) (conflicting_in (state_of book one.0.slot.0).latest (writes_to one.1) j) rest
    ∙ sym (ap (λ xs. all j || conflicting_with book xs j) (drop-cons given i d lt))
    ∙ so
  where
    or_assoc : (x y z : Bool) → ((x || y) || z) ≡ (x || (y || z))
    or_assoc true y z = refl
    or_assoc false y z = refl
