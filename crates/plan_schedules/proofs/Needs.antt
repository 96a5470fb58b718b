-- What a job with some uses waits for: what the safety book keeps of them is what the script knows.
use Rattle.std.proofs.Common.{◌≡◌, ℕ, ◌<◌, ◌≤◌, ⊎_elim, Bool, true, false, ◌&&◌, ◌||◌, List, [], ◌∷◌, sym, subst, ◌∙◌, arith}
use Rattle.std.specs.Prelude.{nat_eq, nat_lt, if◌then◌else◌}
use Rattle.std.proofs.lemmas.Bool.{and_parts, or_cases, eqb-true, ltb-true}
use Rattle.job_base.specs.declared.Access.{Access}
use Rattle.frame_ast.specs.Conflicts.{Uses, Need, automatic}
use Rattle.frame_ast.specs.Jobs.{Jobs, Book, both}
use Rattle.frame_ast.specs.Laws.{AreUses, AreUpTo}
use Rattle.frame_ast.specs.Orders.{Setting}
use Rattle.frame_ast.specs.Schedules.{Given, writes_to}
use Rattle.frame_ast.specs.States.{ScriptState}
use Rattle.frame_ast.proofs.Ancestry.{greatest_below}
use Rattle.safety_handle.specs.declared.book.SafetyBook.{SafetyBook}
use Rattle.safety_handle.specs.declared.tag.Tag.{Tag}
use Rattle.safety_handle.specs.Entries.{state_of, conflicting_in}
use Rattle.safety_handle.specs.Uses.{Latest, StandForUses}
use Rattle.auto_deps.specs.Needs.{conflicting_with, IsNeed, AreNeeds}
use Rattle.plan_state.specs.declared.state.Planner.{Planner}
use Rattle.plan_schedules.specs.declared.uses.NamedUse.{NamedUse}
use Rattle.plan_state.specs.Stands.{Stands}
use Rattle.plan_schedules.specs.Starting.{AreDeps}
use Rattle.plan_schedules.specs.Uses.{tags_by, tags_of}
use Rattle.plan_schedules.proofs.Choosing.{AreAlive}
use Rattle.plan_schedules.proofs.Meaning.{AreMeant}
use Rattle.plan_schedules.proofs.Notes.{needs}

-- the jobs that are kept are known
kept_up : (b : Book) (l : Latest) (u : Uses) → AreUses b u → StandForUses b l u → (writes : Bool) (j : ℕ) → conflicting_in l writes j ≡ true
    → (0 < j) × (j ≤ b.count)
kept_up b l u are st writes j h =
    let parts = and_parts (nat_lt 0 j) (nat_eq j l.writer || (writes && l.readers j)) h in
    let low = greatest_below u.writers b.count in
    let at = st.writer in (
      ltb-true 0 j parts.0,
      ⊎_elim
          (λ e. let same = eqb-true j l.writer e in omega arith)
          (λ e. (are.users j (and_parts (u.users j) (nat_lt l.writer j) (sym (st.readers j) ∙ (and_parts writes (l.readers j) e).1)).0).1)
          (or_cases (nat_eq j l.writer) (writes && l.readers j) parts.1),
    )

module _ (b : Book) (uses : ℕ → Uses) (are : (c : ℕ) → AreUses b (uses c)) (book : SafetyBook) where
  pub needs_up : (xs : List (Tag × Access)) (ns : List Need) → AreNeeds b uses book xs ns → AreUpTo b.count (conflicting_with book xs)
  needs_up [] ns h j e = absurd cc
  needs_up (x ∷ xs) [] h j e = absurd h
  needs_up (x ∷ xs) (n ∷ ns) h j e = ⊎_elim
      (λ a. kept_up b (state_of book x.0.slot.0).latest (uses n.container) (are n.container) h.0.latest (writes_to x.1) j a)
      (λ a. needs_up xs ns h.1 j a)
      (or_cases (conflicting_in (state_of book x.0.slot.0).latest (writes_to x.1) j) (conflicting_with book xs j) e)

module _ {p : Planner} {g : Setting} {begun : ScriptState} {n : ℕ} {s : ScriptState} {found : List ℕ} (st : Stands p g begun n s found) (after : Jobs) where
  pub needs_are : (us : List NamedUse) (gs : List Given) → AreMeant p s after us gs → AreAlive s gs
      → AreNeeds s.book s.uses p.world.safety (tags_of us) (needs gs)
  needs_are [] [] m a = tt
  needs_are [] (h ∷ gs) m a = absurd m
  needs_are (u ∷ us) [] m a = absurd m
  needs_are (u ∷ us) (h ∷ gs) m a =
      let k = m.0.known_by a.0 in
      let c = st.knows.containers.each h.need.container k.0 k.1 in
      let slot = k.2.2 in
      let need : IsNeed s.book s.uses p.world.safety (k.2.0, u.access) h.need = record {
        writes = sym (λ i. (m.0.given i).need.writes);
        latest = subst (λ n. StandForUses s.book (state_of p.world.safety n).latest (s.uses h.need.container)) (sym (λ i. (slot i).0)) (c.uses k.3);
      } in
      subst (λ o. AreNeeds s.book s.uses p.world.safety (tags_by o u.access (tags_of us)) (h.need ∷ needs gs)) (sym k.2.1) (need, needs_are us gs m.1 a.1)

  -- the dependency set is that of the script
  pub deps_are : (auto : Bool) (us : List NamedUse) (gs : List Given) → AreMeant p s after us gs → AreAlive s gs → (deps : Jobs)
      → AreDeps auto after p.world.jobs p.world.safety (tags_of us) deps
      → deps ≡ (if auto then both after (automatic s.book s.uses after (needs gs)) else after)
  deps_are false us gs m a deps d = d
  deps_are true us gs m a deps d =
      let same = d.3 s.book s.uses (needs gs) st.knows.jobs st.knows.known.uses (needs_are us gs m a) in
      d.1 ∙ (λ i j. after j || same j i)
