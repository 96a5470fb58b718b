-- A section that ends at a test, and where its script goes on.
use Rattle.std.proofs.Common.{◌≡◌, refl, sym, ap, ◌∙◌, subst, ℕ, zero, suc, ◌+◌, ◌*◌, ◌<◌, ◌≤◌, ◌^◌, Bool, true, false, ℤ, List, [], ◌∷◌, ◌++◌, length, map, Option, None, Some, IsSome, Result, Ok, Err, length-append, arith}
use Rattle.std.specs.Prelude.{slice_get}
use Rattle.job_base.specs.Cells.{cells_of}
use Rattle.frame_ast.specs.declared.script.Order.{Order}
use Rattle.frame_ast.specs.declared.script.Order.TheVariants.{Array, Column, List as NewList, Reference, Map, Stream, Slice, View, Copy, Set, Add, Put, Remove, Clear, SetCapacity, Schedule, Combine, Complete, CompleteAuto, Dispose, DisposeAuto, Print, Flush, Frame, When}
use Rattle.frame_ast.specs.declared.script.Script.{Script}
use Rattle.frame_ast.specs.declared.script.Statement.{Statement}
use Rattle.frame_ast.specs.Arguments.{value_in}
use Rattle.frame_ast.specs.Orders.{Table, setting, compares}
use Rattle.frame_ast.specs.States.{ScriptState, contents_at}
use Rattle.frame_core.specs.Graphs.{cells_after}
use Rattle.frame_plan.specs.declared.section.Section.{Section}
use Rattle.frame_plan.specs.declared.section.Test.{Test}
use Rattle.frame_plan.specs.declared.sections.SectionBook.{SectionBook}
use Rattle.frame_plan.specs.Sections.{IsSectionOf, IsTakenBack, IsTestOf, EndsBy, IsOutcome, AreLeft, IsNext, outcome_by, outcome_of}
use Rattle.plan_state.specs.Steps.{state_at}
use Rattle.frame_rows.specs.Between.{AreCellsOf, IsBetween}

test_outcome : (script : Script) (table : Table) (s : ScriptState) (cells : ℕ → ℤ) (test : Test) (x : Order)
    → IsTestOf (setting script table) s cells test x → compares test.sign (cells test.at.start) test.bound ≡ outcome_of s x
test_outcome script table s cells test (When name sign value count) h =
    let holds = h.4 in
    let number : cells test.at.start ≡ value_in (contents_at s name) = sym (ap value_in holds) in
    λ i. compares (h.2 i) (number i) (h.3 i)
test_outcome script table s cells test (Array name len life values) h = absurd h
test_outcome script table s cells test (Column name column life) h = absurd h
test_outcome script table s cells test (NewList name cap life) h = absurd h
test_outcome script table s cells test (Reference name life value) h = absurd h
test_outcome script table s cells test (Map name cap life) h = absurd h
test_outcome script table s cells test (Stream name count room life) h = absurd h
test_outcome script table s cells test (Slice name of start len) h = absurd h
test_outcome script table s cells test (View name of) h = absurd h
test_outcome script table s cells test (Copy name of) h = absurd h
test_outcome script table s cells test (Set name at value) h = absurd h
test_outcome script table s cells test (Add name first second) h = absurd h
test_outcome script table s cells test (Put name key value) h = absurd h
test_outcome script table s cells test (Remove name at) h = absurd h
test_outcome script table s cells test (Clear name) h = absurd h
test_outcome script table s cells test (SetCapacity name cap) h = absurd h
test_outcome script table s cells test (Schedule job) h = absurd h
test_outcome script table s cells test (Combine name of) h = absurd h
test_outcome script table s cells test (Complete name) h = absurd h
test_outcome script table s cells test (CompleteAuto name) h = absurd h
test_outcome script table s cells test (Dispose name after handle) h = absurd h
test_outcome script table s cells test (DisposeAuto name handle) h = absurd h
test_outcome script table s cells test (Print name) h = absurd h
test_outcome script table s cells test Flush h = absurd h
test_outcome script table s cells test Frame h = absurd h

ends_by : (script : Script) (table : Table) (to : ℕ) (cells : ℕ → ℤ) (test : Test) (o : Option Statement) → slice_get script.statements.items to ≡ o
    → EndsBy (setting script table) (state_at script table to) cells o (Some test)
    → compares test.sign (cells test.at.start) test.bound ≡ outcome_by (state_at script table to) (slice_get script.statements.items to)
ends_by script table to cells test None e h = absurd h
ends_by script table to cells test (Some x) e h =
    test_outcome script table (state_at script table to) cells test x.act h ∙ ap (λ o. outcome_by (state_at script table to) o) (sym e)

outcome_at : (script : Script) (table : Table) (from to : ℕ) (held : Option Bool) → from < to
    → held ≡ Some (outcome_by (state_at script table to) (slice_get script.statements.items to)) → IsOutcome script table to held
outcome_at script table from zero held l e = absurd (omega (arith, l))
outcome_at script table from (suc to) held l e = e

pub goes_on : (script : Script) (table : Table) (from : ℕ) (book : SectionBook) (section : Section) (next : IsNext book script table from section)
    (test : Test) → section.test ≡ Some test → (after : SectionBook) → IsTakenBack book section.plan after
    → (left : List ℤ) → AreCellsOf section.plan left → (answer : Bool) → answer ≡ compares test.sign (cells_of left test.at.start) test.bound
    → IsBetween script table after (Some answer) left
goes_on script table from book section next test e after taken left cells answer is =
    let some : IsSome section.test = subst IsSome (sym e) refl in
    let words_are = next.is_section.well_ordered.sized.words_are in
    let inside = next.inside test e in
    let low : test.at.start < section.plan.words = omega arith in
    let ends = ends_by script table next.to (cells_after section.plan) test (slice_get script.statements.items next.to) refl
    (subst (λ t. EndsBy (setting script table) (state_at script table next.to) (cells_after section.plan) (slice_get script.statements.items next.to) t) e
    next.is_section.test) in
    let size = cells.size in
    record {
      from = next.to;
      carried = cells_after section.plan;
      len = section.plan.cells;
      at = next.at some after taken;
      outcome = outcome_at script table from next.to (Some answer) (next.later some)
          (ap Some (is ∙ ap (λ z. compares test.sign z test.bound) (cells.each test.at.start low) ∙ ends));
      left = (omega arith, λ w l. cells.each w (omega arith));
    }
