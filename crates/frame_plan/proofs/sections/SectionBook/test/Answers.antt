use Rattle.std.proofs.Common.{◌≡◌, ℕ, ℤ, Some, refl, sym, subst, to_z, of_z, w64, arith}
use Rattle.std.proofs.lemmas.Int.{ints}
use Rattle.frame_ast.specs.Orders.{Setting, setting}
use Rattle.frame_ast.specs.declared.script.Order.{Order}
use Rattle.frame_ast.specs.declared.script.Order.TheVariants.{When}
use Rattle.frame_ast.specs.declared.script.Sign.{Sign}
use Rattle.frame_ast.specs.States.{ScriptState}
use Rattle.frame_plan.specs.declared.section.Test.{Test}
use Rattle.frame_plan.specs.References.{IsOfTest, IsTestFor}
use Rattle.frame_plan.specs.Runs.{IsActingTest, IsStop}
use Rattle.plan_state.specs.Steps.{state_at, IsBefore}
use Rattle.plan_state.proofs.Accessing.{read_some}
use Rattle.frame_plan.proofs.References.{reference}
use Rattle.frame_plan.proofs.sections.SectionBook.test.Goals as goal

pub reference_of-requires : goal.reference_of-requires
reference_of-requires c =
    let r = c.requires in
    let at = c.args.self.now.at in
    let here = read_some c.args.script.now.statements at c.index.result.now (omega arith) c.index.ensures in
    let g = setting c.args.script.now r.0 in
    let s = state_at c.args.script.now r.0 at in
    let acts = subst (IsActingTest g s) c.in-When.is (subst (IsStop g s) here r.2.stops) in
    let b : IsBefore c.args.script.now r.0 c.args.self.now.planner c.index.result.now = record {
      begun = state_at c.args.script.now r.0 r.1;
      n = at;
      found = r.2.found;
      step = record { accepted = r.2.accepted; here = here; acts = acts.0 };
      stands = r.2.stands;
    } in
    reference b c.in-When.name c.in-When.sign c.in-When.value c.in-When.count c.in-When.is acts.1

no_other : (g : Setting) (s : ScriptState) (a : Order) → IsActingTest g s a
    → ((name : ℕ) (sign : Sign) (value : ℤ) (count : ℕ) → a ≡ When name sign value count → ⊥) → ⊥
no_other g s (When name sign value count) h not = not name sign value count refl
no_other g s a h not = h

pub unreachable-requires : goal.unreachable-requires
unreachable-requires c =
    let r = c.requires in
    let at = c.args.self.now.at in
    let here = read_some c.args.script.now.statements at c.index.result.now (omega arith) c.index.ensures in
    let g = setting c.args.script.now r.0 in
    let s = state_at c.args.script.now r.0 at in
    no_other g s c.index.result.now.act (subst (IsStop g s) here r.2.stops) c.in_default.not-When

pub returns : goal.returns
returns c =
    let at = c.args.self.now.at in
    let here = read_some c.args.script.now.statements at c.index.result.now (omega arith) c.index.ensures in
    let whole : to_z w64 (of_z w64 c.in-When.value) ≡ c.in-When.value = omega (arith, ints) in
    let test : Test = record { at = c.reference_of.result; sign = c.in-When.sign; bound = to_z w64 (of_z w64 c.in-When.value) } in
    subst (λ o. IsTestFor c.args.self.now.planner o (Some test)) (sym here)
    (subst (IsOfTest c.args.self.now.planner test) (sym c.in-When.is) (refl, whole, c.reference_of.ensures))
