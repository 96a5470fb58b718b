use Rattle.std.proofs.Common.{◌≡◌, refl, sym, ap, subst, ◌∙◌, to_z, of_z, w64, arith}
use Rattle.std.proofs.lemmas.Int.{ints}
use Rattle.frame_ast.specs.declared.script.Order.TheVariants as order
use Rattle.frame_core.proofs.Small.{not_both}
use Rattle.plan_statements.specs.Tests.{IsDecided}
use Rattle.frame_plan.proofs.Acting.{not_when, sees, taken, few_literals, test_past, test_stops}
use Rattle.frame_plan.proofs.planner.pass_test.Goals as goal

pub refuse_test-requires : goal.refuse_test-requires
refuse_test-requires c =
    let value : to_z w64 (of_z w64 c.in-When.value) ≡ c.in-When.value = omega (arith, ints) in
    record {
      ready = sees c.requires.at.2 c.requires.acts _
          (c.in-When.is ∙ (λ i. order.When c.in-When.name c.in-When.sign (sym value i) c.in-When.count));
    }

pub take-requires : goal.take-requires
take-requires c = record { few = few_literals c.requires.at.2 c.requires.acts _ refl }

pub returns-in_ok-take-in-Some-clause-passed : goal.returns-in_ok-take-in-Some-clause-passed
returns-in_ok-take-in-Some-clause-passed c script columns went there =
    let value : to_z w64 (of_z w64 c.in-When.value) ≡ c.in-When.value = omega (arith, ints) in
    taken there c.requires.acts _ (c.in-When.is ∙ (λ i. order.When c.in-When.name c.in-When.sign (sym value i) c.in-When.count))
    c.refuse_test.new.world c.take.new.self c.in-Some.answer (subst
    (IsDecided c.args.planner.now.world c.refuse_test.new.world
    (order.When c.in-When.name c.in-When.sign (to_z w64 (of_z w64 c.in-When.value)) c.in-When.count))
    c.in-Some.is c.refuse_test.ensures.decided).0 c.in_ok-take-in-Some.ensures there

pub returns-in_ok-take-in-Some-clause-past : goal.returns-in_ok-take-in-Some-clause-past
returns-in_ok-take-in-Some-clause-past c script columns went there =
    let value : to_z w64 (of_z w64 c.in-When.value) ≡ c.in-When.value = omega (arith, ints) in
    test_past there c.requires.acts c.in-When.name c.in-When.sign (to_z w64 (of_z w64 c.in-When.value)) c.in-When.count
    (c.in-When.is ∙ (λ i. order.When c.in-When.name c.in-When.sign (sym value i) c.in-When.count))
    (subst (IsDecided c.args.planner.now.world c.refuse_test.new.world
    (order.When c.in-When.name c.in-When.sign (to_z w64 (of_z w64 c.in-When.value)) c.in-When.count))
    c.in-Some.is c.refuse_test.ensures.decided).1 there

pub returns-in-None-clause-stops : goal.returns-in-None-clause-stops
returns-in-None-clause-stops c script columns stay there =
    let value : to_z w64 (of_z w64 c.in-When.value) ≡ c.in-When.value = omega (arith, ints) in
    test_stops there c.requires.acts c.in-When.name c.in-When.sign (to_z w64 (of_z w64 c.in-When.value)) c.in-When.count
    (c.in-When.is ∙ (λ i. order.When c.in-When.name c.in-When.sign (sym value i) c.in-When.count))
    (subst (IsDecided c.args.planner.now.world c.refuse_test.new.world
    (order.When c.in-When.name c.in-When.sign (to_z w64 (of_z w64 c.in-When.value)) c.in-When.count))
    c.in-None.is c.refuse_test.ensures.decided).1 there

pub returns-in-None-clause-stays : goal.returns-in-None-clause-stays
returns-in-None-clause-stays c stay =
    let value : to_z w64 (of_z w64 c.in-When.value) ≡ c.in-When.value = omega (arith, ints) in
    ap (λ w. record c.args.planner.now { world = w }) (subst (IsDecided c.args.planner.now.world c.refuse_test.new.world
    (order.When c.in-When.name c.in-When.sign (to_z w64 (of_z w64 c.in-When.value)) c.in-When.count))
    c.in-None.is c.refuse_test.ensures.decided).0

pub unreachable-requires : goal.unreachable-requires
unreachable-requires c = not_both c.requires.test (not_when c.args.statement.now.act c.in_default.not-When)
