use Rattle.std.proofs.Common.{◌≡◌, ◌≤◌, sym, ap, ◌∙◌, arith}
use Rattle.frame_ast.specs.declared.kernel.Stmt.TheViews.{outs-Clear, outs-Begin, outs-If, outs-For, outs-While}
use Rattle.frame_ast.specs.declared.kernel.Stmt.TheOpen.{Clear}
use Rattle.kernel_code.specs.Places.{group_of}
use Rattle.kernel_code.proofs.Built.Expressions.{faultless_at, meaning_is}
use Rattle.kernel_code.proofs.Built.Blocks.{partly_start, partly_end, partly_next, partly_missing}
use Rattle.kernel_code.proofs.Built.Statements.{one_first, two_first, bare_first, begin_first, if_first, if_else_first, for_first, while_first}
use Rattle.kernel_code.proofs.check.statements.+statement.Goals as goal

pub block-loop-at-init : goal.block-loop-at-init
block-loop-at-init t c = record {
  begins = omega arith;
  partly = λ owner b here e. partly_start c.args.raw.now owner c.args.from c.args.end b _ c.in_ok-statements.ensures.items here e;
}

pub block-returns-in_default : goal.block-returns-in_default
block-returns-in_default t c owner b here e =
    partly_missing c.args.raw.now owner c.args.from c.loop-at.at c.args.end b _ c.loop-at-test.true (sym c.node_at.ensures.node ∙ c.in_default.is)
    (c.loop-at.invariant.partly owner b here e)

pub block-loop-at-preserved : goal.block-loop-at-preserved
block-loop-at-preserved t c = record {
  begins = let h = c.loop-at.invariant.begins in omega arith;
  partly = λ owner b here e.
      partly_next c.args.raw.now owner c.args.from c.loop-at.at c.args.end b _ _ c.in-Some.node c.in_ok-statement.field-0 c.loop-at-test.true
      (sym c.node_at.ensures.node ∙ c.in-Some.is) c.in_ok-push.ensures.items
      c.in_ok-statement.ensures (c.loop-at.invariant.partly owner b here e);
}

pub block-returns : goal.block-returns
block-returns t c owner b here e = partly_end c.args.raw.now owner c.args.from c.loop-at.at c.args.end b _ c.loop-at-test.false
    (c.loop-at.invariant.partly owner b here e)

pub statement-returns-in_ok-e-in-Var : goal.statement-returns-in_ok-e-in-Var
statement-returns-in_ok-e-in-Var t c owner b has here =
    let raw = c.args.raw.now in
    let r = c.requires.resolved in
    let there = c.requires.here in
    let group : group_of c.args.node.form ≡ 2 = grind (arith, c.in-Var.is) in
    one_first raw c.args.at c.args.node _ (faultless_at raw _ _ _ r there) (c.meaning_at-meaning.ensures _ (meaning_is raw _ _ _ r there)) there
    c.in_ok-e-in-Var.e.expr _ _ group c.in_ok-e-in-Var.ensures.built c.statement_with_one.ensures owner b has here

pub statement-returns-in_ok-f-in-SetPlace : goal.statement-returns-in_ok-f-in-SetPlace
statement-returns-in_ok-f-in-SetPlace t c owner b has here =
    let raw = c.args.raw.now in
    let r = c.requires.resolved in
    let there = c.requires.here in
    let group : group_of c.args.node.form ≡ 3 = grind (arith, c.in-SetPlace.is) in
    two_first raw c.args.at c.args.node _ (faultless_at raw _ _ _ r there) (c.meaning_at-meaning.ensures _ (meaning_is raw _ _ _ r there)) there
    c.in_ok-e-in-SetPlace.e.expr c.in_ok-f-in-SetPlace.f.expr _ _ _ group c.in_ok-e-in-SetPlace.ensures.built
    c.in_ok-f-in-SetPlace.ensures.built c.statement_with_two.ensures owner b has here

pub statement-returns-in_ok-body-in-Begin : goal.statement-returns-in_ok-body-in-Begin
statement-returns-in_ok-body-in-Begin t c owner b has here =
    let raw = c.args.raw.now in
    let r = c.requires.resolved in
    let there = c.requires.here in
    begin_first raw c.args.at c.args.node _ (faultless_at raw _ _ _ r there)
    (c.meaning_at-meaning.ensures _ (meaning_is raw _ _ _ r there)) there
    c.in_ok-e-in-Begin.e.expr _ _ _ _ (outs-Begin _ _ _) c.in-Begin.is c.in_ok-e-in-Begin.ensures.built
    c.in_ok-body-in-Begin.ensures c.number_of.ensures owner b has here

pub statement-returns-in_ok-body-in-If : goal.statement-returns-in_ok-body-in-If
statement-returns-in_ok-body-in-If t c owner b has here =
    let raw = c.args.raw.now in
    let r = c.requires.resolved in
    let there = c.requires.here in
    if_first raw c.args.at c.args.node _ (faultless_at raw _ _ _ r there) (c.meaning_at-meaning.ensures _ (meaning_is raw _ _ _ r there)) there
    c.in_ok-e-in-If.e.expr _ _ _ _ (outs-If _ _ _) c.in-If.is c.in_ok-e-in-If.ensures.built
    c.in_ok-body-in-If.ensures c.new.ensures.items owner b has here

pub statement-returns-in_ok-other-in-IfElse : goal.statement-returns-in_ok-other-in-IfElse
statement-returns-in_ok-other-in-IfElse t c owner b has here =
    let raw = c.args.raw.now in
    let r = c.requires.resolved in
    let there = c.requires.here in
    if_else_first raw c.args.at c.args.node _ (faultless_at raw _ _ _ r there)
    (c.meaning_at-meaning.ensures _ (meaning_is raw _ _ _ r there)) there
    c.in_ok-e-in-IfElse.e.expr _ _ _ _ (outs-If _ _ _) c.in-IfElse.is c.in_ok-e-in-IfElse.ensures.built c.in_ok-body-in-IfElse.ensures
    c.in_ok-other-in-IfElse.ensures owner b has here

pub statement-returns-in_ok-body-in-For : goal.statement-returns-in_ok-body-in-For
statement-returns-in_ok-body-in-For t c owner b has here =
    let raw = c.args.raw.now in
    let r = c.requires.resolved in
    let there = c.requires.here in
    for_first raw c.args.at c.args.node _ (faultless_at raw _ _ _ r there) (c.meaning_at-meaning.ensures _ (meaning_is raw _ _ _ r there)) there
    c.in_ok-e-in-For.e.expr c.in_ok-f-in-For.f.expr _ _ _ _ _ (outs-For _ _ _ _) c.in-For.is c.in_ok-e-in-For.ensures.built
    c.in_ok-f-in-For.ensures.built c.in_ok-body-in-For.ensures c.number_of-in-For.ensures owner b has here

pub statement-returns-in_ok-body-in-While : goal.statement-returns-in_ok-body-in-While
statement-returns-in_ok-body-in-While t c owner b has here =
    let raw = c.args.raw.now in
    let r = c.requires.resolved in
    let there = c.requires.here in
    while_first raw c.args.at c.args.node _ (faultless_at raw _ _ _ r there)
    (c.meaning_at-meaning.ensures _ (meaning_is raw _ _ _ r there)) there
    c.in_ok-e-in-While.e.expr _ _ _ (outs-While _ _) c.in-While.is c.in_ok-e-in-While.ensures.built c.in_ok-body-in-While.ensures owner b has here

pub statement-returns-in-Clear : goal.statement-returns-in-Clear
statement-returns-in-Clear t c owner b has here =
    let raw = c.args.raw.now in
    let r = c.requires.resolved in
    let there = c.requires.here in
    let group : group_of c.args.node.form ≤ 1 = grind (arith, c.in-Clear.is) in
    bare_first raw c.args.at c.args.node _ (faultless_at raw _ _ _ r there) (c.meaning_at-meaning.ensures _ (meaning_is raw _ _ _ r there)) there
    _ group (outs-Clear _ ∙ ap Clear c.number_of-in-Clear.ensures) owner b has here
