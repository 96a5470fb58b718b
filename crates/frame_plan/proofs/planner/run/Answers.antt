use Rattle.std.proofs.Common.{◌≡◌, ◌+◌, ◌++◌, suc, sym, subst, arith}
use Rattle.frame_ast.specs.Orders.{setting}
use Rattle.frame_plan.specs.Runs.{IsStop, PassesOnce, HasGone}
use Rattle.plan_state.specs.Steps.{state_at}
use Rattle.plan_statements.specs.Tables.{columns_of}
use Rattle.plan_state.proofs.Accessing.{read_some}
use Rattle.frame_plan.proofs.Acting.{err_is, one_past, past_end}
use Rattle.frame_plan.proofs.Laying.{not_gone, at_gone, gone_further}
use Rattle.frame_plan.proofs.Passing.{stands_within}
use Rattle.frame_plan.proofs.planner.run.Goals as goal

pub loop-at-init : goal.loop-at-init
loop-at-init c = record {
  rising = omega arith;
  inside = c.requires.inside;
  between = λ begun found st n x low lt. absurd (omega arith);
  gone = λ begun found st. not_gone c.args.script.now (columns_of c.args.table.now) c.args.planner.now begun c.args.from found st;
}

pub pass-requires : goal.pass-requires
pass-requires c =
    let l = c.loop-at in
    at_gone c.requires.accepted (l.invariant.gone c.requires.stands.0 c.requires.stands.1 c.requires.stands.2)
    (read_some c.args.script.now.statements l.at c.index-statement.result.now (omega arith) c.index-statement.ensures)

pub returns-in_err-pass-clause-fails : goal.returns-in_err-pass-clause-fails
returns-in_err-pass-clause-fails c =
    let l = c.loop-at in
    let t = columns_of c.args.table.now in
    let begun = c.requires.stands.0 in
    let r = l.invariant.gone begun c.requires.stands.1 c.requires.stands.2 in
    let here = read_some c.args.script.now.statements l.at c.index-statement.result.now (omega arith) c.index-statement.ensures in
    err_is c.from_residual.result c.in_err-pass.field-0.0 (λ fault. PassesOnce fault c.args.script.now t) c.from_residual.ensures.1 (record {
      n = l.at;
      here = (let len = c.args.script.now.statements.ok.0 in omega arith);
      within = stands_within l.planner (setting c.args.script.now t) begun l.at (state_at c.args.script.now t l.at) (c.requires.stands.1 ++ r.more) r.stands;
      passes = c.in_err-pass.ensures.fails (at_gone c.requires.accepted r here);
    })

pub returns-then-not-branch-clause-ran : goal.returns-then-not-branch-clause-ran
returns-then-not-branch-clause-ran c begun found st =
    let l = c.loop-at in
    let t = columns_of c.args.table.now in
    let r = l.invariant.gone begun found st in
    let here = read_some c.args.script.now.statements l.at c.index-statement.result.now (omega arith) c.index-statement.ensures in
    record {
      gone = subst (λ p. HasGone c.args.script.now t c.args.planner.now p begun c.args.from found l.at) (sym (c.in_ok-pass.ensures.stays c.if-not-branch.true))
          r;
      rising = l.invariant.rising;
      inside = l.invariant.inside;
      between = l.invariant.between begun found st;
      stops = subst (IsStop (setting c.args.script.now t) (state_at c.args.script.now t l.at)) (sym here)
          (c.in_ok-pass.ensures.stops c.if-not-branch.true (at_gone c.requires.accepted r here));
    }

pub loop-at-preserved : goal.loop-at-preserved
loop-at-preserved c =
    let l = c.loop-at in
    let t = columns_of c.args.table.now in
    let here = read_some c.args.script.now.statements l.at c.index-statement.result.now (omega arith) c.index-statement.ensures in
    let one : suc l.at ≡ l.at + 1 = omega arith in
    record {
      rising = (let le = l.invariant.rising in omega arith);
      inside = (let len = c.args.script.now.statements.ok.0 in omega arith);
      between = λ begun found st n x low lt.
          one_past (at_gone c.requires.accepted (l.invariant.gone begun found st) here) c.args.from n x
          (c.in_ok-pass.ensures.past c.if-not-branch.false) (l.invariant.between begun found st) low (omega arith);
      gone = λ begun found st.
          let r = l.invariant.gone begun found st in
          subst (HasGone c.args.script.now t c.args.planner.now c.pass.new.planner begun c.args.from found) one
          (gone_further c.requires.accepted r here l.invariant.rising
          (c.in_ok-pass.ensures.passed c.if-not-branch.false (at_gone c.requires.accepted r here)));
    }

pub returns-clause-ran : goal.returns-clause-ran
returns-clause-ran c begun found st =
    let l = c.loop-at in
    let t = columns_of c.args.table.now in
    record {
      gone = l.invariant.gone begun found st;
      rising = l.invariant.rising;
      inside = l.invariant.inside;
      between = l.invariant.between begun found st;
      stops = subst (IsStop (setting c.args.script.now t) (state_at c.args.script.now t l.at))
          (sym (past_end c.args.script.now.statements.items l.at (let len = c.args.script.now.statements.ok.0 in omega arith))) tt;
    }
