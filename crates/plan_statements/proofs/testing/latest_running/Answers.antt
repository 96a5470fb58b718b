use Rattle.std.proofs.Common.{sym, ap, ◌∙◌, not, arith}
use Rattle.job_handle.specs.Sets.{job_numbered}
use Rattle.frame_ast.specs.Jobs.{greatest}
use Rattle.plan_statements.proofs.TestsGoOn.{is_greatest, is_less, numbered}
use Rattle.plan_statements.proofs.testing.latest_running.Goals as goal

pub loop-left-init : goal.loop-left-init
loop-left-init c = record {
  within = (let e = c.count-left.ensures.count in omega arith);
  same = λ b stands. ap (greatest (λ j. not (b.completed j))) (sym stands.count ∙ sym c.count-left.ensures.count);
}

pub loop-left-preserved : goal.loop-left-preserved
loop-left-preserved c = record {
  within = (let le = c.loop-left.invariant.within in omega arith);
  same = λ b stands. c.loop-left.invariant.same b stands
      ∙ is_less (λ j. not (b.completed j)) c.loop-left.left c.loop-left-test.true
      (ap not (sym (c.is_completed.ensures b stands) ∙ c.if-not-is_completed.false));
}

pub returns-then-not-is_completed : goal.returns-then-not-is_completed
returns-then-not-is_completed c b stands =
    numbered c.loop-left.left c.loop-left-test.true
    ∙ ap job_numbered (sym (c.loop-left.invariant.same b stands
    ∙ is_greatest (λ j. not (b.completed j)) c.loop-left.left c.loop-left-test.true
    (ap not (sym (c.is_completed.ensures b stands) ∙ c.if-not-is_completed.true))))
