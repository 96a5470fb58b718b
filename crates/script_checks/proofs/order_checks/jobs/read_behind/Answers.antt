use Rattle.std.proofs.Common.{rules}
use Rattle.script_checks.proofs.FaultLemmas.{exits, checking}
use Rattle.script_checks.proofs.order_checks.jobs.read_behind.Goals as goal

pub returns-in_err-fitting : goal.returns-in_err-fitting
returns-in_err-fitting c = exits _ _ c.from_residual.result _ c.from_residual.ensures.1 (search (rules, checking))

pub returns-in_err-args : goal.returns-in_err-args
returns-in_err-args c = exits _ _ c.from_residual-in_err-args.result _ c.from_residual-in_err-args.ensures.1 (search (rules, checking))

pub returns-in_err-cut : goal.returns-in_err-cut
returns-in_err-cut c = exits _ _ c.from_residual-in_err-cut.result _ c.from_residual-in_err-cut.ensures.1 (search (rules, checking))

pub returns-in_err-waive : goal.returns-in_err-waive
returns-in_err-waive c = exits _ _ c.from_residual-in_err-waive.result _ c.from_residual-in_err-waive.ensures.1 (search (rules, checking))

pub returns-in_err-after : goal.returns-in_err-after
returns-in_err-after c = exits _ _ c.from_residual-in_err-after.result _ c.from_residual-in_err-after.ensures.1 (search (rules, checking))

pub returns : goal.returns
returns c = (
  search (rules, checking),
  record {
    args_are = c.in_ok-args.ensures.1;
    cut_is = c.in_ok-cut.ensures.1.0;
    defer_is = c.in_ok-cut.ensures.1.1;
    waive_are = c.in_ok-waive.ensures.1;
    after_are = c.in_ok-after.ensures.1;
  },
)
