use Rattle.std.proofs.Common.{arith, ◌≤◌, ◌∙◌, length}
use Rattle.script_checks.specs.Spelling.{arg_of, names_with}
use Rattle.script_checks.proofs.FaultLemmas.{exits, exits_without_memory}
use Rattle.script_checks.proofs.JobLemmas.{args_passed, args_stopped, args_ended}
use Rattle.script_checks.proofs.ListLemmas.{kept_more, all_taken}
use Rattle.script_checks.proofs.order_checks.jobs.arguments.Goals as goal

pub returns-in_err-one : goal.returns-in_err-one
returns-in_err-one c =
    exits _ _ c.from_residual.result _ c.from_residual.ensures.1
    (args_stopped c.args.source c.args.names.now c.args.sizes.now c.args.kernel.now.params.items c.args.args.now c.loop-place.place c.index.result.now
    c.index-args-place.result _ _
    (omega arith) (omega arith) c.loop-place.invariant.passed c.index.ensures c.index-args-place.is c.in_err-one.ensures)

pub loop-place-preserved : goal.loop-place-preserved
loop-place-preserved c = record {
  passed = args_passed c.args.source c.args.names.now c.args.sizes.now c.args.kernel.now.params.items c.args.args.now c.loop-place.place c.index.result.now
      c.index-args-place.result _
      (omega arith) (omega arith) c.loop-place.invariant.passed c.index.ensures c.index-args-place.is c.in_ok-one.ensures.0;
  given = λ m. c.in_ok-push.ensures.items
      ∙ kept_more (arg_of c.args.source (names_with c.args.source c.args.names.now m)) c.args.args.now c.loop-place.place c.index-args-place.result
      c.in_ok-one.one c.loop-place.given.items
      (omega arith) (c.loop-place.invariant.given m) c.index-args-place.is (c.in_ok-one.ensures.1 m);
}

pub returns-in_err-push : goal.returns-in_err-push
returns-in_err-push c = exits_without_memory _ _ c.from_residual-in_err-push.result c.from_residual-in_err-push.ensures.1

pub returns : goal.returns
returns c =
    let ended : length c.args.kernel.now.params.items ≤ c.loop-place.place = omega arith in
    let end : length c.args.args.now ≤ c.loop-place.place = omega arith in (
      args_ended c.args.source c.args.names.now c.args.sizes.now c.args.kernel.now.params.items c.args.args.now c.loop-place.place _ ended
          c.loop-place.invariant.passed,
      (λ m. all_taken (arg_of c.args.source (names_with c.args.source c.args.names.now m)) c.args.args.now c.loop-place.place _ end
          (c.loop-place.invariant.given m)),
    )
