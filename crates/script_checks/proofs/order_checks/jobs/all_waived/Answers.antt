use Rattle.std.proofs.Common.{arith, ◌≤◌, ◌∙◌, ℕ, Option, length}
use Rattle.kernel_raw.specs.declared.fault.StaticFault.{StaticFault}
use Rattle.script_text.specs.Sources.{text_at}
use Rattle.script_checks.specs.Faults.{waive_fault}
use Rattle.script_checks.specs.Spelling.{param_place}
use Rattle.script_checks.proofs.FaultLemmas.{exits, exits_without_memory}
use Rattle.script_checks.proofs.ListLemmas.{passed_more, stopped_here, all_passed, kept_more, all_taken}
use Rattle.script_checks.proofs.order_checks.jobs.all_waived.Goals as goal

pub loop-name-preserved : goal.loop-name-preserved
loop-name-preserved c =
    let f : ℕ → Option StaticFault = waive_fault c.args.source c.args.kernel.now in
    let g : ℕ → ℕ = λ at. param_place c.args.kernel.now.params.items (text_at c.args.source at) in
    record {
      passed = passed_more f c.args.names.now c.loop-name.name-index c.name-item.result _
          (omega arith) c.loop-name.invariant.passed c.name-item.is c.in_ok-place.ensures.0;
      places = c.in_ok-push.ensures.items
          ∙ kept_more g c.args.names.now c.loop-name.name-index c.name-item.result c.in_ok-place.place c.loop-name.places.items
          (omega arith) c.loop-name.invariant.places c.name-item.is c.in_ok-place.ensures.1;
    }

pub returns-in_err-place : goal.returns-in_err-place
returns-in_err-place c =
    let f : ℕ → Option StaticFault = waive_fault c.args.source c.args.kernel.now in
    exits _ _ c.from_residual.result _ c.from_residual.ensures.1
    (stopped_here f c.args.names.now c.loop-name.name-index c.name-item.result _ _
    (omega arith) c.loop-name.invariant.passed c.name-item.is c.in_err-place.ensures)

pub returns-in_err-push : goal.returns-in_err-push
returns-in_err-push c = exits_without_memory _ _ c.from_residual-in_err-push.result c.from_residual-in_err-push.ensures.1

pub returns : goal.returns
returns c =
    let f : ℕ → Option StaticFault = waive_fault c.args.source c.args.kernel.now in
    let g : ℕ → ℕ = λ at. param_place c.args.kernel.now.params.items (text_at c.args.source at) in
    let end : length c.args.names.now ≤ c.loop-name.name-index = omega arith in (
      all_passed f c.args.names.now c.loop-name.name-index _ end c.loop-name.invariant.passed,
      all_taken g c.args.names.now c.loop-name.name-index _ end c.loop-name.invariant.places,
    )
