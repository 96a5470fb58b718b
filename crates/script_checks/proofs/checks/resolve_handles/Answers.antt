use Rattle.std.proofs.Common.{arith, ◌≤◌, ◌∙◌, ℕ, Option, [], ◌∷◌, length}
use Rattle.kernel_raw.specs.declared.fault.StaticFault.{StaticFault}
use Rattle.frame_ast.specs.declared.name_kind.NameKind.TheVariants.{Handle}
use Rattle.script_checks.specs.Faults.{use_fault}
use Rattle.script_checks.specs.Spelling.{place_of, names_with}
use Rattle.script_checks.proofs.FaultLemmas.{refuses, exits, exits_without_memory}
use Rattle.script_checks.proofs.ListLemmas.{passed_more, stopped_here, all_passed, kept_more, all_taken}
use Rattle.script_checks.proofs.checks.resolve_handles.Goals as goal

pub loop-handle-preserved : goal.loop-handle-preserved
loop-handle-preserved c =
    let f : ℕ → Option StaticFault = use_fault c.args.source c.args.names.now (Handle ∷ []) in
    record {
      passed = passed_more f c.args.handles.now c.loop-handle.handle-index c.handle-item.result _
          (omega arith) c.loop-handle.invariant.passed c.handle-item.is c.in_ok-place.ensures.0;
      places = λ m. c.in_ok-push.ensures.items
          ∙ kept_more (place_of c.args.source (names_with c.args.source c.args.names.now m)) c.args.handles.now c.loop-handle.handle-index c.handle-item.result
          c.in_ok-place.place
          c.loop-handle.places.items (omega arith) (c.loop-handle.invariant.places m) c.handle-item.is (c.in_ok-place.ensures.1 m);
    }

pub returns-in_err-place : goal.returns-in_err-place
returns-in_err-place c =
    let f : ℕ → Option StaticFault = use_fault c.args.source c.args.names.now (Handle ∷ []) in
    exits _ _ c.from_residual.result _ c.from_residual.ensures.1
    (stopped_here f c.args.handles.now c.loop-handle.handle-index c.handle-item.result _ _ (omega arith) c.loop-handle.invariant.passed c.handle-item.is
    (refuses _ _ c.in_err-place.ensures))

pub returns-in_err-push : goal.returns-in_err-push
returns-in_err-push c = exits_without_memory _ _ c.from_residual-in_err-push.result c.from_residual-in_err-push.ensures.1

pub returns : goal.returns
returns c =
    let f : ℕ → Option StaticFault = use_fault c.args.source c.args.names.now (Handle ∷ []) in
    let end : length c.args.handles.now ≤ c.loop-handle.handle-index = omega arith in (
      all_passed f c.args.handles.now c.loop-handle.handle-index _ end c.loop-handle.invariant.passed,
      (λ m. all_taken (place_of c.args.source (names_with c.args.source c.args.names.now m)) c.args.handles.now c.loop-handle.handle-index _ end
          (c.loop-handle.invariant.places m)),
    )
