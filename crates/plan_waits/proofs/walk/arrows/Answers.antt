use Rattle.std.proofs.Common.{◌≡◌, ◌-◌, length, map, Some, slice_get, refl, sym, ap, subst, ◌∙◌, arith}
use Rattle.job_handle.specs.Sets.{jobs_of, HaveOwnJobs}
use Rattle.frame_ast.specs.Laws.{AreUpTo}
use Rattle.job_fewest.specs.Fewest.{IsFewest, IsClosure}
use Rattle.frame_core.specs.Names.{segment_at}
use Rattle.job_depth.proofs.Steps.{item_at, not_some}
use Rattle.plan_waits.specs.Marks.{arrow_of}
use Rattle.plan_waits.proofs.Walking.{so_far_start, so_far_all, waits_fit, step_none, id_fits, deps_fit, rows_have, known, ids_fit, step_some, fit_as, has_as, same_sets}
use Rattle.plan_waits.proofs.walk.arrows.Goals as goal
use Rattle.plan_waits.proofs.walk.arrows.Goals.{in-Some+in_ok-least+in_ok-own+in_ok-push+in_ok-push-2, in_default}

pub loop-segment-init : goal.loop-segment-init
loop-segment-init c =
    so_far_start c.args.plan.now _ _ _ c.new-rows.ensures.items c.new-found.ensures.items c.empty-completed.ensures

pub with_all-completed-requires : goal.with_all-completed-requires
with_all-completed-requires c =
    let at : segment_at c.args.plan.now c.loop-segment.segment-index ≡ Some c.segment-item.result =
    item_at _ _ _ _ c.deref-segment-items.ensures.value c.loop-segment-test.true c.segment-item.is in
    fit_as _ _ c.deref.ensures.value (waits_fit c.args.plan.now c.requires _ _ _ _ c.loop-segment.invariant c.segment-item.result at)

pub overflow_sub-id : goal.overflow_sub-id
overflow_sub-id c =
    let at : segment_at c.args.plan.now c.loop-segment.segment-index ≡ Some c.segment-item.result =
    item_at _ _ _ _ c.deref-segment-items.ensures.value c.loop-segment-test.true c.segment-item.is in
    let now = has_as c.loop-segment.completed c.with_all-completed.result _ _ c.deref.ensures.value c.with_all-completed.ensures in
    let fits = id_fits c.args.plan.now c.requires _ _ _ _ c.loop-segment.invariant c.segment-item.result at c.with_all-completed.result now c.in-Some.id
    c.in-Some.is in
    let one = fits.0 in
    omega arith

pub index-job-requires : goal.index-job-requires
index-job-requires c =
    let at : segment_at c.args.plan.now c.loop-segment.segment-index ≡ Some c.segment-item.result =
    item_at _ _ _ _ c.deref-segment-items.ensures.value c.loop-segment-test.true c.segment-item.is in
    let now = has_as c.loop-segment.completed c.with_all-completed.result _ _ c.deref.ensures.value c.with_all-completed.ensures in
    let fits = id_fits c.args.plan.now c.requires _ _ _ _ c.loop-segment.invariant c.segment-item.result at c.with_all-completed.result now c.in-Some.id
    c.in-Some.is in
    let below = fits.2 in
    let ok = c.args.plan.now.jobs.ok.0 in
    omega arith

pub with_all-wanted-requires : goal.with_all-wanted-requires
with_all-wanted-requires c =
    let at : segment_at c.args.plan.now c.loop-segment.segment-index ≡ Some c.segment-item.result =
    item_at _ _ _ _ c.deref-segment-items.ensures.value c.loop-segment-test.true c.segment-item.is in
    let now = has_as c.loop-segment.completed c.with_all-completed.result _ _ c.deref.ensures.value c.with_all-completed.ensures in
    let fits = id_fits c.args.plan.now c.requires _ _ _ _ c.loop-segment.invariant c.segment-item.result at c.with_all-completed.result now c.in-Some.id
    c.in-Some.is in
    let has : slice_get c.args.plan.now.jobs.items (c.in-Some.id.0 - 1) ≡ Some c.index-job.result.now = item_at _ _ _ _ refl fits.2 c.index-job.ensures in
    fit_as _ _ c.deref-in-Some.ensures.value (deps_fit c.args.plan.now c.requires _ _ _ _ c.loop-segment.invariant c.segment-item.result at
    c.with_all-completed.result now c.in-Some.id c.in-Some.is c.index-job.result.now has)

pub fewest-requires-clause-own : goal.fewest-requires-clause-own
fewest-requires-clause-own c =
    let at : segment_at c.args.plan.now c.loop-segment.segment-index ≡ Some c.segment-item.result =
    item_at _ _ _ _ c.deref-segment-items.ensures.value c.loop-segment-test.true c.segment-item.is in
    let now = has_as c.loop-segment.completed c.with_all-completed.result _ _ c.deref.ensures.value c.with_all-completed.ensures in
    let fits = id_fits c.args.plan.now c.requires _ _ _ _ c.loop-segment.invariant c.segment-item.result at c.with_all-completed.result now c.in-Some.id
    c.in-Some.is in
    let has : slice_get c.args.plan.now.jobs.items (c.in-Some.id.0 - 1) ≡ Some c.index-job.result.now = item_at _ _ _ _ refl fits.2 c.index-job.ensures in
    let wants = has_as c.with_all-completed.result c.with_all-wanted.result _ _ c.deref-in-Some.ensures.value c.with_all-wanted.ensures in
    subst (λ xs. HaveOwnJobs (length xs) xs) (sym c.deref-in-Some-2.ensures.value)
    (rows_have c.args.plan.now c.requires _ _ _ _ c.loop-segment.invariant c.segment-item.result at c.with_all-completed.result now c.in-Some.id c.in-Some.is
    c.index-job.result.now has c.with_all-wanted.result wants)

pub fewest-requires-clause-known : goal.fewest-requires-clause-known
fewest-requires-clause-known c =
    let at : segment_at c.args.plan.now c.loop-segment.segment-index ≡ Some c.segment-item.result =
    item_at _ _ _ _ c.deref-segment-items.ensures.value c.loop-segment-test.true c.segment-item.is in
    let now = has_as c.loop-segment.completed c.with_all-completed.result _ _ c.deref.ensures.value c.with_all-completed.ensures in
    let fits = id_fits c.args.plan.now c.requires _ _ _ _ c.loop-segment.invariant c.segment-item.result at c.with_all-completed.result now c.in-Some.id
    c.in-Some.is in
    let has : slice_get c.args.plan.now.jobs.items (c.in-Some.id.0 - 1) ≡ Some c.index-job.result.now = item_at _ _ _ _ refl fits.2 c.index-job.ensures in
    let wants = has_as c.with_all-completed.result c.with_all-wanted.result _ _ c.deref-in-Some.ensures.value c.with_all-wanted.ensures in
    subst (λ xs. AreUpTo (length xs) (jobs_of c.with_all-wanted.result)) (sym c.deref-in-Some-2.ensures.value)
    (known c.args.plan.now c.requires _ _ _ _ c.loop-segment.invariant c.segment-item.result at c.with_all-completed.result now c.in-Some.id c.in-Some.is
    c.index-job.result.now has c.with_all-wanted.result wants)

pub mark-requires : goal.mark-requires
mark-requires c =
    let at : segment_at c.args.plan.now c.loop-segment.segment-index ≡ Some c.segment-item.result =
    item_at _ _ _ _ c.deref-segment-items.ensures.value c.loop-segment-test.true c.segment-item.is in
    let now = has_as c.loop-segment.completed c.with_all-completed.result _ _ c.deref.ensures.value c.with_all-completed.ensures in
    let fits = id_fits c.args.plan.now c.requires _ _ _ _ c.loop-segment.invariant c.segment-item.result at c.with_all-completed.result now c.in-Some.id
    c.in-Some.is in
    let has : slice_get c.args.plan.now.jobs.items (c.in-Some.id.0 - 1) ≡ Some c.index-job.result.now = item_at _ _ _ _ refl fits.2 c.index-job.ensures in
    let wants = has_as c.with_all-completed.result c.with_all-wanted.result _ _ c.deref-in-Some.ensures.value c.with_all-wanted.ensures in
    fit_as _ _ c.deref-in-Some-3.ensures.value (ids_fit c.args.plan.now c.requires _ _ _ _ c.loop-segment.invariant c.segment-item.result at
    c.with_all-completed.result now c.in-Some.id c.in-Some.is c.index-job.result.now has c.with_all-wanted.result wants _
    (subst (λ xs. IsFewest xs (jobs_of c.with_all-wanted.result) c.in_ok-least.least.jobs.items) c.deref-in-Some-2.ensures.value
    c.in_ok-least.ensures.fewest))

pub of-requires : goal.of-requires
of-requires c =
    let at : segment_at c.args.plan.now c.loop-segment.segment-index ≡ Some c.segment-item.result =
    item_at _ _ _ _ c.deref-segment-items.ensures.value c.loop-segment-test.true c.segment-item.is in
    let now = has_as c.loop-segment.completed c.with_all-completed.result _ _ c.deref.ensures.value c.with_all-completed.ensures in
    let fits = id_fits c.args.plan.now c.requires _ _ _ _ c.loop-segment.invariant c.segment-item.result at c.with_all-completed.result now c.in-Some.id
    c.in-Some.is in
    (fits.0, fits.1)

pub loop-segment-preserved : goal.loop-segment-preserved
loop-segment-preserved c =
    let at : segment_at c.args.plan.now c.loop-segment.segment-index ≡ Some c.segment-item.result =
    item_at _ _ _ _ c.deref-segment-items.ensures.value c.loop-segment-test.true c.segment-item.is in
    let now = has_as c.loop-segment.completed c.with_all-completed.result _ _ c.deref.ensures.value c.with_all-completed.ensures in
    elim c.match-segment.branch [
      | in-Some+in_ok-least+in_ok-own+in_ok-push+in_ok-push-2 w ↦
          let fits = id_fits c.args.plan.now c.requires _ _ _ _ c.loop-segment.invariant c.segment-item.result at c.with_all-completed.result now
          w.in-Some.id w.in-Some.is in
          let has : slice_get c.args.plan.now.jobs.items (w.in-Some.id.0 - 1) ≡ Some w.index-job.result.now = item_at _ _ _ _ refl fits.2 w.index-job.ensures
          in
          let wants = has_as c.with_all-completed.result w.with_all-wanted.result _ _ w.deref-in-Some.ensures.value w.with_all-wanted.ensures in
          step_some c.args.plan.now c.requires _ _ _ _ c.loop-segment.invariant c.segment-item.result at c.with_all-completed.result now w.in-Some.id
          w.in-Some.is w.index-job.result.now has w.with_all-wanted.result wants
          w.in_ok-least.least.jobs.items
          (subst (λ xs. IsFewest xs (jobs_of w.with_all-wanted.result) w.in_ok-least.least.jobs.items) w.deref-in-Some-2.ensures.value
          w.in_ok-least.ensures.fewest)
          w.in_ok-own.own (w.in_ok-own.ensures ∙ ap (λ xs. map (arrow_of (jobs_of c.with_all-completed.result)) xs) w.deref-in-Some-3.ensures.value)
          w.in_ok-least.least.closure w.combine.result
          (subst (λ xs. IsClosure xs w.in_ok-least.least.jobs.items (jobs_of w.in_ok-least.least.closure)) w.deref-in-Some-2.ensures.value
          w.in_ok-least.ensures.closure)
          w.of.result w.of.ensures w.combine.ensures
          c.match-segment.rows.items c.match-segment.found.items
          (ap (λ v. v.items) w.rows-is ∙ w.in_ok-push-2.ensures.items)
          (ap (λ v. v.items) w.found-is ∙ w.in_ok-push.ensures.items)
      | in_default w ↦
          same_sets _ _ _ _ _ _ _ (ap (λ v. v.items) w.rows-is) (ap (λ v. v.items) w.found-is)
          (step_none c.args.plan.now c.requires _ _ _ _ c.loop-segment.invariant c.segment-item.result at c.with_all-completed.result now
          (not_some _ w.in_default.not-Some))
    ]

pub returns : goal.returns
returns c = so_far_all c.args.plan.now _ _ _ _ c.requires c.loop-segment.invariant
    (let le = c.loop-segment.auto.segment-index-end in let ge = c.loop-segment-test.false in
    let e = ap length c.deref-segment-items.ensures.value in omega arith)
