use Rattle.std.proofs.Common.{◌≡◌, ◌∙◌, ◌-◌, ◌+◌, ◌<◌, ℕ, suc, Some, true, sym, ap, subst, refl, length, arith}
use Rattle.std.proofs.lemmas.Option.{slice_get-get_or}
use Rattle.job_handle.specs.declared.handle.Handle.{Handle}
use Rattle.job_handle.specs.Sets.{jobs_of}
use Rattle.job_fewest.proofs.Steps.{begins, passes, takes, not_both}
use Rattle.job_fewest.proofs.reducing.fewest.Goals as goal
use Rattle.job_fewest.proofs.reducing.fewest.Goals.{then-has+then-not-has+in_ok-push, else-has, else-has-via-then-has+else-not-has, else-has-via-else-has}

pub loop-back-init : goal.loop-back-init
loop-back-init c =
    begins c.args.rows.now (jobs_of c.args.wanted.now) (jobs_of c.empty-closure.result) c.new-jobs.result.items (length c.args.rows.now - 0)
    (λ k. ap (λ f. f k) c.empty-closure.ensures) c.new-jobs.ensures.items
    (λ j t. let most = c.requires.known j t in (most.0, (let m = most.1 in omega arith)))

pub loop-back-preserved : goal.loop-back-preserved
loop-back-preserved c =
    let left : ℕ = length c.args.rows.now - c.loop-back.back in
    let low = c.loop-back-test.true in
    let next : left ≡ suc (length c.args.rows.now - (c.loop-back.back + 1)) = omega arith in
    let inside : left - 1 < length c.args.rows.now = omega arith in
    let one : suc (left - 1) ≡ left = omega arith in
    elim c.if-has.branch [
      | then-has+then-not-has+in_ok-push w ↦
          takes c.args.rows.now (jobs_of c.args.wanted.now) (jobs_of c.loop-back.closure) (jobs_of c.if-has.closure)
          c.loop-back.jobs.items c.if-has.jobs.items left (length c.args.rows.now - (c.loop-back.back + 1)) _ w.index-rows-job.result
          c.loop-back.invariant next refl
          (sym c.has.ensures ∙ w.if-has.true)
          (sym w.has-then-has.ensures ∙ w.if-not-has.true)
          (slice_get-get_or c.args.rows.now (left - 1) w.index-rows-job.result inside ∙ ap (λ h. Some h) (sym w.index-rows-job.is))
          (subst (λ n. jobs_of w.index-rows-job.result n ≡ true) one (subst (λ h. jobs_of h (suc (left - 1)) ≡ true) (sym w.index-rows-job.is)
          (c.requires.own (left - 1) w.index-rows-job.result inside)))
          (λ k. ap (λ f. f k) (ap jobs_of w.closure-is ∙ w.combine-closure.ensures))
          (ap (λ v. v.items) w.jobs-is ∙ w.in_ok-push.ensures.items)
      | else-has w ↦
          rw (w.closure-is, w.jobs-is) (passes c.args.rows.now (jobs_of c.args.wanted.now) (jobs_of c.loop-back.closure) c.loop-back.jobs.items left
          (length c.args.rows.now - (c.loop-back.back + 1)) c.loop-back.invariant next
          (λ t. elim w.else-has.branch [
            | else-has-via-then-has+else-not-has u ↦ sym u.has-then-has.ensures ∙ u.if-not-has.false
            | else-has-via-else-has u ↦ absurd (not_both (c.has.ensures ∙ t) u.if-has.false)
          ]))
    ]
