use Rattle.std.proofs.Common.{◌≤◌, ◌+◌, vec_len, true, sym, ap, subst, ◌∙◌, arith}
use Rattle.job_base.specs.declared.limits.TheConstants.{MOST_JOBS}
use Rattle.frame_ast.specs.Jobs.{only}
use Rattle.job_handle.specs.Sets.{HaveOwnJobs}
use Rattle.job_handle.proofs.Rows.{own_pushed}
use Rattle.book_rows.proofs.fewest.rows_of.Goals as goal
use Rattle.book_rows.proofs.fewest.rows_of.Goals.{then-count-lt-MOST_JOBS+in_ok-push, else-count-lt-MOST_JOBS}

pub loop-jobs-preserved : goal.loop-jobs-preserved
loop-jobs-preserved c =
    elim c.if-count-lt-MOST_JOBS.branch [
      | then-count-lt-MOST_JOBS+in_ok-push w ↦ subst (λ rows. (vec_len rows ≤ MOST_JOBS) × HaveOwnJobs (vec_len rows) rows.items) (sym w.rows-is) (
        let lt = w.if-count-lt-MOST_JOBS.true in let l = w.in_ok-push.ensures.len in let m = c.len-count.ensures in omega arith,
        own_pushed true (vec_len c.loop-jobs.rows) _ c.loop-jobs.rows.items _ w.of-one.result w.set_up_to-all.result w.combine.result
            (sym c.loop-jobs.rows.ok.0) c.loop-jobs.invariant.1 (w.of-one.ensures ∙ ap (λ n. only (n + 1)) c.len-count.ensures) w.combine.ensures
            w.in_ok-push.ensures.len w.in_ok-push.ensures.items,
      )
      | else-count-lt-MOST_JOBS w ↦ subst (λ rows. (vec_len rows ≤ MOST_JOBS) × HaveOwnJobs (vec_len rows) rows.items) (sym w.rows-is) c.loop-jobs.invariant
    ]
