use Rattle.std.proofs.Common.{sym, subst, arith}
use Rattle.frame_ast.specs.Laws.{AreUpTo}
use Rattle.job_handle.specs.Sets.{jobs_of}
use Rattle.job_handle.proofs.Among.{empty_among, one_among, union_among}
use Rattle.book_rows.proofs.sets.set_up_to.Goals as goal
use Rattle.book_rows.proofs.sets.set_up_to.Goals.{then-j-gt0+then-j-count, else-j-gt0}

pub loop-j-init : goal.loop-j-init
loop-j-init c = empty_among c.args.count c.empty-all.result c.empty-all.ensures

pub loop-j-preserved : goal.loop-j-preserved
loop-j-preserved c =
    elim c.if-j-gt0.branch [
      | then-j-gt0+then-j-count w ↦ subst (λ h. AreUpTo c.args.count (jobs_of h)) (sym w.all-is)
          (union_among c.args.count c.loop-j.all w.of-one.result w.combine-all.result w.combine-all.ensures c.loop-j.invariant
          (one_among c.args.count _ w.of-one.result w.of-one.ensures w.if-j-gt0.true (let le = w.if-j-count.true in omega arith)))
      | else-j-gt0 w ↦ subst (λ h. AreUpTo c.args.count (jobs_of h)) (sym w.all-is) c.loop-j.invariant
    ]
