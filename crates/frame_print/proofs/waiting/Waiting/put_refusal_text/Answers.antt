use Rattle.std.proofs.Common.{◌++◌, codes}
use Rattle.std.specs.Prelude.{decimal}
use Rattle.frame_print.proofs.Gathering.{gathers_as, gathers_kept, gathers_ended}
use Rattle.frame_print.proofs.Parts.{pending_is, busy_is}
use Rattle.frame_print.proofs.waiting.Waiting.put_refusal_text.Goals as goal

pub returns-in-Disposed-clause-text : goal.returns-in-Disposed-clause-text
returns-in-Disposed-clause-text g c = rw c.in-Disposed.is c.put_named.ensures.text

pub returns-in-StaleView-clause-text : goal.returns-in-StaleView-clause-text
returns-in-StaleView-clause-text g c = rw c.in-StaleView.is c.put_named-in-StaleView.ensures.text

pub returns-in-NotParallel-clause-text : goal.returns-in-NotParallel-clause-text
returns-in-NotParallel-clause-text g c = rw c.in-NotParallel.is c.put_named-in-NotParallel.ensures.text

pub returns-in-Alias-clause-text : goal.returns-in-Alias-clause-text
returns-in-Alias-clause-text g c = rw c.in-Alias.is c.put_named-in-Alias.ensures.text

pub returns-in-TempInJob-clause-text : goal.returns-in-TempInJob-clause-text
returns-in-TempInJob-clause-text g c = rw c.in-TempInJob.is c.put_named-in-TempInJob.ensures.text

pub returns-in-StoreFull-clause-text : goal.returns-in-StoreFull-clause-text
returns-in-StoreFull-clause-text g c =
    rw c.in-StoreFull.is
    (gathers_ended _ _ _ c.keep_end.result _ c.keep_end.ensures.ok c.keep_end.ensures.text)

pub returns-in-Range-clause-text : goal.returns-in-Range-clause-text
returns-in-Range-clause-text g c =
    rw c.in-Range.is
    (gathers_ended _ _ _ c.keep_end-in-Range.result _ c.keep_end-in-Range.ensures.ok c.keep_end-in-Range.ensures.text)

pub returns-in-Full-clause-text : goal.returns-in-Full-clause-text
returns-in-Full-clause-text g c =
    rw c.in-Full.is
    (gathers_ended _ _ _ c.keep_end-in-Full.result _ c.keep_end-in-Full.ensures.ok c.keep_end-in-Full.ensures.text)

pub returns-in-MissingKey-clause-text : goal.returns-in-MissingKey-clause-text
returns-in-MissingKey-clause-text g c =
    rw c.in-MissingKey.is
    (gathers_ended _ _ _ c.keep_end-in-MissingKey.result _ c.keep_end-in-MissingKey.ensures.ok c.keep_end-in-MissingKey.ensures.text)

pub returns-in-PresentKey-clause-text : goal.returns-in-PresentKey-clause-text
returns-in-PresentKey-clause-text g c =
    rw c.in-PresentKey.is
    (gathers_ended _ _ _ c.keep_end-in-PresentKey.result _ c.keep_end-in-PresentKey.ensures.ok c.keep_end-in-PresentKey.ensures.text)

pub returns-in-Pending-clause-text : goal.returns-in-Pending-clause-text
returns-in-Pending-clause-text g c =
    let last = codes " on " ++ (c.args.name.now ++ codes "\n") in
    rw c.in-Pending.is (gathers_as _ _ _ _ c.put_named-in-Pending.result _ _ (pending_is c.in-Pending.job c.args.name.now)
    (gathers_kept _ _ _ _ _ _ (codes ": pending job ") (decimal c.in-Pending.job.0 ++ last) c.keep.ensures.text
    (gathers_kept _ _ _ _ _ _ (decimal c.in-Pending.job.0) last c.keep_count.ensures.text c.put_named-in-Pending.ensures.text)))

pub returns-in-Busy-clause-text : goal.returns-in-Busy-clause-text
returns-in-Busy-clause-text g c =
    rw c.in-Busy.is (gathers_as _ _ _ _ c.keep_end-in-Busy.result _ _ (busy_is c.in-Busy.job c.args.name.now)
    (gathers_kept _ _ _ _ _ _ (codes ": busy job ") (decimal c.in-Busy.job.0 ++ codes "\n") c.keep-in-Busy.ensures.text
    (gathers_kept _ _ _ _ _ _ (decimal c.in-Busy.job.0) (codes "\n") c.keep_count-in-Busy.ensures.text
    (gathers_ended _ _ _ c.keep_end-in-Busy.result _ c.keep_end-in-Busy.ensures.ok c.keep_end-in-Busy.ensures.text))))
