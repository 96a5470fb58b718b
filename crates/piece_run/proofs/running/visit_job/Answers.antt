use Rattle.std.proofs.Common.{◌≡◌, Some, length, refl, arith, ◌∙◌}
use Rattle.std.proofs.lemmas.Option.{slice_get_read}
use Rattle.frame_core.specs.Names.{job_at}
use Rattle.frame_core.proofs.PartRuns as part
use Rattle.frame_core.proofs.PartRuns.{kernel_there}
use Rattle.piece_run.proofs.Codes.{code_there}
use Rattle.piece_run.proofs.running.visit_job.Goals as goal

pub index-kernel-requires : goal.index-kernel-requires
index-kernel-requires c =
    let plan = c.args.plan.now in
    let x = c.index-job.result.now in
    let here : job_at plan c.args.j ≡ Some x = slice_get_read plan.jobs.items (length plan.jobs.items) c.args.j x refl c.requires.job c.index-job.ensures in
    let lt = c.requires.well.jobs.has_kernel c.args.j x here in
    omega arith

pub index-code-requires : goal.index-code-requires
index-code-requires c =
    let plan = c.args.plan.now in
    let x = c.index-job.result.now in
    let here : job_at plan c.args.j ≡ Some x = slice_get_read plan.jobs.items (length plan.jobs.items) c.args.j x refl c.requires.job c.index-job.ensures in
    let lt = c.requires.well.jobs.has_kernel c.args.j x here in let long = c.requires.well.jobs.coded.each in omega arith

pub begin_visit-visit-requires-clause-checked : goal.begin_visit-visit-requires-clause-checked
begin_visit-visit-requires-clause-checked c =
    let plan = c.args.plan.now in
    let x = c.index-job.result.now in
    let here : job_at plan c.args.j ≡ Some x = slice_get_read plan.jobs.items (length plan.jobs.items) c.args.j x refl c.requires.job c.index-job.ensures in
    part.checked plan c.requires.well c.args.j 0 x c.index-kernel.result.now here
    (kernel_there plan c.args.j x c.index-kernel.result.now c.requires.well here c.index-kernel.ensures)

pub begin_visit-visit-requires-clause-code : goal.begin_visit-visit-requires-clause-code
begin_visit-visit-requires-clause-code c =
    let plan = c.args.plan.now in
    let x = c.index-job.result.now in
    let here : job_at plan c.args.j ≡ Some x = slice_get_read plan.jobs.items (length plan.jobs.items) c.args.j x refl c.requires.job c.index-job.ensures in
    c.requires.well.jobs.coded.coded x.kernel c.index-kernel.result.now c.index-code.result.now
    (kernel_there plan c.args.j x c.index-kernel.result.now c.requires.well here c.index-kernel.ensures)
    (code_there plan c.args.j x c.index-code.result.now c.requires.well here c.index-code.ensures)

pub begin_visit-visit-requires-clause-fit : goal.begin_visit-visit-requires-clause-fit
begin_visit-visit-requires-clause-fit c =
    let plan = c.args.plan.now in
    let x = c.index-job.result.now in
    let here : job_at plan c.args.j ≡ Some x = slice_get_read plan.jobs.items (length plan.jobs.items) c.args.j x refl c.requires.job c.index-job.ensures in
    rw (c.deref.ensures.value) (part.fit plan c.requires.well c.args.j 0 x c.index-kernel.result.now here
    (kernel_there plan c.args.j x c.index-kernel.result.now c.requires.well here c.index-kernel.ensures))

pub returns-clause-visit : goal.returns-clause-visit
returns-clause-visit c =
    let plan = c.args.plan.now in
    let x = c.index-job.result.now in
    let here : job_at plan c.args.j ≡ Some x = slice_get_read plan.jobs.items (length plan.jobs.items) c.args.j x refl c.requires.job c.index-job.ensures in
    record {
      job = here;
      kernel = rw (c.begin_visit-visit.ensures.kernel)
          (kernel_there plan c.args.j x c.index-kernel.result.now c.requires.well here c.index-kernel.ensures);
      binds = c.begin_visit-visit.ensures.binds ∙ c.deref.ensures.value;
      ready = c.begin_visit-visit.ensures.ready;
    }
