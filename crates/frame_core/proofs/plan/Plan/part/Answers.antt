use Rattle.std.proofs.Common.{◌≡◌, ◌+◌, length, sym, ap, ◌∙◌, arith, rules}
use Rattle.std.specs.Prelude.{slice_get}
use Rattle.frame_core.specs.Pieces.{own_word}
use Rattle.frame_core.proofs.PartRuns as part
use Rattle.frame_core.proofs.PartRuns.{job_of_piece, kernel_there}
use Rattle.frame_core.proofs.Planned.{has_kernel}
use Rattle.frame_core.proofs.Extents.Footprints.{own_there, part_are}
use Rattle.frame_core.proofs.plan.Plan.part.Goals as goal

pub overflow_add-own : goal.overflow_add-own
overflow_add-own c =
    let plan = c.args.self.now in
    let x = c.index-job.result.now in
    let within = own_there plan c.requires.well c.args.j c.args.i x c.requires.piece c.index-job.ensures in
    let words = c.requires.well.sized.words in
    omega arith

pub overflow_add-own-2 : goal.overflow_add-own-2
overflow_add-own-2 c =
    let plan = c.args.self.now in
    let x = c.index-job.result.now in
    let within = own_there plan c.requires.well c.args.j c.args.i x c.requires.piece c.index-job.ensures in
    let words = c.requires.well.sized.words in
    omega arith

pub overflow_add-result : goal.overflow_add-result
overflow_add-result c =
    let plan = c.args.self.now in
    let x = c.index-job.result.now in
    let within = own_there plan c.requires.well c.args.j c.args.i x c.requires.piece c.index-job.ensures in
    let words = c.requires.well.sized.words in
    omega arith

pub index-kernel-requires : goal.index-kernel-requires
index-kernel-requires c =
    let plan = c.args.self.now in
    let x = c.index-job.result.now in
    let h = job_of_piece plan c.args.j c.args.i x c.requires.piece c.index-job.ensures in
    let lt = c.requires.well.jobs.has_kernel c.args.j x h.job in
    search (rules, lt)

pub indexes-span-requires-clause-cut : goal.indexes-span-requires-clause-cut
indexes-span-requires-clause-cut c =
    let plan = c.args.self.now in
    let x = c.index-job.result.now in
    let h = job_of_piece plan c.args.j c.args.i x c.requires.piece c.index-job.ensures in
    let k = has_kernel plan c.requires.well.jobs c.args.j x h.job in
    (c.requires.well.jobs.fits c.args.j x k.0 h.job k.1).cut

pub indexes-span-requires-clause-piece : goal.indexes-span-requires-clause-piece
indexes-span-requires-clause-piece c =
    let plan = c.args.self.now in
    let x = c.index-job.result.now in
    let h = job_of_piece plan c.args.j c.args.i x c.requires.piece c.index-job.ensures in
    h.below

pub returns-clause-count : goal.returns-clause-count
returns-clause-count c =
    let plan = c.args.self.now in
    let x = c.index-job.result.now in
    let h = job_of_piece plan c.args.j c.args.i x c.requires.piece c.index-job.ensures in
    let k = c.index-kernel.result.now in
    let hk = kernel_there plan c.args.j x k c.requires.well h.job c.index-kernel.ensures in
    ap (λ l. length l) c.deref-2.ensures.value ∙ ((part.fit plan c.requires.well c.args.j c.args.i x k h.job hk).count
    ∙ ap (λ l. length l) (sym c.deref.ensures.value))

pub returns-clause-fits : goal.returns-clause-fits
returns-clause-fits c =
    let plan = c.args.self.now in
    let x = c.index-job.result.now in
    let h = job_of_piece plan c.args.j c.args.i x c.requires.piece c.index-job.ensures in
    let k = c.index-kernel.result.now in
    let hk = kernel_there plan c.args.j x k c.requires.well h.job c.index-kernel.ensures in
    λ y b e. (part.fit plan c.requires.well c.args.j c.args.i x k h.job hk).ends y b (ap (λ l. slice_get l y) (sym c.deref-2.ensures.value) ∙ e)

pub returns-clause-few : goal.returns-clause-few
returns-clause-few c =
    let plan = c.args.self.now in
    let x = c.index-job.result.now in
    let h = job_of_piece plan c.args.j c.args.i x c.requires.piece c.index-job.ensures in
    let k = c.index-kernel.result.now in
    let hk = kernel_there plan c.args.j x k c.requires.well h.job c.index-kernel.ensures in
    part.few plan c.requires.well c.args.j c.args.i x k h.job hk c.indexes-span.result c.indexes-span.ensures.within

pub returns-clause-touches : goal.returns-clause-touches
returns-clause-touches c =
    let plan = c.args.self.now in
    let x = c.index-job.result.now in
    let h = job_of_piece plan c.args.j c.args.i x c.requires.piece c.index-job.ensures in
    let k = c.index-kernel.result.now in
    let hk = kernel_there plan c.args.j x k c.requires.well h.job c.index-kernel.ensures in
    let own : plan.cells + (x.first.0 + c.args.i) ≡ own_word plan c.args.j c.args.i =
    ap (λ f. plan.cells + (f + c.args.i)) (part.own_is plan c.requires.well c.args.j c.args.i x k h.job hk) in
    part_are plan c.requires.well c.args.j c.args.i x k h.job hk c.deref.result.now c.deref-2.result.now c.indexes-span.result
    (plan.cells + (x.first.0 + c.args.i)) own
    c.deref.ensures.value c.deref-2.ensures.value c.indexes-span.ensures.indexes
