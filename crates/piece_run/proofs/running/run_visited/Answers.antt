use Rattle.std.proofs.Common.{ℕ, ◌+◌, ◌<◌, ◌∙◌, IsTrue, Bool, sym, ap, subst, arith}
use Rattle.frame_core.specs.Names.{pieces_of}
use Rattle.frame_core.proofs.PartRuns as part
use Rattle.kernel_machine.specs.Visits.{binds_in, kernel_in}
use Rattle.piece_run.proofs.Visiting.{below_pieces}
use Rattle.piece_run.proofs.running.run_visited.Goals as goal

pub indexes-span-requires-clause-cut : goal.indexes-span-requires-clause-cut
indexes-span-requires-clause-cut g c =
    let plan = c.args.plan.now in
    let visit = c.args.visit.now in
    let v = c.requires.visit in
    let k = kernel_in visit.visit in
    let i = c.args.i in
    let x = visit.job.now in
    (c.requires.well.jobs.fits visit.place x k v.job v.kernel).cut

pub indexes-span-requires-clause-piece : goal.indexes-span-requires-clause-piece
indexes-span-requires-clause-piece g c =
    let plan = c.args.plan.now in
    let visit = c.args.visit.now in
    let v = c.requires.visit in
    let k = kernel_in visit.visit in
    let i = c.args.i in
    let x = visit.job.now in
    below_pieces plan visit.place i x v.job c.requires.piece

pub execute_span-notes-requires-clause-few : goal.execute_span-notes-requires-clause-few
execute_span-notes-requires-clause-few g c =
    let plan = c.args.plan.now in
    let visit = c.args.visit.now in
    let v = c.requires.visit in
    let k = kernel_in visit.visit in
    let i = c.args.i in
    let x = visit.job.now in
    let span = c.indexes-span.result in
    part.few plan c.requires.well visit.place i x k v.job v.kernel span c.indexes-span.ensures.within

pub execute_span-notes-requires-clause-readable : goal.execute_span-notes-requires-clause-readable
execute_span-notes-requires-clause-readable g c =
    let plan = c.args.plan.now in
    let visit = c.args.visit.now in
    let v = c.requires.visit in
    let k = kernel_in visit.visit in
    let i = c.args.i in
    let x = visit.job.now in
    let span = c.indexes-span.result in
    part.may_read_as plan c.requires.well visit.place i x k v.job v.kernel (binds_in visit.visit) span v.binds c.indexes-span.ensures.indexes
    (g.M.Mem.readable c.args.mem.now) c.requires.readable

pub execute_span-notes-requires-clause-writable : goal.execute_span-notes-requires-clause-writable
execute_span-notes-requires-clause-writable g c =
    let plan = c.args.plan.now in
    let visit = c.args.visit.now in
    let v = c.requires.visit in
    let k = kernel_in visit.visit in
    let i = c.args.i in
    let x = visit.job.now in
    let span = c.indexes-span.result in
    part.may_write_as plan c.requires.well visit.place i x k v.job v.kernel (binds_in visit.visit) span v.binds c.indexes-span.ensures.indexes
    (g.M.Mem.writable c.args.mem.now) c.requires.writable

pub overflow_add-visit : goal.overflow_add-visit
overflow_add-visit g c =
    let plan = c.args.plan.now in
    let visit = c.args.visit.now in
    let v = c.requires.visit in
    let k = kernel_in visit.visit in
    let i = c.args.i in
    let x = visit.job.now in
    let low : i < pieces_of x = below_pieces plan visit.place i x v.job c.requires.piece in
    let within = part.own_within plan c.requires.well visit.place i x k v.job v.kernel low in
    let words = c.requires.well.sized.words in
    omega arith

pub overflow_add-plan : goal.overflow_add-plan
overflow_add-plan g c =
    let plan = c.args.plan.now in
    let visit = c.args.visit.now in
    let v = c.requires.visit in
    let k = kernel_in visit.visit in
    let i = c.args.i in
    let x = visit.job.now in
    let low : i < pieces_of x = below_pieces plan visit.place i x v.job c.requires.piece in
    let within = part.own_within plan c.requires.well visit.place i x k v.job v.kernel low in
    let words = c.requires.well.sized.words in
    omega arith

pub write_notes-requires : goal.write_notes-requires
write_notes-requires g c =
    let plan = c.args.plan.now in
    let visit = c.args.visit.now in
    let v = c.requires.visit in
    let k = kernel_in visit.visit in
    let i = c.args.i in
    let x = visit.job.now in
    let first = part.own_is plan c.requires.well visit.place i x k v.job v.kernel in
    record {
      writable = subst (λ (f : ℕ → Bool). IsTrue (f (plan.cells + (x.first.0 + i)))) (sym c.execute_span-notes.ensures.writable)
          (part.may_note plan c.requires.well visit.place i x k v.job v.kernel (g.M.Mem.writable c.args.mem.now) c.requires.writable
          (plan.cells + (x.first.0 + i)) (omega arith) (omega arith));
    }

pub returns-clause-cells : goal.returns-clause-cells
returns-clause-cells g c =
    let plan = c.args.plan.now in
    let visit = c.args.visit.now in
    let v = c.requires.visit in
    let k = kernel_in visit.visit in
    let i = c.args.i in
    let x = visit.job.now in
    let span = c.indexes-span.result in
    let first = part.own_is plan c.requires.well visit.place i x k v.job v.kernel in
    part.cells_as plan c.requires.well visit.place i x k v.job v.kernel (binds_in visit.visit) span v.binds c.indexes-span.ensures.indexes
    (g.M.Mem.cells c.args.mem.now) (g.M.Mem.cells c.execute_span-notes.new.mem) (g.M.Mem.cells c.write_notes.new.mem) c.execute_span-notes.result
    (plan.cells + (x.first.0 + i)) (ap (λ (f : ℕ). plan.cells + (f + i)) first) c.execute_span-notes.ensures.cells
    c.execute_span-notes.ensures.note c.write_notes.ensures.cells

pub returns-clause-visit : goal.returns-clause-visit
returns-clause-visit g c =
    let plan = c.args.plan.now in
    let visit = c.args.visit.now in
    let v = c.requires.visit in
    let k = kernel_in visit.visit in
    let i = c.args.i in
    let x = visit.job.now in
    let e = c.execute_span-notes.ensures in
    record { job = v.job; kernel = rw e.kernel v.kernel; binds = e.binds ∙ v.binds; ready = e.ready }
