use Rattle.std.proofs.Common.{ap, sym, ◌∙◌}
use Rattle.frame_ast.specs.Jobs.{Jobs, only, both}
use Rattle.job_handle.specs.Sets.{jobs_of}
use Rattle.safety_handle.specs.Entries.{SlotState, writer_in, readers_in}
use Rattle.safety_handle.proofs.entry.Entry.note_read.Goals as goal

pub returns-else-self : goal.returns-else-self
returns-else-self c =
    let e = c.args.self.now in
    let of_readers : Jobs → SlotState =
    λ them. record { live = e.live; version = e.version; view = e.view; latest = record { writer = writer_in e.writer; readers = them } } in
    ap of_readers (c.set_to_job.ensures ∙ sym (ap (λ r. both (readers_in r (jobs_of c.args.readers.now)) (only c.args.j.0)) c.if-self.false))
