use Rattle.job_handle.specs.Sets.{jobs_of}
use Rattle.safety_handle.specs.Entries.{writer_in, readers_in}
use Rattle.safety_handle.proofs.Conflicting.{blocks}
use Rattle.safety_handle.proofs.entry.Entry.latest_blocker.Goals as goal

pub returns : goal.returns
returns c =
    let e = c.args.self.now in
    blocks c.args.jobs.now (record { writer = writer_in e.writer; readers = readers_in e.is_read (jobs_of c.args.readers.now) }) c.set_to_conflicting.new.all
    c.before-before.result c.args.deps.now c.args.writes c.latest_outside.result
    c.set_to_conflicting.ensures c.before-before.ensures c.latest_outside.ensures
