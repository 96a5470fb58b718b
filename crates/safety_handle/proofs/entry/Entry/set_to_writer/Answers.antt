use Rattle.std.proofs.Common.{◌≡◌, false, sym, subst}
use Rattle.job_handle.specs.Sets.{jobs_of}
use Rattle.safety_handle.specs.Entries.{writer_in, readers_in, conflicting_in}
use Rattle.safety_handle.proofs.Conflicting.{one_writer, no_writer}
use Rattle.safety_handle.proofs.entry.Entry.set_to_writer.Goals as goal

pub set_to_job-requires : goal.set_to_job-requires
set_to_job-requires c = c.args.self.now.writer_known c.in-Some.j.0 c.in-Some.is

pub returns-in-Some : goal.returns-in-Some
returns-in-Some c them =
    let e = c.args.self.now in
    let known = e.writer_known c.in-Some.j.0 c.in-Some.is in
    subst (λ w. jobs_of c.set_to_job.new.self ≡ conflicting_in (record { writer = writer_in w; readers = readers_in e.is_read them }) false) (sym c.in-Some.is)
    (one_writer c.set_to_job.new.self c.in-Some.j.0 (readers_in e.is_read them) c.set_to_job.ensures known.0)

pub returns-in-None : goal.returns-in-None
returns-in-None c them =
    let e = c.args.self.now in
    subst (λ w. jobs_of c.clear.new.self ≡ conflicting_in (record { writer = writer_in w; readers = readers_in e.is_read them }) false) (sym c.in-None.is)
    (no_writer c.clear.new.self (readers_in e.is_read them) c.clear.ensures)
