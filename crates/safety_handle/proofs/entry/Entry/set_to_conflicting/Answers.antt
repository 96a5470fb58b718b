use Rattle.std.proofs.Common.{◌≡◌, false, sym, subst}
use Rattle.frame_ast.specs.Jobs.{nobody}
use Rattle.job_handle.specs.Sets.{jobs_of}
use Rattle.safety_handle.specs.Entries.{writer_in, readers_in, conflicting_in}
use Rattle.safety_handle.proofs.Conflicting.{with_readers}
use Rattle.safety_handle.proofs.entry.Entry.set_to_conflicting.Goals as goal

pub returns-then-not-writes : goal.returns-then-not-writes
returns-then-not-writes c =
    let e = c.args.self.now in
    subst (λ b. jobs_of c.set_to_writer.new.all
    ≡ conflicting_in (record { writer = writer_in e.writer; readers = readers_in e.is_read (jobs_of c.args.readers.now) }) b)
    (sym c.if-not-writes.true) (c.set_to_writer.ensures (jobs_of c.args.readers.now))

pub returns-then-not-self : goal.returns-then-not-self
returns-then-not-self c =
    let w = writer_in c.args.self.now.writer in
    let them = jobs_of c.args.readers.now in
    let all = jobs_of c.set_to_writer.new.all in
    subst (λ r. all ≡ conflicting_in (record { writer = w; readers = readers_in r them }) c.args.writes) (sym c.if-not-self.true)
    (subst (λ b. all ≡ conflicting_in (record { writer = w; readers = nobody }) b) (sym c.if-not-writes.false) (c.set_to_writer.ensures nobody))

pub returns : goal.returns
returns c =
    let w = writer_in c.args.self.now.writer in
    let readers = c.args.readers.now in
    let all = jobs_of c.add_all.new.self in
    subst (λ r. all ≡ conflicting_in (record { writer = w; readers = readers_in r (jobs_of readers) }) c.args.writes) (sym c.if-not-self.false)
    (subst (λ b. all ≡ conflicting_in (record { writer = w; readers = jobs_of readers }) b) (sym c.if-not-writes.false)
    (with_readers c.set_to_writer.new.all readers c.add_all.new.self w
    (subst (λ r. jobs_of c.set_to_writer.new.all ≡ conflicting_in (record { writer = w; readers = readers_in r (jobs_of readers) }) false)
    c.if-not-self.false (c.set_to_writer.ensures (jobs_of readers))) c.add_all.ensures))
