use Rattle.std.proofs.Common.{ap}
use Rattle.safety_handle.specs.Entries.{SlotState}
use Rattle.job_handle.specs.Books.{count_of}
use Rattle.auto_deps.proofs.Noted.{write_noted}
use Rattle.book_rows.proofs.automatic.writes.Goals as goal

pub returns-then-free : goal.returns-then-free
returns-then-free c = record {
  noted = write_noted (count_of c.args.jobs.now) c.args.j.0 c.args.book.now c.note_write.new.self c.args.tag.now.slot.0 c.requires.noted c.requires.job.0
      c.requires.job.1 c.note_write.ensures.others
      (ap (λ (x : SlotState). x.latest) c.note_write.ensures.slot);
}
