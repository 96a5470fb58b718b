use Rattle.std.proofs.Common.{ap}
use Rattle.safety_handle.specs.Entries.{SlotState}
use Rattle.job_handle.specs.Books.{count_of}
use Rattle.auto_deps.proofs.Noted.{read_noted}
use Rattle.book_rows.proofs.automatic.reads.Goals as goal

pub returns-then-free : goal.returns-then-free
returns-then-free c = record {
  noted = read_noted (count_of c.args.jobs.now) c.args.j.0 c.args.book.now c.note_read.new.self c.args.tag.now.slot.0 c.requires.noted c.requires.job.0
      c.requires.job.1 c.note_read.ensures.others
      (ap (λ (x : SlotState). x.latest) c.note_read.ensures.slot);
}
