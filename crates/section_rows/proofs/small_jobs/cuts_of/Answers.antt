use Rattle.std.proofs.Common.{refl}
use Rattle.frame_rows.proofs.Starting.{no_cells, none_left}
use Rattle.section_rows.proofs.small_jobs.cuts_of.Goals as goal

pub next-requires : goal.next-requires
next-requires c = record { at = (0, no_cells, 0, c.in_ok-book.ensures.at no_cells 0, refl, none_left _) }
