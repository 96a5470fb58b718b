use Rattle.std.proofs.Common.{refl}
use Rattle.frame_rows.proofs.Starting.{no_cells, none_left}
use Rattle.frame_rows.proofs.section.section_in.Goals as goal

pub next-requires : goal.next-requires
next-requires c = record { at = (0, no_cells, 0, c.in_ok-book.ensures.at no_cells 0, refl, none_left _) }

pub returns : goal.returns
returns c = (c.in_ok-next.ensures.section 0 no_cells 0 (c.in_ok-book.ensures.at no_cells 0) refl (none_left _)).is_section.well_ordered
