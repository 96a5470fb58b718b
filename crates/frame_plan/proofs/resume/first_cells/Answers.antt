use Rattle.std.proofs.Common.{◌∙◌, ap, take}
use Rattle.frame_plan.proofs.FirstCells.{taken_cells}
use Rattle.frame_plan.proofs.resume.first_cells.Goals as goal

pub returns : goal.returns
returns c =
    c.truncate.ensures.items ∙ ap (take c.args.len) c.into_cells-list.ensures ∙ taken_cells c.args.cells c.args.len c.requires
