use Rattle.frame_print.proofs.Words.{list_is}
use Rattle.frame_print.proofs.Gathering.{gathers_as}
use Rattle.frame_print.proofs.waiting.Waiting.put_list.Goals as goal

pub returns-clause-text : goal.returns-clause-text
returns-clause-text g c =
    λ xs s. gathers_as _ _ _ _ c.put_cells.result _ _ (list_is c.args.at.now _ _ xs _ s c.as_array-elements.ensures.words c.as_array-elements.ensures.cells)
    c.put_cells.ensures.text
