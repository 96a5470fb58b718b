use Rattle.std.proofs.Common.{ap, sym, ◌∙◌}
use Rattle.frame_top.specs.Refusals.{table_text}
use Rattle.frame_top.proofs.Lines.{said_as, unequal_is, no_number_is}
use Rattle.frame_top.proofs.texts.refuse_table.Goals as goal

pub returns-in-Empty-clause-said : goal.returns-in-Empty-clause-said
returns-in-Empty-clause-said g c other = said_as _ _ _ _ _ _ _ _ (sym (ap table_text c.in-Empty.is)) c.say.ensures.said

pub returns-in-Unequal-clause-said : goal.returns-in-Unequal-clause-said
returns-in-Unequal-clause-said g c other = said_as _ _ _ _ _ _ _ _ (unequal_is _ ∙ sym (ap table_text c.in-Unequal.is)) c.refuse_row.ensures.said

pub returns-in-NotNumber-clause-said : goal.returns-in-NotNumber-clause-said
returns-in-NotNumber-clause-said g c other = said_as _ _ _ _ _ _ _ _ (no_number_is _
    ∙ sym (ap table_text c.in-NotNumber.is)) c.refuse_row-in-NotNumber.ensures.said
