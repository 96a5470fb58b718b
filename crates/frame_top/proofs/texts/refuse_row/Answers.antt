use Rattle.std.proofs.Common.{◌∙◌}
use Rattle.frame_top.proofs.Lines.{said_as, row_is}
use Rattle.frame_top.proofs.texts.refuse_row.Goals as goal

pub returns-clause-said : goal.returns-clause-said
returns-clause-said g c =
    said_as _ _ _ _ _ _ _ _ (row_is _ _ _ (c.as_bytes-row_text.ensures.value ∙ c.format.ensures.text)) c.say_parts.ensures.said
