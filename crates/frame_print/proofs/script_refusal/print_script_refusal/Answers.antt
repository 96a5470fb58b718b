use Rattle.std.proofs.Common.{◌∙◌}
use Rattle.frame_print.proofs.Parts.{writes_as, script_refused_is}
use Rattle.frame_print.proofs.script_refusal.print_script_refusal.Goals as goal

pub returns-clause-text : goal.returns-clause-text
returns-clause-text g c =
    writes_as _ _ c.print_parts.result _ _
    (script_refused_is _ _ _ _ (c.as_bytes-line_text.ensures.value ∙ c.format.ensures.text) c.fault_words.ensures)
    c.print_parts.ensures.text
