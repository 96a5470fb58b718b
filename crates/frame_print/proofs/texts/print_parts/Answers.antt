use Rattle.std.proofs.Common.{◌∙◌}
use Rattle.job_base.proofs.Parts.{part_next, part_stopped}
use Rattle.frame_print.proofs.Gathering.{part_begins, writes_stops}
use Rattle.frame_print.proofs.texts.print_parts.Goals as goal

pub returns-in_err-print_text-clause-text : goal.returns-in_err-print_text-clause-text
returns-in_err-print_text-clause-text g c =
    writes_stops _ _ c.from_residual.result _ c.from_residual.ensures.0
    (part_stopped _ _ _ _ _ _ (part_begins _ _ _ _ _ _ c.loop-part-test.true c.loop-part.invariant.0) c.in_err-print_text.ensures.text)

pub loop-part-preserved : goal.loop-part-preserved
loop-part-preserved g c = (
  part_next _ _ _ _ _ _ (part_begins _ _ _ _ _ _ c.loop-part-test.true c.loop-part.invariant.0) c.in_ok-print_text.ensures.text,
  c.in_ok-print_text.ensures.count ∙ c.loop-part.invariant.1,
)
