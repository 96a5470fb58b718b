use Rattle.std.proofs.Common.{arith}
use Rattle.std.proofs.lemmas.Grind.{common_steps}
use Rattle.job_base.proofs.Parts.{part_more, part_stop}
use Rattle.frame_print.proofs.texts.print_text.Goals as goal

pub loop-rest-preserved : goal.loop-rest-preserved
loop-rest-preserved g c = (
  part_more _ _ _ _ _ c.in-Ok.n c.loop-rest.invariant.0 c.in-Ok.ensures.taken _ (grind (arith, common_steps)),
  grind
      (arith, c.loop-rest.invariant.1, c.in-Ok.ensures.count),
)

pub returns-in-Err-clause-text : goal.returns-in-Err-clause-text
returns-in-Err-clause-text g c = part_stop _ _ _ _ _ c.loop-rest.invariant.0 c.in-Err.ensures.taken
