use Rattle.std.proofs.Common.{refl}
use Rattle.frame_top.specs.Answers.{Part}
use Rattle.frame_top.proofs.texts.refuse_script.Goals as goal

pub returns-in-Err-clause-said : goal.returns-in-Err-clause-said
returns-in-Err-clause-said g c = let p = c.in-Err.ensures.text in Part refl p.0 p.1 c.in-Err.ensures.cause
