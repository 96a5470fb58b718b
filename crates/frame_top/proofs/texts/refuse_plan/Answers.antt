use Rattle.std.proofs.Common.{ap}
use Rattle.frame_ast.specs.Answers.{limit_line}
use Rattle.frame_top.proofs.Lines.{said_as, told_limit}
use Rattle.frame_top.proofs.texts.refuse_plan.Goals as goal

pub returns-in-Jobs-clause-said : goal.returns-in-Jobs-clause-said
returns-in-Jobs-clause-said g c limit told =
    said_as _ _ _ _ _ _ _ _ (ap limit_line (told_limit _ _ _ c.in-Jobs.is told)) c.say.ensures.said

pub returns-in-Words-clause-said : goal.returns-in-Words-clause-said
returns-in-Words-clause-said g c limit told =
    said_as _ _ _ _ _ _ _ _ (ap limit_line (told_limit _ _ _ c.in-Words.is told)) c.say-in-Words.ensures.said
