use Rattle.std.proofs.Common.{Err, ap, refl}
use Rattle.frame_top.specs.Answers.{Caused, Usage}
use Rattle.frame_top.proofs.Telling.{not_usage}
use Rattle.frame_top.proofs.Seeing.{neither_run}
use Rattle.frame_top.proofs.top.answer_words.Goals as goal

pub returns-in-Ok-clause-answer : goal.returns-in-Ok-clause-answer
returns-in-Ok-clause-answer g c =
    c.answer_command.ensures.answer _ (record { of_command = not_usage _ _ _ c.in-Ok.ensures.usage; spelled = c.in-Ok.ensures.ok })

pub returns-in-Ok-clause-reads : goal.returns-in-Ok-clause-reads
returns-in-Ok-clause-reads g c =
    c.answer_command.ensures.reads _ (record { of_command = not_usage _ _ _ c.in-Ok.ensures.usage; spelled = c.in-Ok.ensures.ok })

pub returns-in-Err-Usage-clause-answer : goal.returns-in-Err-Usage-clause-answer
returns-in-Err-Usage-clause-answer g c = Caused _ (Usage (c.in-Err-Usage.ensures.usage.0 (ap Err c.in-Err-Usage.field-0-is)) refl) c.say.ensures.said

pub returns-in-Ok-clause-seen : goal.returns-in-Ok-clause-seen
returns-in-Ok-clause-seen g c plain saw ran =
    c.answer_command.ensures.seen _ (record { of_command = not_usage _ _ _ c.in-Ok.ensures.usage; spelled = c.in-Ok.ensures.ok }) plain saw ran

pub returns-in-Err-Usage-clause-seen : goal.returns-in-Err-Usage-clause-seen
returns-in-Err-Usage-clause-seen g c plain saw ran = absurd (neither_run _ _ _ c.say.ensures.status refl refl ran)
