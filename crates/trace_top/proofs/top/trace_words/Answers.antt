use Rattle.std.proofs.Common.{ap, refl, Err}
use Rattle.frame_top.specs.Words.{bytes_of}
use Rattle.frame_top.proofs.Telling.{not_usage}
use Rattle.trace_top.specs.Traced.{ByUsage, ByNone}
use Rattle.trace_top.proofs.Tracing.{not_of_command, not_fault}
use Rattle.trace_top.proofs.top.trace_words.Goals as goal

pub returns-in-Ok-clause-ends : goal.returns-in-Ok-clause-ends
returns-in-Ok-clause-ends g c =
    c.trace_command.ensures.ends _ (record { of_command = not_usage _ _ _ c.in-Ok.ensures.usage; spelled = c.in-Ok.ensures.ok })

pub returns-in-Err-Usage-clause-ends : goal.returns-in-Err-Usage-clause-ends
returns-in-Err-Usage-clause-ends g c =
    ByUsage (not_of_command (bytes_of c.args.words.now) (c.in-Err-Usage.ensures.usage.0 (ap Err c.in-Err-Usage.field-0-is)))
    c.say_usage.ensures.said (refl, refl)

pub returns-in-Err-NoMemory-clause-ends : goal.returns-in-Err-NoMemory-clause-ends
returns-in-Err-NoMemory-clause-ends g c = ByNone (not_fault _ c.in-Err-NoMemory.ensures.usage (ap Err c.in-Err-NoMemory.field-0-is)) refl (refl, refl)
