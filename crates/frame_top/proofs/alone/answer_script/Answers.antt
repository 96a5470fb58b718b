use Rattle.frame_top.specs.Answers.{Caused}
use Rattle.frame_top.specs.Sources.{WithBadTable}
use Rattle.frame_top.proofs.Sources.{of_frame, of_table}
use Rattle.frame_top.proofs.alone.answer_script.Goals as goal

pub returns-then-is_too_long-clause-answer : goal.returns-then-is_too_long-clause-answer
returns-then-is_too_long-clause-answer g c source accepted =
    Caused _ (WithBadTable c.args.script.now accepted (c.is_too_long.ensures.long c.if-is_too_long.true)) c.say.ensures.said

pub returns-in-Ok-clause-answer : goal.returns-in-Ok-clause-answer
returns-in-Ok-clause-answer g c source accepted =
    of_frame source _ c.args.script.now accepted c.in-Ok.columns _ _ _ _ _ c.in-Ok.ensures.sound c.in-Ok.ensures.columns c.answer_frame.ensures.answer

pub returns-in-Err-clause-answer : goal.returns-in-Err-clause-answer
returns-in-Err-clause-answer g c source accepted =
    of_table source _ c.args.script.now accepted g.S.Sink.taken g.S.Sink.faults _ _ _ _ c.in-Err.ensures.fault c.refuse_table.ensures.said
    c.refuse_table.ensures.none
