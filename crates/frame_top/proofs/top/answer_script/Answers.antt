use Rattle.std.proofs.Common.{◌∙◌, ⊎_elim, Err, Some, refl, ap}
use Rattle.frame_top.specs.Answers.{Caused, NoTable, BadTable}
use Rattle.frame_top.specs.Asking.{bytes_in}
use Rattle.frame_top.proofs.Telling.{too_long_refused, of_frame, of_table}
use Rattle.frame_top.proofs.Seeing.{asked_seen, no_run, neither_run}
use Rattle.frame_top.proofs.top.answer_script.Goals as goal

pub returns-in-Err-Failed-clause-answer : goal.returns-in-Err-Failed-clause-answer
returns-in-Err-Failed-clause-answer g c words asked read =
    Caused _ (NoTable _ read (c.in-Err-Failed.ensures.failed (ap Err c.in-Err-Failed.field-0-is) words asked) refl) c.say.ensures.said

pub returns-in-Err-TooLong-clause-answer : goal.returns-in-Err-TooLong-clause-answer
returns-in-Err-TooLong-clause-answer g c words asked read =
    let long = c.in-Err-TooLong.ensures.too_long (ap Err c.in-Err-TooLong.field-0-is) words asked in
    Caused _ (BadTable _ (Some long.0) (record { script_is = read; table_is = long.1 }) (too_long_refused long.0 long.2)) c.say-in-Err-TooLong.ensures.said

pub returns-in-Ok-parse_table_for-clause-answer : goal.returns-in-Ok-parse_table_for-clause-answer
returns-in-Ok-parse_table_for-clause-answer g c words asked read =
    of_frame words _ _ _ c.args.script.now (bytes_in c.in-Ok.bytes) c.in-Ok-parse_table_for.table _ _ _ _ _ _ _
    (record { script_is = read; table_is = c.in-Ok.ensures.table words asked })
    c.in-Ok-parse_table_for.ensures.sound c.in-Ok-parse_table_for.ensures.columns (c.options_of.ensures.depth words asked)
    (c.options_of.ensures.workers words asked) c.answer_frame.ensures.answer

pub returns-clause-answer : goal.returns-clause-answer
returns-clause-answer g c words asked read =
    of_table words _ _ _ g.S.Sink.taken g.S.Sink.faults _ (bytes_in c.in-Ok.bytes) _ _ _ _
    (record { script_is = read; table_is = c.in-Ok.ensures.table words asked })
    c.in-Err.ensures.fault c.refuse_table.ensures.said c.refuse_table.ensures.none

pub returns-in-Err-Failed-clause-seen : goal.returns-in-Err-Failed-clause-seen
returns-in-Err-Failed-clause-seen g c words asked read plain saw ran = absurd (neither_run _ _ _ c.say.ensures.status refl refl ran)

pub returns-in-Err-TooLong-clause-seen : goal.returns-in-Err-TooLong-clause-seen
returns-in-Err-TooLong-clause-seen g c words asked read plain saw ran = absurd (neither_run _ _ _ c.say-in-Err-TooLong.ensures.status refl refl ran)

pub returns-in-Ok-parse_table_for-clause-seen : goal.returns-in-Ok-parse_table_for-clause-seen
returns-in-Ok-parse_table_for-clause-seen g c words asked read plain saw ran =
    asked_seen (λ tree. g.W.Watch.Saw tree c.args.watch.now c.answer_frame.new.watch) words _ c.args.script.now (bytes_in c.in-Ok.bytes)
    c.in-Ok-parse_table_for.table (record { script_is = read; table_is = c.in-Ok.ensures.table words asked })
    c.in-Ok-parse_table_for.ensures.sound c.in-Ok-parse_table_for.ensures.columns
    (c.answer_frame.ensures.seen (c.options_of.ensures.depth words asked ∙ plain) saw ran)

pub returns-clause-seen : goal.returns-clause-seen
returns-clause-seen g c words asked read plain saw ran =
    absurd (⊎_elim (λ e. no_run _ _ (c.refuse_table.ensures.none e).0 refl ran)
    (λ w. neither_run _ _ _ (c.refuse_table.ensures.status w.0) refl refl ran) c.in-Err.ensures.fault)
