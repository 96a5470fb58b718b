use Rattle.frame_top.specs.Asking.{bytes_in}
use Rattle.graph_top.proofs.Telling.{frame_drawn}
use Rattle.std.proofs.Common.{Err, List, Some, ap, refl, subst}
use Rattle.plan_statements.specs.Tables.{columns_of}
use Rattle.table_in.specs.Columns.{NamedColumn}
use Rattle.frame_top.proofs.Telling.{too_long_refused}
use Rattle.graph_top.specs.Due.{NoTable, BadTable, ByReason, ByFrame, Wanting, FrameEndsTo}
use Rattle.graph_top.proofs.Due.{of_fault}
use Rattle.graph_top.proofs.top.answer_script.Goals as goal

pub returns-in-Ok-parse_table-clause-drawn : goal.returns-in-Ok-parse_table-clause-drawn
returns-in-Ok-parse_table-clause-drawn g c words asked read =
    frame_drawn words _ c.args.script.now (bytes_in c.in-Ok.bytes) _ _ c.args.graph.now.dot _ _ _ _ _
    (record { script_is = read; table_is = c.in-Ok.ensures.table words asked })
    c.in-Ok-parse_table.ensures.sound c.in-Ok-parse_table.ensures.columns (c.options_of.ensures.workers words asked) c.answer_frame.ensures.drawn

pub returns-in-Err-Failed-clause-ends : goal.returns-in-Err-Failed-clause-ends
returns-in-Err-Failed-clause-ends g c words asked read =
    ByReason _ (NoTable _ read (c.in-Err-Failed.ensures.failed (ap Err c.in-Err-Failed.field-0-is) words asked) refl) c.say.ensures.said

pub returns-in-Err-TooLong-clause-ends : goal.returns-in-Err-TooLong-clause-ends
returns-in-Err-TooLong-clause-ends g c words asked read =
    let long = c.in-Err-TooLong.ensures.too_long (ap Err c.in-Err-TooLong.field-0-is) words asked in
    ByReason _ (BadTable _ (Some long.0) (record { script_is = read; table_is = long.1 }) (too_long_refused long.0 long.2)) c.say-in-Err-TooLong.ensures.said

pub returns-in-Err-NoMemory-clause-ends : goal.returns-in-Err-NoMemory-clause-ends
returns-in-Err-NoMemory-clause-ends g c words asked read = Wanting refl

pub returns-in-Ok-parse_table-clause-ends : goal.returns-in-Ok-parse_table-clause-ends
returns-in-Ok-parse_table-clause-ends g c words asked read =
    ByFrame c.args.script.now (bytes_in c.in-Ok.bytes) (record { script_is = read; table_is = c.in-Ok.ensures.table words asked })
    c.in-Ok-parse_table.ensures.sound
    (subst (λ (cs : List NamedColumn). FrameEndsTo g.S.Sink.faults g.E.Sink.taken g.E.Sink.faults c.args.sink.now c.answer_frame.new.sink c.args.notes.now
    c.answer_frame.new.notes c.args.script.now (columns_of cs) c.answer_frame.result) c.in-Ok-parse_table.ensures.columns c.answer_frame.ensures.ends)

pub returns-clause-ends : goal.returns-clause-ends
returns-clause-ends g c words asked read =
    of_fault words _ _ _ _ _ _ _ _ _ (record { script_is = read; table_is = c.in-Ok.ensures.table words asked })
    c.in-Err.ensures.fault c.refuse_table.ensures.said (λ e. (c.refuse_table.ensures.none e).0)
