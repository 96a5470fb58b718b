use Rattle.std.proofs.Common.{sym, ◌∙◌}
use Rattle.frame_parser.specs.Notes.{events_of}
use Rattle.script_text.proofs.Noted.{noted_next}
use Rattle.script_text.proofs.Reading.Values.{open_on, closed_here}
use Rattle.script_text.proofs.values.values_len.Goals as goal

pub returns-then-closes_values : goal.returns-then-closes_values
returns-then-closes_values c =
    let notes = c.args.notes.now in
    let i = c.loop-index.index in
    closed_here (events_of notes) i c.event.result (noted_next notes i _ c.event.result c.loop-index-test.true c.event.ensures)
    (sym c.closes_values.ensures ∙ c.if-closes_values.true) c.loop-index.invariant

pub loop-index-preserved : goal.loop-index-preserved
loop-index-preserved c =
    let notes = c.args.notes.now in
    let i = c.loop-index.index in
    open_on (events_of notes) i c.event.result (noted_next notes i _ c.event.result c.loop-index-test.true c.event.ensures)
    (sym c.closes_values.ensures ∙ c.if-closes_values.false) c.loop-index.invariant
