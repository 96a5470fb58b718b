use Rattle.std.proofs.Common.{◌+◌, ◌<◌, length, drop, arith}
use Rattle.frame_parser.specs.Notes.{events_of}
use Rattle.script_text.specs.Known.{known_form}
use Rattle.script_text.proofs.Noted.{noted_length, noted_next, noted_from}
use Rattle.script_text.proofs.Reading.OpenItems.{order_leads}
use Rattle.script_text.proofs.known_orders.known_item.Goals as goal

pub overflow_add-result-in-StartStatement : goal.overflow_add-result-in-StartStatement
overflow_add-result-in-StartStatement c =
    let notes = c.args.notes.now in
    let all = events_of notes in
    let at = c.args.at in
    let within : at < length notes = omega arith in
    let here = noted_next notes at _ c.event-event.result within c.event-event.ensures in
    let found = c.in_ok-order-in-StartStatement in
    let leads = order_leads all (drop (at + 1) all) _ at c.event-event.result c.requires.spelled.items (known_form found.order) found.read here
    (noted_from notes (at + 1)) c.in-StartStatement.is c.requires.spelled.spells found.ensures.form found.ensures.read in
    omega (arith, leads.1, noted_length notes)

pub returns-in_ok-order-in-StartStatement : goal.returns-in_ok-order-in-StartStatement
returns-in_ok-order-in-StartStatement c items spells =
    let notes = c.args.notes.now in
    let all = events_of notes in
    let at = c.args.at in
    let within : at < length notes = omega arith in
    let here = noted_next notes at _ c.event-event.result within c.event-event.ensures in
    let found = c.in_ok-order-in-StartStatement in
    order_leads all (drop (at + 1) all) _ at c.event-event.result items (known_form found.order) found.read here (noted_from notes (at + 1))
    c.in-StartStatement.is spells found.ensures.form found.ensures.read
