use Rattle.std.proofs.Common.{◌+◌, ◌<◌, length, drop, arith}
use Rattle.frame_parser.specs.Notes.{events_of}
use Rattle.script_text.specs.Raw.{form_of}
use Rattle.script_text.proofs.Noted.{noted_length, noted_next, noted_from}
use Rattle.script_text.proofs.Reading.OpenItems.{no_event, kernel_opens, no_kernel_opens, order_begins, order_leads, kernel_begins, kernel_leads, end_starts_none, end_opens_none, some_item, out_leads, nothing_leads}
use Rattle.script_text.proofs.build_item.raw_item.Goals as goal

pub bounds-notes-at : goal.bounds-notes-at
bounds-notes-at c = omega (arith, noted_length c.args.notes.now)

pub returns-then-at-count : goal.returns-then-at-count
returns-then-at-count c items spells =
    let all = events_of c.args.notes.now in
    nothing_leads (drop c.args.at all) items (no_event all c.args.at (omega arith)) spells

pub raw_order-requires : goal.raw_order-requires
raw_order-requires c =
    let notes = c.args.notes.now in
    let all = events_of notes in
    let at = c.args.at in
    let within : at < length notes = omega (arith, noted_length notes) in
    let here = noted_next notes at _ c.event-event.result within c.event-event.ensures in
    order_begins all (drop (at + 1) all) _ at c.event-event.result c.requires.spelled.items here
    (noted_from notes (at + 1)) c.in-StartStatement.is c.requires.spelled.spells

pub kernel_len-requires : goal.kernel_len-requires
kernel_len-requires c =
    let notes = c.args.notes.now in
    let all = events_of notes in
    let at = c.args.at in
    let within : at < length notes = omega (arith, noted_length notes) in
    let here = noted_next notes at _ c.event-event.result within c.event-event.ensures in
    kernel_begins all (drop (at + 1) all) _ at c.event-event.result c.requires.spelled.items here (noted_from notes at)
    (kernel_opens c.event-event.result.action c.in-OpenJob.is) c.requires.spelled.spells

pub overflow_add-result-in-StartStatement : goal.overflow_add-result-in-StartStatement
overflow_add-result-in-StartStatement c =
    let notes = c.args.notes.now in
    let all = events_of notes in
    let at = c.args.at in
    let within : at < length notes = omega (arith, noted_length notes) in
    let here = noted_next notes at _ c.event-event.result within c.event-event.ensures in
    let found = c.in_ok-found-in-StartStatement.found in
    let leads = order_leads all (drop (at + 1) all) _ at c.event-event.result c.requires.spelled.items (form_of found.order) found.read here
    (noted_from notes (at + 1)) c.in-StartStatement.is
    c.requires.spelled.spells c.in_ok-found-in-StartStatement.ensures.form c.in_ok-found-in-StartStatement.ensures.read in
    omega (arith, leads.1, noted_length notes)

pub overflow_add-result-in-OpenJob : goal.overflow_add-result-in-OpenJob
overflow_add-result-in-OpenJob c =
    let notes = c.args.notes.now in
    let all = events_of notes in
    let at = c.args.at in
    let within : at < length notes = omega (arith, noted_length notes) in
    let here = noted_next notes at _ c.event-event.result within c.event-event.ensures in
    let leads = kernel_leads all (drop (at + 1) all) _ at c.event-event.result c.requires.spelled.items c.kernel_len.result here (noted_from notes at)
    (kernel_opens c.event-event.result.action c.in-OpenJob.is) c.requires.spelled.spells c.kernel_len.ensures in
    omega (arith, leads.1, noted_length notes)

pub returns-in_ok-found-in-StartStatement : goal.returns-in_ok-found-in-StartStatement
returns-in_ok-found-in-StartStatement c items spells =
    let notes = c.args.notes.now in
    let all = events_of notes in
    let at = c.args.at in
    let within : at < length notes = omega (arith, noted_length notes) in
    let here = noted_next notes at _ c.event-event.result within c.event-event.ensures in
    let found = c.in_ok-found-in-StartStatement.found in
    order_leads all (drop (at + 1) all) _ at c.event-event.result items (form_of found.order) found.read here (noted_from notes (at + 1)) c.in-StartStatement.is
    spells c.in_ok-found-in-StartStatement.ensures.form c.in_ok-found-in-StartStatement.ensures.read

pub returns-in-OpenJob : goal.returns-in-OpenJob
returns-in-OpenJob c items spells =
    let notes = c.args.notes.now in
    let all = events_of notes in
    let at = c.args.at in
    let within : at < length notes = omega (arith, noted_length notes) in
    let here = noted_next notes at _ c.event-event.result within c.event-event.ensures in
    kernel_leads all (drop (at + 1) all) _ at c.event-event.result items c.kernel_len.result here (noted_from notes at)
    (kernel_opens c.event-event.result.action c.in-OpenJob.is) spells c.kernel_len.ensures

pub returns-in-RepeatStatement : goal.returns-in-RepeatStatement
returns-in-RepeatStatement c items spells =
    let notes = c.args.notes.now in
    let all = events_of notes in
    let at = c.args.at in
    let within : at < length notes = omega (arith, noted_length notes) in
    let here = noted_next notes at _ c.event-event.result within c.event-event.ensures in
    let ends = c.in-RepeatStatement.is in
    let event = c.event-event.result in
    out_leads all (drop (at + 1) all) at event items here (end_starts_none event.action ends) (end_opens_none event.action ends) spells

pub unreachable-requires : goal.unreachable-requires
unreachable-requires c =
    let notes = c.args.notes.now in
    let all = events_of notes in
    let at = c.args.at in
    let within : at < length notes = omega (arith, noted_length notes) in
    let here = noted_next notes at _ c.event-event.result within c.event-event.ensures in
    let not = c.in_default in
    some_item all (drop (at + 1) all) at c.event-event.result c.requires.spelled.items here not.not-StartStatement
    (no_kernel_opens c.event-event.result.action not.not-OpenJob not.not-OpenParallel) not.not-RepeatStatement not.not-WhenStatement
    c.requires.spelled.spells
