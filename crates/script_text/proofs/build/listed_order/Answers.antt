use Rattle.std.proofs.Common.{◌<◌, length, sym, ◌∙◌, ap}
use Rattle.frame_parser.specs.Notes.{events_of}
use Rattle.script_text.specs.Reading.{Reading, reading_of, step, finished, ends, opens_values}
use Rattle.script_text.proofs.Noted.{noted_within, noted_out, noted_at}
use Rattle.script_text.proofs.Reading.Orders.{opened_read, ended_read, ended_place, went_on, never_out}
use Rattle.script_text.proofs.build.listed_order.Goals as goal

pub loop-index-preserved : goal.loop-index-preserved
loop-index-preserved c =
    let notes = c.args.notes.now in
    let i = c.loop-index.index in
    let r : Reading = reading_of c.loop-index.reader in
    let e = c.event-event.result in
    let here = noted_at notes i _ e c.loop-index-test.true c.event-event.ensures in
    let within : i < length (events_of notes) = noted_within notes i c.loop-index-test.true in
    went_on (events_of notes) i e r _ within c.loop-index.invariant
    (ap (λ x. opens_values x.action) here ∙ sym c.opens_values.ensures ∙ c.if-opens_values.false)
    (ap (λ x. ends x.action) here ∙ sym c.ends.ensures ∙ c.if-ends.false)
    (c.in_ok-take.ensures ∙ ap (λ x. step x.action x.place r) (sym here))

pub returns-then-opens_values-clause-form : goal.returns-then-opens_values-clause-form
returns-then-opens_values-clause-form c begun =
    let notes = c.args.notes.now in
    let i = c.loop-index.index in
    let r : Reading = reading_of c.loop-index.reader in
    let e = c.event-event.result in
    let here = noted_at notes i _ e c.loop-index-test.true c.event-event.ensures in
    let within : i < length (events_of notes) = noted_within notes i c.loop-index-test.true in
    c.array_with.ensures.form
    ∙ (opened_read (events_of notes) i e r within c.loop-index.invariant
    (ap (λ x. opens_values x.action) here ∙ sym c.opens_values.ensures ∙ c.if-opens_values.true) begun).0

pub returns-then-opens_values-clause-read : goal.returns-then-opens_values-clause-read
returns-then-opens_values-clause-read c begun =
    let notes = c.args.notes.now in
    let i = c.loop-index.index in
    let r : Reading = reading_of c.loop-index.reader in
    let e = c.event-event.result in
    let here = noted_at notes i _ e c.loop-index-test.true c.event-event.ensures in
    let within : i < length (events_of notes) = noted_within notes i c.loop-index-test.true in
    c.array_with.ensures.read
    ∙ (opened_read (events_of notes) i e r within c.loop-index.invariant
    (ap (λ x. opens_values x.action) here ∙ sym c.opens_values.ensures ∙ c.if-opens_values.true) begun).1

pub returns-then-ends-clause-form : goal.returns-then-ends-clause-form
returns-then-ends-clause-form c begun =
    let notes = c.args.notes.now in
    let i = c.loop-index.index in
    let r : Reading = reading_of c.loop-index.reader in
    let e = c.event-event.result in
    let here = noted_at notes i _ e c.loop-index-test.true c.event-event.ensures in
    let within : i < length (events_of notes) = noted_within notes i c.loop-index-test.true in
    c.finish.ensures
    ∙ ap (λ x. finished x.action r) (sym here)
    ∙ (ended_read (events_of notes) i e r within c.loop-index.invariant
    (ap (λ x. opens_values x.action) here ∙ sym c.opens_values.ensures ∙ c.if-opens_values.false)
    (ap (λ x. ends x.action) here ∙ sym c.ends.ensures ∙ c.if-ends.true) begun).0

pub returns-then-ends-clause-read : goal.returns-then-ends-clause-read
returns-then-ends-clause-read c begun =
    let notes = c.args.notes.now in
    let i = c.loop-index.index in
    let r : Reading = reading_of c.loop-index.reader in
    let e = c.event-event.result in
    let here = noted_at notes i _ e c.loop-index-test.true c.event-event.ensures in
    let within : i < length (events_of notes) = noted_within notes i c.loop-index-test.true in
    ended_place (events_of notes) i begun within
    (ended_read (events_of notes) i e r within c.loop-index.invariant
    (ap (λ x. opens_values x.action) here ∙ sym c.opens_values.ensures ∙ c.if-opens_values.false)
    (ap (λ x. ends x.action) here ∙ sym c.ends.ensures ∙ c.if-ends.true) begun).1

pub unreachable-requires : goal.unreachable-requires
unreachable-requires c =
    let notes = c.args.notes.now in
    never_out (events_of notes) c.loop-index.index (reading_of c.loop-index.reader)
    (noted_out notes c.loop-index.index c.loop-index-test.false) c.loop-index.invariant c.requires.begun
