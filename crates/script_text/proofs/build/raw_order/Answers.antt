use Rattle.std.proofs.Common.{◌≡◌, ◌<◌, true, length, drop, sym, ◌∙◌, ap}
use Rattle.frame_parser.specs.Notes.{events_of}
use Rattle.script_text.specs.declared.build_scalars.Scalars.{Scalars}
use Rattle.script_text.specs.Reading.{is_scalar, only_scalars, order_from, step, finished, ends, ends_flat, opens_values}
use Rattle.script_text.proofs.Noted.{noted_within, noted_out, noted_at}
use Rattle.script_text.proofs.Reading.PlainScalars.{scalar_out, scalar_kept, no_scalar, scalar_shut, scalar_goes, flat_ends, flat_shut, flat_finished}
use Rattle.script_text.proofs.Reading.Orders.{ended_read, ended_place, went_on, never_out}
use Rattle.script_text.proofs.build.raw_order.Goals as goal

pub loop-index-preserved : goal.loop-index-preserved
loop-index-preserved c =
    let notes = c.args.notes.now in
    let i = c.loop-index.index in
    let w : Scalars = c.loop-index.scalars in
    let e = c.event-event.result in
    let here = noted_at notes i _ e c.loop-index-test.true c.event-event.ensures in
    let within : i < length (events_of notes) = noted_within notes i c.loop-index-test.true in
    let scalar : is_scalar e.action ≡ true = sym c.take_scalar.ensures.plain ∙ c.if-not-take_scalar.false in
    record {
      read =
          went_on (events_of notes) i e (only_scalars w) _ within c.loop-index.invariant.read
          (ap (λ x. opens_values x.action) here ∙ scalar_shut e.action scalar)
          (ap (λ x. ends x.action) here ∙ scalar_goes e.action scalar)
          (ap only_scalars c.take_scalar.ensures.scalars ∙ scalar_kept e.action e.place w scalar c.loop-index.invariant.outside
          ∙ ap (λ x. step x.action x.place (only_scalars w)) (sym here));
      outside = ap (λ v. v.is_listing) c.take_scalar.ensures.scalars ∙ scalar_out e.action e.place w c.loop-index.invariant.outside;
    }

pub returns-then-ends_flat-clause-form : goal.returns-then-ends_flat-clause-form
returns-then-ends_flat-clause-form c begun =
    let notes = c.args.notes.now in
    let i = c.loop-index.index in
    let w : Scalars = c.loop-index.scalars in
    let e = c.event-event.result in
    let here = noted_at notes i _ e c.loop-index-test.true c.event-event.ensures in
    let within : i < length (events_of notes) = noted_within notes i c.loop-index-test.true in
    let ended : ends_flat e.action ≡ true = sym c.ends_flat.ensures ∙ c.if-ends_flat.true in
    let same = c.take_scalar.ensures.scalars ∙ no_scalar e.action e.place w (sym c.take_scalar.ensures.plain ∙ c.if-not-take_scalar.true) in
    c.finish.ensures
    ∙ flat_finished e.action (only_scalars c.take_scalar.new.self) ended
    ∙ ap (λ v. finished e.action (only_scalars v)) same
    ∙ ap (λ x. finished x.action (only_scalars w)) (sym here)
    ∙ (ended_read (events_of notes) i e (only_scalars w) within c.loop-index.invariant.read (ap (λ x. opens_values x.action) here ∙ flat_shut e.action ended)
    (ap (λ x. ends x.action) here ∙ flat_ends e.action ended) begun).0

pub returns-then-ends_flat-clause-read : goal.returns-then-ends_flat-clause-read
returns-then-ends_flat-clause-read c begun =
    let notes = c.args.notes.now in
    let i = c.loop-index.index in
    let w : Scalars = c.loop-index.scalars in
    let e = c.event-event.result in
    let here = noted_at notes i _ e c.loop-index-test.true c.event-event.ensures in
    let within : i < length (events_of notes) = noted_within notes i c.loop-index-test.true in
    let ended : ends_flat e.action ≡ true = sym c.ends_flat.ensures ∙ c.if-ends_flat.true in
    ended_place (events_of notes) i begun within
    (ended_read (events_of notes) i e (only_scalars w) within c.loop-index.invariant.read (ap (λ x. opens_values x.action) here ∙ flat_shut e.action ended)
    (ap (λ x. ends x.action) here ∙ flat_ends e.action ended) begun).1

pub listed_order-requires-clause-scalars : goal.listed_order-requires-clause-scalars
listed_order-requires-clause-scalars c =
    let notes = c.args.notes.now in
    let i = c.loop-index.index in
    let e = c.event-event.result in
    let same = c.take_scalar.ensures.scalars ∙ no_scalar e.action e.place c.loop-index.scalars (sym c.take_scalar.ensures.plain ∙ c.if-not-take_scalar.true) in
    ap (λ v. order_from (only_scalars v) (drop i (events_of notes))) same ∙ c.loop-index.invariant.read

pub unreachable-requires : goal.unreachable-requires
unreachable-requires c =
    let notes = c.args.notes.now in
    never_out (events_of notes) c.loop-index.index (only_scalars c.loop-index.scalars)
    (noted_out notes c.loop-index.index c.loop-index-test.false) c.loop-index.invariant.read c.requires
