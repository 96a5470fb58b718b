use Rattle.std.proofs.Common.{sym, ◌∙◌, ap}
use Rattle.frame_parser.specs.Notes.{events_of}
use Rattle.script_text.specs.Reading.{closes}
use Rattle.script_text.proofs.Noted.{noted_within, noted_out, noted_at}
use Rattle.script_text.proofs.Reading.KernelEnds.{kernel_ends, open_step, closed_step, never_open}
use Rattle.script_text.proofs.build_kernel.kernel_len.Goals as goal

pub returns-then-closes : goal.returns-then-closes
returns-then-closes c k =
    let notes = c.args.notes.now in
    let i = c.loop-index.index in
    let e = c.event.result in
    let here = noted_at notes i _ e c.loop-index-test.true c.event.ensures in
    closed_step (events_of notes) i e (noted_within notes i c.loop-index-test.true)
    (ap (λ x. closes x.action) here ∙ sym c.closes.ensures ∙ c.if-closes.true) c.loop-index.invariant
    ∙ kernel_ends (events_of notes) k

pub loop-index-preserved : goal.loop-index-preserved
loop-index-preserved c =
    let notes = c.args.notes.now in
    let i = c.loop-index.index in
    let e = c.event.result in
    let here = noted_at notes i _ e c.loop-index-test.true c.event.ensures in
    open_step (events_of notes) i e (noted_within notes i c.loop-index-test.true)
    (ap (λ x. closes x.action) here ∙ sym c.closes.ensures ∙ c.if-closes.false) c.loop-index.invariant

pub unreachable-requires : goal.unreachable-requires
unreachable-requires c =
    let notes = c.args.notes.now in
    never_open (events_of notes) c.loop-index.index c.requires (noted_out notes c.loop-index.index c.loop-index-test.false) c.loop-index.invariant
