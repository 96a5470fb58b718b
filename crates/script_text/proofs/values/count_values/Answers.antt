use Rattle.std.proofs.Common.{◌≡◌, ◌+◌, true, false, drop, length, sym, ◌∙◌, arith}
use Rattle.frame_parser.specs.Notes.{events_of}
use Rattle.script_text.specs.Raw.{signed_from, values_of}
use Rattle.script_text.proofs.Noted.{noted_next}
use Rattle.script_text.proofs.Reading.Values.{counted_on}
use Rattle.script_text.proofs.values.count_values.Goals as goal
use Rattle.script_text.proofs.values.count_values.Goals.{then-ends_number, else-ends_number}

pub loop-note-preserved : goal.loop-note-preserved
loop-note-preserved c =
    let notes = c.args.notes.now in
    let all = events_of notes in
    let i = c.loop-note.note-index in
    let e = c.event.result in
    let k = c.loop-note.count in
    let next = noted_next notes i _ e c.loop-note-test.true c.event.ensures in
    let left = length (signed_from 0 (drop (i + 1) all)) in
    elim c.if-ends_number.branch [
      | then-ends_number w ↦
          let sum : k + 1 + left ≡ length (values_of all) = counted_on all i k e true next
          (sym c.ends_number.ensures ∙ w.if-ends_number.true) c.loop-note.invariant.counted in
          record { counted = omega (arith, w.count-is); most = omega (arith, w.count-is, c.loop-note.invariant.most) }
      | else-ends_number w ↦
          let sum : k + 0 + left ≡ length (values_of all) = counted_on all i k e false next
          (sym c.ends_number.ensures ∙ w.if-ends_number.false) c.loop-note.invariant.counted in
          record { counted = omega (arith, w.count-is); most = omega (arith, w.count-is, c.loop-note.invariant.most) }
    ]
