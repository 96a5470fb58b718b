use Rattle.std.proofs.Common.{◌+◌, true, false, drop, ap, subst, sym, ◌∙◌}
use Rattle.std.proofs.lemmas.List.{drop_all}
use Rattle.frame_grammar.specs.declared.symbols.Action.TheVariants.{Number, PlainNumber, MinusNumber}
use Rattle.frame_parser.specs.Notes.{events_of}
use Rattle.script_text.specs.declared.raw.RawNumber.{RawNumber}
use Rattle.script_text.specs.Raw.{signed_from, values_of}
use Rattle.script_text.proofs.Noted.{noted_next, noted_out}
use Rattle.script_checks.proofs.FaultLemmas.{refuses, exits}
use Rattle.script_checks.proofs.NumberLemmas.{signed_kept}
use Rattle.script_checks.proofs.ValueLemmas.{Kept, kept_on, kept_more, kept_all, stopped_at, left_after, left_alike}
use Rattle.script_checks.proofs.values.signed_values.Goals as goal
use Rattle.script_checks.proofs.values.signed_values.Goals.{in-Number, in-PlainNumber+in_ok-value-in-PlainNumber+in_ok-push-in-PlainNumber, in-MinusNumber+in_ok-value-in-MinusNumber+in_ok-push-in-MinusNumber, in_default}

pub returns-in_err-value-in-PlainNumber : goal.returns-in_err-value-in-PlainNumber
returns-in_err-value-in-PlainNumber c =
    let notes = c.args.notes.now in
    let all = events_of notes in
    let i = c.loop-note.note-index in
    let at = c.loop-note.at in
    let e = c.event-event.result in
    let n : RawNumber = record { minus = false; at = at } in
    let next = noted_next notes i _ e c.loop-note-test.true c.event-event.ensures in
    exits _ _ c.from_residual-in_err-value-in-PlainNumber.result _ c.from_residual-in_err-value-in-PlainNumber.ensures.1
    (stopped_at c.args.source (values_of all) _ (signed_from at (drop (i + 1) all)) n c.loop-note.values.items _
    (left_after all i at e PlainNumber next c.in-PlainNumber.is) (refuses _ _ c.in_err-value-in-PlainNumber.ensures) c.loop-note.invariant)

pub returns-in_err-value-in-MinusNumber : goal.returns-in_err-value-in-MinusNumber
returns-in_err-value-in-MinusNumber c =
    let notes = c.args.notes.now in
    let all = events_of notes in
    let i = c.loop-note.note-index in
    let at = c.loop-note.at in
    let e = c.event-event.result in
    let n : RawNumber = record { minus = true; at = at } in
    let next = noted_next notes i _ e c.loop-note-test.true c.event-event.ensures in
    exits _ _ c.from_residual-in_err-value-in-MinusNumber.result _ c.from_residual-in_err-value-in-MinusNumber.ensures.1
    (stopped_at c.args.source (values_of all) _ (signed_from at (drop (i + 1) all)) n c.loop-note.values.items _
    (left_after all i at e MinusNumber next c.in-MinusNumber.is) (refuses _ _ c.in_err-value-in-MinusNumber.ensures) c.loop-note.invariant)

pub loop-note-preserved : goal.loop-note-preserved
loop-note-preserved c =
    let s = c.args.source in
    let notes = c.args.notes.now in
    let all = events_of notes in
    let i = c.loop-note.note-index in
    let at = c.loop-note.at in
    let e = c.event-event.result in
    let values = values_of all in
    let more = drop (i + 1) all in
    let next = noted_next notes i _ e c.loop-note-test.true c.event-event.ensures in
    let kept = c.loop-note.invariant in
    let plain : RawNumber = record { minus = false; at = at } in
    let minus : RawNumber = record { minus = true; at = at } in
    elim c.match-event.branch [
      | in-Number w ↦
          subst (λ x. Kept s values (signed_from x more) c.match-event.values.items) (sym w.at-is)
          (subst (λ vs. Kept s values (signed_from e.place more) vs.items) (sym w.values-is)
          (kept_on s values _ (signed_from e.place more) c.loop-note.values.items (left_after all i at e Number next w.in-Number.is) kept))
      | in-PlainNumber+in_ok-value-in-PlainNumber+in_ok-push-in-PlainNumber w ↦
          let v = w.in_ok-value-in-PlainNumber in
          subst (λ x. Kept s values (signed_from x more) c.match-event.values.items) (sym w.at-is)
          (kept_more s values _ (signed_from at more) plain c.loop-note.values.items c.match-event.values.items _
          (left_after all i at e PlainNumber next w.in-PlainNumber.is) v.ensures.0
          (ap (λ vs. vs.items) w.values-is ∙ w.in_ok-push-in-PlainNumber.ensures.items) (signed_kept s plain v.value v.ensures.0 v.ensures.1) kept)
      | in-MinusNumber+in_ok-value-in-MinusNumber+in_ok-push-in-MinusNumber w ↦
          let v = w.in_ok-value-in-MinusNumber in
          subst (λ x. Kept s values (signed_from x more) c.match-event.values.items) (sym w.at-is)
          (kept_more s values _ (signed_from at more) minus c.loop-note.values.items c.match-event.values.items _
          (left_after all i at e MinusNumber next w.in-MinusNumber.is) v.ensures.0
          (ap (λ vs. vs.items) w.values-is ∙ w.in_ok-push-in-MinusNumber.ensures.items) (signed_kept s minus v.value v.ensures.0 v.ensures.1) kept)
      | in_default w ↦
          let d = w.in_default in
          subst (λ x. Kept s values (signed_from x more) c.match-event.values.items) (sym w.at-is)
          (subst (λ vs. Kept s values (signed_from at more) vs.items) (sym w.values-is)
          (kept_on s values _ (signed_from at more) c.loop-note.values.items
          (left_alike all i at e next d.not-Number d.not-PlainNumber d.not-MinusNumber) kept))
    ]

pub returns : goal.returns
returns c =
    let notes = c.args.notes.now in
    let all = events_of notes in
    let i = c.loop-note.note-index in
    kept_all c.args.source (values_of all) _ c.loop-note.values.items (ap (signed_from c.loop-note.at)
    (drop_all i all (noted_out notes i c.loop-note-test.false))) c.loop-note.invariant
