use Rattle.std.proofs.Common.{◌≡◌, ◌-◌, ◌+◌, Some, length-drop, take, drop, arith, ◌∙◌, ap}
use Rattle.frame_parser.specs.Notes.{events_of}
use Rattle.script_text.specs.Raw.{values_of, NewArray}
use Rattle.script_text.specs.Reading.{values_len}
use Rattle.script_text.proofs.Noted.{noted_length, noted_from, noted_between}
use Rattle.script_text.proofs.Reading.Values.{values_most}
use Rattle.script_text.proofs.build.array_with.Goals as goal

pub overflow_add-end : goal.overflow_add-end
overflow_add-end c =
    let notes = c.args.notes.now in
    let rest = drop c.args.from (events_of notes) in
    let len : c.values_len.result ≡ values_len rest = c.values_len.ensures ∙ ap values_len (noted_from notes c.args.from) in
    omega (arith, len, values_most rest, length-drop c.args.from (events_of notes), noted_length notes)

pub slice_bounds-result-end : goal.slice_bounds-result-end
slice_bounds-result-end c =
    let notes = c.args.notes.now in
    let rest = drop c.args.from (events_of notes) in
    let len : c.values_len.result ≡ values_len rest = c.values_len.ensures ∙ ap values_len (noted_from notes c.args.from) in
    omega (arith, len, values_most rest, length-drop c.args.from (events_of notes), noted_length notes)

pub returns-clause-form : goal.returns-clause-form
returns-clause-form c =
    let notes = c.args.notes.now in
    let w = c.args.scalars.now in
    let from = c.args.from in
    let rest = drop from (events_of notes) in
    let len : c.values_len.result ≡ values_len rest = c.values_len.ensures ∙ ap values_len (noted_from notes from) in
    let behind : from + c.values_len.result - from ≡ values_len rest = omega arith in
    ap (λ x. NewArray w.names.last w.numbers.last w.life (Some (values_of x))) (noted_between notes from (from + c.values_len.result - from))
    ∙ ap (λ n. NewArray w.names.last w.numbers.last w.life (Some (values_of (take n rest)))) behind

pub returns-clause-read : goal.returns-clause-read
returns-clause-read c =
    let notes = c.args.notes.now in
    ap (λ n. c.args.from + n + 2) (c.values_len.ensures ∙ ap values_len (noted_from notes c.args.from))
