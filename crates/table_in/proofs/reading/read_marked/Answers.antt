use Rattle.std.proofs.Common.{◌≡◌, ◌-◌, ◌∙◌, ap, sym, inl, inr, length, map, drop, take, arith, length-drop}
use Rattle.std.proofs.lemmas.List.{take_rest}
use Rattle.csv.specs.Reading.{strip_bom}
use Rattle.table_in.specs.Plain.{marked}
use Rattle.table_in.proofs.RowLemmas.{strip_bom-shorter}
use Rattle.table_in.proofs.ColumnLemmas.{length-with_rows}
use Rattle.table_in.proofs.MarkLemmas.{length-marked}
use Rattle.table_in.proofs.WholeLemmas.{table_of, fault_of}
use Rattle.table_in.proofs.reading.read_marked.Goals as goal

pub push_plain_rows-requires-clause-columns : goal.push_plain_rows-requires-clause-columns
push_plain_rows-requires-clause-columns c =
    length-marked c.args.marks.now c.args.marks.now c.args.names.now c.requires.marks ∙ sym (ap length c.in-Ok.ensures)

pub push_plain_rows-requires-clause-small : goal.push_plain_rows-requires-clause-small
push_plain_rows-requires-clause-small c =
    let shorter = strip_bom-shorter c.args.source.now in
    let same : length c.skip_mark-text.result.now ≡ length (strip_bom c.args.source.now) = ap length c.skip_mark-text.ensures in
    omega (arith, shorter, same, c.requires.within)

pub push_rows-requires-clause-columns : goal.push_rows-requires-clause-columns
push_rows-requires-clause-columns c =
    let marks = c.args.marks.now in
    let rows = c.in-Ok-push_plain_rows.ensures in
    length-marked marks marks c.args.names.now c.requires.marks ∙ sym (ap length c.in-Ok.ensures)
    ∙ sym (ap length rows.held ∙ length-with_rows c.in-Ok.table (map (marked marks) rows.rows))

pub push_rows-requires-clause-small : goal.push_rows-requires-clause-small
push_rows-requires-clause-small c =
    let text = c.skip_mark-text.result.now in
    let stand = c.in-Ok-push_plain_rows.stand in
    let rows = c.in-Ok-push_plain_rows.ensures in
    let shorter = strip_bom-shorter c.args.source.now in
    let same : length text ≡ length (strip_bom c.args.source.now) = ap length c.skip_mark-text.ensures in
    let rest : length (take (length text - stand.at) (drop stand.at text)) ≡ length (drop stand.at text) = ap length (take_rest text stand.at) in
    omega (arith, shorter, same, rest, length-drop stand.at text, rows.few, rows.within, c.requires.within)

pub returns-in-Ok-push_rows-clause-ok : goal.returns-in-Ok-push_rows-clause-ok
returns-in-Ok-push_rows-clause-ok c =
    let names = c.requires.names in
    let stand = c.in-Ok-push_plain_rows.stand in
    table_of c.args.source.now c.skip_mark-text.result.now names.0 c.names_end.result c.args.marks.now c.args.names.now c.in-Ok.table
    c.push_plain_rows.new.table c.push_rows.new.table stand.at stand.row c.skip_mark-text.ensures names.1 c.names_end.ensures names.2
    c.requires.marks c.in-Ok.ensures c.in-Ok-push_plain_rows.ensures c.in-Ok-push_rows.ensures.ok

pub returns-in-Err-clause-err : goal.returns-in-Err-clause-err
returns-in-Err-clause-err c =
    let names = c.requires.names in
    let stand = c.in-Ok-push_plain_rows.stand in
    elim c.in-Err.ensures.err [
      | inl memory ↦ inl memory
      | inr fault ↦ inr (fault_of c.args.source.now c.skip_mark-text.result.now names.0 c.names_end.result c.args.marks.now c.args.names.now
          c.in-Ok.table c.push_plain_rows.new.table stand.at stand.row c.in-Err.fault c.skip_mark-text.ensures names.1 c.names_end.ensures
          names.2 c.requires.marks c.in-Ok-push_plain_rows.ensures fault)
    ]
