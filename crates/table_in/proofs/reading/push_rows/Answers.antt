use Rattle.std.proofs.Common.{◌≡◌, ◌∙◌, ap, inl, inr, true, false, subst, arith}
use Rattle.csv.specs.Records.{fields_of}
use Rattle.csv.specs.Reading.{Ready, ReadRecord, builder_config, builder_names_headers, builder_trim, default_config}
use Rattle.csv.specs.declared.reader.Trim.TheVariants as trim
use Rattle.table_in.proofs.ReadLemmas.{left_in, starts, still_marked, goes_on, faults, few, ends}
use Rattle.table_in.proofs.reading.push_rows.Goals as goal

pub loop-row-init : goal.loop-row-init
loop-row-init c =
    let fr = c.from_reader-reader.ensures in
    let settings = c.flexible.ensures in
    let before = c.has_headers.ensures in
    let config : c.from_reader-reader.result.config ≡ default_config = fr.config ∙ ap builder_config settings ∙ ap builder_config before
    ∙ c.new.ensures.config in
    let no_trim : c.from_reader-reader.result.trim ≡ trim.None = fr.trim ∙ ap builder_trim settings ∙ ap builder_trim before ∙ c.new.ensures.trim in
    let headers : c.from_reader-reader.result.has_headers ≡ false = fr.has_headers ∙ ap builder_names_headers settings ∙ ap builder_names_headers before in
    let ready : Ready c.from_reader-reader.result = inr (inr (headers, fr.headers)) in
    record {
      along = starts c.from_reader-reader.result c.args.text.now c.args.marks.now c.args.table.now c.args.first config fr.source fr.state no_trim ready
          c.requires.columns;
      width = c.requires.values;
    }

pub push_row-requires-clause-columns : goal.push_row-requires-clause-columns
push_row-requires-clause-columns c =
    still_marked c.loop-row.reader c.args.text.now c.args.marks.now c.args.table.now c.loop-row.table c.args.first c.loop-row.row c.loop-row.invariant.along

pub returns-then-not-has_row-clause-ok : goal.returns-then-not-has_row-clause-ok
returns-then-not-has_row-clause-ok c =
    let along = c.loop-row.invariant.along in
    let read = c.in-Ok.ensures.reads along.trims along.ready in
    let none : ReadRecord left_in c.loop-row.reader c.read_byte_record.new.self false (fields_of c.read_byte_record.new.row) =
    subst (λ b. ReadRecord left_in c.loop-row.reader c.read_byte_record.new.self b (fields_of c.read_byte_record.new.row))
    c.if-not-has_row.true read in
    ends c.loop-row.reader c.read_byte_record.new.self c.args.text.now c.args.marks.now c.args.table.now c.loop-row.table c.args.first c.loop-row.row
    (fields_of c.read_byte_record.new.row) along none

pub returns-in-Err-push_row-clause-err : goal.returns-in-Err-push_row-clause-err
returns-in-Err-push_row-clause-err c =
    let along = c.loop-row.invariant.along in
    let read = c.in-Ok.ensures.reads along.trims along.ready in
    let some : ReadRecord left_in c.loop-row.reader c.read_byte_record.new.self true (fields_of c.read_byte_record.new.row) =
    subst (λ b. ReadRecord left_in c.loop-row.reader c.read_byte_record.new.self b (fields_of c.read_byte_record.new.row))
    c.if-not-has_row.false read in
    elim c.in-Err-push_row.ensures.err [
      | inl memory ↦ inl memory
      | inr fault ↦ inr (faults c.loop-row.reader c.read_byte_record.new.self c.args.text.now c.args.marks.now c.args.table.now c.loop-row.table
          c.args.first c.loop-row.row (fields_of c.read_byte_record.new.row) c.in-Err-push_row.fault along some fault)
    ]

pub loop-row-preserved : goal.loop-row-preserved
loop-row-preserved c =
    let along = c.loop-row.invariant.along in
    let read = c.in-Ok.ensures.reads along.trims along.ready in
    let some : ReadRecord left_in c.loop-row.reader c.read_byte_record.new.self true (fields_of c.read_byte_record.new.row) =
    subst (λ b. ReadRecord left_in c.loop-row.reader c.read_byte_record.new.self b (fields_of c.read_byte_record.new.row))
    c.if-not-has_row.false read in
    record {
      along = goes_on c.loop-row.reader c.read_byte_record.new.self c.args.text.now c.args.marks.now c.args.table.now c.loop-row.table
          c.push_row.new.self c.args.first c.loop-row.row (fields_of c.read_byte_record.new.row)
          along some (c.in-Ok.ensures.ready along.trims) c.in-Ok-push_row.ensures.sound c.in-Ok-push_row.ensures.values;
      width = omega (arith, c.push_row.auto.values, c.loop-row.invariant.width);
    }

pub unreachable-requires : goal.unreachable-requires
unreachable-requires c =
    let along = c.loop-row.invariant.along in
    let small = few c.loop-row.reader c.args.text.now c.args.marks.now c.args.table.now c.loop-row.table c.args.first c.loop-row.row along in
    let last = c.loop-row-test.false in
    absurd (omega (arith, small, last))
