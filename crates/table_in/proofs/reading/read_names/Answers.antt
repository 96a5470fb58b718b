use Rattle.std.proofs.Common.{◌≡◌, ◌∙◌, ap, inr, true, false, subst}
use Rattle.csv.specs.Records.{fields_of}
use Rattle.csv.specs.Reading.{Ready, ReadRecord, builder_config, builder_names_headers, builder_trim, default_config}
use Rattle.csv.specs.declared.reader.Trim.TheVariants as trim
use Rattle.table_in.proofs.ReadLemmas.{left_in, begins, empty}
use Rattle.table_in.proofs.reading.read_names.Goals as goal

pub returns-then-not-has_names-clause-err : goal.returns-then-not-has_names-clause-err
returns-then-not-has_names-clause-err c =
    let fr = c.from_reader-reader.ensures in
    let before = c.has_headers.ensures in
    let config : c.from_reader-reader.result.config ≡ default_config = fr.config ∙ ap builder_config before ∙ c.new.ensures.config in
    let no_trim : c.from_reader-reader.result.trim ≡ trim.None = fr.trim ∙ ap builder_trim before ∙ c.new.ensures.trim in
    let headers : c.from_reader-reader.result.has_headers ≡ false = fr.has_headers ∙ ap builder_names_headers before in
    let ready : Ready c.from_reader-reader.result = inr (inr (headers, fr.headers)) in
    let read = c.in-Ok.ensures.reads no_trim ready in
    let none : ReadRecord left_in c.from_reader-reader.result c.read_byte_record.new.self false (fields_of c.read_byte_record.new.row) =
    subst (λ b. ReadRecord left_in c.from_reader-reader.result c.read_byte_record.new.self b (fields_of c.read_byte_record.new.row)) c.if-not-has_names.true
    read in
    inr (empty c.from_reader-reader.result c.read_byte_record.new.self c.args.source.now (fields_of c.read_byte_record.new.row) config fr.source fr.state none)

pub returns-in-Ok-named-clause-ok : goal.returns-in-Ok-named-clause-ok
returns-in-Ok-named-clause-ok c =
    let fr = c.from_reader-reader.ensures in
    let before = c.has_headers.ensures in
    let config : c.from_reader-reader.result.config ≡ default_config = fr.config ∙ ap builder_config before ∙ c.new.ensures.config in
    let no_trim : c.from_reader-reader.result.trim ≡ trim.None = fr.trim ∙ ap builder_trim before ∙ c.new.ensures.trim in
    let headers : c.from_reader-reader.result.has_headers ≡ false = fr.has_headers ∙ ap builder_names_headers before in
    let ready : Ready c.from_reader-reader.result = inr (inr (headers, fr.headers)) in
    let read = c.in-Ok.ensures.reads no_trim ready in
    let names = fields_of c.read_byte_record.new.row in
    let some : ReadRecord left_in c.from_reader-reader.result c.read_byte_record.new.self true names =
    subst (λ b. ReadRecord left_in c.from_reader-reader.result c.read_byte_record.new.self b names) c.if-not-has_names.false read in
    (names, begins c.from_reader-reader.result c.read_byte_record.new.self c.args.source.now names config fr.source fr.state some, c.in-Ok-named.ensures)
