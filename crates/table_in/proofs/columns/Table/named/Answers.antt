use Rattle.std.proofs.Common.{◌<◌, ◌∙◌, sym, length, arith}
use Rattle.csv.specs.Records.{fields_of}
use Rattle.table_in.proofs.ColumnLemmas.{name_step, within}
use Rattle.table_in.proofs.columns.Table.named.Goals as goal

pub unreachable-requires : goal.unreachable-requires
unreachable-requires c =
    let lt : c.loop-i.i < length (fields_of c.args.fields.now) = omega arith in
    within (fields_of c.args.fields.now) c.loop-i.i c.in-None.ensures.value lt

pub loop-i-preserved : goal.loop-i-preserved
loop-i-preserved c =
    c.in_ok-push_name-in-Some.ensures
    ∙ name_step c.loop-i.table (fields_of c.args.fields.now) c.loop-i.i c.in-Some.name.now c.loop-i.invariant (sym c.in-Some.ensures.value)
