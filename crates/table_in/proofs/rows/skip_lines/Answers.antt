use Rattle.std.proofs.Common.{◌∙◌, sym, arith}
use Rattle.table_in.proofs.PlainLemmas.{rows_after-line}
use Rattle.table_in.proofs.rows.skip_lines.Goals as goal

pub loop-end-preserved : goal.loop-end-preserved
loop-end-preserved c = record {
  same = c.loop-end.invariant.same ∙ rows_after-line c.args.text.now c.loop-end.end (omega arith) (sym c.if-ends_line.ensures);
  ahead = omega arith;
  within = omega arith;
}
