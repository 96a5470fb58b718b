use Rattle.std.proofs.Common.{sym, arith}
use Rattle.table_in.proofs.FieldLemmas.{digit_more}
use Rattle.table_in.proofs.plain.read_more_digits.Goals as goal

pub loop-end-preserved : goal.loop-end-preserved
loop-end-preserved c =
    digit_more c.args.text.now c.args.from c.loop-end.end c.loop-end.magnitude c.loop-end.invariant (omega arith) (sym c.if-is_ascii_digit.ensures.value)
