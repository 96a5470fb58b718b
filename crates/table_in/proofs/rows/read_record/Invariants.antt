use Rattle.table_in.proofs.FieldLemmas.{Along}
use Rattle.table_in.proofs.rows.read_record.Given as goal

abbrev pub invariant-loop-i : goal.invariant-loop-i
invariant-loop-i l = Along l.text l.from l.at l.i l.values
