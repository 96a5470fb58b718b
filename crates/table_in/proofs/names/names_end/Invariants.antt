use Rattle.table_in.proofs.NameLemmas.{ScanAt}
use Rattle.table_in.proofs.names.names_end.Given as goal

abbrev pub invariant-loop-end : goal.invariant-loop-end
invariant-loop-end l = ScanAt l.text l.place l.end
