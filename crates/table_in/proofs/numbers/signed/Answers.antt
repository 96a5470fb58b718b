use Rattle.std.proofs.Common.{refl}
use Rattle.table_in.proofs.NumberLemmas.{plus_number}
use Rattle.table_in.proofs.numbers.signed.Goals as goal

pub returns-then-begins_with_plus : goal.returns-then-begins_with_plus
returns-then-begins_with_plus c = plus_number c.args.text.now (c.if-begins_with_plus.ensures.0 refl)
