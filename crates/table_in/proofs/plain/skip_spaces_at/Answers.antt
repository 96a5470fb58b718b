use Rattle.std.proofs.Common.{refl, [], arith}
use Rattle.table_in.proofs.FieldLemmas.{space_more}
use Rattle.table_in.proofs.plain.skip_spaces_at.Goals as goal

pub loop-end-init : goal.loop-end-init
loop-end-init c = record { spaces = []; split = refl; all = refl; ahead = omega arith; within = omega arith }

pub loop-end-preserved : goal.loop-end-preserved
loop-end-preserved c = space_more c.args.text.now c.args.from c.loop-end.end c.loop-end.invariant (omega arith) c.if-text-end-eq32.true
