use Rattle.std.proofs.Common.{arith}
use Rattle.kernel_exec.proofs.Table.{one_more, none_made, all_made}
use Rattle.kernel_exec.proofs.call.own_arrays.Goals as goal

pub loop-x-preserved : goal.loop-x-preserved
loop-x-preserved c =
    let few = c.requires.few in
    let below = c.loop-x-test.true in
    one_more c.loop-x.own c.args.binds.now c.loop-x.x c.own_array_at.result (omega arith) c.own_array_at.ensures c.loop-x.invariant

pub loop-x-init : goal.loop-x-init
loop-x-init c = none_made c.args.binds.now

pub returns : goal.returns
returns c = all_made c.loop-x.own c.args.binds.now c.loop-x.x c.loop-x-test.false c.loop-x.invariant
