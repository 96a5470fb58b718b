use Rattle.std.proofs.Common.{◌<◌, ◌^◌, length, arith}
use Rattle.kernel_raw.proofs.Widths.{count_wide-le}
use Rattle.kernel_raw.proofs.depths.count_wide.Goals as goal

pub overflow_add-count : goal.overflow_add-count
overflow_add-count c =
    let room : length c.args.nodes.now < 2 ^ 63 = omega arith in
    omega (arith, c.loop-node.invariant, count_wide-le c.args.nodes.now)

pub returns-clause-few : goal.returns-clause-few
returns-clause-few c = omega (arith, c.loop-node.invariant, count_wide-le c.args.nodes.now)
