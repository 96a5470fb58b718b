use Rattle.std.proofs.Common.{◌≡◌, None, ◌∙◌, sym, arith}
use Rattle.kernel_code.specs.StaticFaults.{node_fault}
use Rattle.kernel_code.proofs.Passing.{nodes_fault-passed}
use Rattle.kernel_code.proofs.check.resolve.resolve.Goals as goal

pub loop-number-preserved : goal.loop-number-preserved
loop-number-preserved c =
    let raw = c.args.raw.now in
    let i = c.loop-number.number in
    let node = c.index-node.result.now in
    let none : node_fault raw i node ≡ None = sym c.in_ok-fault.ensures.fault ∙ c.in_default.is in
    record {
      known = c.in_ok-fault.ensures.known c.in_default.is;
      so_far = c.loop-number.invariant.so_far ∙ nodes_fault-passed raw i raw.nodes.items node node (omega arith) c.index-node.ensures none;
    }
