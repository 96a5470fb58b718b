use Rattle.std.proofs.Common.{arith}
use Rattle.frame_ast.specs.Checked.{read_elements}
use Rattle.frame_ast.proofs.Demands.{has_param}
use Rattle.kernel_exec.proofs.Owning.{own_is, own_fits, own_readable}
use Rattle.kernel_exec.proofs.reads.own_element.Goals as goal

pub overflow_add-own : goal.overflow_add-own
overflow_add-own g c =
    let inside = has_param _ _ read_elements c.requires.param in
    let is = own_is _ _ _ c.own_array_of-own.ensures c.if-call-own.true in
    let below = c.if-call-own.true in
    let end = own_fits _ _ _ _ _ c.requires.call _ _ is inside below in
    omega arith

pub load-requires : goal.load-requires
load-requires g c =
    let inside = has_param _ _ read_elements c.requires.param in
    let is = own_is _ _ _ c.own_array_of-own.ensures c.if-call-own.true in
    own_readable _ _ _ _ _ c.requires.call _ _ is inside c.if-call-own.true
