use Rattle.std.proofs.Common.{refl, arith}
use Rattle.frame_ast.specs.Checked.{written_elements}
use Rattle.frame_ast.proofs.Demands.{has_param, written}
use Rattle.kernel_exec.proofs.Owning.{own_is, own_fits, own_writable}
use Rattle.kernel_exec.proofs.writes.store_own.Goals as goal

pub overflow_add-own : goal.overflow_add-own
overflow_add-own g c =
    let inside = has_param _ _ written_elements c.requires.param in
    let is = own_is _ _ _ c.own_array_of-own.ensures c.if-call-own.true in
    let below = c.if-call-own.true in
    let end = own_fits _ _ _ _ _ c.requires.call _ _ is inside below in
    omega arith

pub store-requires : goal.store-requires
store-requires g c =
    let inside = has_param _ _ written_elements c.requires.param in
    let may = written c.args.call.now.kernel.now.params.items c.args.x written_elements refl c.requires.param in
    let is = own_is _ _ _ c.own_array_of-own.ensures c.if-call-own.true in
    own_writable _ _ _ _ _ c.requires.call _ _ is inside c.if-call-own.true may
