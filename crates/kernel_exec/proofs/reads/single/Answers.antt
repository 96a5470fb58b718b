use Rattle.frame_ast.specs.Checked.{a_value}
use Rattle.std.proofs.Common.{inl, arith}
use Rattle.frame_ast.proofs.Demands.{has_param}
use Rattle.kernel_exec.proofs.Rights.{may_use}
use Rattle.kernel_exec.proofs.Taken.{taken, no_value}
use Rattle.kernel_exec.proofs.reads.single.Goals as goal

pub value-requires : goal.value-requires
value-requires g c =
    let x = has_param _ _ a_value c.requires.param in
    record { readable = may_use _ _ _ _ _ c.requires.call _ _ c.in-Ref.ensures x _ (inl (record { from = omega arith; below = omega arith })) }

pub unreachable-requires : goal.unreachable-requires
unreachable-requires g c =
    taken _ _ _ _ _ c.requires.call _ _ c.bind_of.ensures a_value c.requires.param
    (no_value _ c.in_default.not-Int c.in_default.not-Ref)
