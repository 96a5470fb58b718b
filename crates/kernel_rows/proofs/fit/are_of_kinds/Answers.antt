use Rattle.std.proofs.Common.{◌≡◌, ◌∙◌, Some, slice_get, ap, sym, arith}
use Rattle.std.proofs.lemmas.Option.{slice_get_within}
use Rattle.frame_ast.specs.declared.kernel.Param.{Param}
use Rattle.kernel_exec.specs.declared.binds.Bind.{Bind}
use Rattle.kernel_exec.specs.Binds.{kind_of}
use Rattle.kernel_rows.proofs.Standing.{one_more, kind_here}
use Rattle.kernel_rows.proofs.fit.are_of_kinds.Goals as goal

pub loop-x-preserved : goal.loop-x-preserved
loop-x-preserved c =
    let all = one_more (λ x. (p : Param) (b : Bind) → slice_get c.args.params.now x ≡ Some p → slice_get c.args.binds.now x ≡ Some b
    → kind_of b ≡ p.kind) c.loop-x.x (λ x h p b. c.loop-x.invariant x p b h)
    (λ p b ep eb. kind_here c.args.params.now c.args.binds.now c.loop-x.x _ p c.index-binds-x.result b
    (ap kind_of (sym c.index-binds-x.is) ∙ c.is_of_kind.ensures c.if-not-is_of_kind.false) ep eb) in
    λ x p b h. all x h p b

pub returns : goal.returns
returns c t x p b ep eb =
    let inside = slice_get_within c.args.binds.now x b eb in
    c.loop-x.invariant x p b (omega arith) ep eb
