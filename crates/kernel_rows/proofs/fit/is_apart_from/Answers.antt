use Rattle.std.proofs.Common.{◌≡◌, Some, slice_get, subst, arith}
use Rattle.std.proofs.lemmas.Option.{slice_get_within}
use Rattle.kernel_exec.specs.declared.binds.Bind.{Bind}
use Rattle.kernel_rows.specs.Standing.{Apart}
use Rattle.kernel_rows.proofs.Standing.{one_more, apart_here}
use Rattle.kernel_rows.proofs.fit.is_apart_from.Goals as goal

pub loop-b-preserved : goal.loop-b-preserved
loop-b-preserved c =
    let all = one_more (λ x. (b : Bind) → slice_get c.args.binds.now x ≡ Some b → Apart c.args.a b) c.loop-b.b-index (λ x h b. c.loop-b.invariant x b h)
    (λ b eb. apart_here c.args.a c.args.binds.now c.loop-b.b-index c.b-item.result b
    (subst (λ z. Apart c.args.a z) c.b-item.is (c.is_apart.ensures c.if-not-is_apart.false)) eb) in
    λ x b h. all x h b

pub returns : goal.returns
returns c t x b eb =
    let inside = slice_get_within c.args.binds.now x b eb in
    c.loop-b.invariant x b (omega arith) eb
