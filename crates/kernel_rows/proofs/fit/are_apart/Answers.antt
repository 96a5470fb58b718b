use Rattle.std.proofs.Common.{◌≡◌, ◌<◌, ℕ, Some, slice_get, take, subst, arith}
use Rattle.std.proofs.lemmas.Option.{slice_get_within}
use Rattle.kernel_exec.specs.declared.binds.Bind.{Bind}
use Rattle.kernel_rows.specs.Standing.{Apart, ApartFrom}
use Rattle.kernel_rows.proofs.Standing.{one_more, apart_from_first}
use Rattle.kernel_rows.proofs.fit.are_apart.Goals as goal

pub loop-x-preserved : goal.loop-x-preserved
loop-x-preserved c =
    let all = one_more (λ y. (x : ℕ) (a b : Bind) → x < y → slice_get c.args.binds.now x ≡ Some a → slice_get c.args.binds.now y ≡ Some b
    → Apart b a) c.loop-x.x (λ y h x a b less. c.loop-x.invariant x y a b less h)
    (λ x a b less ea eb. apart_from_first c.args.binds.now c.loop-x.x x c.index-binds-x.result a b
    (subst (λ z. ApartFrom z (take c.loop-x.x c.args.binds.now)) c.index-binds-x.is (c.is_apart_from.ensures c.if-not-is_apart_from.false)) less ea eb) in
    λ x y a b less h. all y h x a b less

pub returns : goal.returns
returns c t x y a b less ea eb =
    let inside = slice_get_within c.args.binds.now y b eb in
    c.loop-x.invariant x y a b less (omega arith) ea eb
