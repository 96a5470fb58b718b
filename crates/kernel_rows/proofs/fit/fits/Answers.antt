use Rattle.std.proofs.Common.{subst, arith, rules}
use Rattle.kernel_rows.specs.Standing.{AreOfKinds}
use Rattle.kernel_rows.proofs.Standing.{fit_all}
use Rattle.kernel_rows.proofs.fit.fits.Goals as goal

pub returns-then-are_below-clause-fit : goal.returns-then-are_below-clause-fit
returns-then-are_below-clause-fit c t =
    let kinds : AreOfKinds c.deref.result.now c.args.binds.now = c.are_of_kinds.ensures c.if-not-are_of_kinds.false in
    fit_all c.args.kernel.now c.args.binds.now c.args.n (omega arith) (search rules) (subst (λ ps. AreOfKinds ps c.args.binds.now) c.deref.ensures.value kinds)
    (c.are_below.ensures c.if-are_below.true) (c.are_apart.ensures t)
