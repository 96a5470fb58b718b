use Rattle.std.proofs.Common.{rules, Some, ap, refl}
use Rattle.script_checks.proofs.FaultLemmas.{exits, checking, first_end, first_none}
use Rattle.script_checks.proofs.order_checks.changes.made_as.Goals as goal

pub returns-in_err-place-in-Some : goal.returns-in_err-place-in-Some
returns-in_err-place-in-Some c = exits _ _ c.from_residual.result _ c.from_residual.ensures.1 (search (rules, checking))

pub returns-in-None : goal.returns-in-None
returns-in-None c = rw c.in-None.is (first_end, refl)

pub returns-in_ok-place-in-Some : goal.returns-in_ok-place-in-Some
returns-in_ok-place-in-Some c =
    let ok = c.in_ok-place-in-Some.ensures in
    rw c.in-Some.is (first_none _ _ ok.0 first_end, ap (λ n. Some n) ok.1)
