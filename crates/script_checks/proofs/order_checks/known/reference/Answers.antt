use Rattle.std.proofs.Common.{rules, ◌∙◌, ap}
use Rattle.script_text.specs.Sources.{signed_at}
use Rattle.script_checks.proofs.FaultLemmas.{exits, checking}
use Rattle.script_checks.proofs.NumberLemmas.{signed_kept}
use Rattle.script_checks.proofs.order_checks.known.reference.Goals as goal

pub returns-in_err-name : goal.returns-in_err-name
returns-in_err-name c = exits _ _ c.from_residual.result _ c.from_residual.ensures.1 (search (rules, checking))

pub returns-in_err-value : goal.returns-in_err-value
returns-in_err-value c = exits _ _ c.from_residual-in_err-value.result _ c.from_residual-in_err-value.ensures.1 (search (rules, checking))

pub returns : goal.returns
returns c =
    let s = c.args.source in
    let plainly = ap (signed_at s) c.plain.ensures in
    let said = c.in_ok-value.ensures.1 ∙ plainly in
    let kept = signed_kept s c.plain.result c.in_ok-value.value c.in_ok-value.ensures.0 c.in_ok-value.ensures.1 ∙ plainly in
    (search (rules, checking), (cc (c.in_ok-name.ensures.1.0, said, kept), c.in_ok-name.ensures.1.1))
