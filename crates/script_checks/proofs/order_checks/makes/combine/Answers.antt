use Rattle.std.proofs.Common.{rules, Some}
use Rattle.script_checks.proofs.FaultLemmas.{exits, checking}
use Rattle.frame_ast.specs.declared.name_kind.NameKind.TheVariants.{Handle}
use Rattle.script_checks.proofs.order_checks.makes.combine.Goals as goal

pub returns-in_err-name : goal.returns-in_err-name
returns-in_err-name c = exits _ _ c.from_residual.result _ c.from_residual.ensures.1 (search (rules, checking))

pub returns-in_err-of : goal.returns-in_err-of
returns-in_err-of c = exits _ _ c.from_residual-in_err-of.result _ c.from_residual-in_err-of.ensures.1 (search (rules, checking))

pub returns : goal.returns
returns c = (search (rules, checking), (c.in_ok-of.of, c.in_ok-of.ensures.1 (Some (c.args.name, Handle)), cc (c.in_ok-name.ensures.1)))
