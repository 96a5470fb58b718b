use Rattle.std.proofs.Common.{rules, [], sym, subst}
use Rattle.script_text.specs.Raw as form
use Rattle.script_checks.specs.Spelling.{Says}
use Rattle.script_checks.proofs.FaultLemmas.{exits, checking}
use Rattle.script_checks.proofs.order_checks.known.view.Goals as goal

pub returns-in_err-act : goal.returns-in_err-act
returns-in_err-act c = exits _ _ c.from_residual.result _ c.from_residual.ensures.1 c.in_err-act.ensures

pub returns-in_err-declare_name : goal.returns-in_err-declare_name
returns-in_err-declare_name c = exits _ _ c.from_residual-in_err-declare_name.result _ c.from_residual-in_err-declare_name.ensures.1 (search (rules, checking))

pub returns : goal.returns
returns c =
    let names = c.in_ok-declare_name.ensures.1.1 in (
      c.in_ok-act.ensures.0,
      (
        subst (λ ns. Says c.args.source ns [] 0 0 (form.View c.args.name c.args.of) c.in_ok-act.act) (sym names)
            c.in_ok-act.ensures.1,
        names,
      ),
    )
