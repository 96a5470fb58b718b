use Rattle.std.proofs.Common.{rules, ◌≡◌, ◌∙◌, sym, ap, Some, unwrap_or}
use Rattle.std.specs.List.{position}
use Rattle.std.specs.Str.{bytes_eq}
use Rattle.std.specs.String.{string_bytes}
use Rattle.script_text.specs.Sources.{text_at}
use Rattle.script_checks.proofs.FaultLemmas.{refuses, exits, refused_by}
use Rattle.script_checks.proofs.JobLemmas.{waive_unknown, waive_known, waive_refused}
use Rattle.script_checks.proofs.order_checks.jobs.waived.Goals as goal

pub returns-in_default : goal.returns-in_default
returns-in_default c = refused_by _ _ c.refuse.result _ c.refuse.ensures (waive_unknown c.args.source c.args.kernel.now c.args.at (search rules))

pub returns-in_err-waivable : goal.returns-in_err-waivable
returns-in_err-waivable c =
    exits _ _ c.from_residual.result _ c.from_residual.ensures.1
    (waive_refused c.args.source c.args.kernel.now c.args.at c.in-Some.place c.index-param.result.now _ (search rules) c.index-param.ensures
    (refuses _ _ c.in_err-waivable.ensures))

pub returns : goal.returns
returns c =
    let found : position (λ p. bytes_eq (text_at c.args.source c.args.at) (string_bytes p.name)) c.args.kernel.now.params.items ≡ Some c.in-Some.place =
    search rules in (
      waive_known c.args.source c.args.kernel.now c.args.at c.in-Some.place c.index-param.result.now found c.index-param.ensures ∙ c.in_ok-waivable.ensures.0,
      sym (ap (λ o. unwrap_or o 0) found),
    )
