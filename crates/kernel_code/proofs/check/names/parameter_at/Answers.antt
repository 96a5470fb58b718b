use Rattle.std.proofs.Common.{◌∙◌, ap}
use Rattle.kernel_code.specs.Scopes.{parameter}
use Rattle.kernel_code.proofs.ParamNames.{names_tell}
use Rattle.kernel_code.proofs.check.names.parameter_at.Goals as goal

pub returns-clause-found : goal.returns-clause-found
returns-clause-found c =
    c.place_of.ensures.found ∙ names_tell c.args.raw.now c.args.names.now _ c.requires ∙ ap (parameter c.args.raw.now) c.text_at.ensures
