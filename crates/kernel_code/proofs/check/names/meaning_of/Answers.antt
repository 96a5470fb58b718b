use Rattle.std.proofs.Common.{sym, ◌∙◌}
use Rattle.kernel_code.proofs.ParamNames.{meaning_told}
use Rattle.kernel_code.proofs.check.names.meaning_of.Goals as goal

pub returns-in-Some : goal.returns-in-Some
returns-in-Some c = meaning_told c.args.raw.now c.args.names.now c.args.locals.now c.args.node c.args.name.now _ c.requires.names
    (sym c.in-Some.is ∙ c.place_of.ensures.found)

pub returns-in-None : goal.returns-in-None
returns-in-None c =
    c.local_among.ensures
    ∙ meaning_told c.args.raw.now c.args.names.now c.args.locals.now c.args.node c.args.name.now _ c.requires.names
    (sym c.in-None.is ∙ c.place_of.ensures.found)
