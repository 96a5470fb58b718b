use Rattle.std.proofs.Common.{◌∙◌}
use Rattle.script_text.proofs.Reading.PlainScalars.{used_flat}
use Rattle.script_text.proofs.build_scalars.Scalars.finish.Goals as goal

pub finish_use-requires : goal.finish_use-requires
finish_use-requires c = c.in-None.ensures c.requires

pub returns-in-None : goal.returns-in-None
returns-in-None c = c.finish_use.ensures ∙ used_flat c.args.action c.args.self.now (c.in-None.ensures c.requires)
