use Rattle.std.proofs.Common.{sym, ◌∙◌}
use Rattle.script_text.proofs.Reading.PlainScalars.{scalar_said}
use Rattle.script_text.proofs.build_scalars.Scalars.take.Goals as goal

pub returns-then-take_scalar : goal.returns-then-take_scalar
returns-then-take_scalar c =
    c.take_scalar.ensures.scalars ∙ sym (scalar_said c.args.action c.args.place c.args.self.now (sym c.take_scalar.ensures.plain ∙ c.if-take_scalar.true))
