use Rattle.plan_laws.proofs.Sections.{sections_begin}
use Rattle.plan_laws.proofs.laws.sections_begin.Goals as goal

pub returns : goal.returns
returns c = sections_begin
