use Rattle.std.proofs.Common.{refl}
use Rattle.schedule_text.proofs.Found.{found_or_empty}
use Rattle.schedule_text.proofs.names.name_of.Goals as goal

pub returns : goal.returns
returns c = found_or_empty (λ text. text.now) c.args.script.now.names c.args.name _ _ _ c.unwrap_or.ensures c.get.ensures refl
