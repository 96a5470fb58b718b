use Rattle.std.proofs.Common.{refl}
use Rattle.frame_stage.proofs.helper.place_sees_all.Goals as goal

pub returns-clause-all : goal.returns-clause-all
returns-clause-all c is = record { held = c.sees_all-all.new.seat; is = refl; all = c.sees_all-all.ensures.all is }
