use Rattle.std.specs.Prelude.{refl}
use Rattle.frame_core.proofs.laws.trap_numbers_are_these.Goals as goal

pub returns : goal.returns
returns c = record {
  overflow = refl;
  zero_divisor = refl;
  range = refl;
  own_index = refl;
  full = refl;
  missing_key = refl;
  present_key = refl;
  written = refl;
  budget = refl;
}
