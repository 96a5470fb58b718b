use Rattle.std.proofs.Common.{◌≡◌, ap, ◌-◌, ◌%◌, ◌^◌, ◌∙◌, arith}
use Rattle.native_map.proofs.MapAt.new.Goals as goal

pub invariant_of-result : goal.invariant_of-result
invariant_of-result c = record { sized = ap (λ t. (t - 1) % 2 ^ 32) c.places.ensures.places }
