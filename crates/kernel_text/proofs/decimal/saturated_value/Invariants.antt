use Rattle.std.proofs.Common.{◌≡◌, min, take}
use Rattle.kernel_text.specs.Numbers.{value_of}
use Rattle.kernel_text.proofs.decimal.saturated_value.Given as goal

abbrev pub invariant-loop-digit : goal.invariant-loop-digit
invariant-loop-digit l = l.value ≡ min 18446744073709551615 (value_of (take l.digit-index l.digits))
