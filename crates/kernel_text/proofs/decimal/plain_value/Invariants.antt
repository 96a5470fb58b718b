use Rattle.std.proofs.Common.{◌≡◌, ◌≤◌, ◌+◌, ◌*◌, ◌^◌, take}
use Rattle.kernel_text.specs.Numbers.{value_of}
use Rattle.kernel_text.proofs.decimal.plain_value.Given as goal

abbrev pub invariant-loop-digit : goal.invariant-loop-digit
invariant-loop-digit l = (l.value ≡ value_of (take l.digit-index l.digits)) × (l.value + 23 ≤ 23 * 10 ^ l.digit-index)
