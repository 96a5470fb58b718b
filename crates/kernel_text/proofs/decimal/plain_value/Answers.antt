use Rattle.std.proofs.Common.{arith}
use Rattle.kernel_text.proofs.Decimals.{below}
use Rattle.kernel_text.proofs.decimal.plain_value.Goals as goal

pub overflow_mul-value : goal.overflow_mul-value
overflow_mul-value c =
    let small = below c.loop-digit.value c.loop-digit.digit-index (omega (arith, c.loop-digit-test.true, c.requires)) c.loop-digit.invariant.1 in
    omega (arith, small)

pub overflow_add-value : goal.overflow_add-value
overflow_add-value c =
    let small = below c.loop-digit.value c.loop-digit.digit-index (omega (arith, c.loop-digit-test.true, c.requires)) c.loop-digit.invariant.1 in
    let digit = c.saturating_sub.ensures in
    omega (arith, small, digit)
