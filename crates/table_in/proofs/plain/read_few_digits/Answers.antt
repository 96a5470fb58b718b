use Rattle.std.proofs.Common.{◌≡◌, ◌<◌, ◌+◌, ◌-◌, ◌*◌, arith, sym, subst, length, get_or}
use Rattle.table_in.specs.Plain.{DigitsAt}
use Rattle.table_in.proofs.FieldLemmas.{digit_more, digit_high, few_digits}
use Rattle.table_in.proofs.plain.read_few_digits.Goals as goal

pub overflow_mul-magnitude : goal.overflow_mul-magnitude
overflow_mul-magnitude c =
    let small = few_digits c.args.text.now c.args.from c.loop-k.magnitude (c.args.from + c.loop-k.k) c.loop-k.invariant (omega arith) in
    omega (arith, small)

pub overflow_add-magnitude : goal.overflow_add-magnitude
overflow_add-magnitude c =
    let small = few_digits c.args.text.now c.args.from c.loop-k.magnitude (c.args.from + c.loop-k.k) c.loop-k.invariant (omega arith) in
    let high = digit_high (get_or c.args.text.now (c.args.from + c.loop-k.k) 0) (sym c.if-not-is_ascii_digit.ensures.value) in
    omega (arith, small, high)

pub loop-k-preserved : goal.loop-k-preserved
loop-k-preserved c =
    let text = c.args.text.now in
    let at = c.args.from + c.loop-k.k in
    let inside : at < length text = omega arith in
    let next : at + 1 ≡ c.args.from + (c.loop-k.k + 1) = omega arith in
    subst (λ e. DigitsAt text c.args.from (c.loop-k.magnitude * 10 + (get_or text at 0 - 48)) e) next
    (digit_more text c.args.from at c.loop-k.magnitude c.loop-k.invariant inside (sym c.if-not-is_ascii_digit.ensures.value))

pub returns-then-not-is_ascii_digit-clause-small : goal.returns-then-not-is_ascii_digit-clause-small
returns-then-not-is_ascii_digit-clause-small c =
    let small = few_digits c.args.text.now c.args.from c.loop-k.magnitude (c.args.from + c.loop-k.k) c.loop-k.invariant (omega arith) in
    omega (arith, small)
