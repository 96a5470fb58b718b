use Rattle.std.proofs.Common.{◌≡◌, drop, sym, ◌∙◌, subst, arith, length-take}
use Rattle.std.specs.List.{prefix_len}
use Rattle.std.specs.Char.{is_ascii_digit}
use Rattle.std.proofs.lemmas.List.Sums.{prefix_len-drop_no, prefix_len-drop_all}
use Rattle.kernel_text.proofs.Decimals.{below_digits, digits_end_here}
use Rattle.kernel_text.proofs.decimal.value_within.Goals as goal
use Rattle.kernel_text.proofs.decimal.value_within.Goals.{else-limit-bytes-via-then-limit-bytes+else-is_ascii_digit, else-limit-bytes-via-else-limit-bytes}

pub overflow_mul-value : goal.overflow_mul-value
overflow_mul-value c =
    let small = below_digits c.loop-len.value c.loop-len.len (omega (arith, c.loop-len-test.true, c.requires, length-take c.args.limit c.args.bytes.now))
    c.loop-len.invariant.small in
    omega (arith, small)

pub overflow_add-value : goal.overflow_add-value
overflow_add-value c =
    let small = below_digits c.loop-len.value c.loop-len.len (omega (arith, c.loop-len-test.true, c.requires, length-take c.args.limit c.args.bytes.now))
    c.loop-len.invariant.small in
    let digit = c.if-not-is_ascii_digit.ensures.bound in
    omega (arith, small, digit)

pub returns-clause-value : goal.returns-clause-value
returns-clause-value c =
    let bytes = c.args.bytes.now in
    let limit = c.args.limit in
    let all : c.loop-len.len ≡ limit = omega (arith, length-take limit bytes, c.loop-len-test.false, c.loop-len.auto.len-end, c.requires) in
    let ended : prefix_len is_ascii_digit (drop limit bytes) ≡ 0 = elim c.else-limit-bytes.branch [
      | else-limit-bytes-via-then-limit-bytes+else-is_ascii_digit w ↦
          prefix_len-drop_no is_ascii_digit bytes limit 0 (omega (arith, w.if-limit-bytes.true))
          (sym w.is_ascii_digit-then-limit-bytes.ensures.value ∙ w.if-is_ascii_digit.false)
      | else-limit-bytes-via-else-limit-bytes w ↦ prefix_len-drop_all is_ascii_digit bytes limit (omega (arith, w.if-limit-bytes.false))
    ] in
    digits_end_here 17 bytes c.loop-len.len c.loop-len.value (omega (arith, all, c.if-limit-eq0.false))
    (omega (arith, all, c.requires)) c.loop-len.invariant.run
    (subst (λ n. prefix_len is_ascii_digit (drop n bytes) ≡ 0) (sym all) ended) c.loop-len.invariant.value
