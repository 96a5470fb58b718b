use Rattle.std.proofs.Common.{◌≡◌, ◌+◌, drop, get_or, sym, ◌∙◌, ap, subst, arith, drop-drop, length-drop, get_or-drop, add-zero}
use Rattle.std.specs.List.{prefix_len}
use Rattle.std.specs.Char.{is_ascii_digit}
use Rattle.std.proofs.lemmas.List.{take_all}
use Rattle.kernel_text.proofs.Words.Runs.{prefix_len-le, run_on}
use Rattle.kernel_text.proofs.word.digits_end.Goals as goal

pub loop-rest-preserved : goal.loop-rest-preserved
loop-rest-preserved c =
    let xs = c.args.source.now in
    let end = c.loop-rest.end in
    let rest = c.loop-rest.rest.now in
    let here = c.loop-rest.invariant.here in
    let one = run_on is_ascii_digit xs rest end 0 end _ here (omega arith) (omega (arith, c.loop-rest-test.true))
    (sym c.if-not-is_ascii_digit.ensures.value) c.loop-rest.invariant.run in
    let two = run_on is_ascii_digit xs rest end 1 (end + 1) _ here (omega arith) (omega (arith, c.loop-rest-test.true))
    (sym c.if-not-is_ascii_digit-2.ensures.value) one in
    let three = run_on is_ascii_digit xs rest end 2 (end + 1 + 1) _ here (omega arith) (omega (arith, c.loop-rest-test.true))
    (sym c.if-not-is_ascii_digit-3.ensures.value) two in
    let four = run_on is_ascii_digit xs rest end 3 (end + 1 + 1 + 1) _ here (omega arith) (omega (arith, c.loop-rest-test.true))
    (sym c.if-not-is_ascii_digit-4.ensures.value) three in
    let next : end + 1 + 1 + 1 + 1 ≡ end + 4 = omega arith in
    record {
      here = take_all _ (drop 4 rest) (omega (arith, length-drop 4 rest)) ∙ ap (drop 4) here ∙ drop-drop 4 end xs;
      run = subst (λ n. n + prefix_len is_ascii_digit (drop n xs) ≡ c.args.from + prefix_len is_ascii_digit (drop c.args.from xs)) next four;
    }

pub loop-byte-preserved : goal.loop-byte-preserved
loop-byte-preserved c =
    let xs = c.args.source.now in
    let rest = c.loop-rest.rest.now in
    let i = c.loop-byte.byte-index in
    let end = c.loop-byte.end in
    let here = c.loop-byte.invariant.here in
    let byte : get_or (drop i rest) 0 0 ≡ get_or rest i 0 = get_or-drop i rest 0 0 ∙ ap (λ n. get_or rest n 0) (add-zero i) in
    record {
      here = sym (drop-drop 1 i rest) ∙ ap (drop 1) here ∙ drop-drop 1 end xs;
      run =
          run_on is_ascii_digit xs (drop i rest) end 0 end _ here (omega arith) (omega (arith, length-drop i rest, c.loop-byte-test.true))
          (ap is_ascii_digit byte ∙ sym c.if-not-is_ascii_digit-5.ensures.value) c.loop-byte.invariant.run;
    }

pub returns-clause-within : goal.returns-clause-within
returns-clause-within c = omega (
  arith,
  c.loop-byte.invariant.run,
  prefix_len-le is_ascii_digit (drop c.args.from c.args.source.now),
  length-drop c.args.from c.args.source.now,
  c.requires,
)
