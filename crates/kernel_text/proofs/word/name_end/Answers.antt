use Rattle.std.proofs.Common.{◌≡◌, ◌+◌, drop, get_or, sym, ◌∙◌, ap, subst, arith, drop-drop, length-drop, get_or-drop, add-zero}
use Rattle.std.specs.List.{prefix_len}
use Rattle.kernel_text.specs.Words.{continues_name}
use Rattle.std.proofs.lemmas.List.{take_all}
use Rattle.kernel_text.proofs.Words.Runs.{prefix_len-le, run_on}
use Rattle.kernel_text.proofs.word.name_end.Goals as goal

pub loop-rest-preserved : goal.loop-rest-preserved
loop-rest-preserved c =
    let xs = c.args.source.now in
    let end = c.loop-rest.end in
    let rest = c.loop-rest.rest.now in
    let here = c.loop-rest.invariant.here in
    let one = run_on continues_name xs rest end 0 end _ here (omega arith) (omega (arith, c.loop-rest-test.true))
    (sym c.if-not-continues_name.ensures) c.loop-rest.invariant.run in
    let two = run_on continues_name xs rest end 1 (end + 1) _ here (omega arith) (omega (arith, c.loop-rest-test.true))
    (sym c.if-not-continues_name-2.ensures) one in
    let three = run_on continues_name xs rest end 2 (end + 1 + 1) _ here (omega arith) (omega (arith, c.loop-rest-test.true))
    (sym c.if-not-continues_name-3.ensures) two in
    let four = run_on continues_name xs rest end 3 (end + 1 + 1 + 1) _ here (omega arith) (omega (arith, c.loop-rest-test.true))
    (sym c.if-not-continues_name-4.ensures) three in
    let next : end + 1 + 1 + 1 + 1 ≡ end + 4 = omega arith in
    record {
      here = take_all _ (drop 4 rest) (omega (arith, length-drop 4 rest)) ∙ ap (drop 4) here ∙ drop-drop 4 end xs;
      run = subst (λ n. n + prefix_len continues_name (drop n xs) ≡ c.args.from + prefix_len continues_name (drop c.args.from xs)) next four;
    }

pub loop-byte-preserved : goal.loop-byte-preserved
loop-byte-preserved c =
    let xs = c.args.source.now in
    let rest = c.loop-rest.rest.now in
    let i = c.loop-byte.byte-index in
    let end = c.loop-byte.end in
    let here = c.loop-byte.invariant.here in
    let byte : get_or (drop i rest) 0 0 ≡ get_or rest i 0 = get_or-drop i rest 0 0 ∙ ap (λ n. get_or rest n 0) (add-zero i) in
    record {
      here = sym (drop-drop 1 i rest) ∙ ap (drop 1) here ∙ drop-drop 1 end xs;
      run =
          run_on continues_name xs (drop i rest) end 0 end _ here (omega arith) (omega (arith, length-drop i rest, c.loop-byte-test.true))
          (ap continues_name byte ∙ sym c.if-not-continues_name-5.ensures) c.loop-byte.invariant.run;
    }

pub returns-clause-within : goal.returns-clause-within
returns-clause-within c = omega (
  arith,
  c.loop-byte.invariant.run,
  prefix_len-le continues_name (drop c.args.from c.args.source.now),
  length-drop c.args.from c.args.source.now,
  c.requires,
)
