use Rattle.std.proofs.Common.{◌≡◌, ◌<◌, ◌+◌, ◌-◌, ◌∙◌, ap, sym, refl, subst, length, take, arith}
use Rattle.table_in.specs.Numbers.{drop_spaces}
use Rattle.table_in.proofs.NumberLemmas.{drop_spaces-fewer, drop_spaces-stays}
use Rattle.table_in.proofs.numbers.drop_spaces.Goals as goal
use Rattle.table_in.proofs.numbers.drop_spaces.Goals.{then-loop-end-test+else-text-end-eq32, else-loop-end-test}

pub loop-end-preserved : goal.loop-end-preserved
loop-end-preserved c =
    let text = c.args.text.now in
    let end = c.loop-end.end in
    let lt : end - 1 < length text = omega arith in
    let whole : (end - 1) + 1 ≡ end = omega arith in (
      omega arith,
      drop_spaces-fewer text (end - 1) lt c.if-text-end-eq32.true ∙ ap (λ n. drop_spaces (take n text)) whole ∙ c.loop-end.invariant.1,
    )

pub returns : goal.returns
returns c =
    let text = c.args.text.now in
    let end = c.loop-end.end in
    elim c.loop-end-test.branch [
      | then-loop-end-test+else-text-end-eq32 w ↦
          let lt : end - 1 < length text = omega arith in
          let whole : (end - 1) + 1 ≡ end = omega arith in
          subst (λ n. take n text ≡ drop_spaces (take n text)) whole (drop_spaces-stays text (end - 1) lt w.if-text-end-eq32.false) ∙ c.loop-end.invariant.1
      | else-loop-end-test w ↦
          let zero_end : end ≡ 0 = omega arith in
          subst (λ n. take n text ≡ drop_spaces (take n text)) (sym zero_end) refl ∙ c.loop-end.invariant.1
    ]
