use Rattle.std.proofs.Common.{◌+◌, ◌++◌, drop, refl, sym, ap, subst, ◌∙◌, All, arith}
use Rattle.std.proofs.Math.ListN.{drop_of_length-le}
use Rattle.std.proofs.lemmas.List.Elements.{All-nil, All-push}
use Rattle.kernel_text.specs.Tokens.{tokens_from, up_to_bad, NamesAreText}
use Rattle.kernel_text.specs.Marks.{IsOfKind, tokens_in, lines_in}
use Rattle.kernel_text.proofs.Tokens.Steps.{tokens_from-end, tokens_of-start, mark_len-le}
use Rattle.kernel_text.proofs.Tokens.Blanks.{blank_passed}
use Rattle.kernel_text.proofs.Tokens.Lexed.{lexed-text}
use Rattle.kernel_text.proofs.Tokens.Lexing.{mark_turn, nothing_turn, last_mark}
use Rattle.kernel_text.proofs.lexer.lex.Goals as goal

pub loop-place-init : goal.loop-place-init
loop-place-init c =
    let source = c.args.source.now in
    let within = mark_len-le source in
    record {
      in_range = omega (arith, c.mark_len-place.ensures, within);
      exact = subst (All IsOfKind) (sym c.new-marks.ensures.items) (All-nil IsOfKind);
      so_far =
          ap (λ ms. tokens_in source 1 ms ++ up_to_bad (tokens_from 0 c.mark_len-place.result (1 + lines_in ms) (drop c.mark_len-place.result source)))
          c.new-marks.ensures.items
          ∙ ap (λ n. up_to_bad (tokens_from 0 n 1 (drop n source))) c.mark_len-place.ensures
          ∙ ap up_to_bad (tokens_of-start source within);
    }

pub loop-place-preserved-in-Some : goal.loop-place-preserved-in-Some
loop-place-preserved-in-Some c =
    let token = c.in-Some.ensures.token in
    record {
      in_range = token.within;
      exact = subst (All IsOfKind) (sym c.in_ok-push.ensures.items) (All-push IsOfKind c.loop-place.marks.items c.of.result c.loop-place.invariant.exact
          c.of.ensures.exact);
      so_far = mark_turn c.args.source.now c.loop-place.place _ _ _ c.loop-place.marks.items _ c.of.result _
          c.loop-place-test.true token.kind_is token.end_is token.some token.within refl token.fine
          c.of.ensures.kind c.of.ensures.start c.in_ok-push.ensures.items c.loop-place.invariant.so_far;
    }

pub loop-place-preserved-else-is_bad : goal.loop-place-preserved-else-is_bad
loop-place-preserved-else-is_bad c =
    let word = c.front_at-word in
    record {
      in_range = word.ensures.within;
      exact = subst (All IsOfKind) (sym c.in_ok-push-2.ensures.items) (All-push IsOfKind c.loop-place.marks.items c.of-in-Some-kind.result
          c.loop-place.invariant.exact c.of-in-Some-kind.ensures.exact);
      so_far = mark_turn c.args.source.now c.loop-place.place word.result.end word.result.kind c.in-Some-kind.kind c.loop-place.marks.items _
          c.of-in-Some-kind.result _
          c.loop-place-test.true word.ensures.kind word.ensures.end word.ensures.some word.ensures.within
          c.in-Some-kind.is (sym c.is_bad.ensures ∙ c.if-is_bad.false) c.of-in-Some-kind.ensures.kind c.of-in-Some-kind.ensures.start
          c.in_ok-push-2.ensures.items
          c.loop-place.invariant.so_far;
    }

pub loop-place-preserved : goal.loop-place-preserved
loop-place-preserved c =
    let word = c.front_at-word in
    record {
      in_range = word.ensures.within;
      exact = c.loop-place.invariant.exact;
      so_far = nothing_turn c.args.source.now c.loop-place.place word.result.end word.result.kind c.loop-place.marks.items _
          c.loop-place-test.true word.ensures.kind word.ensures.end word.ensures.some word.ensures.within c.in_default-kind.is c.loop-place.invariant.so_far;
    }

pub loop-place-preserved-then-is_blank : goal.loop-place-preserved-then-is_blank
loop-place-preserved-then-is_blank c =
    record {
      in_range = omega (arith, c.loop-place-test.true);
      exact = c.loop-place.invariant.exact;
      so_far =
          blank_passed c.args.source.now c.loop-place.place (1 + lines_in c.loop-place.marks.items) (tokens_in c.args.source.now 1 c.loop-place.marks.items) _
          c.loop-place-test.true (sym c.is_blank.ensures ∙ c.if-is_blank.true) c.loop-place.invariant.so_far;
    }

pub returns-then-is_bad : goal.returns-then-is_bad
returns-then-is_bad c =
    let source = c.args.source.now in
    let word = c.front_at-word in
    let tokens =
    last_mark source c.loop-place.place word.result.end c.in-Some-kind.kind c.loop-place.marks.items _ _ c.of-in-Some-kind.result _
    c.loop-place-test.true (sym c.in-Some-kind.is ∙ word.ensures.kind) word.ensures.end word.ensures.some word.ensures.within
    (sym c.is_bad.ensures ∙ c.if-is_bad.true)
    c.of-in-Some-kind.ensures.kind c.of-in-Some-kind.ensures.start c.in_ok-push-2.ensures.items
    (c.in_ok-push_end.ensures.tokens source) c.loop-place.invariant.so_far in
    let pushed = subst (All IsOfKind) (sym c.in_ok-push-2.ensures.items) (All-push IsOfKind c.loop-place.marks.items c.of-in-Some-kind.result
    c.loop-place.invariant.exact c.of-in-Some-kind.ensures.exact) in
    record {
      tokens = tokens;
      text = subst (NamesAreText source) (sym tokens) (lexed-text source);
      exact = c.in_ok-push_end.ensures.exact pushed;
    }

pub returns : goal.returns
returns c =
    let source = c.args.source.now in
    let line = 1 + lines_in c.loop-place.marks.items in
    let at_end = drop_of_length-le source {i = c.loop-place.place} c.loop-place-test.false in
    let tokens =
    c.in_ok-push_end-2.ensures.tokens source
    ∙ ap (λ ts. tokens_in source 1 c.loop-place.marks.items ++ ts)
    (sym (tokens_from-end c.loop-place.place line) ∙ ap (λ bytes. up_to_bad (tokens_from 0 c.loop-place.place line bytes)) (sym at_end))
    ∙ c.loop-place.invariant.so_far in
    record {
      tokens = tokens;
      text = subst (NamesAreText source) (sym tokens) (lexed-text source);
      exact = c.in_ok-push_end-2.ensures.exact c.loop-place.invariant.exact;
    }
