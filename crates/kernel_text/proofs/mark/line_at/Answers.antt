use Rattle.std.proofs.Common.{◌+◌, take, sym, ◌∙◌, ap, arith, length-take, slice_get}
use Rattle.kernel_text.specs.Marks.{tokens_in}
use Rattle.kernel_text.specs.Tokens.{token_line}
use Rattle.kernel_text.proofs.Marks.{lines_in-le, line-tokens_in, no_token}
use Rattle.kernel_text.proofs.mark.line_at.Goals as goal

pub returns-then-place-marks : goal.returns-then-place-marks
returns-then-place-marks c source =
    sym (ap token_line (no_token source c.args.line c.args.marks.now c.index-place.result c.if-place-marks.true))
    ∙ ap (λ at. token_line (slice_get (tokens_in source c.args.line c.args.marks.now) at)) c.index-place.ensures

pub overflow_add-result : goal.overflow_add-result
overflow_add-result c =
    omega (
      arith,
      c.lines_in.ensures,
      lines_in-le (take c.index-place.result c.args.marks.now),
      length-take c.index-place.result c.args.marks.now,
      c.if-place-marks.false,
      c.requires,
    )

pub returns : goal.returns
returns c source = ap (λ n. c.args.line + n) c.lines_in.ensures ∙ sym (line-tokens_in source c.args.line c.args.marks.now c.index-place.result
    c.if-place-marks.false)
    ∙ ap (λ at. token_line (slice_get (tokens_in source c.args.line c.args.marks.now) at)) c.index-place.ensures
