use Rattle.std.proofs.Common.{◌+◌, drop, sym, ◌∙◌, arith}
use Rattle.kernel_text.specs.Marks.{lines_in}
use Rattle.kernel_text.proofs.Marks.{lines_in-le, lines_in-drop, line_ends}
use Rattle.kernel_text.proofs.mark.lines_in.Goals as goal

-- the line that ends here is one of all
pub overflow_add-lines : goal.overflow_add-lines
overflow_add-lines c =
    let marks = c.args.marks.now in
    let i = c.loop-mark.mark-index in
    let here = lines_in-drop marks i _ c.loop-mark-test.true ∙ line_ends _ (lines_in (drop (i + 1) marks)) (sym c.is_line.ensures ∙ c.if-is_line.true) in
    omega (arith, here, lines_in-le marks, c.loop-mark.invariant, c.requires)
