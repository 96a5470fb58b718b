use Rattle.std.proofs.Common.{◌+◌, ◌∙◌, ap, arith}
use Rattle.script_text.specs.Sources.{line_at}
use Rattle.script_text.proofs.FileTokens.{no_line, line_there, lines_to, lines_few}
use Rattle.script_text.proofs.line_cursor.LineCursor.go_to.Goals as goal

pub overflow_add-line : goal.overflow_add-line
overflow_add-line c =
    let s = c.args.source in
    let start = c.start-start in
    let sum = lines_to s start.result c.index-place.result (start.ensures.on s c.requires.on) start.ensures.before in
    omega (arith, c.lines_in.ensures, sum, lines_few s.marks.now c.index-place.result, c.requires.few)

pub returns-then-place-source-clause-line : goal.returns-then-place-source-clause-line
returns-then-place-source-clause-line c = no_line c.args.source c.index-place.result (omega arith) ∙ ap (line_at c.args.source) c.index-place.ensures

pub returns-clause-line : goal.returns-clause-line
returns-clause-line c =
    let s = c.args.source in
    let start = c.start-start in
    ap (λ n. start.result.line + n) c.lines_in.ensures
    ∙ lines_to s start.result c.index-place.result (start.ensures.on s c.requires.on) start.ensures.before
    ∙ line_there s c.index-place.result (omega arith)
    ∙ ap (line_at s) c.index-place.ensures

pub returns-clause-on : goal.returns-clause-on
returns-clause-on c =
    let s = c.args.source in
    let start = c.start-start in
    record {
      within = omega arith;
      line = ap (λ n. start.result.line + n) c.lines_in.ensures ∙ lines_to s start.result c.index-place.result
          (start.ensures.on s c.requires.on) start.ensures.before;
    }
