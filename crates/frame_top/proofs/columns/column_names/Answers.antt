use Rattle.std.proofs.Common.{◌<◌, ◌++◌, ◌∙◌, ap, sym, length, arith}
use Rattle.frame_top.specs.Columns.{columns_by}
use Rattle.frame_top.proofs.Naming.{names_more}
use Rattle.frame_top.proofs.columns.column_names.Goals as goal

pub loop-i-preserved : goal.loop-i-preserved
loop-i-preserved c =
    let statements = c.args.script.now.statements.items in
    let lt : c.loop-i.i < length statements = omega (arith, c.loop-i-test.true, c.len-i-end.ensures) in
    c.in_ok-push_column.ensures
    ∙ ap (λ l. l ++ columns_by c.index.result.now.act) c.loop-i.invariant
    ∙ sym (names_more statements c.loop-i.i c.index.result.now lt c.index.ensures)
