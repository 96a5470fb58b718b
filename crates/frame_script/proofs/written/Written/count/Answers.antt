use Rattle.std.proofs.Common.{rules, arith, ◌≡◌, ◌∙◌, ◌-◌, List, sym, ap, length}
use Rattle.frame_ast.specs.declared.script.Statement.{Statement}
use Rattle.frame_script.specs.Writing.{Writing, with_count, count_at}
use Rattle.frame_script.specs.contracts.written.Written.{the_view}
use Rattle.frame_script.proofs.Writing.Counts.{counts_behind, nothing_counts}
use Rattle.frame_script.proofs.written.Written.count.Goals as goal

pub returns-then-at-len : goal.returns-then-at-len
returns-then-at-len c =
    let xs = c.self.inside.statements.items in
    let len : c.len-len.result ≡ length xs = search rules in
    let with_statements : List Statement → Writing = λ ys. record (the_view c.self.inside) { statements = ys } in
    let with_counted : Writing → Writing = λ v. record v { statements = count_at c.args.at v.statements } in
    ap with_statements (counts_behind xs c.args.at c.index_mut.result.now c.set_count.new.order (omega (arith, len, c.if-at-len.true)) c.index_mut.ensures.value
    (c.set_count.ensures ∙ ap (λ n. with_count (n - c.args.at - 1) c.index_mut.result.now.act) len))
    ∙ ap with_counted c.self.view_is

pub returns-else-at-len : goal.returns-else-at-len
returns-else-at-len c =
    let xs = c.self.inside.statements.items in
    let len : c.len-len.result ≡ length xs = search rules in
    let with_statements : List Statement → Writing = λ ys. record (the_view c.self.inside) { statements = ys } in
    let with_counted : Writing → Writing = λ v. record v { statements = count_at c.args.at v.statements } in
    sym c.self.view_is
    ∙ ap with_statements (sym (nothing_counts xs c.args.at (omega (arith, len, c.if-at-len.false))))
    ∙ ap with_counted c.self.view_is
