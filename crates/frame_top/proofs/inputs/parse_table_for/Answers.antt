use Rattle.std.proofs.Common.{List, Option, None, ap, subst, sym}
use Rattle.plan_statements.specs.Tables.{columns_of}
use Rattle.table_in.specs.Columns.{NamedColumn}
use Rattle.table_laws.specs.Laws.{AnswerAllAlike}
use Rattle.command_words.specs.Words.{Text}
use Rattle.frame_top.specs.Asking.{bytes_in}
use Rattle.frame_top.specs.Refusals.{table_of}
use Rattle.frame_top.proofs.Naming.{itself}
use Rattle.frame_top.proofs.inputs.parse_table_for.Goals as goal

pub returns-in-None-clause-columns : goal.returns-in-None-clause-columns
returns-in-None-clause-columns c =
    let statements = c.args.script.now.statements.items in
    subst (λ (o : Option Text). AnswerAllAlike (columns_of c.none.result) (table_of o) statements) (sym (ap bytes_in c.in-None.is))
    (subst (λ (t : List NamedColumn). AnswerAllAlike (columns_of t) (table_of None) statements) (sym c.none.ensures)
    (itself (table_of None) statements))
