use Rattle.std.proofs.Common.{List, Option, None, Bor, ap, subst, sym}
use Rattle.std.specs.Prelude.{option_copied}
use Rattle.plan_statements.specs.Tables.{columns_of}
use Rattle.table_in.specs.Columns.{NamedColumn}
use Rattle.table_laws.specs.Laws.{AnswerAllAlike}
use Rattle.command_words.specs.Words.{Text}
use Rattle.frame_top.specs.Refusals.{table_of}
use Rattle.frame_top.proofs.Naming.{itself}
use Rattle.frame_top.proofs.alone.read_given.Goals as goal

pub returns-in-None-clause-columns : goal.returns-in-None-clause-columns
returns-in-None-clause-columns c =
    let statements = c.args.script.now.statements.items in
    subst (λ (o : Option Text). AnswerAllAlike (columns_of c.none.result) (table_of o) statements) (sym (ap option_copied c.in-None.is))
    (subst (λ (t : List NamedColumn). AnswerAllAlike (columns_of t) (table_of None) statements) (sym c.none.ensures)
    (itself (table_of None) statements))
