use Rattle.std.proofs.Common.{drop}
use Rattle.grammar_table.specs.StackSymbols.{standing}
use Rattle.frame_grammar.specs.Bodies.{body_of}
use Rattle.frame_parser.proofs.StatementTakings.{statement_begins, statement_taken}
use Rattle.frame_parser.proofs.statements.statement.Goals as goal

pub returns-in_ok-push_rest-in-Some : goal.returns-in_ok-push_rest-in-Some
returns-in_ok-push_rest-in-Some c place done =
    let p = c.in-Some.production in
    statement_taken c.args.ahead p place done (standing c.args.stack.now.items) _ c.in-Some.ensures
    (c.in_ok-push_rest-in-Some.ensures _ (drop 1 (body_of p)) (statement_begins c.args.ahead p c.in-Some.ensures))
