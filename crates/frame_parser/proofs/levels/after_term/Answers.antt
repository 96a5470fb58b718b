use Rattle.std.proofs.Common.{sym, ◌∙◌, refl, ◌++◌, ap}
use Rattle.frame_parser.specs.Operands.{to_come}
use Rattle.frame_parser.specs.declared.operands.Expected.TheVariants as expected
use Rattle.frame_parser.specs.declared.operands.Side.TheVariants as side
use Rattle.frame_parser.specs.Notes.{events_of}
use Rattle.grammar_table.specs.StackSymbols.{standing}
use Rattle.frame_parser.proofs.Takings.{told, told_going, term, no_term}
use Rattle.grammar_table.proofs.Stacks.{behind}
use Rattle.frame_parser.proofs.Expressions.{above_sum, nothing_follows}
use Rattle.frame_parser.proofs.levels.after_term.Goals as goal

pub returns-in_ok-take_operator : goal.returns-in_ok-take_operator
returns-in_ok-take_operator c =
    told c.args.ahead c.args.ahead c.args.place (events_of c.args.events.now.items) _ _ _ _ _ refl c.in_ok-take_operator.ensures.events
    (ap (λ ss. to_come (expected.Side side.Term) ++ ss) (behind c.args.stack.now.items _ _ c.in_ok-take_operator.ensures.stack))
    (term c.args.ahead c.args.place (events_of c.args.events.now.items) (above_sum (standing c.args.stack.now.items)) (sym c.adds.ensures ∙ c.if-adds.true))

pub returns-in_ok-put : goal.returns-in_ok-put
returns-in_ok-put c =
    told_going c.args.ahead c.args.place (events_of c.args.events.now.items) _ _ _ _ _ refl
    (behind c.args.stack.now.items _ _ c.in_ok-put.ensures)
    (no_term c.args.ahead c.args.place (events_of c.args.events.now.items) (above_sum (standing c.args.stack.now.items)) (sym c.adds.ensures ∙ c.if-adds.false))

pub returns-else-joins : goal.returns-else-joins
returns-else-joins c =
    nothing_follows c.args.ahead c.args.place (events_of c.args.events.now.items) (standing c.args.stack.now.items)
    (sym c.adds.ensures ∙ c.if-adds.false) (sym c.joins.ensures ∙ c.if-joins.false)
