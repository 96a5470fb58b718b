use Rattle.std.proofs.Common.{sym, ◌∙◌, refl, ◌++◌, ap}
use Rattle.frame_parser.specs.Operands.{to_come}
use Rattle.frame_parser.specs.declared.operands.Expected.TheVariants as expected
use Rattle.frame_parser.specs.declared.operands.Side.TheVariants as side
use Rattle.grammar_table.specs.StackSymbols.{standing}
use Rattle.frame_parser.specs.Notes.{events_of}
use Rattle.frame_parser.proofs.Takings.{told, factor, no_factor}
use Rattle.grammar_table.proofs.Stacks.{behind}
use Rattle.frame_parser.proofs.levels.more_factors.Goals as goal

pub returns-in_ok-take_operator : goal.returns-in_ok-take_operator
returns-in_ok-take_operator c =
    told c.args.ahead c.args.ahead c.args.place (events_of c.args.events.now.items) _ _ _ _ _ refl c.in_ok-take_operator.ensures.events
    (ap (λ ss. to_come (expected.Side side.Factor) ++ ss) (behind c.args.stack.now.items _ _ c.in_ok-take_operator.ensures.stack))
    (factor c.args.ahead c.args.place (events_of c.args.events.now.items) (standing c.args.stack.now.items) (sym c.multiplies.ensures ∙ c.if-multiplies.true))

pub returns-else-multiplies : goal.returns-else-multiplies
returns-else-multiplies c =
    no_factor c.args.ahead c.args.place (events_of c.args.events.now.items) (standing c.args.stack.now.items) (sym c.multiplies.ensures ∙ c.if-multiplies.false)
