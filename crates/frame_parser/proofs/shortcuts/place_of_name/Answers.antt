use Rattle.std.proofs.Common.{◌++◌, sym, ◌∙◌, refl, ap}
use Rattle.frame_parser.specs.Operands.{to_come}
use Rattle.frame_parser.specs.declared.operands.Expected.TheVariants as expected
use Rattle.frame_parser.specs.declared.operands.Side.TheVariants as side
use Rattle.grammar_table.specs.StackSymbols.{standing}
use Rattle.frame_parser.specs.Notes.{events_of}
use Rattle.grammar_table.proofs.Steps.{kinds_same}
use Rattle.frame_parser.proofs.Takings.{told, told_going, bracket, no_bracket}
use Rattle.grammar_table.proofs.Stacks.{behind}
use Rattle.frame_parser.proofs.shortcuts.place_of_name.Goals as goal

pub returns-in_ok-put : goal.returns-in_ok-put
returns-in_ok-put c =
    told c.args.ahead _ c.args.place (events_of c.args.events.now.items) _ _ _ _ _ (kinds_same c.args.ahead _ (sym c.eq.ensures ∙ c.if-eq.true)) refl
    (ap (λ ss. to_come (expected.Side side.Expression) ++ ss) (behind c.args.stack.now.items _ _ c.in_ok-put.ensures))
    (bracket c.args.place (events_of c.args.events.now.items) (standing c.args.stack.now.items))

pub returns-in_ok-note : goal.returns-in_ok-note
returns-in_ok-note c =
    told_going c.args.ahead c.args.place (events_of c.args.events.now.items) _ _ _ _ _ c.in_ok-note.ensures refl
    (no_bracket c.args.ahead c.args.place (events_of c.args.events.now.items) (standing c.args.stack.now.items) (sym c.eq.ensures ∙ c.if-eq.false))
