use Rattle.std.proofs.Common.{◌≡◌, [], ◌∷◌, ◌-◌, IfSome, length, take, sym, ◌∙◌, subst}
use Rattle.frame_parser.specs.Notes.{events_of}
use Rattle.grammar_table.specs.StackSymbols.{standing}
use Rattle.frame_grammar.specs.declared.symbols.Nonterminal.TheVariants.{MoreValues}
use Rattle.frame_grammar.specs.declared.symbols.Symbol.TheVariants as symbol
use Rattle.frame_parser.specs.Values.{rest_of}
use Rattle.grammar_table.specs.declared.stack_symbol.StackSymbol.TheVariants as waiting
use Rattle.grammar_table.proofs.Stacks.{last_on_top}
use Rattle.frame_parser.proofs.ValueTakings.{next_taken, values_wait}
use Rattle.frame_parser.proofs.values.take_next_value.Goals as goal

pub returns-in-Some-clause-taken : goal.returns-in-Some-clause-taken
returns-in-Some-clause-taken c =
    let items = c.args.stack.now in
    next_taken c.take_part.result c.in-Some.value c.args.action c.args.ahead c.args.place (events_of c.args.events.now.items)
    (events_of c.take_part.new.events.items) (standing items)
    (standing (take (length items - 1) items)) (subst (λ o. IfSome o (λ value. rest_of value ≡ symbol.Action c.args.action ∷ [])) c.in-Some.is
    c.ended_by.ensures.rest)
    (last_on_top items (waiting.Nonterminal MoreValues) (values_wait _ (sym c.has_values_on_top.ensures ∙ c.if-has_values_on_top.true)))
    c.take_part.ensures.taken
