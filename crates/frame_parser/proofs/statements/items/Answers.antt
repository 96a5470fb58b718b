use Rattle.std.proofs.Common.{drop, ◌++◌, ◌∷◌, [], ◌∙◌, ap, subst, sym}
use Rattle.grammar_table.specs.StackSymbols.{standing}
use Rattle.frame_grammar.specs.declared.symbols.Nonterminal.TheVariants as nonterminal
use Rattle.frame_grammar.specs.declared.symbols.Symbol.TheVariants as symbol
use Rattle.grammar_table.specs.declared.stack_symbol.StackSymbol.TheVariants as waiting
use Rattle.grammar_table.specs.Stack.{Takes}
use Rattle.frame_grammar.specs.Bodies.{body_of}
use Rattle.frame_parser.specs.Notes.{events_of}
use Rattle.grammar_table.proofs.Stacks.{behind}
use Rattle.frame_parser.proofs.StatementTakings.{statement_begins, item_taken}
use Rattle.frame_parser.proofs.statements.items.Goals as goal

pub returns-in_ok-push_rest-in-Some : goal.returns-in_ok-push_rest-in-Some
returns-in_ok-push_rest-in-Some c =
    let p = c.in-Some.production in
    let old = c.args.stack.now.items in
    let done = events_of c.args.events.now.items in
    let rest = c.in_ok-push_rest-in-Some.ensures _ (drop 1 (body_of p)) (statement_begins c.args.ahead p c.in-Some.ensures)
    ∙ ap (λ ss. drop 1 (body_of p) ++ ss) (behind old _ (waiting.Nonterminal nonterminal.AfterItem ∷ []) c.in_ok-put-in-Some.ensures) in
    subst (λ es. Takes c.args.ahead c.args.place done (symbol.Nonterminal nonterminal.Items ∷ standing old) es (standing c.push_rest.new.stack.items))
    (sym c.in_ok-note-in-Some.ensures)
    (item_taken c.args.ahead p c.args.place done (standing old) (standing c.push_rest.new.stack.items) c.in-Some.ensures rest)
