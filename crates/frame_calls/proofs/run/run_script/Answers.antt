use Rattle.std.proofs.Common.{rules, sym, ap, ◌∙◌, subst, false, Option}
use Rattle.frame_ast.specs.Scripts.{output_of, status_of}
use Rattle.command_words.specs.Words.{Text}
use Rattle.frame_top.specs.Refusals.{answer, frame_refusal, table_of, table_refusal}
use Rattle.frame_top.specs.Sources.{IsAcceptedFrame}
use Rattle.frame_calls.specs.Calls.{Comes}
use Rattle.frame_calls.proofs.Filling.{comes}
use Rattle.frame_calls.proofs.run.run_script.Goals as goal

pub returns-clause-headline : goal.returns-clause-headline
returns-clause-headline c tree frame =
    let ran = c.run_source-status in
    c.status_of_text.ensures.fills _ _ ran.new.sink.written.text (search rules) (search rules)
    (subst (λ (o : Option Text). Comes ran.result ran.new.sink.written.text (answer (status_of tree (table_of o)) (output_of tree (table_of o))))
    c.given_table.ensures
    (comes _ _ _ _ _ _ _ _ _ _ c.over-sink.ensures.text (ran.ensures.headline tree
    (subst (λ (o : Option Text). IsAcceptedFrame c.args.script.now o tree) (sym c.given_table.ensures) frame))))

pub returns-clause-script_due : goal.returns-clause-script_due
returns-clause-script_due c a refuses =
    let ran = c.run_source-status in
    c.status_of_text.ensures.fills a _ ran.new.sink.written.text (search rules) (search rules)
    (comes _ _ _ _ _ _ _ _ _ a c.over-sink.ensures.text (ran.ensures.script_due a refuses))

pub returns-clause-table_due : goal.returns-clause-table_due
returns-clause-table_due c tree a accepted refused =
    let ran = c.run_source-status in
    c.status_of_text.ensures.fills a _ ran.new.sink.written.text (search rules) (search rules)
    (comes _ _ _ _ _ _ _ _ _ a c.over-sink.ensures.text (ran.ensures.table_due tree a accepted (ap table_refusal c.given_table.ensures ∙ refused)))

pub returns-clause-frame_due : goal.returns-clause-frame_due
returns-clause-frame_due c tree a accepted stands refused =
    let ran = c.run_source-status in
    c.status_of_text.ensures.fills a _ ran.new.sink.written.text (search rules) (search rules)
    (comes _ _ _ _ _ _ _ _ _ a c.over-sink.ensures.text (ran.ensures.frame_due tree a accepted
    (ap table_refusal c.given_table.ensures ∙ stands)
    (ap (λ (o : Option Text). frame_refusal tree (table_of o) false) c.given_table.ensures ∙ refused)))
