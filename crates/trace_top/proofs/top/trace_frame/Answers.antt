use Rattle.std.proofs.Common.{inr, ap, ◌∙◌}
use Rattle.frame_top.specs.Answers.{NotFound}
use Rattle.frame_ast.specs.Scripts.{status_of, output_of}
use Rattle.frame_top.specs.Refusals.{answer, frame_refusal, table_of}
use Rattle.frame_top.specs.Words.{bytes_of}
use Rattle.frame_top.specs.declared.status.TheConstants.{USAGE}
use Rattle.trace_top.specs.Traced.{trace_usage_line}
use Rattle.frame_top.proofs.Clauses.{gives}
use Rattle.frame_top.proofs.Settling.{run_settles, script_settles, table_settles, frame_settles}
use Rattle.trace_top.proofs.Tracing.{is_traced, traced_gives, usage_gives, by_run, by_usage, all_traced, none_of_command}
use Rattle.trace_top.proofs.top.trace_frame.Goals as goal

pub returns-clause-headline : goal.returns-clause-headline
returns-clause-headline g c script table frame plain =
    by_run _ _ _ _ _ _ _ _ (is_traced (bytes_of c.args.words.now) frame.given.given.of_command plain)
    (λ status ran traced. traced_gives (answer (status_of script (table_of table)) (output_of script (table_of table))) _ _ _ _ _ _ _ _ _ _ status _
    (gives _ _ _ _ _ _ _ _ _ _ _ (λ b why. run_settles _ _ _ _ script table frame.given b frame plain why) ran) traced)
    (λ none. inr (NotFound none)) c.trace_words.ensures.ends

pub returns-clause-trace : goal.returns-clause-trace
returns-clause-trace g c = all_traced _ _ _ _ _ _ _ _ _ _ _ _ _ _ _ c.trace_words.ensures.ends

pub returns-clause-usage_due : goal.returns-clause-usage_due
returns-clause-usage_due g c other =
    by_usage (bytes_of c.args.words.now) _ _ _ _ _ _ _ other (λ said. usage_gives (answer USAGE trace_usage_line) _ _ _ _ _ _ _ said)
    (λ none. inr (NotFound none)) c.trace_words.ensures.ends

pub returns-clause-script_due : goal.returns-clause-script_due
returns-clause-script_due g c source a plain given refuses =
    by_run _ _ _ _ _ _ _ _ (is_traced (bytes_of c.args.words.now) given.of_command plain)
    (λ status ran traced. traced_gives a _ _ _ _ _ _ _ _ _ _ status _
    (gives _ _ _ _ _ _ _ _ _ _ a (λ b why. script_settles _ _ _ _ source a b given refuses why) ran) traced)
    (λ none. inr (NotFound none)) c.trace_words.ensures.ends

pub returns-clause-table_due : goal.returns-clause-table_due
returns-clause-table_due g c script table a plain given refuses =
    by_run _ _ _ _ _ _ _ _ (is_traced (bytes_of c.args.words.now) given.given.of_command plain)
    (λ status ran traced. traced_gives a _ _ _ _ _ _ _ _ _ _ status _
    (gives _ _ _ _ _ _ _ _ _ _ a (λ b why. table_settles _ _ _ _ script table given a b refuses why) ran) traced)
    (λ none. inr (NotFound none)) c.trace_words.ensures.ends

pub returns-clause-frame_due : goal.returns-clause-frame_due
returns-clause-frame_due g c script table a plain given stands refuses =
    by_run _ _ _ _ _ _ _ _ (is_traced (bytes_of c.args.words.now) given.given.of_command plain)
    (λ status ran traced. traced_gives a _ _ _ _ _ _ _ _ _ _ status _
    (gives _ _ _ _ _ _ _ _ _ _ a
    (λ b why. frame_settles _ _ _ _ script table given a b stands
    (ap (λ d. frame_refusal script (table_of table) d) plain ∙ refuses) why) ran) traced)
    (λ none. inr (NotFound none)) c.trace_words.ensures.ends

pub returns-clause-no_memory : goal.returns-clause-no_memory
returns-clause-no_memory g c none = none_of_command (bytes_of c.args.words.now) _ _ _ _ _ _ _ _ _ c.trace_words.ensures.ends none
