use Rattle.std.proofs.Common.{inr}
use Rattle.frame_top.specs.Answers.{NotFound}
use Rattle.graph_top.proofs.Due.{by_command, usage_gives, script_gives, table_gives, frame_gives, shows, none_of_graph}
use Rattle.graph_top.proofs.top.graph_frame.Goals as goal

pub returns-clause-headline : goal.returns-clause-headline
returns-clause-headline g c script table drawable =
    by_command _ _ _ _ _ _ _ _ _ _ _ drawable.of_graph
    (λ ends. shows _ _ _ _ _ _ _ _ _ _ script table drawable.given drawable.table_stands drawable.accepted ends)
    (λ none. inr (NotFound none)) c.answer_words.ensures.ends

pub returns-clause-usage_due : goal.returns-clause-usage_due
returns-clause-usage_due g c bad = usage_gives _ _ _ _ _ _ _ _ _ _ bad c.answer_words.ensures.ends

pub returns-clause-script_due : goal.returns-clause-script_due
returns-clause-script_due g c source a of given refuses =
    by_command _ _ _ _ _ _ _ _ _ _ _ of
    (λ ends. script_gives _ _ _ _ _ _ _ _ _ _ source a given refuses ends)
    (λ none. inr (NotFound none)) c.answer_words.ensures.ends

pub returns-clause-table_due : goal.returns-clause-table_due
returns-clause-table_due g c script table a of given refuses =
    by_command _ _ _ _ _ _ _ _ _ _ _ of
    (λ ends. table_gives _ _ _ _ _ _ _ _ _ _ script table given a refuses ends)
    (λ none. inr (NotFound none)) c.answer_words.ensures.ends

pub returns-clause-frame_due : goal.returns-clause-frame_due
returns-clause-frame_due g c script table a of given stands refuses =
    by_command _ _ _ _ _ _ _ _ _ _ _ of
    (λ ends. frame_gives _ _ _ _ _ _ _ _ _ _ script table given a stands refuses ends)
    (λ none. inr (NotFound none)) c.answer_words.ensures.ends

pub returns-clause-no_memory : goal.returns-clause-no_memory
returns-clause-no_memory g c none = none_of_graph _ _ _ _ _ _ _ _ _ _ c.answer_words.ensures.ends none
