use Rattle.frame_top.proofs.Clauses.{status_fits, caused_by, usage_row, unread_row, unwritten_row, none_row, taken_row, settled, gives}
use Rattle.frame_top.proofs.Settling.{run_settles, script_settles, table_settles, frame_settles, report_settles, IsReported, reported_gives, usage_gives}
use Rattle.frame_top.proofs.top.run_watched.Goals as goal

pub returns-clause-headline : goal.returns-clause-headline
returns-clause-headline g c script table frame plain =
    gives _ _ _ _ _ _ _ _ _ _ _ (λ b why. run_settles _ _ _ _ script table frame.given b frame plain why) c.answer_words.ensures.answer

pub returns-clause-statuses : goal.returns-clause-statuses
returns-clause-statuses g c = status_fits _ _ _ _ _ _ _ _ _ _ c.answer_words.ensures.answer

pub returns-clause-caused : goal.returns-clause-caused
returns-clause-caused g c p q = caused_by _ _ _ _ _ _ _ _ _ _ c.answer_words.ensures.answer p q

pub returns-clause-usage : goal.returns-clause-usage
returns-clause-usage g c e = usage_row _ _ _ _ _ _ _ _ _ _ c.answer_words.ensures.answer e

pub returns-clause-unread : goal.returns-clause-unread
returns-clause-unread g c e = unread_row _ _ _ _ _ _ _ _ _ _ c.answer_words.ensures.answer e

pub returns-clause-unwritten : goal.returns-clause-unwritten
returns-clause-unwritten g c e = unwritten_row _ _ _ _ _ _ _ _ _ _ c.answer_words.ensures.answer e

pub returns-clause-no_memory : goal.returns-clause-no_memory
returns-clause-no_memory g c e = none_row _ _ _ _ _ _ _ _ _ _ c.answer_words.ensures.answer e

pub returns-clause-usage_due : goal.returns-clause-usage_due
returns-clause-usage_due g c none = usage_gives _ _ _ _ _ _ _ _ _ _ none c.answer_words.ensures.answer (λ e. (c.answer_words.ensures.memory e).0)

pub returns-clause-script_due : goal.returns-clause-script_due
returns-clause-script_due g c source a given refuses =
    gives _ _ _ _ _ _ _ _ _ _ a (λ b why. script_settles _ _ _ _ source a b given refuses why) c.answer_words.ensures.answer

pub returns-clause-table_due : goal.returns-clause-table_due
returns-clause-table_due g c script table a given refuses =
    gives _ _ _ _ _ _ _ _ _ _ a (λ b why. table_settles _ _ _ _ script table given a b refuses why) c.answer_words.ensures.answer

pub returns-clause-frame_due : goal.returns-clause-frame_due
returns-clause-frame_due g c script table a given stands refuses =
    gives _ _ _ _ _ _ _ _ _ _ a (λ b why. frame_settles _ _ _ _ script table given a b stands refuses why) c.answer_words.ensures.answer

pub returns-clause-depth_due : goal.returns-clause-depth_due
returns-clause-depth_due g c script table frame deep =
    reported_gives _ _ _ _ _ _ _ (settled _ _ _ _ _ _ _ _ _ _ (IsReported _ _)
    (λ b why. report_settles _ _ _ _ script table b frame deep why) c.answer_words.ensures.answer)

pub returns-clause-taken_all : goal.returns-clause-taken_all
returns-clause-taken_all g c e = taken_row _ _ _ _ _ _ _ _ _ _ c.answer_words.ensures.answer e

pub returns-clause-seen : goal.returns-clause-seen
returns-clause-seen g c plain saw ran = c.answer_words.ensures.seen plain saw ran
