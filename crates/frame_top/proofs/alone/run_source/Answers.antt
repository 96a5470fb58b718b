use Rattle.frame_top.proofs.Sources.{given, grown, refuses_same, table_same, run_same, frame_same}
use Rattle.frame_top.proofs.alone.run_source.Goals as goal

pub returns-clause-headline : goal.returns-clause-headline
returns-clause-headline g c script frame = given _ _ _ _ _ _ _ _ (λ b why. run_same _ _ script frame b why) c.answer_source.ensures.answer

pub returns-clause-script_due : goal.returns-clause-script_due
returns-clause-script_due g c a refuses = given _ _ _ _ _ _ _ a (λ b why. refuses_same _ _ a b refuses why) c.answer_source.ensures.answer

pub returns-clause-table_due : goal.returns-clause-table_due
returns-clause-table_due g c script a accepted refuses =
    given _ _ _ _ _ _ _ a (λ b why. table_same _ _ script accepted a b refuses why) c.answer_source.ensures.answer

pub returns-clause-frame_due : goal.returns-clause-frame_due
returns-clause-frame_due g c script a accepted stands refuses =
    given _ _ _ _ _ _ _ a (λ b why. frame_same _ _ script accepted a b stands refuses why) c.answer_source.ensures.answer

pub returns-clause-grows : goal.returns-clause-grows
returns-clause-grows g c = grown _ _ _ _ _ _ _ c.answer_source.ensures.answer
