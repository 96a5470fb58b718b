use Rattle.std.proofs.Common.{◌∙◌}
use Rattle.schedule_text.proofs.Lines.{a_line, no_line, pushed}
use Rattle.schedule_text.proofs.boxes.push_line.Goals as goal

pub returns-in_ok-push : goal.returns-in_ok-push
returns-in_ok-push c =
    pushed _ _ _ c.in_ok-push.ensures.items ∙ a_line _ _ c.is_empty.result c.is_empty.ensures c.as_str.ensures.value _ c.if-not-is_empty.true

pub returns-else-not-is_empty : goal.returns-else-not-is_empty
returns-else-not-is_empty c = no_line _ _ c.is_empty.result c.is_empty.ensures c.as_str.ensures.value _ c.if-not-is_empty.false
