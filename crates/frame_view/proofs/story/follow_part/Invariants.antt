use Rattle.std.proofs.Common.{◌≤◌, ◌⊎◌, take}
use Rattle.frame_view.specs.Marks.{marks_of}
use Rattle.frame_view.proofs.Following.{IsTold}
use Rattle.frame_view.proofs.Whole.{IsTellingAll}
use Rattle.frame_view.proofs.story.follow_part.Given as goal

abbrev pub invariant-loop-at : goal.invariant-loop-at
invariant-loop-at l = IsTold l.script l.fn.part.from l.plan l.story.made.items l.story.refused.items l.at
    × IsTellingAll l.script (take l.to l.script.statements.items) l.fn.part.from l.fn.part.passed (marks_of l.plan.segments.items) l.at l.passing l.next
    l.story.made.items l.story.refused.items
    × ((l.at ≤ l.to) ⊎ (l.at ≤ l.fn.part.from))
