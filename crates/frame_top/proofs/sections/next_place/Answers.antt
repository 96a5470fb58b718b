use Rattle.std.proofs.Common.{◌∙◌, sym}
use Rattle.frame_top.proofs.Seeing.{later_place, first_place}
use Rattle.frame_top.proofs.sections.next_place.Goals as goal

pub returns-then-is_some : goal.returns-then-is_some
returns-then-is_some c script columns sections from was =
    c.place.ensures ∙ later_place script columns sections from _ _ was (sym c.is_some.ensures ∙ c.if-is_some.true)

pub returns-else-is_some : goal.returns-else-is_some
returns-else-is_some c script columns sections from was =
    first_place script columns sections from _ _ was (sym c.is_some.ensures ∙ c.if-is_some.false)
