use Rattle.frame_top.proofs.Sectioning.{made_of}
use Rattle.frame_top.proofs.sections.next_section.Goals as goal

pub returns-clause-made : goal.returns-clause-made
returns-clause-made c sections from was =
    made_of _ _ sections from _ _ c.args.progress.now _ was (c.next.ensures.section from was.carried was.len was.at was.outcome was.left)

pub next-requires : goal.next-requires
next-requires c =
    let h = c.requires.here.2 in
    record { at = (c.requires.here.1, h.carried, h.len, h.at, h.outcome, h.left) }
