use Rattle.frame_ast.specs.Texts.{traps_text}
use Rattle.frame_top.proofs.Looping.{closes_after}
use Rattle.frame_top.proofs.sections.finish.Goals as goal

pub returns-clause-closed : goal.returns-clause-closed
returns-clause-closed g c s at =
    closes_after g.S.Sink.taken g.S.Sink.faults _ _ _ c.args.progress.now _ _ (traps_text s.traps) _ _ _ c.close.ensures.closed
    (c.say_traps.ensures.text s.traps at.traps) (c.status_of_report-status.ensures s at)
