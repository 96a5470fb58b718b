use Rattle.frame_host.proofs.Turning.{is_run}
use Rattle.frame_host.proofs.section.FrameSection.end.Goals as goal

pub take_section-requires : goal.take_section-requires
take_section-requires c = record { run = is_run c.args.self c.in-Ok.stage c.in-Some.end c.requires.sound c.in-Some.is c.in-Ok.ensures.stage }
