use Rattle.script_text.proofs.Reading.Endings.{flat_left}
use Rattle.script_text.proofs.build.Reader.finish.Goals as goal

pub finish-requires : goal.finish-requires
finish-requires c =
    let d = c.in_default in
    flat_left c.args.action c.requires d.not-ScheduleStatement d.not-CombineStatement d.not-DisposeStatement d.not-DisposeAfterStatement
