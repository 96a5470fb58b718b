use Rattle.script_text.proofs.Reading.Endings.{none_left}
use Rattle.script_text.proofs.build_scalars.Scalars.finish_use.Goals as goal

pub unreachable-requires : goal.unreachable-requires
unreachable-requires c =
    let d = c.in_default in
    none_left c.args.action c.requires d.not-SetStatement d.not-AddToStatement d.not-PutStatement
    d.not-RemoveFromStatement d.not-ClearOutStatement d.not-SetCapacityStatement d.not-CompleteStatement d.not-DisposeAutoStatement
    d.not-PrintStatement d.not-FlushStatement d.not-FrameStatement d.not-OpenRepeat d.not-OpenWhen
