use Rattle.script_text.proofs.Reading.Endings.{use_left}
use Rattle.script_text.proofs.build_scalars.Scalars.finish_made.Goals as goal

pub returns-in_default : goal.returns-in_default
returns-in_default c ended =
    let d = c.in_default in
    use_left c.args.action ended d.not-ArrayStatement d.not-ColumnStatement d.not-ListStatement d.not-ReferenceStatement d.not-MapStatement
    d.not-StreamStatement d.not-SliceStatement d.not-ViewStatement d.not-CopyStatement
