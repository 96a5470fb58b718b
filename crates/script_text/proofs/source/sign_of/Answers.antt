use Rattle.script_text.proofs.FileTokens.{one_test}
use Rattle.script_text.proofs.source.sign_of.Goals as goal

pub unreachable-requires : goal.unreachable-requires
unreachable-requires c =
    let d = c.in_default in
    one_test c.args.kind c.requires d.not-Equal d.not-NotEqual d.not-Less d.not-LessEqual d.not-Greater d.not-GreaterEqual
