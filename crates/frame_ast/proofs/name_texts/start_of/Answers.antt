use Rattle.std.proofs.Common.{sym, ap}
use Rattle.frame_ast.specs.JoinedTexts.{start_at}
use Rattle.frame_ast.proofs.JoinedTexts.{begins}
use Rattle.frame_ast.proofs.name_texts.start_of.Goals as goal

pub returns-then-place-eq0 : goal.returns-then-place-eq0
returns-then-place-eq0 c = sym (ap (start_at 0 c.args.ends.now) c.if-place-eq0.true)

pub returns-else-place-eq0 : goal.returns-else-place-eq0
returns-else-place-eq0 c = begins c.args.ends.now c.args.place c.requires c.if-place-eq0.false
