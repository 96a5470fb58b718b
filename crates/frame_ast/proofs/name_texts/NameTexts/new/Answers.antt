use Rattle.std.proofs.Common.{ap}
use Rattle.frame_ast.specs.JoinedTexts.{texts_from}
use Rattle.frame_ast.proofs.name_texts.NameTexts.new.Goals as goal

pub returns : goal.returns
returns c = ap (texts_from 0 c.new.result.items) c.new-2.ensures.items
