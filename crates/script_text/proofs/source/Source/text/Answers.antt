use Rattle.std.proofs.Common.{◌∙◌, ap}
use Rattle.script_text.specs.Sources.{text_at}
use Rattle.script_text.proofs.FileTokens.{text_said, no_text}
use Rattle.script_text.proofs.source.Source.text.Goals as goal

pub returns-in-None : goal.returns-in-None
returns-in-None c =
    let found = c.in-None.ensures in
    no_text c.args.self c.index.result found.lookup.3 ∙ ap (text_at c.args.self) c.index.ensures

pub returns-in-Some : goal.returns-in-Some
returns-in-Some c =
    let found = c.in-Some.ensures in
    text_said c.args.self c.index.result c.in-Some.mark.now c.text.result.now found.lookup.3.0 found.lookup.1 c.text.ensures
    ∙ ap (text_at c.args.self) c.index.ensures
