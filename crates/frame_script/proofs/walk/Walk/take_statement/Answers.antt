use Rattle.std.proofs.Common.{subst}
use Rattle.kernel_text.specs.Tokens.{kinds}
use Rattle.script_text.specs.Raw.{form_of}
use Rattle.script_text.specs.Places.{OrderStands}
use Rattle.script_text.specs.Sources.{file_tokens}
use Rattle.frame_script.proofs.walk.Walk.take_statement.Goals as goal

pub open_when-requires-clause-stands : goal.open_when-requires-clause-stands
open_when-requires-clause-stands c =
    (subst (λ raw. OrderStands (kinds (file_tokens c.args.source)) (form_of raw)) c.in-When.is c.requires.stands).1
