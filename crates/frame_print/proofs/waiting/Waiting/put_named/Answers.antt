use Rattle.std.proofs.Common.{◌++◌, codes}
use Rattle.frame_print.proofs.Gathering.{gathers_kept}
use Rattle.frame_print.proofs.waiting.Waiting.put_named.Goals as goal

pub returns-clause-text : goal.returns-clause-text
returns-clause-text g c =
    gathers_kept _ _ _ _ _ c.put_last_name.result c.args.words.now (c.args.name.now ++ codes "\n") c.keep.ensures.text c.put_last_name.ensures.text
