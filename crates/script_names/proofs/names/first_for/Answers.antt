use Rattle.std.proofs.Common.{◌∙◌, ap}
use Rattle.script_names.specs.Index.{bucket_of, first_of}
use Rattle.script_names.proofs.names.first_for.Goals as goal

pub returns : goal.returns
returns c = c.get.ensures ∙ ap (first_of c.args.firsts.now) (c.bucket_of.ensures.bucket ∙ ap (λ n. bucket_of n c.args.text.now) c.len.ensures)
