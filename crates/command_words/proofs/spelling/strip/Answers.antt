use Rattle.command_words.proofs.ReadLemmas.{after_is}
use Rattle.command_words.proofs.spelling.strip.Goals as goal

pub returns : goal.returns
returns c = after_is c.args.prefix.now c.args.word.now c.strip_prefix.result c.strip_prefix.ensures.cases
