use Rattle.std.proofs.Common.{◌+◌, ◌*◌, [], ap, ◌∙◌}
use Rattle.native_map.proofs.Sizes.{words_of-is}
use Rattle.native_map.proofs.Effects.{zeros_law}
use Rattle.native_map.proofs.place.words_of.Goals as goal

pub returns-clause-words : goal.returns-clause-words
returns-clause-words c = ap (λ t. 3 * t + 1) c.places.ensures.places ∙ words_of-is c.args.cap []

pub returns-clause-empty : goal.returns-clause-empty
returns-clause-empty c = zeros_law
