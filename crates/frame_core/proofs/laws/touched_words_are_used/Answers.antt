use Rattle.frame_core.proofs.Extents.Touched.{touched_words_are_used}
use Rattle.frame_core.proofs.laws.touched_words_are_used.Goals as goal

pub returns : goal.returns
returns c = touched_words_are_used
