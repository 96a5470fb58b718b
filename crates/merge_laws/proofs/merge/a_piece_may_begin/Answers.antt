use Rattle.merge_laws.proofs.Progress.{a_piece_may_begin}
use Rattle.merge_laws.proofs.merge.a_piece_may_begin.Goals as goal

pub returns : goal.returns
returns c = a_piece_may_begin
