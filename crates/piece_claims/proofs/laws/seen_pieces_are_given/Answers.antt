use Rattle.piece_claims.proofs.Claiming as all
use Rattle.piece_claims.proofs.laws.seen_pieces_are_given.Goals as goal

pub returns : goal.returns
returns c = all.seen_pieces_are_given
