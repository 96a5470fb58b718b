use Rattle.piece_claims.proofs.Claiming as all
use Rattle.piece_claims.proofs.laws.pieces_are_given_once.Goals as goal

pub returns : goal.returns
returns c = all.pieces_are_given_once
