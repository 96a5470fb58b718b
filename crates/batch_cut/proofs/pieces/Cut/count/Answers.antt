use Rattle.std.proofs.Common.{◌*◌, ◌≤◌, sym, subst, arith}
use Rattle.std.proofs.lemmas.Grind.{div_ceil_times}
use Rattle.batch_cut.proofs.Covering.{covered}
use Rattle.batch_cut.proofs.pieces.Cut.count.Goals as goal

pub returns-else-self-eq0-clause-cover : goal.returns-else-self-eq0-clause-cover
returns-else-self-eq0-clause-cover c =
    let n = c.args.self.now.n in
    let step = c.args.self.now.step in
    covered n step c.div_ceil.result (subst (λ x. n ≤ x * step) (sym c.div_ceil.ensures) (div_ceil_times n step (omega arith)).0)
