use Rattle.std.proofs.Common.{◌+◌, ◌∙◌, sym, ap, subst, arith}
use Rattle.frame_core.specs.declared.piece.Piece.TheVariants.{OfJob}
use Rattle.frame_core.specs.Pieces.{IsPieceOf, number_of}
use Rattle.steal_pool.proofs.Visiting.{job_below}
use Rattle.steal_pool.proofs.pieces.run_given_pieces.Goals as goal

pub visit_job-visit-requires-clause-job : goal.visit_job-visit-requires-clause-job
visit_job-visit-requires-clause-job g c =
    let own = c.requires.given.own in
    job_below c.args.crew.now.plan.now c.args.claimed.job c.args.claimed.place c.args.claimed.count own.some own.there

pub overflow_add-number : goal.overflow_add-number
overflow_add-number g c =
    let within = c.requires.given.pieces in
    let few = c.requires.crew.well.sized.pieces in
    let lt = c.loop-k-test.true in
    omega (arith, within, few, lt)

pub run_given_piece-next-requires-clause-piece : goal.run_given_piece-next-requires-clause-piece
run_given_piece-next-requires-clause-piece g c =
    let plan = c.args.crew.now.plan.now in
    subst (λ j. IsPieceOf plan (OfJob j (c.args.claimed.place + c.loop-k.k))) (sym c.loop-k.invariant.place)
    (c.requires.given.own.there c.loop-k.k c.loop-k-test.true)

pub run_given_piece-next-requires-clause-number : goal.run_given_piece-next-requires-clause-number
run_given_piece-next-requires-clause-number g c =
    let plan = c.args.crew.now.plan.now in
    c.requires.given.own.number c.loop-k.k c.loop-k-test.true
    ∙ ap (λ j. number_of plan (OfJob j (c.args.claimed.place + c.loop-k.k))) (sym c.loop-k.invariant.place)

pub run_given_piece-next-requires-clause-of_job : goal.run_given_piece-next-requires-clause-of_job
run_given_piece-next-requires-clause-of_job g c =
    let within = c.requires.given.pieces in
    let lt = c.loop-k-test.true in
    omega (arith, within, lt)
