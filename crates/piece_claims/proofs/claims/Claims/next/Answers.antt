use Rattle.std.proofs.Common.{◌≡◌, ◌+◌, length, arith, rules, refl}
use Rattle.frame_core.specs.Names.{pieces_of, IsJobOf}
use Rattle.piece_claims.proofs.Opening.{cut_is, end_within}
use Rattle.piece_claims.proofs.Claiming.{of_job, own, spent}
use Rattle.piece_claims.proofs.claims.Claims.next.Goals as goal

pub pieces-requires : goal.pieces-requires
pieces-requires c =
    let plan = c.args.plan.now in
    let w = c.requires.well in
    let id = c.args.job in
    let len : c.len.result ≡ length plan.jobs.items = search (rules, c.len.ensures) in
    let a = c.if-job-eq0.false in
    let b = c.if-job-len.false in
    let is : IsJobOf plan id = (omega (arith, a), omega (arith, len, b)) in
    let x = c.index-entry.result.now in
    let at = c.index-entry.ensures in
    record { cut = cut_is plan w id is x at }

pub overflow_add-result : goal.overflow_add-result
overflow_add-result c =
    let plan = c.args.plan.now in
    let w = c.requires.well in
    let id = c.args.job in
    let len : c.len.result ≡ length plan.jobs.items = search (rules, c.len.ensures) in
    let a = c.if-job-eq0.false in
    let b = c.if-job-len.false in
    let is : IsJobOf plan id = (omega (arith, a), omega (arith, len, b)) in
    let x = c.index-entry.result.now in
    let at = c.index-entry.ensures in
    let n = c.from-count.result in
    let count : n ≡ pieces_of x = search (rules, c.from-count.ensures, c.pieces.ensures) in
    let fits = end_within plan w id is x at n 0 count in
    let few = w.sized.pieces in
    let low = c.in-Ok.ensures.low in
    let some = c.in-Ok.ensures.some in
    omega (arith, low, some, fits, few)

pub returns-in-Ok-clause-own : goal.returns-in-Ok-clause-own
returns-in-Ok-clause-own c =
    let plan = c.args.plan.now in
    let w = c.requires.well in
    let id = c.args.job in
    let len : c.len.result ≡ length plan.jobs.items = search (rules, c.len.ensures) in
    let a = c.if-job-eq0.false in
    let b = c.if-job-len.false in
    let is : IsJobOf plan id = (omega (arith, a), omega (arith, len, b)) in
    let x = c.index-entry.result.now in
    let at = c.index-entry.ensures in
    let n = c.from-count.result in
    let count : n ≡ pieces_of x = search (rules, c.from-count.ensures, c.pieces.ensures) in
    own plan w id is x at n count c.in-Ok.places.first c.in-Ok.places.count c.in-Ok.ensures.some c.in-Ok.ensures.low c.args.self.now _ refl refl refl refl
    refl c.in-Ok.ensures.given

pub returns-in-Ok-clause-of_job : goal.returns-in-Ok-clause-of_job
returns-in-Ok-clause-of_job c k lt =
    let plan = c.args.plan.now in
    let w = c.requires.well in
    let id = c.args.job in
    let len : c.len.result ≡ length plan.jobs.items = search (rules, c.len.ensures) in
    let a = c.if-job-eq0.false in
    let b = c.if-job-len.false in
    let is : IsJobOf plan id = (omega (arith, a), omega (arith, len, b)) in
    let x = c.index-entry.result.now in
    let at = c.index-entry.ensures in
    let n = c.from-count.result in
    let count : n ≡ pieces_of x = search (rules, c.from-count.ensures, c.pieces.ensures) in
    let low = c.in-Ok.ensures.low in
    of_job plan w id is x at n count _ (c.in-Ok.places.first + k) (omega arith) (omega (arith, low, lt))

pub returns-in-Ok-clause-pieces : goal.returns-in-Ok-clause-pieces
returns-in-Ok-clause-pieces c =
    let plan = c.args.plan.now in
    let w = c.requires.well in
    let id = c.args.job in
    let len : c.len.result ≡ length plan.jobs.items = search (rules, c.len.ensures) in
    let a = c.if-job-eq0.false in
    let b = c.if-job-len.false in
    let is : IsJobOf plan id = (omega (arith, a), omega (arith, len, b)) in
    let x = c.index-entry.result.now in
    let at = c.index-entry.ensures in
    let n = c.from-count.result in
    let count : n ≡ pieces_of x = search (rules, c.from-count.ensures, c.pieces.ensures) in
    let fits = end_within plan w id is x at n 0 count in
    let low = c.in-Ok.ensures.low in
    omega (arith, low, fits)

pub returns-in-Err-clause-spent : goal.returns-in-Err-clause-spent
returns-in-Err-clause-spent c =
    let plan = c.args.plan.now in
    let w = c.requires.well in
    let id = c.args.job in
    let len : c.len.result ≡ length plan.jobs.items = search (rules, c.len.ensures) in
    let a = c.if-job-eq0.false in
    let b = c.if-job-len.false in
    let is : IsJobOf plan id = (omega (arith, a), omega (arith, len, b)) in
    let x = c.index-entry.result.now in
    let at = c.index-entry.ensures in
    let n = c.from-count.result in
    let count : n ≡ pieces_of x = search (rules, c.from-count.ensures, c.pieces.ensures) in
    spent plan w id is x at n count c.args.self.now c.in-Err.token c.in-Err.ensures.none
