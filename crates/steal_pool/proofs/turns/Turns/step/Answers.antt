use Rattle.std.proofs.Common.{◌≡◌, ◌<◌, ◌≤◌, ◌+◌, List, false, length, refl, subst, sym, arith, rules}
use Rattle.job_base.specs.declared.JobId.{JobId}
use Rattle.frame_core.specs.Names.{segment_at, waits_in}
use Rattle.frame_core.specs.Output.{lines_of}
use Rattle.plan_run.specs.Says.{said_to}
use Rattle.plan_run.proofs.Running.{says_flushed}
use Rattle.steal_pool.proofs.Leased.{waits_are, waits_there}
use Rattle.steal_pool.proofs.Standings.{job_is, seen_all, seen_further, stands_on}
use Rattle.steal_pool.proofs.turns.Turns.step.Goals as goal

pub open_and_run-requires-clause-seen : goal.open_and_run-requires-clause-seen
open_and_run-requires-clause-seen g c =
    let plan = c.args.self.now.plan.now in
    let at = c.args.at.now in
    let s = c.index-segment.result.now in
    let n : c.len.result ≡ length s.waits.items = search (rules, c.len.ensures) in
    let t = c.if-at-len.true in
    let all : length s.waits.items ≤ at.waited = omega (arith, n, t) in
    let same = waits_there plan c.requires.crew.well at.segment c.requires.index s c.index-segment.ensures in
    seen_all (waits_in (segment_at plan at.segment)) at.waited (g.B.Board.know c.args.seat).seen
    (subst (λ (l : List JobId). length l ≤ at.waited) (sym same) all) c.requires.stands.waited

pub look-seat-requires-clause-job : goal.look-seat-requires-clause-job
look-seat-requires-clause-job g c =
    let plan = c.args.self.now.plan.now in
    let at = c.args.at.now in
    let s = c.index-segment.result.now in
    let n : c.len.result ≡ length s.waits.items = search (rules, c.len.ensures) in
    let t = c.if-at-len.false in
    let below : at.waited < length s.waits.items = omega (arith, n, t) in
    job_is plan s.waits.items at.waited c.index-job.result.now
    (waits_are plan c.requires.crew.well at.segment c.requires.index s c.index-segment.ensures s.waits.items refl) below c.index-job.ensures

pub returns-then-finished-clause-stands : goal.returns-then-finished-clause-stands
returns-then-finished-clause-stands g c =
    let plan = c.args.self.now.plan.now in
    let at = c.args.at.now in
    let s = c.index-segment.result.now in
    let k = g.B.Board.know c.args.seat in
    let l = g.B.Board.know c.look-seat.result.seat in
    let n : c.len.result ≡ length s.waits.items = search (rules, c.len.ensures) in
    let t = c.if-at-len.false in
    let below : at.waited < length s.waits.items = omega (arith, n, t) in
    stands_on plan at k c.requires.stands l (at.waited + 1) c.look-seat.new.failed c.look-seat.ensures.idle c.look-seat.ensures.on
    (seen_further (waits_in (segment_at plan at.segment)) s.waits.items
    (waits_there plan c.requires.crew.well at.segment c.requires.index s c.index-segment.ensures) at.waited c.index-job.result.now k.seen l.seen below
    c.index-job.ensures c.requires.stands.waited c.look-seat.ensures.on.seen (c.look-seat.ensures.seen c.if-finished.true))

pub returns-then-finished-clause-said : goal.returns-then-finished-clause-said
returns-then-finished-clause-said g c first waited old =
    says_flushed (said_to g.S.Sink.taken g.S.Sink.faults first waited false)
    (said_to g.S.Sink.taken g.S.Sink.faults c.args.sink.now c.args.out.now c.args.at.now.failed)
    (said_to g.S.Sink.taken g.S.Sink.faults c.look-seat.new.sink c.look-seat.new.out c.look-seat.new.failed)
    (lines_of c.args.self.now.plan.now c.args.at.now.segment) old c.look-seat.ensures.text

pub returns-else-finished-clause-said : goal.returns-else-finished-clause-said
returns-else-finished-clause-said g c first waited old =
    says_flushed (said_to g.S.Sink.taken g.S.Sink.faults first waited false)
    (said_to g.S.Sink.taken g.S.Sink.faults c.args.sink.now c.args.out.now c.args.at.now.failed)
    (said_to g.S.Sink.taken g.S.Sink.faults c.look-seat.new.sink c.look-seat.new.out c.look-seat.new.failed)
    (lines_of c.args.self.now.plan.now c.args.at.now.segment) old c.look-seat.ensures.text
