use Rattle.std.proofs.Common.{[], ◌+◌, ap, ℕ}
use Rattle.frame_core.specs.Output.{segment_lines}
use Rattle.plan_run.specs.Says.{said_to}
use Rattle.plan_run.proofs.Saying.{says_after}
use Rattle.steal_pool.proofs.Leased.{at_on, may_open_it, opens_it, begun_it, waits_are, waited_there}
use Rattle.steal_pool.proofs.script.run_next_segment.Goals as goal

pub wait_all-own-requires-clause-jobs : goal.wait_all-own-requires-clause-jobs
wait_all-own-requires-clause-jobs g c = waits_are c.args.crew.now.plan.now c.requires.crew.well c.args.i c.requires.index c.index-segment.result.now
    c.index-segment.ensures c.deref.result.now c.deref.ensures.value

pub open_piece-requires-clause-may : goal.open_piece-requires-clause-may
open_piece-requires-clause-may g c =
    may_open_it c.args.crew.now.plan.now c.args.i (g.B.Board.plan c.args.crew.now.board.now) c.requires.crew.plan_is (c.job_pieces.result + c.args.i)
    (ap (λ (n : ℕ). n + c.args.i) c.job_pieces.ensures) c.requires.index (g.B.Board.know c.wait_all-own.result)
    (at_on c.args.i (g.B.Board.know c.args.seat) (g.B.Board.know c.wait_all-own.result) c.requires.at c.wait_all-own.ensures.idle c.wait_all-own.ensures.on)
    (waited_there c.args.crew.now.plan.now c.requires.crew.well c.args.i c.requires.index c.index-segment.result.now c.index-segment.ensures
    c.deref.result.now (g.B.Board.know c.wait_all-own.result).seen c.deref.ensures.value c.wait_all-own.ensures.seen)

pub run_begun-run-requires-clause-begun : goal.run_begun-run-requires-clause-begun
run_begun-run-requires-clause-begun g c =
    let plan = c.args.crew.now.plan.now in
    let of_board = g.B.Board.plan c.args.crew.now.board.now in
    let number = ap (λ (n : ℕ). n + c.args.i) c.job_pieces.ensures in
    let here =
    at_on c.args.i (g.B.Board.know c.args.seat) (g.B.Board.know c.wait_all-own.result) c.requires.at c.wait_all-own.ensures.idle c.wait_all-own.ensures.on in
    begun_it plan c.args.i of_board c.requires.crew.plan_is (c.job_pieces.result + c.args.i) number (g.B.Board.know c.open_piece.new.seat)
    (g.B.Board.know c.begin_opened-own.result)
    (opens_it plan c.args.i of_board c.requires.crew.plan_is (c.job_pieces.result + c.args.i) number (g.B.Board.know c.wait_all-own.result)
    (g.B.Board.know c.open_piece.new.seat) here c.open_piece.ensures.know) c.begin_opened-own.ensures.know

pub returns-clause-text : goal.returns-clause-text
returns-clause-text g c =
    says_after (said_to g.S.Sink.taken g.S.Sink.faults c.args.sink.now c.args.out.now c.args.said.now.failed)
    (said_to g.S.Sink.taken g.S.Sink.faults c.wait_all-own.new.sink c.wait_all-own.new.out c.wait_all-own.new.failed)
    (said_to g.S.Sink.taken g.S.Sink.faults c.run_begun-run.new.sink c.run_begun-run.new.out c.run_begun-run.new.said.failed) []
    (segment_lines c.args.crew.now.plan.now c.args.i) c.wait_all-own.ensures.text c.run_begun-run.ensures.text
