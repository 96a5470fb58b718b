use Rattle.steal_pool.proofs.Leased.{starts_are, lease_here, cells_here, segment_done, segment_owed, segment_dues, segment_rights, segment_at_next}
use Rattle.steal_pool.proofs.script.run_begun.Goals as goal

pub run_segment_leased-own-requires-clause-lease : goal.run_segment_leased-own-requires-clause-lease
run_segment_leased-own-requires-clause-lease g c =
    lease_here c.args.crew.now.plan.now c.requires.crew.well c.args.i c.requires.index c.index-segment.result.now c.index-segment.ensures
    (g.B.Board.plan c.args.crew.now.board.now) c.requires.crew.plan_is (g.B.Board.know c.args.seat) c.requires.begun

pub run_segment_leased-own-requires-clause-cells : goal.run_segment_leased-own-requires-clause-cells
run_segment_leased-own-requires-clause-cells g c =
    cells_here c.args.crew.now.plan.now c.requires.crew.well c.args.i c.requires.index c.index-segment.result.now c.index-segment.ensures
    (g.B.Board.plan c.args.crew.now.board.now) c.requires.crew.plan_is (g.B.Board.know c.args.seat) c.requires.begun

pub end-requires-clause-cells : goal.end-requires-clause-cells
end-requires-clause-cells g c =
    segment_done c.args.crew.now.plan.now c.requires.crew.well c.args.i c.requires.index c.index-segment.result.now c.index-segment.ensures
    (g.B.Board.plan c.args.crew.now.board.now) c.requires.crew.plan_is (g.B.Board.know c.args.seat) c.requires.begun
    (g.B.Board.know c.run_segment_leased-own.result.seat) c.run_segment_leased-own.ensures.still c.run_segment_leased-own.ensures.cells

pub start_job-requires-clause-job : goal.start_job-requires-clause-job
start_job-requires-clause-job g c = starts_are c.args.crew.now.plan.now c.requires.crew.well c.args.i c.requires.index c.index-segment.result.now
    c.index-segment.ensures

pub start_job-requires-clause-owed : goal.start_job-requires-clause-owed
start_job-requires-clause-owed g c =
    segment_owed c.args.crew.now.plan.now c.requires.crew.well c.args.i c.requires.index c.index-segment.result.now c.index-segment.ensures
    (g.B.Board.plan c.args.crew.now.board.now) c.requires.crew.plan_is (g.B.Board.know c.args.seat) c.requires.begun
    (g.B.Board.know c.run_segment_leased-own.result.seat) c.run_segment_leased-own.ensures.still
    (g.B.Board.know c.end.new.seat) c.end.ensures.know

pub start_job-requires-clause-dues : goal.start_job-requires-clause-dues
start_job-requires-clause-dues g c =
    segment_dues c.args.crew.now.plan.now c.requires.crew.well c.args.i c.requires.index c.index-segment.result.now c.index-segment.ensures
    (g.B.Board.plan c.args.crew.now.board.now) c.requires.crew.plan_is (g.B.Board.know c.args.seat) c.requires.begun
    (g.B.Board.know c.run_segment_leased-own.result.seat) c.run_segment_leased-own.ensures.still
    (g.B.Board.know c.end.new.seat) c.end.ensures.know

pub start_job-requires-clause-none : goal.start_job-requires-clause-none
start_job-requires-clause-none g c =
    segment_rights c.args.crew.now.plan.now c.requires.crew.well c.args.i c.requires.index c.index-segment.result.now c.index-segment.ensures
    (g.B.Board.plan c.args.crew.now.board.now) c.requires.crew.plan_is (g.B.Board.know c.args.seat) c.requires.begun
    (g.B.Board.know c.run_segment_leased-own.result.seat) c.run_segment_leased-own.ensures.still
    (g.B.Board.know c.end.new.seat) c.end.ensures.know

pub returns-clause-at : goal.returns-clause-at
returns-clause-at g c =
    segment_at_next c.args.crew.now.plan.now c.requires.crew.well c.args.i c.requires.index c.index-segment.result.now c.index-segment.ensures
    (g.B.Board.plan c.args.crew.now.board.now) c.requires.crew.plan_is (g.B.Board.know c.args.seat) c.requires.begun
    (g.B.Board.know c.run_segment_leased-own.result.seat) c.run_segment_leased-own.ensures.still
    (g.B.Board.know c.end.new.seat) c.end.ensures.know (g.B.Board.know c.start_job.new.seat) c.start_job.ensures.idle
    c.start_job.ensures.on
