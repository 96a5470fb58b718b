use Rattle.plan_run.proofs.Segments.{may_read_as, may_write_as}
use Rattle.steal_pool.proofs.held.run_segment_as.Goals as goal

pub run_segment-traps-requires-clause-readable : goal.run_segment-traps-requires-clause-readable
run_segment-traps-requires-clause-readable g c = may_read_as c.args.plan.now
    (g.B.Board.plan c.args.board.now) c.requires.plan g.K.Holding.piece c.args.i c.requires.is g.K.Holding.read c.requires.read

pub run_segment-traps-requires-clause-writable : goal.run_segment-traps-requires-clause-writable
run_segment-traps-requires-clause-writable g c = may_write_as c.args.plan.now
    (g.B.Board.plan c.args.board.now) c.requires.plan g.K.Holding.piece c.args.i c.requires.is g.K.Holding.write c.requires.write
