use Rattle.std.proofs.Common.{◌≡◌, ◌-◌, ◌<◌, ◌∙◌, arith}
use Rattle.frame_core.specs.declared.piece.Piece.TheVariants.{OfJob}
use Rattle.frame_core.specs.Names.{pieces_of}
use Rattle.plan_run.proofs.InScriptOrder.{cut_is, number_is, there, may_read, may_write, part_step, parts_end}
use Rattle.plan_run.proofs.alone.run_parts.Goals as goal

pub pieces-i-end-requires : goal.pieces-i-end-requires
pieces-i-end-requires g c = record { cut = cut_is c.args.plan.now c.requires.well c.args.job c.requires.job c.index-entry.result.now c.index-entry.ensures }

pub run_piece-requires-clause-piece : goal.run_piece-requires-clause-piece
run_piece-requires-clause-piece g c =
    let t = c.loop-i-test.true in
    let u = c.loop-i.auto.i-end in
    let count = c.pieces-i-end.ensures in
    let x = c.index-entry.result.now in
    let lt : c.loop-i.i < pieces_of x = omega (arith, t, u, count) in
    (x, there c.args.plan.now c.requires.well c.args.job c.requires.job x c.index-entry.ensures, lt)

pub run_piece-requires-clause-readable : goal.run_piece-requires-clause-readable
run_piece-requires-clause-readable g c =
    may_read c.args.plan.now c.requires.well (g.M.Mem.readable c.args.mem.now) (g.M.Mem.readable c.loop-i.mem) c.requires.readable
    c.loop-i.invariant.readable (OfJob (c.args.job.0 - 1) c.loop-i.i) (run_piece-requires-clause-piece g c)

pub run_piece-requires-clause-writable : goal.run_piece-requires-clause-writable
run_piece-requires-clause-writable g c =
    may_write c.args.plan.now c.requires.well (g.M.Mem.writable c.args.mem.now) (g.M.Mem.writable c.loop-i.mem) c.requires.writable
    c.loop-i.invariant.writable (OfJob (c.args.job.0 - 1) c.loop-i.i) (run_piece-requires-clause-piece g c)

pub loop-i-preserved : goal.loop-i-preserved
loop-i-preserved g c =
    let plan = c.args.plan.now in
    let x = c.index-entry.result.now in
    let v = c.loop-i.invariant in
    let t = c.loop-i-test.true in
    let u = c.loop-i.auto.i-end in
    let count = c.pieces-i-end.ensures in
    let lt : c.loop-i.i < pieces_of x = omega (arith, t, u, count) in
    record {
      cells = part_step plan c.requires.well c.args.k c.args.job c.requires.index c.requires.starts (c.args.job.0 - 1)
          (number_is plan c.requires.well c.args.job c.requires.job x c.index-entry.ensures) x
          (there plan c.requires.well c.args.job c.requires.job x c.index-entry.ensures)
          c.loop-i.i (g.M.Mem.cells c.loop-i.mem) (g.M.Mem.cells c.run_piece.new.mem) lt v.cells c.run_piece.ensures.cells;
      readable = c.run_piece.ensures.readable ∙ v.readable;
      writable = c.run_piece.ensures.writable ∙ v.writable;
    }

pub returns-clause-cells : goal.returns-clause-cells
returns-clause-cells g c =
    let plan = c.args.plan.now in
    let x = c.index-entry.result.now in
    let t = c.loop-i-test.false in
    let u = c.loop-i.auto.i-end in
    let count = c.pieces-i-end.ensures in
    let at : c.loop-i.i ≡ pieces_of x = omega (arith, t, u, count) in
    parts_end plan c.requires.well c.args.k c.args.job c.requires.index c.requires.starts (c.args.job.0 - 1)
    (number_is plan c.requires.well c.args.job c.requires.job x c.index-entry.ensures) x
    (there plan c.requires.well c.args.job c.requires.job x c.index-entry.ensures)
    c.loop-i.i (g.M.Mem.cells c.loop-i.mem) at c.loop-i.invariant.cells
