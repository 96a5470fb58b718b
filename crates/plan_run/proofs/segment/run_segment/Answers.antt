use Rattle.std.proofs.Common.{◌^◌, ◌∙◌, rules}
use Rattle.plan_run.proofs.Segments.{told, ops_there, fits, stands, may_read, may_write, few, refused_is, text_is, cells_are, is_end, may_read_own}
use Rattle.plan_run.proofs.segment.run_segment.Goals as goal

pub look-traps-requires-clause-readable : goal.look-traps-requires-clause-readable
look-traps-requires-clause-readable g c last = may_read_own c.args.plan.now c.requires.well c.args.i c.requires.index c.len.result
    (search (rules, c.len.ensures)) last (g.M.Mem.readable c.args.mem.now) c.requires.readable

pub look-traps-requires-clause-told : goal.look-traps-requires-clause-told
look-traps-requires-clause-told g c last = told c.args.plan.now c.requires.well c.args.i (g.M.Mem.cells c.args.mem.now) c.requires.cells
    (is_end c.args.plan.now c.requires.well c.args.i c.requires.index c.len.result (search (rules, c.len.ensures)) last)

pub run_ops-requires-clause-fits : goal.run_ops-requires-clause-fits
run_ops-requires-clause-fits g c = fits c.args.plan.now c.requires.well c.args.i c.requires.index c.index.result.now c.deref.result.now c.index.ensures
    c.deref.ensures.value

pub run_ops-requires-clause-readable : goal.run_ops-requires-clause-readable
run_ops-requires-clause-readable g c =
    may_read c.args.plan.now c.requires.well c.args.i c.requires.index c.deref.result.now
    (ops_there c.args.plan.now c.requires.well c.args.i c.requires.index c.index.result.now c.deref.result.now c.index.ensures c.deref.ensures.value)
    (g.M.Mem.readable c.args.mem.now) (g.M.Mem.readable c.look-traps.new.mem) c.look-traps.ensures.readable c.requires.readable

pub run_ops-requires-clause-writable : goal.run_ops-requires-clause-writable
run_ops-requires-clause-writable g c =
    may_write c.args.plan.now c.requires.well c.args.i c.requires.index c.deref.result.now
    (ops_there c.args.plan.now c.requires.well c.args.i c.requires.index c.index.result.now c.deref.result.now c.index.ensures c.deref.ensures.value)
    (g.M.Mem.writable c.args.mem.now) (g.M.Mem.writable c.look-traps.new.mem) c.look-traps.ensures.writable c.requires.writable

pub run_ops-requires-clause-stands : goal.run_ops-requires-clause-stands
run_ops-requires-clause-stands g c =
    stands c.args.plan.now c.requires.well c.args.i c.requires.index c.deref.result.now
    (ops_there c.args.plan.now c.requires.well c.args.i c.requires.index c.index.result.now c.deref.result.now c.index.ensures c.deref.ensures.value)
    (g.M.Mem.cells c.look-traps.new.mem) (c.look-traps.ensures.cells ∙ c.requires.cells)

pub run_ops-requires-clause-few : goal.run_ops-requires-clause-few
run_ops-requires-clause-few g c =
    few c.args.plan.now c.requires.well c.args.i c.requires.index c.deref.result.now
    (ops_there c.args.plan.now c.requires.well c.args.i c.requires.index c.index.result.now c.deref.result.now c.index.ensures c.deref.ensures.value)
    (g.M.Mem.cells c.look-traps.new.mem) (c.look-traps.ensures.cells ∙ c.requires.cells) c.args.refused.now
    (2 ^ 64) c.requires.few

pub returns-clause-cells : goal.returns-clause-cells
returns-clause-cells g c =
    cells_are c.args.plan.now c.requires.well c.args.i c.requires.index c.deref.result.now
    (ops_there c.args.plan.now c.requires.well c.args.i c.requires.index c.index.result.now c.deref.result.now c.index.ensures c.deref.ensures.value)
    (g.M.Mem.cells c.look-traps.new.mem) (c.look-traps.ensures.cells ∙ c.requires.cells)
    (g.M.Mem.cells c.run_ops.new.mem) c.run_ops.ensures.cells

pub returns-clause-text : goal.returns-clause-text
returns-clause-text g c =
    text_is c.args.plan.now c.requires.well c.args.i c.requires.index c.deref.result.now
    (ops_there c.args.plan.now c.requires.well c.args.i c.requires.index c.index.result.now c.deref.result.now c.index.ensures c.deref.ensures.value)
    (g.M.Mem.cells c.look-traps.new.mem) (c.look-traps.ensures.cells ∙ c.requires.cells) _ _
    c.run_ops.ensures.text

pub returns-clause-refused : goal.returns-clause-refused
returns-clause-refused g c =
    refused_is c.args.plan.now c.requires.well c.args.i c.requires.index c.deref.result.now
    (ops_there c.args.plan.now c.requires.well c.args.i c.requires.index c.index.result.now c.deref.result.now c.index.ensures c.deref.ensures.value)
    (g.M.Mem.cells c.look-traps.new.mem) (c.look-traps.ensures.cells ∙ c.requires.cells) c.args.refused.now
    c.run_ops.new.refused c.run_ops.ensures.refused
