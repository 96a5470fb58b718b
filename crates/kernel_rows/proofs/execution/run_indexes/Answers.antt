use Rattle.kernel_rows.proofs.Standing.{may_read_span, may_write_span, same_number}
use Rattle.kernel_rows.proofs.execution.run_indexes.Goals as goal

pub execute_indexes-requires-clause-readable : goal.execute_indexes-requires-clause-readable
execute_indexes-requires-clause-readable c = may_read_span c.args.kernel.now c.args.binds.now _ _ _ c.requires.below

pub execute_indexes-requires-clause-writable : goal.execute_indexes-requires-clause-writable
execute_indexes-requires-clause-writable c = may_write_span c.args.kernel.now c.args.binds.now _ _ _ c.requires.below

pub returns-clause-length : goal.returns-clause-length
returns-clause-length c = same_number _ _ c.execute_indexes.ensures.readable
