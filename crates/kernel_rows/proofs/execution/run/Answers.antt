use Rattle.kernel_rows.proofs.Standing.{may_read, may_write_all, same_number}
use Rattle.kernel_rows.proofs.execution.run.Goals as goal

pub execute-requires-clause-readable : goal.execute-requires-clause-readable
execute-requires-clause-readable c = may_read c.args.kernel.now c.args.binds.now _ _ c.requires.below

pub execute-requires-clause-writable : goal.execute-requires-clause-writable
execute-requires-clause-writable c = may_write_all c.args.kernel.now c.args.binds.now _ _ c.requires.below

pub returns-clause-length : goal.returns-clause-length
returns-clause-length c = same_number _ _ c.execute.ensures.readable
