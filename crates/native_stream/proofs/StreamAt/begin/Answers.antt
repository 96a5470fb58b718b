use Rattle.native_stream.proofs.Forms.{begin_form}
use Rattle.native_stream.proofs.StreamAt.begin.Goals as goal

pub returns-then-is_written-clause-form : goal.returns-then-is_written-clause-form
returns-then-is_written-clause-form g c = begin_form c.args.self.now c.args.i

pub returns-else-is_written-clause-form : goal.returns-else-is_written-clause-form
returns-else-is_written-clause-form g c = begin_form c.args.self.now c.args.i

pub returns-in-Err-clause-form : goal.returns-in-Err-clause-form
returns-in-Err-clause-form g c = begin_form c.args.self.now c.args.i
