use Rattle.native_stream.proofs.Forms.{clear_form}
use Rattle.native_stream.proofs.StreamAt.clear.Goals as goal

pub returns-clause-form : goal.returns-clause-form
returns-clause-form g c = clear_form c.args.self.now
