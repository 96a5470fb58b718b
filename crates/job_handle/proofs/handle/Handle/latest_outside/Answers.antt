use Rattle.job_handle.proofs.handle.Handle.latest_outside.Goals as goal
use Rattle.job_handle.proofs.Greatest.{is_greatest}

pub returns : goal.returns
returns c = is_greatest c.args.self.now c.args.other.now c.latest_up_to.result c.latest_up_to.ensures
