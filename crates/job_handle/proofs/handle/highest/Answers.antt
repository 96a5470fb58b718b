use Rattle.job_handle.proofs.handle.highest.Goals as goal
use Rattle.job_handle.proofs.Words.{highest}

pub returns : goal.returns
returns c = highest c.args.bits c.requires c.ranges.bits.fits
