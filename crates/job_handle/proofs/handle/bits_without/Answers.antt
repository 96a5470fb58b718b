use Rattle.job_handle.proofs.handle.bits_without.Goals as goal
use Rattle.job_handle.proofs.Words.{bits_without}

pub returns : goal.returns
returns c = bits_without c.args.bits c.args.others c.ranges.others.fits
