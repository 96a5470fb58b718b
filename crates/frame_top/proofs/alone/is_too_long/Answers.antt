use Rattle.std.proofs.Common.{ap}
use Rattle.std.specs.Prelude.{option_copied}
use Rattle.frame_top.proofs.Sources.{long_refused, within_table}
use Rattle.frame_top.proofs.alone.is_too_long.Goals as goal

pub returns-in-Some-clause-long : goal.returns-in-Some-clause-long
returns-in-Some-clause-long c e = long_refused (option_copied c.args.table) c.in-Some.bytes.now (ap option_copied c.in-Some.is) e

pub returns-in-Some-clause-within : goal.returns-in-Some-clause-within
returns-in-Some-clause-within c e = within_table (option_copied c.args.table) c.in-Some.bytes.now (ap option_copied c.in-Some.is) e
