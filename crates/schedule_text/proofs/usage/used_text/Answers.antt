use Rattle.std.proofs.Common.{arith}
use Rattle.schedule_text.proofs.Used.{ends}
use Rattle.schedule_text.proofs.usage.used_text.Goals as goal

pub returns : goal.returns
returns c = ends _ _ _ _ _ c.loop-i.i (let t = c.loop-i-test.false in let m = c.min-count.ensures in omega arith) c.loop-i.invariant
