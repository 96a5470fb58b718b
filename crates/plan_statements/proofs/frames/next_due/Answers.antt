use Rattle.std.proofs.Common.{inr, arith}
use Rattle.plan_statements.proofs.Reporting.{due_read}
use Rattle.plan_statements.proofs.frames.next_due.Goals as goal

pub returns-then-container-world : goal.returns-then-container-world
returns-then-container-world c =
    let read = due_read c.args.world.now c.requires.numbers (let e = c.len.ensures in let lt = c.if-world-len.false in omega arith)
    c.index-number.result.now c.index-number.ensures c.index-container.result.now c.index-container.ensures in
    inr (record { number = c.index-number.result.now; it = c.index-container.result.now; at = read.0; has = read.1; young = c.if-container-world.true })

pub returns : goal.returns
returns c =
    let read = due_read c.args.world.now c.requires.numbers (let e = c.len.ensures in let lt = c.if-world-len.false in omega arith)
    c.index-number.result.now c.index-number.ensures c.index-container.result.now c.index-container.ensures in
    record { number = c.index-number.result.now; at = read.0; has = read.1; old = c.if-container-world.false }
