use Rattle.std.proofs.Common.{arith}
use Rattle.job_handle.specs.Books.{count_of}
use Rattle.job_handle.proofs.Among.{union_among, still_among}
use Rattle.auto_deps.proofs.Noted.{conflicting_known, still_noted}
use Rattle.book_rows.proofs.automatic.schedule.Goals as goal

pub automatic-answer-requires-clause-noted : goal.automatic-answer-requires-clause-noted
automatic-answer-requires-clause-noted c = conflicting_known (count_of c.args.jobs.now) c.args.book.now c.requires.noted c.args.uses.now

pub add-requires : goal.add-requires
add-requires c = union_among (count_of c.args.jobs.now) c.args.after.now c.automatic-answer.result c.combine-deps.result c.combine-deps.ensures
    c.requires.after c.automatic-answer.ensures.known

pub loop-tag-init : goal.loop-tag-init
loop-tag-init c = still_noted (count_of c.args.jobs.now) (count_of c.add.new.self) c.args.book.now
    (let grown = c.in_ok-j.ensures.count in omega arith) c.requires.noted

pub reads-free-requires-clause-deps : goal.reads-free-requires-clause-deps
reads-free-requires-clause-deps c = still_among (count_of c.args.jobs.now) (count_of c.add.new.self) c.combine-deps.result
    (let grown = c.in_ok-j.ensures.count in omega arith)
    (union_among (count_of c.args.jobs.now) c.args.after.now c.automatic-answer.result c.combine-deps.result c.combine-deps.ensures c.requires.after
    c.automatic-answer.ensures.known)

pub writes-free-requires-clause-deps : goal.writes-free-requires-clause-deps
writes-free-requires-clause-deps c = still_among (count_of c.args.jobs.now) (count_of c.add.new.self) c.combine-deps.result
    (let grown = c.in_ok-j.ensures.count in omega arith)
    (union_among (count_of c.args.jobs.now) c.args.after.now c.automatic-answer.result c.combine-deps.result c.combine-deps.ensures c.requires.after
    c.automatic-answer.ensures.known)
