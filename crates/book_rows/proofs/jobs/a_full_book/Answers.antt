use Rattle.std.proofs.Common.{arith}
use Rattle.job_handle.specs.Books.{count_of}
use Rattle.job_handle.proofs.Among.{one_among, union_among, still_among}
use Rattle.book_rows.proofs.jobs.a_full_book.Goals as goal

pub loop-preserved : goal.loop-preserved
loop-preserved g c =
    let before = count_of c.loop.book in
    let after = count_of c.add.new.self in
    let grown = c.in_ok-j.ensures.count in
    let number = c.in_ok-j.ensures.number in
    union_among after c.loop.all c.of-one.result c.combine-all.result c.combine-all.ensures
    (still_among before after c.loop.all (omega arith) c.loop.invariant)
    (one_among after c.in_ok-j.j.0 c.of-one.result c.of-one.ensures (omega arith) (omega arith))
