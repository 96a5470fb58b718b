use Rattle.job_handle.specs.Books.{count_of}
use Rattle.job_handle.proofs.Among.{empty_among}
use Rattle.book_rows.proofs.ranges.Run.new.Goals as goal

pub add-requires : goal.add-requires
add-requires c = empty_among (count_of c.loop.book) c.empty.result c.empty.ensures
