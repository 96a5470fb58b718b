use Rattle.auto_deps.proofs.Noted.{enrolled}
use Rattle.book_rows.proofs.automatic.containers.Goals as goal

pub loop-slot-preserved : goal.loop-slot-preserved
loop-slot-preserved c n = enrolled n c.loop-slot.book c.enroll.new.self c.loop-slot.slot 1
    (c.loop-slot.invariant n) c.in_ok-enroll.ensures.slot c.enroll.ensures.others
