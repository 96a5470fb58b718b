use Rattle.std.proofs.Common.{suc, ◌+◌, ◌-◌, ◌<◌, ◌^◌, get_or, take, arith, rules}
use Rattle.std.specs.Prelude.{slice_index}
use Rattle.std.proofs.lemmas.Option.{slice_get-get_or}
use Rattle.job_base.specs.declared.JobId.{JobId}
use Rattle.lock_board.specs.Layouts.{times}
use Rattle.lock_board.proofs.Following.{one_tested, times_next}
use Rattle.lock_board.proofs.followers.can_add.Goals as goal

abbrev none : JobId
none = record { 0 = 0 }

pub loop-i-preserved : goal.loop-i-preserved
loop-i-preserved c d due =
    let ids = c.args.ids.now in
    let i = c.loop-i.i in
    let x = get_or ids i none in
    let lt = c.loop-i-test.true in
    let some = (c.requires.ids i x (slice_get-get_or ids i none lt)).0 in
    let here : slice_index c.args.dues.now (x.0 - 1) + 1 < 2 ^ 32 = first_of (omega arith, search rules) in
    one_tested c.args.dues.now d x.0 (times (suc d) (take i ids)) (times (suc d) (take (i + 1) ids)) some (times_next (suc d) ids i none lt) here
    (c.loop-i.invariant d) due
