use Rattle.std.proofs.Common.{◌≡◌, ℕ, suc, ◌+◌, ◌-◌, eq-eqb, get_or, take, ap, arith}
use Rattle.std.specs.Prelude.{nat_eq, slice_index}
use Rattle.std.proofs.lemmas.Option.{slice_get-get_or}
use Rattle.job_base.specs.declared.JobId.{JobId}
use Rattle.lock_board.specs.Layouts.{times}
use Rattle.lock_board.proofs.Following.{bit, one_added, times_next, times_take}
use Rattle.lock_board.proofs.followers.add_all.Goals as goal

abbrev none : JobId
none = record { 0 = 0 }

pub overflow_add-dues : goal.overflow_add-dues
overflow_add-dues c =
    let ids = c.args.ids.now in
    let i = c.loop-i.i in
    let x = get_or ids i none in
    let lt = c.loop-i-test.true in
    let some = (c.requires.ids i x (slice_get-get_or ids i none lt)).0 in
    let k : ℕ = x.0 - 1 in
    let is : x.0 ≡ suc k = omega (arith, some) in
    let one : bit (nat_eq x.0 (suc k)) ≡ 1 = ap bit (eq-eqb x.0 (suc k) is) in
    let next = times_next (suc k) ids i none lt in
    let most = times_take (suc k) ids (i + 1) in
    let once = c.requires.once k in
    let now = c.loop-i.invariant k in
    let fits = c.requires.fits k (omega (arith, next, one, most)) in
    omega (arith, next, one, most, once, now, fits)

pub bounds-dues-ids-in-loop-i : goal.bounds-dues-ids-in-loop-i
bounds-dues-ids-in-loop-i c =
    let ids = c.args.ids.now in
    let i = c.loop-i.i in
    let h = c.requires.ids i (get_or ids i none) (slice_get-get_or ids i none c.loop-i-test.true) in
    let some = h.0 in
    let few = h.1 in
    let size = c.loop-i.auto.dues in
    omega (arith, some, few, size)

pub loop-i-preserved : goal.loop-i-preserved
loop-i-preserved c d =
    let ids = c.args.ids.now in
    let i = c.loop-i.i in
    let x = get_or ids i none in
    let lt = c.loop-i-test.true in
    let h = c.requires.ids i x (slice_get-get_or ids i none lt) in
    let some = h.0 in
    let few = h.1 in
    let size = c.loop-i.auto.dues in
    one_added c.loop-i.dues (x.0 - 1) d x.0 (slice_index c.args.dues.now d) (times (suc d) (take i ids)) (times (suc d) (take (i + 1) ids))
    (omega (arith, some, few, size)) (omega (arith, some))
    (c.loop-i.invariant d) (times_next (suc d) ids i none lt)
