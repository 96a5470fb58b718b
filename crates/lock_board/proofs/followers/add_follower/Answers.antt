use Rattle.std.proofs.Common.{◌≡◌, suc, ◌+◌, ◌-◌, ◌++◌, ◌∷◌, [], cond, get_or, take, sym, ap, ◌∙◌, arith, rules}
use Rattle.std.specs.Prelude.{Vec, nat_eq, slice_set}
use Rattle.std.specs.declared.alloc.Global.{Global}
use Rattle.std.proofs.lemmas.Option.{slice_get-get_or}
use Rattle.job_base.specs.declared.JobId.{JobId}
use Rattle.lock_board.specs.Layouts.{row, times}
use Rattle.lock_board.proofs.Following.{more_added, row_added, times_next}
use Rattle.lock_board.proofs.followers.add_follower.Goals as goal

abbrev none : JobId
none = record { 0 = 0 }

pub loop-i-preserved : goal.loop-i-preserved
loop-i-preserved c j e =
    let deps = c.args.deps.now in
    let i = c.loop-i.i in
    let x = get_or deps i none in
    let lt = c.loop-i-test.true in
    let h = c.requires.deps i x (slice_get-get_or deps i none lt) in
    let some = h.0 in
    let few = h.1 in
    let size = c.loop-i.auto.rows in
    let now = c.loop-i.rows in
    let v = c.index-rows-deps.result in
    let at : v ≡ get_or now (x.0 - 1) v = search (rules, c.index-rows-deps.is) in
    let grown : c.push.new.self.items ≡ v.items ++ c.args.job ∷ [] = c.in_ok-push.ensures.items
    ∙ ap (λ (y : Vec JobId Global). y.items ++ c.args.job ∷ []) (sym at) in
    let new = slice_set now (x.0 - 1) c.push.new.self in
    more_added (times e (row c.args.rows.now j)) (times e (row now j)) (times e (row new j)) (times (suc j) (take i deps)) (cond (nat_eq x.0 (suc j)) 1 0)
    (times (suc j) (take (i + 1) deps)) (nat_eq c.args.job.0 e)
    (c.loop-i.invariant j e)
    (row_added now v c.push.new.self (x.0 - 1) x c.args.job (omega (arith, some, few, size)) at grown (omega (arith, some)) j e)
    (times_next (suc j) deps i none lt)
