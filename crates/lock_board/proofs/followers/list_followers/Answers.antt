use Rattle.std.proofs.Common.{◌≡◌, suc, ◌+◌, cond, length, sym, ap, ◌∙◌, arith, rules, Some}
use Rattle.std.specs.Prelude.{nat_eq, slice_get}
use Rattle.std.specs.Vec.{with_items}
use Rattle.std.proofs.lemmas.List.{with_items_is}
use Rattle.frame_core.specs.Names.{job_at}
use Rattle.lock_board.specs.Layouts.{row, times}
use Rattle.lock_board.proofs.Following.{deps_named, filled_all, filled_next}
use Rattle.lock_board.proofs.Reading.{got}
use Rattle.lock_board.proofs.followers.list_followers.Goals as goal

pub add_follower-requires : goal.add_follower-requires
add_follower-requires c =
    let plan = c.args.plan.now in
    let n : c.len-d-end.result ≡ length plan.jobs.items = search (rules, c.len-d-end.ensures) in
    let t = c.loop-d-test.true in
    let there : job_at plan c.loop-d.d ≡ Some c.index.result.now = got plan.jobs.items c.loop-d.d c.index.result.now (omega (arith, n, t)) c.index.ensures in
    record {
      deps = λ i id e.
          let h = deps_named plan c.requires.well c.loop-d.d c.index.result.now there i id (ap (λ l. slice_get l i) (sym c.deref.ensures.value) ∙ e) in
          let few = h.1 in
          let lent = ap (λ l. length l) c.deref_mut.ensures.value in
          let size = c.loop-d.invariant.size in
          (h.0, omega (arith, few, lent, size));
    }

pub loop-d-preserved : goal.loop-d-preserved
loop-d-preserved c =
    let plan = c.args.plan.now in
    let d = c.loop-d.d in
    let rows = c.loop-d.rows in
    let new = c.add_follower.new.rows in
    let n : c.len-d-end.result ≡ length plan.jobs.items = search (rules, c.len-d-end.ensures) in
    let t = c.loop-d-test.true in
    let there : job_at plan d ≡ Some c.index.result.now = got plan.jobs.items d c.index.result.now (omega (arith, n, t)) c.index.ensures in
    let same = c.add_follower.auto.rows ∙ ap (λ l. length l) c.deref_mut.ensures.value in
    let is : (with_items rows new).items ≡ new = with_items_is rows new (same ∙ sym rows.ok.0) in
    record {
      size = ap (λ l. length l) is ∙ (same ∙ c.loop-d.invariant.size);
      filled = λ j e. ap (λ l. times e (row l j)) is ∙ filled_next plan c.requires.well rows.items new d c.index.result.now there
          (λ k f. c.in_ok-add_follower.ensures k f
          ∙ (ap (λ l. times f (row l k) + cond (nat_eq (d + 1) f) (times (suc k) c.deref.result.now) 0) c.deref_mut.ensures.value
          ∙ ap (λ l. times f (row rows.items k) + cond (nat_eq (d + 1) f) (times (suc k) l) 0) c.deref.ensures.value))
          c.loop-d.invariant.filled j e;
    }

pub returns-clause-followers : goal.returns-clause-followers
returns-clause-followers c =
    let plan = c.args.plan.now in
    let n : c.len-d-end.result ≡ length plan.jobs.items = search (rules, c.len-d-end.ensures) in
    let t = c.loop-d-test.false in
    let u = c.loop-d.auto.d-end in
    filled_all plan c.loop-d.rows.items c.loop-d.d (omega (arith, n, t, u)) c.loop-d.invariant.filled
