use Rattle.std.proofs.Common.{◌≡◌, ℕ, suc, ◌+◌, ◌-◌, ◌<◌, ◌≤◌, length, sym, ap, subst, ◌∙◌, arith}
use Rattle.std.specs.Prelude.{slice_index}
use Rattle.frame_core.specs.Know.{due_after}
use Rattle.lock_board.specs.Layouts.{NameSome, row, times}
use Rattle.lock_board.proofs.Following.{due_below, followers_named, followers_once, row_at}
use Rattle.lock_board.proofs.layout.Layout.add_dues.Goals as goal

pub add_all-requires-clause-ids : goal.add_all-requires-clause-ids
add_all-requires-clause-ids g c =
    let plan = g.K.PlanName.plan in
    let s = c.args.self.now in
    let k : ℕ = c.args.job - 1 in
    let some = c.requires.job.0 in
    let few = c.requires.job.1 in
    let count = s.follower_count in
    let low : k < length plan.jobs.items = omega (arith, some, few) in
    let there = row_at s.followers.items k c.index.result.now (omega (arith, low, count)) c.index.ensures ∙ sym c.deref.ensures.value in
    subst (NameSome (length c.args.dues.now)) there (subst (λ n. NameSome n (row s.followers.items k)) (sym c.requires.size)
    (followers_named plan s.followers.items s.followers_are k low))

pub add_all-requires-clause-once : goal.add_all-requires-clause-once
add_all-requires-clause-once g c d =
    let plan = g.K.PlanName.plan in
    let s = c.args.self.now in
    let k : ℕ = c.args.job - 1 in
    let some = c.requires.job.0 in
    let few = c.requires.job.1 in
    let count = s.follower_count in
    let low : k < length plan.jobs.items = omega (arith, some, few) in
    let there = row_at s.followers.items k c.index.result.now (omega (arith, low, count)) c.index.ensures ∙ sym c.deref.ensures.value in
    subst (λ l. times (suc d) l ≤ 1) there (followers_once plan s.followers.items s.followers_are k low d)

pub add_all-requires-clause-fits : goal.add_all-requires-clause-fits
add_all-requires-clause-fits g c d due =
    let plan = g.K.PlanName.plan in
    let s = c.args.self.now in
    let k : ℕ = c.args.job - 1 in
    let some = c.requires.job.0 in
    let few = c.requires.job.1 in
    let count = s.follower_count in
    let low : k < length plan.jobs.items = omega (arith, some, few) in
    let is : suc k ≡ c.args.job = omega (arith, some) in
    let there = row_at s.followers.items k c.index.result.now (omega (arith, low, count)) c.index.ensures ∙ sym c.deref.ensures.value in
    let after : times (suc d) c.deref.result.now ≡ due_after plan c.args.job (suc d) = sym (ap (times (suc d)) there)
    ∙ (s.followers_are k (suc d) low ∙ ap (λ n. due_after plan n (suc d)) is) in
    let more = subst (λ n. 0 < n) after due in
    c.requires.fits d (subst (λ n. d < n) (sym c.requires.size) (due_below plan c.args.job d more)) more

pub returns : goal.returns
returns g c =
    let plan = g.K.PlanName.plan in
    let s = c.args.self.now in
    let k : ℕ = c.args.job - 1 in
    let some = c.requires.job.0 in
    let few = c.requires.job.1 in
    let count = s.follower_count in
    let low : k < length plan.jobs.items = omega (arith, some, few) in
    let is : suc k ≡ c.args.job = omega (arith, some) in
    let there = row_at s.followers.items k c.index.result.now (omega (arith, low, count)) c.index.ensures ∙ sym c.deref.ensures.value in
    record {
      dues = λ d lt. c.add_all.ensures d ∙ ap (λ n. slice_index c.args.dues.now d + n)
          (sym (ap (times (suc d)) there) ∙ (s.followers_are k (suc d) low ∙ ap (λ n. due_after plan n (suc d)) is));
    }
