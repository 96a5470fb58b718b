use Rattle.std.proofs.Common.{◌≡◌, ℕ, suc, ◌-◌, ◌<◌, length, sym, ap, subst, ◌∙◌, arith}
use Rattle.frame_core.specs.Know.{due_after}
use Rattle.lock_board.specs.Layouts.{NameSome, row, times}
use Rattle.lock_board.proofs.Following.{followers_named, row_at}
use Rattle.lock_board.proofs.layout.Layout.can_add_dues.Goals as goal

pub can_add-requires : goal.can_add-requires
can_add-requires g c =
    let plan = g.K.PlanName.plan in
    let s = c.args.self.now in
    let k : ℕ = c.args.job - 1 in
    let some = c.requires.job.0 in
    let few = c.requires.job.1 in
    let count = s.follower_count in
    let low : k < length plan.jobs.items = omega (arith, some, few) in
    let there = row_at s.followers.items k c.index.result.now (omega (arith, low, count)) c.index.ensures ∙ sym c.deref.ensures.value in
    record {
      ids = subst (NameSome (length c.args.dues.now)) there (subst (λ n. NameSome n (row s.followers.items k)) (sym c.requires.size)
          (followers_named plan s.followers.items s.followers_are k low));
    }

pub returns : goal.returns
returns g c t d lt due =
    let plan = g.K.PlanName.plan in
    let s = c.args.self.now in
    let k : ℕ = c.args.job - 1 in
    let some = c.requires.job.0 in
    let few = c.requires.job.1 in
    let count = s.follower_count in
    let low : k < length plan.jobs.items = omega (arith, some, few) in
    let is : suc k ≡ c.args.job = omega (arith, some) in
    let there = row_at s.followers.items k c.index.result.now (omega (arith, low, count)) c.index.ensures ∙ sym c.deref.ensures.value in
    c.can_add.ensures t d (subst (λ n. 0 < n) (sym (sym (ap (times (suc d)) there) ∙ (s.followers_are k (suc d) low ∙ ap (λ n. due_after plan n (suc d)) is)))
    due)
